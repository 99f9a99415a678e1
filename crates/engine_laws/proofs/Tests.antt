-- Every test of a call says the same in either engine. Assumes nothing.
use Prim.Native.Nat.{ℕ}
use mathlib.Core.Path.{◌≡◌, refl}
use mathlib.Core.Bool.{Bool, ◌&&◌, ◌||◌, not}
use mathlib.Core.List.{List, [], ◌∷◌, ◌++◌}
use lib.Dec.{eqb, ltb}
use lib.ListN.{length}
use lib.IntN.{ℤ, pos, ◌+ℤ◌}
use lib.Signed.{lt_z}
use Rattle.ledger_spec.specs.Numbers.{progress_limit, circle_limit, UNIT, CHILD, LENGTH, CIRCLE, TOUCH, STALE, FOREIGN, KIND, INSIDE, TWICE, FULL, WORN, BELOW}
use Rattle.ledger_spec.specs.Bench.{Handle, Bench}
use Rattle.ledger_spec.specs.Look.{interface, free_slot, node_named}
use Rattle.ledger_spec.specs.Tests.{any, empty, outside, child, stale, foreign, is_defect, has_parent, twice, full, worn, floored, sinks, below, both}
use Rattle.ledger_spec.specs.Refuse.{unit_tests, defect_tests, blossom_tests, expand_tests, state_tests, grow_tests, mark_tests, fuse_tests}
use Rattle.ledger_spec.specs.SoundTree.{units}
use Rattle.engine_laws.specs.Engines.{in_engine}
use Rattle.engine_laws.proofs.Looks.{top_in}

module _ (m : Bool) (b : Bench) where
  pub stale_in : (h : Handle) → stale (in_engine m b) h ≡ stale b h
  unfolding node_named
  stale_in h = refl

  pub foreign_in : (u : ℕ) (h : Handle) → foreign (in_engine m b) u h ≡ foreign b u h
  foreign_in u h = λ i. not (eqb (top_in m b h.unit i) u)

  below_in : (u : ℕ) (l : ℤ) → below (in_engine m b) u l ≡ below b u l
  unfolding below
  below_in u l = λ i. floored b u && any (λ w. eqb (top_in m b w i) u && any (sinks l) (interface b w).slots) units

  pub unit_tests_lem : (u : ℕ) → unit_tests (in_engine m b) u ≡ unit_tests b u
  unfolding unit_tests
  unit_tests_lem u = refl

  pub defect_tests_lem : (u : ℕ) → defect_tests (in_engine m b) u ≡ defect_tests b u
  unfolding defect_tests free_slot
  defect_tests_lem u = refl

  pub blossom_tests_lem : (u : ℕ) (hs : List Handle) (ts : List (Handle × Handle)) → blossom_tests (in_engine m b) u hs ts ≡ blossom_tests b u hs ts
  unfolding blossom_tests free_slot node_named
  blossom_tests_lem u hs ts = λ i.
      (outside u, UNIT)
      ∷ (child b u, CHILD)
      ∷ (empty hs || ltb circle_limit (length hs), CIRCLE)
      ∷ (not (empty ts) && not (eqb (length ts) (length hs)), TOUCH)
      ∷ (any (stale b) (hs ++ both ts), STALE)
      ∷ (any (λ h. foreign_in u h i) (hs ++ both ts), FOREIGN)
      ∷ (any (λ h. has_parent (node_named b h)) hs, INSIDE)
      ∷ (twice hs, TWICE)
      ∷ (full b u, FULL)
      ∷ (worn b, WORN)
      ∷ []

  pub expand_tests_lem : (u : ℕ) (h : Handle) → expand_tests (in_engine m b) u h ≡ expand_tests b u h
  unfolding expand_tests node_named
  expand_tests_lem u h = λ i.
      (outside u, UNIT)
      ∷ (child b u, CHILD)
      ∷ (stale b h, STALE)
      ∷ (foreign_in u h i, FOREIGN)
      ∷ (is_defect (node_named b h), KIND)
      ∷ (has_parent (node_named b h), INSIDE)
      ∷ []

  pub state_tests_lem : (u : ℕ) (h : Handle) → state_tests (in_engine m b) u h ≡ state_tests b u h
  unfolding state_tests node_named
  state_tests_lem u h = λ i. (outside u, UNIT) ∷ (child b u, CHILD) ∷ (stale b h, STALE) ∷ (foreign_in u h i, FOREIGN) ∷ (has_parent (node_named b h), INSIDE) ∷ []

  pub grow_tests_lem : (u : ℕ) (l : ℤ) → grow_tests (in_engine m b) u l ≡ grow_tests b u l
  unfolding grow_tests
  grow_tests_lem u l = λ i.
      (outside u, UNIT) ∷ (child b u, CHILD) ∷ (lt_z l (pos 0) || lt_z (pos progress_limit) ((interface b u).progress +ℤ l), LENGTH) ∷ (below_in u l i, BELOW) ∷ []

  pub mark_tests_lem : (u : ℕ) → mark_tests (in_engine m b) u ≡ mark_tests b u
  unfolding mark_tests
  mark_tests_lem u = refl

  pub fuse_tests_lem : (p l r : ℕ) → fuse_tests (in_engine m b) p l r ≡ fuse_tests b p l r
  unfolding fuse_tests
  fuse_tests_lem p l r = refl
