-- THEOREM. Every question is answered the same in either engine, of any bench, sound or not, BROKEN among the numbers. Assumes nothing.
use Rattle.std.specs.Prelude.{None}
use Prim.Native.Nat.{ℕ}
use mathlib.Core.Path.{◌≡◌, refl}
use mathlib.Core.Bool.{Bool, true, false, not, ◌&&◌}
use mathlib.Core.List.{List, [], ◌∷◌, ◌++◌, map}
use lib.Dec.{eqb, leb, ltb}
use lib.ListN.{length, get_or, drop}
use Rattle.ledger_spec.specs.Numbers.{BROKEN, UNIT, CHILD, RANGE, UNSOUND, SMALL}
use Rattle.ledger_spec.specs.Bench.{Handle, Bench}
use Rattle.ledger_spec.specs.Look.{interface, node_named}
use Rattle.ledger_spec.specs.Tests.{first, outside, child}
use Rattle.ledger_spec.specs.Refuse.{unit_tests}
use Rattle.ledger_spec.specs.Reads.{said, as_handle, sum_of, speed_of, count_of, fills_of, floored_of, index_tests, handle_at_index, node_tests, value_of, belongs}
use Rattle.ledger_spec.specs.Check.{index_in}
use Rattle.ledger_spec.specs.Answers.{ask, read}
use Rattle.picture_spec.specs.Sketch.{seen_of, sketch_of}
use Rattle.picture_spec.specs.Text.{names_by, text_of}
use Rattle.picture_spec.specs.Picture.{picture, picture_tests, picture_into}
use Rattle.engine_laws.specs.Engines.{in_engine}
use Rattle.engine_laws.specs.Questions.{Question, Sum, Speed, Count, Fills, Floored, Check, Strict, At, Belongs, Value, Outer, Below, First, Vertices, Picture, Add, Extend, asking}
use Rattle.engine_laws.proofs.Looks.{slots_in}
use Rattle.engine_laws.proofs.Tests.{stale_in, foreign_in, unit_tests_lem}
use Rattle.engine_laws.proofs.Walks.{outer_in, below_in, first_in, vertices_into_lem}
use Rattle.engine_laws.proofs.Checks.{verdict_in, check_in, strict_in}
use Rattle.engine_laws.proofs.Sound.{sound_engine}
use Rattle.engine_laws.proofs.Groups.{add_engine, extend_engine}

module _ (m : Bool) (b : Bench) where
  -- ---- reads of an interface
  sum_in : (u : ℕ) → sum_of (in_engine m b) u ≡ sum_of b u
  unfolding sum_of unit_tests
  sum_in u = refl

  speed_in : (u : ℕ) → speed_of (in_engine m b) u ≡ speed_of b u
  unfolding speed_of unit_tests
  speed_in u = refl

  count_in : (u : ℕ) → count_of (in_engine m b) u ≡ count_of b u
  unfolding count_of
  count_in u = λ i. said (first (unit_tests_lem m b u i)) (length (slots_in m b u i)) 0

  fills_in : (u : ℕ) → fills_of (in_engine m b) u ≡ fills_of b u
  unfolding fills_of unit_tests
  fills_in u = refl

  floored_in : (u : ℕ) → floored_of (in_engine m b) u ≡ floored_of b u
  unfolding floored_of unit_tests
  floored_in u = refl

  pub index_tests_lem : (u k : ℕ) → index_tests (in_engine m b) u k ≡ index_tests b u k
  unfolding index_tests
  index_tests_lem u k = λ i. (outside u, UNIT) ∷ (child b u, CHILD) ∷ (leb (length (slots_in m b u i)) k, RANGE) ∷ []

  index_in_lem : (u k : ℕ) → handle_at_index (in_engine m b) u k ≡ handle_at_index b u k
  unfolding handle_at_index
  index_in_lem u k = λ i. said (first (index_tests_lem u k i)) (as_handle (get_or (slots_in m b u i) k (0, 0, None))) None

  -- ---- reads of a node
  belongs_in : (u : ℕ) (h : Handle) → belongs (in_engine m b) u h ≡ belongs b u h
  unfolding belongs
  belongs_in u h = λ i. said (first (unit_tests_lem m b u i)) (not (stale_in m b h i) && not (foreign_in m b u h i)) false

  value_in : (h : Handle) → value_of (in_engine m b) h ≡ value_of b h
  unfolding value_of node_tests node_named
  value_in h = refl

  -- ---- the picture
  sketch_in : (u : ℕ) → sketch_of (in_engine m b) u ≡ sketch_of b u
  unfolding sketch_of
  sketch_in u = λ i. record { speed = (interface b u).speed; sum = (interface b u).sum; nodes = map (λ t. seen_of (λ h. index_in (slots_in m b u i) 0 h) t.2) (slots_in m b u i) }

  picture_in : (u : ℕ) (a : Bool) → picture (in_engine m b) u a ≡ picture b u a
  unfolding picture
  picture_in u a = λ i. text_of (names_by a) (sketch_in u i)

  picture_into_lem : (u : ℕ) (a : Bool) (out : List ℕ) → picture_into (in_engine m b) u a out ≡ picture_into b u a out
  unfolding picture_into picture_tests
  picture_into_lem u a out = λ i.
      said
      (first ((outside u, UNIT) ∷ (child b u, CHILD) ∷ (not (eqb (verdict_in m b u i).0 0), UNSOUND) ∷ (ltb (length out) (length (picture_in u a i)), SMALL) ∷ []))
      (length (picture_in u a i), picture_in u a i ++ drop (length (picture_in u a i)) out)
      (0, out)

  -- ---- every question
  own_in : (q : Question) → (asking (in_engine m b) q).own ≡ (asking b q).own
  own_in (Sum u) = sum_in u
  own_in (Speed u) = speed_in u
  own_in (Count u) = count_in u
  own_in (Fills u) = fills_in u
  own_in (Floored u) = floored_in u
  own_in (Check u) = check_in m b u
  own_in (Strict u) = strict_in m b u
  own_in (At u k) = index_in_lem u k
  own_in (Belongs u h) = belongs_in u h
  own_in (Value h) = value_in h
  own_in (Outer h) = outer_in m b h
  own_in (Below h) = below_in m b h
  own_in (First h) = first_in m b h
  own_in (Vertices h out) = vertices_into_lem m b h out
  own_in (Picture u a out) = picture_into_lem u a out
  own_in (Add g o) = add_engine m b g o
  own_in (Extend g h) = extend_engine m b g h

  zero_in : (q : Question) → (asking (in_engine m b) q).zero ≡ (asking b q).zero
  zero_in (Sum u) = refl
  zero_in (Speed u) = refl
  zero_in (Count u) = refl
  zero_in (Fills u) = refl
  zero_in (Floored u) = refl
  zero_in (Check u) = refl
  zero_in (Strict u) = refl
  zero_in (At u k) = refl
  zero_in (Belongs u h) = refl
  zero_in (Value h) = refl
  zero_in (Outer h) = refl
  zero_in (Below h) = refl
  zero_in (First h) = refl
  zero_in (Vertices h out) = refl
  zero_in (Picture u a out) = refl
  zero_in (Add g o) = refl
  zero_in (Extend g h) = refl

  -- of a sound bench and of one that is not; of any words, what their contracts speak of
  pub asking_engine : (q : Question) → asking (in_engine m b) q ≡ asking b q
  asking_engine q = λ i. record { own = own_in q i; zero = zero_in q i }

  pub read_engine : (q : Question) → read (in_engine m b) (asking (in_engine m b) q) ≡ read b (asking b q)
  unfolding ask
  read_engine q = λ i. elim (sound_engine m b i) [ true ↦ own_in q i | false ↦ (BROKEN, zero_in q i) ]
