-- The numbers of set state and expand: the handle's tests, then what stands in its slot. Assumes nothing.
use Rattle.std.specs.Option.{is_some as some}
use Rattle.std.specs.Prelude.{None, Option, Some}
use Prim.Native.Nat.{ℕ, ◌+◌, ◌*◌, ◌<◌}
use mathlib.Core.Path.{◌≡◌, refl, ap, sym, ◌∙◌}
use mathlib.Core.Logic.{◌≢◌}
use mathlib.Core.Bool.{Bool, true, false, not, true≢false}
use mathlib.Core.List.{List, [], ◌∷◌}
use native.Mathlib.Omega.{arith}
use Rattle.bench_words.specs.Store.{node_at, interface_at}
use Rattle.bench_words.specs.declared.Node.{Node}
use Rattle.kinds.specs.States.{blossom_of}
use Rattle.kinds.specs.declared.Class.{Class}
use Rattle.kinds.specs.declared.Class.TheVariants.{Absent, Blossom, Defect}
use Rattle.kinds.specs.declared.Handle.{Handle as Code}
use Rattle.ledger_spec.specs.Bench.{Handle, Member}
use Rattle.ledger_spec.specs.Look as look
use Rattle.ledger_spec.specs.Named.{parent_named}
use Rattle.ledger_spec.specs.Tests.{first, is_some, stale, foreign, has_parent, is_defect}
use Rattle.ledger_spec.specs.Refuse.{unit_tests, state_tests, expand_tests}
use Rattle.ledger_spec.proofs.Passed.{Failed, passed, has_of}
use Rattle.bench_views.specs.View.{view, slot_seen, sum_up, circle_of}
use Rattle.bench_views.specs.Canon.{Canon}
use Rattle.bench_links.specs.Find.{spot, Stands, Finds}
use Rattle.bench_links.proofs.Finding.{stands_by}
use Rattle.bench_links.proofs.Rising.{seen_node}
use Rattle.read_sound.proofs.Numbers.{first_yes, first_no, first_none, stale_yes, stale_no}
use Rattle.refuse_calls.specs.Named.{named_tests}
use Rattle.refuse_calls.proofs.Firsts.{refused_by, decided_by}
use Rattle.refuse_calls.proofs.Units.{unit_failed}

-- ---- what a search says, by whether it found
module _ (b : List ℕ) (h : Handle) where
  pub found : (r : Option ℕ) → Finds b h r → (t : Bool) → some r ≡ not t → t ≡ false → Stands b h
  found None f t e g = absurd (true≢false (sym (e ∙ ap not g)))
  found (Some k) f t e g = f.stands

  pub gone : (r : Option ℕ) → Finds b h r → (t : Bool) → some r ≡ not t → t ≡ true → look.node_named (view b) h ≡ None
  gone None f t e g = f
  gone (Some k) f t e g = absurd (true≢false (e ∙ ap not g))

parent_some : (p : Option Code) → is_some (parent_named p) ≡ some p
parent_some None = refl
parent_some (Some q) = refl

-- ---- a handle
module _ (b : List ℕ) (u n : ℕ) (e : n ≡ first (unit_tests (view b) u)) (h : Handle) where
  pub named_no : n ≢ 0 → n ≡ first (named_tests (view b) u h)
  unfolding unit_tests named_tests
  named_no q = refused_by (unit_tests (view b) u) ((stale (view b) h, 8) ∷ (foreign (view b) u h, 9) ∷ []) n e q

  module _ (z : n ≡ 0) where
    named_rest : (k : ℕ) → k ≡ first ((stale (view b) h, 8) ∷ (foreign (view b) u h, 9) ∷ []) → k ≡ first (named_tests (view b) u h)
    unfolding unit_tests named_tests
    named_rest k r = decided_by (unit_tests (view b) u) ((stale (view b) h, 8) ∷ (foreign (view b) u h, 9) ∷ []) (unit_failed b u n e z) k r

    pub named_stale : look.node_named (view b) h ≡ None → 8 ≡ first (named_tests (view b) u h)
    named_stale s = named_rest 8 (sym (first_yes (stale (view b) h) 8 ((foreign (view b) u h, 9) ∷ []) (stale_yes (view b) h s)))

    module _ (S : Stands b h) where
      there : first ((stale (view b) h, 8) ∷ (foreign (view b) u h, 9) ∷ []) ≡ first ((foreign (view b) u h, 9) ∷ [])
      there = let s = seen_node b h S in first_no (stale (view b) h) 8 ((foreign (view b) u h, 9) ∷ []) (stale_no (view b) h _ s.1)

      pub named_foreign : foreign (view b) u h ≡ true → 9 ≡ first (named_tests (view b) u h)
      named_foreign t = named_rest 9 (sym (there ∙ first_yes (foreign (view b) u h) 9 [] t))

      pub named_fine : foreign (view b) u h ≡ false → 0 ≡ first (named_tests (view b) u h)
      named_fine t = named_rest 0 (sym (there ∙ first_no (foreign (view b) u h) 9 [] t ∙ first_none))

-- ---- what stands there
defect_seen : (n : Node) (t : ℕ) (ms : List Member) → (n.class ≡ Absent → ⊥) → is_defect (slot_seen n t ms) ≡ not (blossom_of n.class)
unfolding slot_seen
defect_seen n t ms p = go n.class refl
  where
    go : (c : Class) → n.class ≡ c → is_defect (slot_seen n t ms) ≡ not (blossom_of n.class)
    go Absent e = absurd (p e)
    go Blossom e = rw e
    go (Defect v) e = rw e

module _ (b : List ℕ) (C : Canon b) (u n : ℕ) (h : Handle) (e : n ≡ first (named_tests (view b) u h)) where
  pub state_no : n ≢ 0 → n ≡ first (state_tests (view b) u h)
  unfolding named_tests state_tests
  state_no q = refused_by (named_tests (view b) u h) ((has_parent (look.node_named (view b) h), 11) ∷ []) n e q

  pub expand_no : n ≢ 0 → n ≡ first (expand_tests (view b) u h)
  unfolding named_tests expand_tests
  expand_no q = refused_by (named_tests (view b) u h) ((is_defect (look.node_named (view b) h), 10) ∷ (has_parent (look.node_named (view b) h), 11) ∷ []) n e q

  module _ (z : n ≡ 0) where
    named_failed : Failed (named_tests (view b) u h)
    unfolding named_tests
    named_failed = passed (named_tests (view b) u h) tt (sym e ∙ z)

    pub named_stands : Stands b h
    unfolding named_tests
    named_stands = let p = has_of (view b) h named_failed.1.1.0 in stands_by b C h p.0 p.1.stands p.1.serial

    pub named_low : h.unit * 64 + h.slot < 512
    named_low = let S = named_stands in omega arith

    module _ (x : Node) (i : x ≡ node_at b (spot h)) where
      parent_is : has_parent (look.node_named (view b) h) ≡ some x.parent
      parent_is = ap has_parent (seen_node b h named_stands).1 ∙ ap (λ (y : Node). is_some (parent_named y.parent)) (sym i) ∙ parent_some x.parent

      class_is : is_defect (look.node_named (view b) h) ≡ not (blossom_of x.class)
      class_is =
          let S = named_stands in
          ap is_defect S.seen ∙ defect_seen (node_at b (spot h)) (sum_up 8 (interface_at b) h.unit) (circle_of (node_at b) (spot h)) S.present ∙ ap (λ (y : Node). not (blossom_of y.class)) (sym i)

      -- ---- set state
      state_rest : (k : ℕ) → k ≡ first ((has_parent (look.node_named (view b) h), 11) ∷ []) → k ≡ first (state_tests (view b) u h)
      unfolding named_tests state_tests
      state_rest k r = decided_by (named_tests (view b) u h) ((has_parent (look.node_named (view b) h), 11) ∷ []) named_failed k r

      pub state_fine : some x.parent ≡ false → 0 ≡ first (state_tests (view b) u h)
      state_fine p = state_rest 0 (sym (first_no (has_parent (look.node_named (view b) h)) 11 [] (parent_is ∙ p) ∙ first_none))

      pub state_member : some x.parent ≡ true → 11 ≡ first (state_tests (view b) u h)
      state_member p = state_rest 11 (sym (first_yes (has_parent (look.node_named (view b) h)) 11 [] (parent_is ∙ p)))

      -- ---- expand
      expand_rest : (k : ℕ) → k ≡ first ((is_defect (look.node_named (view b) h), 10) ∷ (has_parent (look.node_named (view b) h), 11) ∷ []) → k ≡ first (expand_tests (view b) u h)
      unfolding named_tests expand_tests
      expand_rest k r = decided_by (named_tests (view b) u h) ((is_defect (look.node_named (view b) h), 10) ∷ (has_parent (look.node_named (view b) h), 11) ∷ []) named_failed k r

      module _ (y : Bool) (j : y ≡ blossom_of x.class) where
        pub expand_defect : y ≡ false → 10 ≡ first (expand_tests (view b) u h)
        expand_defect t = expand_rest 10 (sym (first_yes (is_defect (look.node_named (view b) h)) 10 ((has_parent (look.node_named (view b) h), 11) ∷ []) (class_is ∙ ap not (sym j ∙ t))))

        module _ (t : y ≡ true) where
          ring : first ((is_defect (look.node_named (view b) h), 10) ∷ (has_parent (look.node_named (view b) h), 11) ∷ []) ≡ first ((has_parent (look.node_named (view b) h), 11) ∷ [])
          ring = first_no (is_defect (look.node_named (view b) h)) 10 ((has_parent (look.node_named (view b) h), 11) ∷ []) (class_is ∙ ap not (sym j ∙ t))

          pub expand_fine : some x.parent ≡ false → 0 ≡ first (expand_tests (view b) u h)
          expand_fine p = expand_rest 0 (sym (ring ∙ first_no (has_parent (look.node_named (view b) h)) 11 [] (parent_is ∙ p) ∙ first_none))

          pub expand_member : some x.parent ≡ true → 11 ≡ first (expand_tests (view b) u h)
          expand_member p = expand_rest 11 (sym (ring ∙ first_yes (has_parent (look.node_named (view b) h)) 11 [] (parent_is ∙ p)))
