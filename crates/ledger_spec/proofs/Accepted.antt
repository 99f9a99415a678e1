-- What each call finds where it is accepted: its tests' facts, call by call. Assumes nothing.
use Rattle.std.specs.Prelude.{None, Some}
use Prim.Native.Nat.{ℕ, suc, ◌≤◌, ◌<◌, ◌^◌}
use mathlib.Core.Path.{◌≡◌, refl, sym, ◌∙◌, ap}
use mathlib.Core.Logic.{◌⊎◌, inl, inr}
use mathlib.Core.Bool.{Bool, true, false, ◌&&◌, not, true≢false}
use mathlib.Core.List.{List, [], ◌∷◌, ◌++◌}
use native.Mathlib.Omega.{arith}
use native.Mathlib.Decide.{ℕ_discrete}
use lib.Dec.{eqb, ltb}
use borrow.Author.Tests.{leb-false, ltb-false, eqb-true, eq-eqb, ne_eqb, not-false}
use lib.ListN.{length}
use lib.IntN.{ℤ, pos, ◌+ℤ◌}
use lib.Signed.{lt_z}
use Rattle.ledger_spec.specs.Bench.{Handle, Member, Class, defect, blossom, Node, Bench}
use Rattle.ledger_spec.specs.Look.{interface, free_slot, slot_of, node_named, top, same_handle}
use Rattle.ledger_spec.specs.Tests.{first, any, is_some, empty, stale, foreign, has_parent, is_defect, twice, both, floored, sinks, below}
use Rattle.ledger_spec.specs.Refuse.{unit_tests, defect_tests, blossom_tests, expand_tests, state_tests, grow_tests, mark_tests}
use Rattle.ledger_spec.specs.Deeds.{members}
use Rattle.ledger_spec.specs.SoundTree.{units, tally}
use Rattle.ledger_spec.specs.Knit.{nodes, In, here, there, Has}
use Rattle.ledger_spec.proofs.Lists.{any_slots, slots_any, no_any, or_false, any_no, in_left, in_right, tally_yes, tally_no, none_tally}
use Rattle.ledger_spec.proofs.Knit.{same_handle_lem, same_self}
use Rattle.ledger_spec.proofs.Gathered.{in_units, units_in}
use Rattle.ledger_spec.proofs.Passed.{Failed, passed, given_false, empty_true, Open, open_of, has_of}

-- a node that a call may name: present, and in the tree of the call's interface
pub record Named (b : Bench) (u : ℕ) (h : Handle) : Type 0 where
  pub node : Node
  pub has : Has (slot_of b) h node
  pub is : node_named b h ≡ Some node
  pub near : top b h.unit ≡ u

named_of : (b : Bench) (u : ℕ) (h : Handle) → stale b h ≡ false → foreign b u h ≡ false → Named b u h
named_of b u h e f = let p = has_of b h e in record { node = p.0; has = p.1; is = p.2; near = eqb-true (top b h.unit) u (not-false (eqb (top b h.unit) u) f) }

orphan_of : (b : Bench) (u : ℕ) (h : Handle) (N : Named b u h) → has_parent (node_named b h) ≡ false → N.node.parent ≡ None
orphan_of b u h N e = given_false N.node.parent (ap has_parent (sym N.is) ∙ e)

-- ---- clear
pub clear_passed : (b : Bench) (u : ℕ) → first (unit_tests b u) ≡ 0 → Open b u
unfolding unit_tests
clear_passed b u e = let t = passed (unit_tests b u) tt e in open_of b u t.0 t.1.0

-- ---- defect
pub record DefectPassed (b : Bench) (u : ℕ) : Type 0 where
  pub here : Open b u
  pub room : free_slot b u < 64
  pub unworn : b.next < 2 ^ 32

pub defect_passed : (b : Bench) (u : ℕ) → first (defect_tests b u) ≡ 0 → DefectPassed b u
unfolding defect_tests
defect_passed b u e = let t = passed (defect_tests b u) tt e in
    record { here = open_of b u t.0 t.1.0; room = leb-false 64 (free_slot b u) t.1.1.0; unworn = leb-false (2 ^ 32) b.next t.1.1.1.0 }

-- ---- blossom
pub record BlossomPassed (b : Bench) (u : ℕ) (hs : List Handle) (ts : List (Handle × Handle)) : Type 0 where
  pub here : Open b u
  pub least : 1 ≤ length hs
  pub most : length hs ≤ 64
  pub paired : (ts ≡ []) ⊎ (length ts ≡ length hs)
  pub member : (h : Handle) → In h hs → Named b u h
  pub orphan : (h : Handle) (i : In h hs) → (member h i).node.parent ≡ None
  pub touch : (h : Handle) → In h (both ts) → Named b u h
  pub once : (h : Handle) → In h hs → tally (same_handle h) hs ≡ 1
  pub room : free_slot b u < 64
  pub unworn : b.next < 2 ^ 32

-- no handle twice
pub once_of : (h : Handle) (hs : List Handle) → twice hs ≡ false → In h hs → tally (same_handle h) hs ≡ 1
unfolding twice
once_of h hs e (here {g} {hs = tl} k) = tally_yes (same_handle h) g tl (ap (same_handle h) (sym k) ∙ same_self h)
    ∙ ap suc (none_tally (same_handle h) tl (λ x i. ap (λ (z : Handle). same_handle z x) k ∙ any_no (same_handle g) tl (or_false (any (same_handle g) tl) (twice tl) e).0 i))
once_of h hs e (there {g} {hs = tl} i) = go (same_handle h g) refl (once_of h tl (or_false (any (same_handle g) tl) (twice tl) e).1 i)
  where
    go : (c : Bool) → same_handle h g ≡ c → tally (same_handle h) tl ≡ 1 → tally (same_handle h) (g ∷ tl) ≡ 1
    go true k ih = absurd (true≢false (sym (same_self h) ∙ ap (λ (z : Handle). same_handle z h) (same_handle_lem h g k) ∙ any_no (same_handle g) tl (or_false (any (same_handle g) tl) (twice tl) e).0 i))
    go false k ih = tally_no (same_handle h) g tl k ∙ ih

some_of : {A : Type 0} (l : List A) → empty l ≡ false → 1 ≤ length l
some_of [] e = absurd (true≢false e)
some_of (x ∷ xs) e = omega arith

pair_of : (hs : List Handle) (ts : List (Handle × Handle)) (c d : Bool) → empty ts ≡ c → eqb (length ts) (length hs) ≡ d → (not c && not d) ≡ false → (ts ≡ []) ⊎ (length ts ≡ length hs)
pair_of hs ts true d x y e = inl (empty_true ts x)
pair_of hs ts false true x y e = inr (eqb-true (length ts) (length hs) y)
pair_of hs ts false false x y e = absurd (true≢false e)

pub blossom_passed : (b : Bench) (u : ℕ) (hs : List Handle) (ts : List (Handle × Handle)) → first (blossom_tests b u hs ts) ≡ 0 → BlossomPassed b u hs ts
unfolding blossom_tests
blossom_passed b u hs ts e = record {
  here = open_of b u t.0 t.1.0;
  least = some_of hs (or_false (empty hs) (ltb 64 (length hs)) t.1.1.0).0;
  most = ltb-false 64 (length hs) (or_false (empty hs) (ltb 64 (length hs)) t.1.1.0).1;
  paired = pair_of hs ts (empty ts) (eqb (length ts) (length hs)) refl refl t.1.1.1.0;
  member = member;
  orphan = λ h i. orphan_of b u h (member h i) (any_no (λ g. has_parent (node_named b g)) hs t.1.1.1.1.1.1.0 i);
  touch = λ h i. named h (in_right hs i);
  once = λ h i. once_of h hs t.1.1.1.1.1.1.1.0 i;
  room = leb-false 64 (free_slot b u) t.1.1.1.1.1.1.1.1.0;
  unworn = leb-false (2 ^ 32) b.next t.1.1.1.1.1.1.1.1.1.0;
}
  where
    t : Failed (blossom_tests b u hs ts)
    t = passed (blossom_tests b u hs ts) tt e

    named : (h : Handle) → In h (hs ++ both ts) → Named b u h
    named h i = named_of b u h (any_no (stale b) (hs ++ both ts) t.1.1.1.1.0 i) (any_no (foreign b u) (hs ++ both ts) t.1.1.1.1.1.0 i)

    member : (h : Handle) → In h hs → Named b u h
    member h i = named h (in_left (both ts) i)

-- ---- mark
pub record MarkPassed (b : Bench) (u : ℕ) : Type 0 where
  pub here : Open b u
  pub no_slots : (interface b u).slots ≡ []
  pub no_halves : is_some (interface b u).halves ≡ false

pub mark_passed : (b : Bench) (u : ℕ) → first (mark_tests b u) ≡ 0 → MarkPassed b u
unfolding mark_tests
mark_passed b u e =
    let t = passed (mark_tests b u) tt e in
    let o = or_false (not (empty (interface b u).slots)) (is_some (interface b u).halves) t.1.1.0 in
    record { here = open_of b u t.0 t.1.0; no_slots = empty_true (interface b u).slots (not-false (empty (interface b u).slots) o.0); no_halves = o.1 }

-- ---- expand
pub record ExpandPassed (b : Bench) (u : ℕ) (h : Handle) : Type 0 where
  pub here : Open b u
  pub named : Named b u h
  pub ms : List Member
  pub ring : named.node.class ≡ blossom ms
  pub orphan : named.node.parent ≡ None
  pub circle : members (node_named b h) ≡ nodes ms

-- the members of a node, by its class
ring_nodes : Class → List Handle
ring_nodes k = elim k [ defect v ↦ [] | blossom ms ↦ nodes ms ]

module _ (b : Bench) (h : Handle) (n : Node) (e : node_named b h ≡ Some n) where
  pub members_of : (ms : List Member) → n.class ≡ blossom ms → members (node_named b h) ≡ nodes ms
  unfolding ring_nodes
  members_of ms r = ap members e ∙ ap ring_nodes r

  pub members_none : (v : ℕ) → n.class ≡ defect v → members (node_named b h) ≡ []
  unfolding ring_nodes
  members_none v r = ap members e ∙ ap ring_nodes r

defect_test : Class → Bool
defect_test k = elim k [ defect v ↦ true | blossom ms ↦ false ]

pub expand_passed : (b : Bench) (u : ℕ) (h : Handle) → first (expand_tests b u h) ≡ 0 → ExpandPassed b u h
unfolding expand_tests defect_test
expand_passed b u h e = go N.node.class refl
  where
    t : Failed (expand_tests b u h)
    t = passed (expand_tests b u h) tt e

    N : Named b u h
    N = named_of b u h t.1.1.0 t.1.1.1.0

    go : (k : Class) → N.node.class ≡ k → ExpandPassed b u h
    go (defect v) r = absurd (true≢false (sym (ap is_defect N.is ∙ ap defect_test r) ∙ t.1.1.1.1.0))
    go (blossom ms) r = record { here = open_of b u t.0 t.1.0; named = N; ms = ms; ring = r; orphan = orphan_of b u h N t.1.1.1.1.1.0; circle = members_of b h N.node N.is ms r }

-- ---- set state
pub record StatePassed (b : Bench) (u : ℕ) (h : Handle) : Type 0 where
  pub here : Open b u
  pub named : Named b u h
  pub orphan : named.node.parent ≡ None

pub state_passed : (b : Bench) (u : ℕ) (h : Handle) → first (state_tests b u h) ≡ 0 → StatePassed b u h
unfolding state_tests
state_passed b u h e =
    let t = passed (state_tests b u h) tt e in
    let N : Named b u h = named_of b u h t.1.1.0 t.1.1.1.0 in
    record { here = open_of b u t.0 t.1.0; named = N; orphan = orphan_of b u h N t.1.1.1.1.0 }

-- ---- grow
pub record GrowPassed (b : Bench) (u : ℕ) (l : ℤ) : Type 0 where
  pub here : Open b u
  pub forward : lt_z l (pos 0) ≡ false
  pub limit : lt_z (pos (2 ^ 40)) ((interface b u).progress +ℤ l) ≡ false
  pub above : floored b u ≡ true → (w s : ℕ) → w < 8 → top b w ≡ u → sinks l (slot_of b w s) ≡ false

-- no node sinks, slot by slot
unsunk : (b : Bench) (u : ℕ) (l : ℤ) → below b u l ≡ false → floored b u ≡ true → (w s : ℕ) → w < 8 → top b w ≡ u → sinks l (slot_of b w s) ≡ false
unfolding below
unsunk b u l e f w s h t = any_slots (sinks l) refl (interface b w).slots
    (sym (ap (λ (c : Bool). c && any (sinks l) (interface b w).slots) (eq-eqb (top b w) u t)) ∙ any_no (λ (v : ℕ). eqb (top b v) u && any (sinks l) (interface b v).slots) units
    (sym (ap (λ (c : Bool). c && any (λ (v : ℕ). eqb (top b v) u && any (sinks l) (interface b v).slots) units) f) ∙ e) (in_units w h)) s

pub unsunk_tests : (b : Bench) (u : ℕ) (l : ℤ) → (floored b u ≡ true → (w s : ℕ) → w < 8 → top b w ≡ u → sinks l (slot_of b w s) ≡ false) → below b u l ≡ false
unfolding below
unsunk_tests b u l h = go (floored b u) refl
  where
    low : ℕ → Bool
    low v = eqb (top b v) u && any (sinks l) (interface b v).slots

    each : floored b u ≡ true → (w : ℕ) → In w units → low w ≡ false
    each f w i = at (ℕ_discrete (top b w) u)
      where
        at : Dec (top b w ≡ u) → low w ≡ false
        at (yes t) = ap (λ (c : Bool). c && any (sinks l) (interface b w).slots) (eq-eqb (top b w) u t) ∙ slots_any (sinks l) (interface b w).slots (λ s. h f w s (units_in w i) t)
        at (no t) = ap (λ (c : Bool). c && any (sinks l) (interface b w).slots) (ne_eqb (top b w) u t)

    go : (c : Bool) → floored b u ≡ c → (floored b u && any low units) ≡ false
    go true f = ap (λ (c : Bool). c && any low units) f ∙ no_any low units (each f)
    go false f = ap (λ (c : Bool). c && any low units) f

pub grow_passed : (b : Bench) (u : ℕ) (l : ℤ) → first (grow_tests b u l) ≡ 0 → GrowPassed b u l
unfolding grow_tests
grow_passed b u l e =
    let t = passed (grow_tests b u l) tt e in
    let o = or_false (lt_z l (pos 0)) (lt_z (pos (2 ^ 40)) ((interface b u).progress +ℤ l)) t.1.1.0 in
    record { here = open_of b u t.0 t.1.0; forward = o.0; limit = o.1; above = unsunk b u l t.1.1.1.0 }
