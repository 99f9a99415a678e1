-- The test of floors and the ledger's own rule, either from the other. Assumes nothing.
use Rattle.std.specs.Prelude.{None, Option, Some}
use Prim.Native.Nat.{ℕ, suc, ◌+◌, ◌-◌, ◌*◌, ◌<◌, ◌≤◌}
use mathlib.Core.Path.{◌≡◌, refl, sym, ◌∙◌, ap, subst}
use mathlib.Core.Bool.{Bool, true, false, not, ◌||◌, true≢false}
use mathlib.Core.List.{List}
use native.Mathlib.Decide.{dec_lt}
use native.Mathlib.Omega.{arith}
use lib.Dec.{leb, ltb}
use lib.IntN.{pos}
use lib.Signed.{le_z}
use lib.ListN.{get_or, get_or-eq_default}
use borrow.Author.Tests.{le-leb, lt-leb, ltb-true, ltb-false}
use Rattle.kinds.specs.declared.Class.{Class}
use Rattle.kinds.specs.declared.Class.TheVariants.{Absent, Blossom, Defect}
use Rattle.bench_words.specs.Store.{node_at, interface_at}
use Rattle.bench_words.specs.declared.Node.{Node}
use Rattle.bench_words.proofs.Laws.{GoodUp, good_interface}
use Rattle.ledger_spec.specs.Bench.{Member, fresh}
use Rattle.ledger_spec.specs.Bench as plain
use Rattle.ledger_spec.specs.Look.{interface, slot_of}
use Rattle.ledger_spec.specs.Tests.{floored}
use Rattle.ledger_spec.specs.Sound.{afloat}
use Rattle.ledger_spec.specs.Facts.{Floors}
use Rattle.ledger_spec.proofs.Lists.{and_true, both_true, same_eq, eq_same}
use Rattle.ledger_spec.proofs.Knit.{none_some}
use Rattle.bench_views.specs.View.{off, up_seen, value_by, sum_up, circle_of, slot_seen, view}
use Rattle.bench_views.proofs.Views.{interface_in_lem, view_slot, view_past, view_parent, view_eight}
use Rattle.sound_trees.specs.Below.{all_to}
use Rattle.sound_trees.proofs.Belows.{all_each, all_of}
use Rattle.sound_floors.specs.Floors.{afloat_test, level_test, slot_afloat, floor_test}

-- ---- a value that stands higher than it is
off_high : (c x : ℕ) → le_z (pos 0) (off (suc c) x) ≡ leb (suc c) x
unfolding off
off_high c x = go (ltb x (suc c)) refl
  where
    go : (t : Bool) → ltb x (suc c) ≡ t → le_z (pos 0) (off (suc c) x) ≡ leb (suc c) x
    go true e = rw e (sym (lt-leb (suc c) x (ltb-true x (suc c) e)))
    go false e = rw e (le-leb 0 (x - suc c) (omega arith) ∙ sym (le-leb (suc c) x (ltb-false x (suc c) e)))

seen_afloat : (n : Node) (t : ℕ) (ms : List Member) → afloat (slot_seen n t ms) ≡ afloat_test n t
unfolding slot_seen afloat_test
seen_afloat n t ms = go n.class refl
  where
    go : (c : Class) → n.class ≡ c → afloat (slot_seen n t ms) ≡ afloat_test n t
    go Absent e = rw e
    go Blossom e = rw e (off_high 1152921504606846975 (value_by n.state n.bias t))
    go (Defect v) e = rw e (off_high 1152921504606846975 (value_by n.state n.bias t))

under_is : (p : Option ℕ) (q : ℕ) → up_seen p ≡ Some q → p ≡ Some q
under_is None q e = absurd (none_some refl e)
under_is (Some x) q e = let z : x ≡ q = cc in ap Some z

module _ (b : List ℕ) where
  marks_in : (u : ℕ) → u < 8 → floored (view b) u ≡ (interface_at b u).marks.floored
  marks_in u l = ap (λ (f : plain.Interface). f.marks.floored) (interface_in_lem (get_or b 0 0) (interface_at b) (node_at b) u l)

  out : (u : ℕ) → 8 ≤ u → interface (view b) u ≡ fresh
  out u l = get_or-eq_default (view b).interfaces fresh (omega (arith, l, view_eight (get_or b 0 0) (interface_at b) (node_at b)))

  slot_afloat_lem : (u s : ℕ) → u < 8 → s < (interface_at b u).used → afloat (slot_of (view b) u s) ≡ slot_afloat b u (sum_up 8 (interface_at b) u) s
  slot_afloat_lem u s lu ls = ap afloat (view_slot (get_or b 0 0) (interface_at b) (node_at b) u s lu ls) ∙ seen_afloat (node_at b (u * 64 + s)) (sum_up 8 (interface_at b) u) (circle_of (node_at b) (u * 64 + s))

  -- ---- from the test
  module _ (T : (u : ℕ) → u < 8 → floor_test b u ≡ true) where
    parts : (u : ℕ) → u < 8 → (level_test (interface_at b) (interface_at b u).parent (interface_at b u).marks.floored ≡ true)
        × ((not (interface_at b u).marks.floored || all_to (slot_afloat b u (sum_up 8 (interface_at b) u)) (interface_at b u).used) ≡ true)
    unfolding floor_test
    parts u l = and_true (level_test (interface_at b) (interface_at b u).parent (interface_at b u).marks.floored) _ (T u l)

    level : (u p : ℕ) → (interface (view b) u).parent ≡ Some p → floored (view b) u ≡ floored (view b) p
    level u p e = go (dec_lt u 8)
      where
        go : Dec (u < 8) → floored (view b) u ≡ floored (view b) p
        go (no q) = absurd (none_some (ap (λ (f : plain.Interface). f.parent) (out u (omega (arith, q)))) e)
        go (yes l) =
            let q = under_is (interface_at b u).parent p (sym (view_parent (get_or b 0 0) (interface_at b) (node_at b) u l) ∙ e) in
            let lp : p < 8 = subst GoodUp q (good_interface b u) in
            let h : level_test (interface_at b) (Some p) (interface_at b u).marks.floored ≡ true = ap (λ (x : Option ℕ). level_test (interface_at b) x (interface_at b u).marks.floored) (sym q) ∙ (parts u l).0 in
            marks_in u l ∙ same_eq (interface_at b u).marks.floored (interface_at b p).marks.floored h ∙ sym (marks_in p lp)

    values : (u s : ℕ) → floored (view b) u ≡ true → afloat (slot_of (view b) u s) ≡ true
    values u s e = go (dec_lt u 8) (dec_lt s (interface_at b u).used)
      where
        go : Dec (u < 8) → Dec (s < (interface_at b u).used) → afloat (slot_of (view b) u s) ≡ true
        go (no q) d = absurd (true≢false (sym e ∙ ap (λ (f : plain.Interface). f.marks.floored) (out u (omega (arith, q)))))
        go (yes l) (no q) = ap afloat (view_past (get_or b 0 0) (interface_at b) (node_at b) u s l (omega (arith, q)))
        go (yes l) (yes ls) =
            let h : all_to (slot_afloat b u (sum_up 8 (interface_at b) u)) (interface_at b u).used ≡ true = ap (λ (c : Bool). not c || all_to (slot_afloat b u (sum_up 8 (interface_at b) u)) (interface_at b u).used) (sym e ∙ marks_in u l) ∙ (parts u l).1 in
            slot_afloat_lem u s l ls ∙ all_each (slot_afloat b u (sum_up 8 (interface_at b) u)) (interface_at b u).used h s ls

    pub floors_say : Floors (view b)
    floors_say = record { level = level; values = values }

  -- ---- from the rule
  module _ (S : Floors (view b)) (u : ℕ) (l : u < 8) where
    holds_level : (p : Option ℕ) → (interface_at b u).parent ≡ p → level_test (interface_at b) p (interface_at b u).marks.floored ≡ true
    holds_level None e = refl
    holds_level (Some p) e =
        let lp : p < 8 = subst GoodUp e (good_interface b u) in
        let h = S.level u p (view_parent (get_or b 0 0) (interface_at b) (node_at b) u l ∙ ap up_seen e) in
        eq_same (interface_at b u).marks.floored (interface_at b p).marks.floored (sym (marks_in u l) ∙ h ∙ marks_in p lp)

    holds_values : (c : Bool) → (interface_at b u).marks.floored ≡ c → (not c || all_to (slot_afloat b u (sum_up 8 (interface_at b) u)) (interface_at b u).used) ≡ true
    holds_values false e = refl
    holds_values true e = all_of (slot_afloat b u (sum_up 8 (interface_at b) u)) (interface_at b u).used (λ s ls. sym (slot_afloat_lem u s l ls) ∙ S.values u s (marks_in u l ∙ e))

    pub floors_hold : floor_test b u ≡ true
    unfolding floor_test
    floors_hold = both_true (holds_level (interface_at b u).parent refl) (holds_values (interface_at b u).marks.floored refl)
