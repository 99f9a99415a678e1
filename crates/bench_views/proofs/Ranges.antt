-- A value near 0 leaves the bias room for T on either side: the view's values bound the words'. Assumes nothing.
use Prim.Native.Nat.{ℕ, suc, ◌+◌, ◌-◌, ◌*◌, ◌<◌, ◌≤◌}
use mathlib.Core.Path.{◌≡◌, refl, ◌∙◌}
use mathlib.Core.Bool.{Bool, true, false, cond}
use mathlib.Core.List.{List}
use native.Mathlib.Omega.{arith}
use lib.Dec.{ltb}
use borrow.Author.Tests.{ltb-true, ltb-false}
use lib.IntN.{pos, negsuc, nat_abs}
use lib.ListN.{get_or}
use Rattle.kinds.specs.declared.GrowState.{GrowState}
use Rattle.kinds.specs.declared.GrowState.TheVariants.{Grow as Growing, Stay, Shrink}
use Rattle.kinds.specs.declared.Class.TheVariants.{Absent}
use Rattle.bench_words.specs.Store.{node_at, interface_at}
use Rattle.bench_views.specs.Records.{Steady, Ranged}
use Rattle.bench_views.specs.View.{off, value_by, sum_up, circle_of, view}
use Rattle.bench_views.specs.Canon.{Within}
use Rattle.bench_views.proofs.Sums.{sum_up_le}
use Rattle.bench_views.proofs.Rings.{slot_held}
use Rattle.bench_views.proofs.Views.{view_slot}

pub off_range : (c x m : ℕ) → nat_abs (off (suc c) x) ≤ m → (suc c ≤ x + m) × (x ≤ suc c + m)
unfolding off
off_range c x m = go (ltb x (suc c)) refl
  where
    go : (t : Bool) → ltb x (suc c) ≡ t → nat_abs (cond t (negsuc (suc c - suc x)) (pos (x - suc c))) ≤ m → (suc c ≤ x + m) × (x ≤ suc c + m)
    go true e h = let l = ltb-true x (suc c) e in (omega arith, omega arith)
    go false e h = let l = ltb-false x (suc c) e in (omega arith, omega arith)

bias_range : (g : GrowState) (b t : ℕ) → t ≤ 8796093022208 → 1152921504606846976 ≤ value_by g b t + 8796093022208 → value_by g b t ≤ 1152921504606846976 + 8796093022208
    → (576460752303423488 ≤ b) × (b ≤ 2305843009213693952)
bias_range Growing b t l x y = (omega arith, omega arith)
bias_range Stay b t l x y = (omega arith, omega arith)
bias_range Shrink b t l x y = (omega arith, omega arith)

pub ranged : (b : List ℕ) → Steady b → Within (view b) → (v s : ℕ) → v < 8 → s < (interface_at b v).used → ((node_at b (v * 64 + s)).class ≡ Absent → ⊥) → Ranged (node_at b (v * 64 + s))
ranged b st near v s lv ls p =
    let n = node_at b (v * 64 + s) in
    let t = sum_up 8 (interface_at b) v in
    let held = slot_held n t (circle_of (node_at b) (v * 64 + s)) p in
    let seen = view_slot (get_or b 0 0) (interface_at b) (node_at b) v s lv ls ∙ held.1 in
    let x = off_range 1152921504606846975 (value_by n.state n.bias t) 8796093022208 (near v s _ seen) in
    let y = bias_range n.state n.bias t (omega (arith, sum_up_le b st 8 v lv)) x.0 x.1 in
    record { least = y.0; most = y.1 }
