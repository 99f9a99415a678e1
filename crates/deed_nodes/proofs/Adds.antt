-- A node added in an empty slot, over interfaces and nodes as functions. No circle goes through a slot that is empty, so the other slots show what
-- they showed; and the ledger's own readings of `push` say the same of every part. Assumes nothing.
use Rattle.std.specs.Prelude.{Some}
use Prim.Native.Nat.{ℕ, suc, max, ◌+◌, ◌*◌, ◌<◌, ◌≤◌}
use mathlib.Core.Path.{◌≡◌, refl, ap, ap₂, sym, ◌∙◌}
use mathlib.Core.Logic.{◌≢◌}
use mathlib.Core.List.{List}
use native.Mathlib.Omega.{arith}
use lib.IntN.{◌+ℤ◌}
use Rattle.kinds.specs.declared.Class.TheVariants.{Absent, Blossom}
use Rattle.bench_words.specs.Store.{node_at}
use Rattle.bench_words.proofs.Laws.{GoodUp}
use Rattle.bench_words.specs.declared.Node.{Node}
use Rattle.bench_words.specs.declared.Interface.{Interface}
use Rattle.ledger_spec.specs.Bench.{State, grows, rate}
use Rattle.ledger_spec.specs.Bench as plain
use Rattle.ledger_spec.specs.Change.{push}
use Rattle.ledger_spec.specs.Knit.{Sewn}
use Rattle.bench_views.specs.Records.{with_used}
use Rattle.bench_views.specs.View.{lag_of, off, sum_up, slot_seen, view_in, view, circle_of}
use Rattle.bench_views.proofs.Offsets.{off_add}
use Rattle.bench_views.proofs.Sums.{sum_up_same}
use Rattle.bench_views.proofs.Views.{unit_held, push_view}
use Rattle.bench_views.proofs.Rings.{Ringed}
use Rattle.deed_nodes.proofs.Puts.{slot_like}
use Rattle.deed_nodes.proofs.Keeps.{not_blossom}

-- a slot that holds a node is not an empty one
pub slot_old : (b : List ℕ) (k j : ℕ) → (node_at b k).class ≡ Absent → ((node_at b j).class ≡ Absent → ⊥) → j ≢ k
slot_old b k j bare p e = p (ap (λ (x : ℕ). (node_at b x).class) e ∙ bare)

pub ring_at : (b : List ℕ) (k j : ℕ) → (node_at b k).class ≡ Absent → (node_at b j).class ≡ Blossom → j ≢ k
ring_at b k j bare p = slot_old b k j bare (λ a. not_blossom a p)

-- so no member of a circle stands there
pub ring_old : (b : List ℕ) (S : Sewn (view b)) (k v r p : ℕ) → (node_at b k).class ≡ Absent → Ringed b S v r p → p ≢ k
ring_old b S k v r p bare g = slot_old b k p bare g.present

-- node x in slot s of interface u, at k, which is one of those used or the next
module _ (n : ℕ) (U U' : ℕ → Interface) (A A' : ℕ → Node) (u s k : ℕ) (x : plain.Node)
    (good : (v : ℕ) → v < 8 → GoodUp (U v).parent) (few : (v : ℕ) → v < 8 → (U v).used ≤ 64) (lu : u < 8) (room : s < 64) (low : s ≤ (U u).used) (at : k ≡ u * 64 + s)
    (here : U' u ≡ with_used (U u) (max (U u).used (suc s)) ((U u).speed + 1)) (there : (v : ℕ) → v < 8 → v ≢ u → U' v ≡ U v)
    (others : (j : ℕ) → j ≢ k → A' j ≡ A j)
    (circles : (v r : ℕ) → v < 8 → r < (U v).used → (A (v * 64 + r)).class ≡ Blossom → circle_of A' (v * 64 + r) ≡ circle_of A (v * 64 + r))
    (growing : x.state ≡ grows) (new : slot_seen (A' k) (sum_up 8 U u) (circle_of A' k) ≡ Some x) where
  kept : {X : Type 0} (φ : Interface → X) → ((y : Interface) (m z : ℕ) → φ (with_used y m z) ≡ φ y) → (v : ℕ) → v < 8 → φ (U' v) ≡ φ (U v)
  kept = unit_held n U U' A A' u s ((U u).speed + 1) x lu here there

  sums : (v : ℕ) → v < 8 → sum_up 8 U' v ≡ sum_up 8 U v
  sums v lv = sum_up_same U U' good (kept (λ y. y.parent) (λ y m z. refl)) (kept (λ y. lag_of y) (λ y m z. refl)) 8 v lv

  pub push_in : view_in (suc n) U' A' ≡ push (view_in n U A) u s x
  push_in =
      push_view n U U' A A' u s ((U u).speed + 1) x lu here there low
      (off_add 1024 (U u).speed 1 ∙ ap (λ (g : State). off 1024 (U u).speed +ℤ rate g) (sym growing))
      (ap₂ (λ (j w : ℕ). slot_seen (A' j) w (circle_of A' j)) (sym at) (sums u lu) ∙ new)
      (λ v r lv lr off.
      ap₂ (λ (m : Node) (w : ℕ). slot_seen m w (circle_of A' (v * 64 + r))) (others (v * 64 + r) (λ e. off (omega (arith, e, at, room, few v lv, lr)) (omega (arith, e, at, room, few v lv, lr)))) (sums v lv)
      ∙ slot_like (A (v * 64 + r)) (sum_up 8 U v) (circle_of A' (v * 64 + r)) (circle_of A (v * 64 + r)) (circles v r lv lr))
