-- What stands in a used slot, as a handle: nothing where the slot was emptied. Assumes nothing.
use Rattle.std.specs.Prelude.{None, Option, Some}
use Prim.Native.Nat.{ℕ, ◌+◌, ◌*◌, ◌/◌, ◌%◌, ◌<◌}
use mathlib.Core.Path.{◌≡◌, ap, sym, ◌∙◌}
use mathlib.Core.Bool.{Bool, true, false}
use mathlib.Core.List.{List}
use native.Mathlib.Omega.{arith}
use lib.ListN.{get_or}
use Rattle.bench_words.specs.Store.{node_at, interface_at}
use Rattle.bench_words.specs.declared.Node.{Node}
use Rattle.ledger_spec.specs.Bench as plain
use Rattle.ledger_spec.specs.Look.{slot_of}
use Rattle.ledger_spec.specs.Reads.{as_handle}
use Rattle.bench_views.specs.View.{view, slot_seen, sum_up, circle_of}
use Rattle.bench_views.proofs.Views.{view_slot}
use Rattle.bench_views.proofs.Rings.{slot_held}
use Rattle.bench_links.specs.Find.{absent_of}
use Rattle.bench_links.proofs.Finding.{absent_yes, absent_no}
use Rattle.bench_views.proofs.Slots.{slot_absent}

module _ (b : List ℕ) (k : ℕ) (l : k / 64 < 8) (m : k % 64 < (interface_at b (k / 64)).used) (n : Node) (e : n ≡ node_at b k) {t : Bool} (a : t ≡ absent_of n.class) where
  slot_is : slot_of (view b) (k / 64) (k % 64) ≡ slot_seen n (sum_up 8 (interface_at b) (k / 64)) (circle_of (node_at b) k)
  slot_is =
      let q : k / 64 * 64 + k % 64 ≡ k = omega arith in
      view_slot (get_or b 0 0) (interface_at b) (node_at b) (k / 64) (k % 64) l m
      ∙ ap (λ (x : ℕ). slot_seen (node_at b x) (sum_up 8 (interface_at b) (k / 64)) (circle_of (node_at b) x)) q
      ∙ ap (λ (x : Node). slot_seen x (sum_up 8 (interface_at b) (k / 64)) (circle_of (node_at b) k)) (sym e)

  pub nothing_there : t ≡ true → None ≡ as_handle (k / 64, k % 64, slot_of (view b) (k / 64) (k % 64))
  nothing_there q = sym (ap (λ (o : Option plain.Node). as_handle (k / 64, k % 64, o))
      (slot_is ∙ slot_absent n (sum_up 8 (interface_at b) (k / 64)) (circle_of (node_at b) k) (absent_yes n.class (sym a ∙ q))))

  pub node_there : t ≡ false → Some (record { unit = k / 64; slot = k % 64; serial = n.serial.0 }) ≡ as_handle (k / 64, k % 64, slot_of (view b) (k / 64) (k % 64))
  node_there q =
      sym (ap (λ (o : Option plain.Node). as_handle (k / 64, k % 64, o)) (slot_is ∙ (slot_held n (sum_up 8 (interface_at b) (k / 64)) (circle_of (node_at b) k) (absent_no (sym a ∙ q))).1))
