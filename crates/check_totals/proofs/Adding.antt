-- A slot's value is its node's, or nothing; what is added so far and what is left is the whole total. Assumes nothing.
use Rattle.std.specs.Prelude.{None, Option, Some}
use Prim.Native.Nat.{ℕ, ◌+◌, ◌-◌, ◌*◌, ◌/◌, ◌%◌, ◌<◌, ◌≤◌}
use mathlib.Core.Path.{◌≡◌, ap, ap₂, sym, ◌∙◌, subst}
use mathlib.Core.Bool.{Bool, true, false}
use mathlib.Core.List.{List, ◌∷◌}
use native.Mathlib.Numerals.{add-one}
use native.Mathlib.Omega.{arith}
use lib.ListN.{drop, get_or, drop_of_length-le}
use lib.Seq.{drop-cons}
use lib.IntN.{ℤ, ◌+ℤ◌, nat_abs, +ℤ_assoc, +ℤ_idl, +ℤ_idr}
use Rattle.bench_words.specs.Store.{node_at, interface_at}
use Rattle.bench_words.specs.declared.Node.{Node}
use Rattle.ledger_spec.specs.Bench as plain
use Rattle.ledger_spec.specs.Look.{slot_of}
use Rattle.ledger_spec.specs.Change.{worth}
use Rattle.ledger_spec.specs.Reads.{slots_of}
use Rattle.ledger_spec.specs.Check.{total_of}
use Rattle.ledger_laws.specs.Clean.{Entry}
use Rattle.ledger_laws.proofs.Steps.{total_none, total_more}
use Rattle.bench_views.specs.View.{off, value_by, sum_up, circle_of, slot_seen, node_seen, view}
use Rattle.bench_views.specs.Records.{Ranged}
use Rattle.bench_views.specs.Fit.{Fit}
use Rattle.bench_views.proofs.Views.{view_slot}
use Rattle.bench_views.proofs.Ranges.{off_range, ranged}
use Rattle.bench_views.proofs.Rings.{slot_held}
use Rattle.bench_views.proofs.Sums.{sum_up_le}
use Rattle.bench_views.proofs.Offsets.{off_both, off_zero}
use Rattle.bench_views.proofs.Slots.{slot_absent}
use Rattle.bench_links.specs.Find.{absent_of}
use Rattle.bench_links.proofs.Finding.{absent_yes, absent_no}
use Rattle.bench_orders.specs.Order.{AtIndex}
use Rattle.check_places.specs.Places.{Places}
use Rattle.check_totals.specs.Total.{Added}

module _ (b : List ℕ) (F : Fit b) (k : ℕ) (lu : k / 64 < 8) (ls : k % 64 < (interface_at b (k / 64)).used) (n : Node) (e : n ≡ node_at b k) {c : Bool} (a : c ≡ absent_of n.class) where
  split : k / 64 * 64 + k % 64 ≡ k
  split = omega arith

  slot_is : slot_of (view b) (k / 64) (k % 64) ≡ slot_seen n (sum_up 8 (interface_at b) (k / 64)) (circle_of (node_at b) k)
  slot_is = view_slot (get_or b 0 0) (interface_at b) (node_at b) (k / 64) (k % 64) lu ls
      ∙ ap (λ (x : ℕ). slot_seen (node_at b x) (sum_up 8 (interface_at b) (k / 64)) (circle_of (node_at b) x)) split
      ∙ ap (λ (x : Node). slot_seen x (sum_up 8 (interface_at b) (k / 64)) (circle_of (node_at b) k)) (sym e)

  pub added_none : c ≡ true → (sum : ℕ) → Added b k sum sum
  added_none q sum = record {
    value = sym (ap (λ (o : Option plain.Node). off 4611686018427387904 sum +ℤ worth o) (slot_is ∙ slot_absent n (sum_up 8 (interface_at b) (k / 64)) (circle_of (node_at b) k) (absent_yes n.class (sym a ∙ q))) ∙ +ℤ_idr (off 4611686018427387904 sum));
    most = omega arith;
    least = omega arith;
  }

  module _ (q : c ≡ false) (t : ℕ) (p : t ≡ sum_up 8 (interface_at b) (k / 64)) where
    held : slot_of (view b) (k / 64) (k % 64) ≡ Some (node_seen n (sum_up 8 (interface_at b) (k / 64)) (slot_held n (sum_up 8 (interface_at b) (k / 64)) (circle_of (node_at b) k) (absent_no (sym a ∙ q))).0)
    held = slot_is ∙ (slot_held n (sum_up 8 (interface_at b) (k / 64)) (circle_of (node_at b) k) (absent_no (sym a ∙ q))).1

    bias_near : Ranged n
    bias_near = rw (e, ← split) (ranged b F.canon.steady F.within (k / 64) (k % 64) lu ls (λ z. absent_no (sym a ∙ q) (ap (λ (x : Node). x.class) e ∙ sym (ap (λ (x : ℕ). (node_at b x).class) split) ∙ z)))

    small : t ≤ 8796093022208
    small = omega (arith, p, sum_up_le b F.canon.steady 8 (k / 64) lu)

    pub bias_room : (t ≤ n.bias) × (n.bias + t < 18446744073709551616)
    bias_room = let r = bias_near in let s = small in (omega arith, omega arith)

    worth_is : worth (slot_of (view b) (k / 64) (k % 64)) ≡ off 1152921504606846976 (value_by n.state n.bias t)
    worth_is = ap worth held ∙ ap (λ (x : ℕ). off 1152921504606846976 (value_by n.state n.bias x)) (sym p)

    pub value_near : (1152921504606846976 ≤ value_by n.state n.bias t + 8796093022208) × (value_by n.state n.bias t ≤ 1152921504606846976 + 8796093022208)
    value_near = off_range 1152921504606846975 (value_by n.state n.bias t) 8796093022208 (subst (λ (z : ℤ). nat_abs z ≤ 8796093022208) (sym (ap worth held) ∙ worth_is) (F.within (k / 64) (k % 64) _ held))

    pub added_value : (sum : ℕ) → 2305843009213693952 ≤ sum → Added b k sum (sum + value_by n.state n.bias t - 1152921504606846976)
    unfolding off
    added_value sum l = record {
      value = off_both 4611686018427387904 sum (value_by n.state n.bias t) 1152921504606846976 (omega arith) ∙ ap (λ (z : ℤ). off 4611686018427387904 sum +ℤ z) (sym worth_is);
      most = let v = value_near in omega arith;
      least = let v = value_near in omega arith;
    }

-- ---- along the slots
pub record Adding (b : List ℕ) (unit i last t sum : ℕ) : Type 0 where
  pub whole : off 4611686018427387904 sum +ℤ total_of (drop i (slots_of (view b) unit)) ≡ total_of (slots_of (view b) unit)
  pub progress : t ≡ sum_up 8 (interface_at b) last
  pub most : sum ≤ 4611686018427387904 + i * 8796093022208
  pub least : 4611686018427387904 ≤ sum + i * 8796093022208

module _ (b : List ℕ) (unit : ℕ) where
  pub adding_starts : (last t : ℕ) → t ≡ sum_up 8 (interface_at b) last → Adding b unit 0 last t 4611686018427387904
  adding_starts last t p = record {
    whole = ap (λ (z : ℤ). z +ℤ total_of (slots_of (view b) unit)) (off_zero 4611686018427387904) ∙ +ℤ_idl (total_of (slots_of (view b) unit));
    progress = p;
    most = omega arith;
    least = omega arith;
  }

  module _ (ps : List ℕ) (count : ℕ) (P : Places b unit ps count) (i last t sum : ℕ) (A : Adding b unit i last t sum) where
    pub adding_ends : i ≡ count → off 4611686018427387904 sum ≡ total_of (slots_of (view b) unit)
    adding_ends e = sym (+ℤ_idr (off 4611686018427387904 sum))
        ∙ sym (ap (λ (ts : List Entry). off 4611686018427387904 sum +ℤ total_of ts) (drop_of_length-le (slots_of (view b) unit) {i = i} (omega (arith, P.count))) ∙ ap (λ (z : ℤ). off 4611686018427387904 sum +ℤ z) total_none)
        ∙ A.whole

    module _ (l : i < count) where
      place_at : AtIndex b unit i (get_or ps i 0)
      place_at = P.at i l

      pub adding_on : (t' sum' : ℕ) → t' ≡ sum_up 8 (interface_at b) (get_or ps i 0 / 64) → Added b (get_or ps i 0) sum sum' → Adding b unit (i + 1) (get_or ps i 0 / 64) t' sum'
      adding_on t' sum' p D =
          let k = get_or ps i 0 in
          let W = slots_of (view b) unit in
          let I = place_at in
          let more : drop i W ≡ (k / 64, k % 64, slot_of (view b) (k / 64) (k % 64)) ∷ drop (i + 1) W =
          drop-cons W i (0, 0, None) (omega (arith, P.count)) ∙ ap₂ (λ (x : Entry) (j : ℕ). x ∷ drop j W) I.at (sym (add-one i)) in
          record {
            whole = ap (λ (z : ℤ). z +ℤ total_of (drop (i + 1) W)) D.value ∙ +ℤ_assoc (off 4611686018427387904 sum) (worth (slot_of (view b) (k / 64) (k % 64))) (total_of (drop (i + 1) W))
                ∙ sym (ap (λ (z : ℤ). off 4611686018427387904 sum +ℤ z) (ap total_of more ∙ total_more (k / 64, k % 64, slot_of (view b) (k / 64) (k % 64)) (drop (i + 1) W))) ∙ A.whole;
            progress = p;
            most = omega (arith, A.most, D.most);
            least = omega (arith, A.least, D.least);
          }
