-- THEOREM. In the plain engine the stored word of each node is its value, with its fixed offset, and an accepted growth adds L, 0 or -L to it. Assumes nothing.
use Rattle.std.specs.Prelude.{None, Option, Some}
use Prim.Native.Nat.{ℕ, zero, suc, ◌+◌, ◌-◌, ◌*◌, ◌<◌}
use mathlib.Core.Path.{◌≡◌, refl, sym, ap, ◌∙◌}
use mathlib.Core.Bool.{Bool, true}
use mathlib.Core.List.{List}
use native.Mathlib.Decide.{dec_lt}
use native.Mathlib.Omega.{arith}
use lib.IntN.{ℤ, ◌+ℤ◌, ◌*ℤ◌}
use lib.ListN.{get_or}
use Rattle.kinds.specs.declared.GrowState.{GrowState}
use Rattle.kinds.specs.declared.GrowState.TheVariants.{Grow as Growing, Stay, Shrink}
use Rattle.kinds.specs.declared.Class.{Class}
use Rattle.kinds.specs.declared.Class.TheVariants.{Absent, Blossom, Defect}
use Rattle.bench_words.specs.Codec.{value_offset, pick}
use Rattle.bench_words.specs.Store.{node_at, interface_at}
use Rattle.bench_words.specs.declared.Node.{Node as Held}
use Rattle.bench_words.proofs.Laws.{GoodUp, good_interface}
use Rattle.ledger_spec.specs.Bench.{Bench, Node, Member, rate}
use Rattle.ledger_spec.specs.Look.{slot_of}
use Rattle.ledger_spec.specs.Calls.{Grow}
use Rattle.ledger_spec.specs.Answers.{answer}
use Rattle.ledger_spec.specs.Deeds.{grow_by}
use Rattle.ledger_spec.proofs.TreeReadings.{grown_node, grow_node, grow_off, grow_plain}
use Rattle.ledger_laws.proofs.Demand.{grew}
use Rattle.bench_views.specs.View.{off, value_by, over, sum_up, lag_of, slot_seen, circle_of, view}
use Rattle.bench_views.specs.Fit.{SoundWords}
use Rattle.bench_views.proofs.Views.{view_slot, view_past, view_out, view_plain}
use Rattle.sound_bench.specs.Sound.{sound_words}
use Rattle.call_told.specs.declared.Answer.{Answer}
use Rattle.call_told.specs.Told.{Called}
use Rattle.run_laws.proofs.Running.{number_is, shows, stays_sound}
use Rattle.engine_runs.specs.Stored.{HeldAsNumbers, GrewAsNumbers}

-- ---- T is 0
over_none : (p : Option ℕ) (f : ℕ → ℕ) → GoodUp p → ((q : ℕ) → q < 8 → f q ≡ 0) → over p 0 f ≡ 0
over_none None f g h = refl
over_none (Some q) f g h = h q g

module _ (b : List ℕ) (S : SoundWords b) (plain : (view b).plain ≡ true) where
  engine : (v : ℕ) → v < 8 → (interface_at b v).marks.plain ≡ true
  engine v lv = S.canon.modes v lv ∙ sym (view_plain (get_or b 0 0) (interface_at b) (node_at b)) ∙ plain

  no_lag : (n v : ℕ) → v < 8 → sum_up n (interface_at b) v ≡ 0
  unfolding sum_up
  no_lag zero v lv = refl
  no_lag (suc n) v lv =
      let a : lag_of (interface_at b v) ≡ 0 = ap (λ (x : Bool). pick x 0 (interface_at b v).progress) (engine v lv) in
      let c = over_none (interface_at b v).parent (sum_up n (interface_at b)) (good_interface b v) (λ q lq. no_lag n q lq) in
      omega (arith, a, c)

  value_at_none : (g : GrowState) (x : ℕ) → value_by g x 0 ≡ x
  value_at_none Growing x = omega arith
  value_at_none Stay x = refl
  value_at_none Shrink x = omega arith

  some_inj : {x y : Node} → Some x ≡ Some y → x ≡ y
  some_inj {x} e = ap (λ (o : Option Node). elim o [ None ↦ x | Some z ↦ z ]) e

  seen_value : (k : Held) (t : ℕ) (ms : List Member) (n : Node) → slot_seen k t ms ≡ Some n → n.value ≡ off value_offset (value_by k.state k.bias t)
  unfolding slot_seen
  seen_value k t ms n = go k.class
    where
      go : (c : Class) → slot_seen (record { serial = k.serial; class = c; state = k.state; parent = k.parent; place = k.place; next = k.next; left = k.left; right = k.right; bias = k.bias; size = k.size; first = k.first; count = k.count }) t ms ≡ Some n → n.value ≡ off value_offset (value_by k.state k.bias t)
      go Absent e = absurd (let z : ◌≡◌ {A = ℕ} 0 1 = ap (λ (o : Option Node). elim o [ None ↦ 0 | Some x ↦ 1 ]) e in omega arith)
      go Blossom e = ap (λ (x : Node). x.value) (sym (some_inj e))
      go (Defect v) e = ap (λ (x : Node). x.value) (sym (some_inj e))

  within : (u s : ℕ) (n : Node) → slot_of (view b) u s ≡ Some n → (u < 8) × (s < (interface_at b u).used)
  within u s n e = go (dec_lt u 8)
    where
      nothing : slot_of (view b) u s ≡ None → ⊥
      nothing q = let z : ◌≡◌ {A = ℕ} 0 1 = ap (λ (o : Option Node). elim o [ None ↦ 0 | Some x ↦ 1 ]) (sym q ∙ e) in omega arith

      used : u < 8 → Dec (s < (interface_at b u).used) → (u < 8) × (s < (interface_at b u).used)
      used lu (yes l) = (lu, l)
      used lu (no q) = absurd (nothing (view_past (get_or b 0 0) (interface_at b) (node_at b) u s lu (omega (arith, q))))

      go : Dec (u < 8) → (u < 8) × (s < (interface_at b u).used)
      go (yes lu) = used lu (dec_lt s (interface_at b u).used)
      go (no q) = absurd (nothing (view_out (get_or b 0 0) (interface_at b) (node_at b) u s (omega (arith, q))))

  pub stored_value : HeldAsNumbers b
  stored_value u s n e =
      let w = within u s n e in
      let k = node_at b (u * 64 + s) in
      let v = seen_value k (sum_up 8 (interface_at b) u) (circle_of (node_at b) (u * 64 + s)) n (sym (view_slot (get_or b 0 0) (interface_at b) (node_at b) u s w.0 w.1) ∙ e) in
      sym (v ∙ ap (λ (t : ℕ). off value_offset (value_by k.state k.bias t)) (no_lag 8 u w.0) ∙ ap (off value_offset) (value_at_none k.state k.bias))

-- ---- an accepted growth
module _ (b b' : List ℕ) (S : SoundWords b) (S' : SoundWords b') (plain : (view b).plain ≡ true) (t : ℕ) (l : ℤ)
    (z : (answer (view b) (Grow t l)).number ≡ 0) (seen : view b' ≡ (answer (view b) (Grow t l)).bench) where
  grown : view b' ≡ grow_by (view b) t l
  grown = seen ∙ (grew (view b) t l z).2

  plain' : (view b').plain ≡ true
  plain' = ap (λ (c : Bench). c.plain) grown ∙ grow_plain (view b) t l ∙ plain

  pub grown_as_numbers : GrewAsNumbers b t l b'
  grown_as_numbers = record {
    under = λ u s n e q.
        stored_value b' S' plain' u s (grown_node l n) (ap (λ (c : Bench). slot_of c u s) grown ∙ grow_node (view b) t l u s n q e)
        ∙ ap (λ (x : ℤ). x +ℤ l *ℤ rate n.state) (sym (stored_value b S plain u s n e));
    apart = λ u s n e q.
        stored_value b' S' plain' u s n (ap (λ (c : Bench). slot_of c u s) grown ∙ grow_off (view b) t l u s q ∙ e)
        ∙ sym (stored_value b S plain u s n e);
  }

-- ---- of the public call
pub plain_growth : {b b' : List ℕ} {t : ℕ} {l : ℤ} {r : Answer} → SoundWords b → (view b).plain ≡ true → Called (sound_words b) b (Grow t l) r b' → r.number ≡ 0 → GrewAsNumbers b t l b'
plain_growth {b} {b'} {t} {l} W plain x ok = grown_as_numbers b b' W (stays_sound W x) plain t l (number_is W x ∙ ok) (shows W x)
