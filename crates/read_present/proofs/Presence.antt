-- The slots that a map marks are those that the ledger sees: of one interface, how many and which is the first from one on. Assumes nothing.
use Rattle.std.specs.Prelude.{None, Some, Option}
use Prim.Native.Nat.{ℕ, zero, suc, ◌+◌, ◌-◌, ◌*◌, ◌<◌, ◌≤◌}
use mathlib.Core.Path.{◌≡◌, ap, sym, ◌∙◌, subst}
use mathlib.Core.Logic.{by_cases}
use mathlib.Core.Bool.{Bool, true, false, true≢false}
use mathlib.Core.List.{List, ◌++◌}
use native.Mathlib.Nat.{zero-add}
use native.Mathlib.Decide.{ℕ_discrete, dec_lt}
use native.Mathlib.Omega.{arith}
use lib.ListN.{length, get_or}
use Rattle.slot_map.specs.Slots.{digit, bit_at, count_to, first_from}
use Rattle.slot_map.proofs.Counts.{count_same, count_map}
use Rattle.slot_map.proofs.Firsts.{First, first_found, first_lacks, next_map}
use Rattle.kinds.specs.declared.Class.TheVariants.{Absent}
use Rattle.bench_words.specs.Store.{node_at, interface_at, map_at}
use Rattle.bench_words.specs.declared.Node.{Node}
use Rattle.ledger_spec.specs.Bench as plain
use Rattle.ledger_spec.specs.Look.{interface}
use Rattle.ledger_spec.specs.Tests.{is_some}
use Rattle.ledger_spec.specs.Reads.{slots_from}
use Rattle.bench_views.specs.View.{view, slot_seen, sum_up, circle_of}
use Rattle.bench_views.specs.Canon.{held_in}
use Rattle.bench_views.specs.Fit.{Fit}
use Rattle.bench_views.proofs.Views.{view_slot, view_count}
use Rattle.bench_views.proofs.Rings.{slot_held}
use Rattle.bench_views.proofs.Slots.{slot_absent}
use Rattle.bench_views.proofs.Maps.{held_absent}
use Rattle.bench_slots.proofs.Free.{held_seen, not_held}
use Rattle.read_present.specs.Present.{present_in, next_from}
use Rattle.read_present.specs.Shown.{hand_in}
use Rattle.read_present.proofs.Nexts.{present_slots, next_none, next_found}

-- ---- p holds nowhere past n
pub count_past : (p : ℕ → Bool) (n m : ℕ) → n ≤ m → ((s : ℕ) → n ≤ s → s < m → p s ≡ false) → count_to p m ≡ count_to p n
unfolding count_to
count_past p n zero l e = let z : n ≡ 0 = omega arith in ap (count_to p) (sym z)
count_past p n (suc m) l e = by_cases (ℕ_discrete n (suc m))
    (λ (q : n ≡ suc m). ap (count_to p) (sym q))
    (λ (q : n ≡ suc m → ⊥). ap (λ (t : Bool). digit t + count_to p m) (e m (omega arith) (omega arith)) ∙ zero-add (count_to p m) ∙ count_past p n m (omega arith) (λ s a c. e s a (omega arith)))

digit_small : (t : Bool) → digit t ≤ 1
digit_small true = omega arith
digit_small false = omega arith

pub count_small : (p : ℕ → Bool) (n : ℕ) → count_to p n ≤ n
unfolding count_to
count_small p zero = omega arith
count_small p (suc n) = omega (arith, count_small p n, digit_small (p n))

module _ (b : List ℕ) (F : Fit b) (u : ℕ) (lu : u < 8) where
  abbrev A : ℕ → Node
  A = node_at b

  abbrev p : ℕ → Bool
  p = held_in A u

  abbrev slots : List (Option plain.Node)
  slots = (interface (view b) u).slots

  used : length slots ≡ (interface_at b u).used
  used = view_count (get_or b 0 0) (interface_at b) A u lu

  few : length slots ≤ 64
  few = subst (λ (n : ℕ). n ≤ 64) (sym used) (F.canon.steady.slots u lu)

  seen : (s : ℕ) → s < length slots → get_or slots s None ≡ slot_seen (A (u * 64 + s)) (sum_up 8 (interface_at b) u) (circle_of A (u * 64 + s))
  seen s l = view_slot (get_or b 0 0) (interface_at b) A u s lu (omega (arith, used))

  pub past : (s : ℕ) → length slots ≤ s → s < 64 → p s ≡ false
  past s l m = held_absent (ap (λ (n : Node). n.class) (F.canon.past u s lu m (omega (arith, used))))

  -- ---- how many
  pub count_is : (w : ℕ) → w ≡ map_at b u → count_to (bit_at w) 64 ≡ count_to p 64
  count_is w e = ap (λ (x : ℕ). count_to (bit_at x) 64) (e ∙ F.canon.map u lu) ∙ count_map p 64 64 (omega arith)

  pub slots_present : (ts : List (ℕ × ℕ × Option plain.Node)) → present_in (slots_from u 0 slots ++ ts) ≡ count_to p 64 + present_in ts
  slots_present ts =
      present_slots u 0 slots ts
      ∙ ap (λ (n : ℕ). n + present_in ts)
      (count_same (λ s. is_some (get_or slots s None)) p (length slots) (λ s l. ap is_some (seen s l) ∙ held_seen (A (u * 64 + s)) (sum_up 8 (interface_at b) u) (circle_of A (u * 64 + s)))
      ∙ sym (count_past p (length slots) 64 few past))

  -- ---- which is first
  pub first_is : (w s : ℕ) → w ≡ map_at b u → first_from (bit_at w) s (64 - s) ≡ first_from p s (64 - s)
  first_is w s e = ap (λ (x : ℕ). first_from (bit_at x) s (64 - s)) (e ∙ F.canon.map u lu) ∙ next_map p 64 s (omega arith)

  gone : (s : ℕ) → s < length slots → p s ≡ false → get_or slots s None ≡ None
  gone s l e = seen s l ∙ slot_absent (A (u * 64 + s)) (sum_up 8 (interface_at b) u) (circle_of A (u * 64 + s)) (not_held (A (u * 64 + s)).class e)

  module _ (i k : ℕ) (ts : List (ℕ × ℕ × Option plain.Node)) where
    pub none_here : first_from p (k - i) (64 - (k - i)) ≡ None → next_from i k (slots_from u 0 slots ++ ts) ≡ next_from (i + length slots) k ts
    none_here e = next_none i k u 0 slots ts (λ s l m. gone s l (first_lacks p (64 - (k - i)) (k - i) e s (omega arith) (omega (arith, few))))

    pub record Met (t : ℕ) : Type 0 where
      pub low : t < 64
      pub inside : t < length slots
      pub later : k ≤ i + t
      pub next : next_from i k (slots_from u 0 slots ++ ts) ≡ (i + t, Some (hand_in A u t))

    pub met : (t : ℕ) → first_from p (k - i) (64 - (k - i)) ≡ Some t → Met t
    met t e = record { low = low; inside = inside; later = omega (arith, G.from); next = found }
      where
        G : First p (k - i) ((k - i) + (64 - (k - i))) t
        G = first_found p (64 - (k - i)) (k - i) t e

        low : t < 64
        low = omega (arith, G.from, G.below)

        inside : t < length slots
        inside = by_cases (dec_lt t (length slots)) (λ (l : t < length slots). l) (λ (q : t < length slots → ⊥). absurd (true≢false (sym G.there ∙ past t (omega (arith, q)) low)))

        present : (A (u * 64 + t)).class ≡ Absent → ⊥
        present a = true≢false (sym G.there ∙ held_absent a)

        found : next_from i k (slots_from u 0 slots ++ ts) ≡ (i + t, Some (hand_in A u t))
        found =
            let h = slot_held (A (u * 64 + t)) (sum_up 8 (interface_at b) u) (circle_of A (u * 64 + t)) present in
            next_found i k u 0 slots ts t _ inside (omega (arith, G.from)) (seen t inside ∙ h.1) (λ s l m. gone s (omega (arith, inside)) (G.none s (omega arith) l))
            ∙ ap (λ (x : ℕ). (i + t, Some (record { unit = u; slot = x; serial = (A (u * 64 + t)).serial.0 }))) (omega arith)
