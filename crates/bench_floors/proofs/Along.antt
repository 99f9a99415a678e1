-- Along the slots of an interface, and along the interfaces of a tree: what is lowest so far and what is left make up the whole. Assumes nothing.
use Rattle.std.specs.Prelude.{None, Option}
use Prim.Native.Nat.{ℕ, ◌+◌, ◌*◌, ◌/◌, ◌%◌, ◌<◌, ◌≤◌}
use mathlib.Core.Path.{◌≡◌, refl, sym, ◌∙◌, ap, ap₂}
use mathlib.Core.Bool.{Bool, true, false, ◌&&◌, ◌||◌}
use mathlib.Core.List.{List, ◌∷◌}
use native.Mathlib.Numerals.{add-one}
use native.Mathlib.Omega.{arith}
use borrow.Author.Tests.{le-ltb}
use lib.ListN.{length, drop, get_or, drop_of_length-le}
use lib.Seq.{drop-cons}
use lib.IntN.{pos}
use Rattle.bench_words.specs.Store.{node_at, interface_at}
use Rattle.bench_words.specs.declared.Interface.{Interface}
use Rattle.ledger_spec.specs.Bench as plain
use Rattle.ledger_spec.specs.Look.{interface, slot_of}
use Rattle.ledger_spec.specs.Tests.{any, sinks, floored}
use Rattle.ledger_spec.specs.Reads.{slots_from, gather}
use Rattle.bench_views.specs.View.{sum_up, view}
use Rattle.bench_views.specs.Fit.{Fit}
use Rattle.bench_views.proofs.Views.{interface_in_lem, view_count}
use Rattle.bench_orders.specs.declared.Order.{Order}
use Rattle.bench_orders.specs.Order.{Lists}
use Rattle.bench_orders.proofs.Counting.{slots_left, left_none, left_more}
use Rattle.bench_floors.specs.Least.{sunk, Lower, LowerIn, Lowest}
use Rattle.bench_floors.proofs.Trees.{sinking, any_append, sinking_slots, below_slots}

or_assoc : (a c d : Bool) → ((a || c) || d) ≡ (a || (c || d))
or_assoc true c d = refl
or_assoc false c d = refl

or_none : (a : Bool) → (a || false) ≡ a
or_none true = refl
or_none false = refl

-- ---- the slots of an interface
pub record Lowering (b : List ℕ) (u m s low : ℕ) : Type 0 where
  pub is : (l : ℕ) → (sunk low l || any (sinks (pos l)) (drop s (interface (view b) u).slots)) ≡ (sunk m l || any (sinks (pos l)) (interface (view b) u).slots)

module _ (b : List ℕ) (u m : ℕ) where
  pub lowering_starts : Lowering b u m 0 m
  lowering_starts = record { is = λ l. refl }

  module _ (lu : u < 8) (f : Interface) (e : f ≡ interface_at b u) (s low : ℕ) (L : Lowering b u m s low) where
    count : length (interface (view b) u).slots ≡ f.used
    count = view_count (get_or b 0 0) (interface_at b) (node_at b) u lu ∙ ap (λ (x : Interface). x.used) (sym e)

    pub lowering_ends : f.used ≤ s → LowerIn b u m low
    unfolding any
    lowering_ends h = record { is = λ l. sym (or_none (sunk low l)) ∙ ap (λ (xs : List (Option plain.Node)). sunk low l || any (sinks (pos l)) xs) (sym (drop_of_length-le (interface (view b) u).slots {i = s} (omega (arith, count, h)))) ∙ L.is l }

    pub lowering_on : s < f.used → (k : ℕ) → k ≡ u * 64 + s → s < 64 → (low' : ℕ) → Lower b k low low' → Lowering b u m (s + 1) low'
    unfolding any
    lowering_on h k g ls low' D = record {
      is = λ l.
          ap (λ (x : Bool). x || any (sinks (pos l)) (drop (s + 1) slots)) (D.is l ∙ ap (λ (o : Option plain.Node). sunk low l || sinks (pos l) o) here)
          ∙ or_assoc (sunk low l) (sinks (pos l) (get_or slots s None)) (any (sinks (pos l)) (drop (s + 1) slots))
          ∙ ap (λ (xs : List (Option plain.Node)). sunk low l || any (sinks (pos l)) xs) (sym more) ∙ L.is l;
    }
      where
        slots : List (Option plain.Node)
        slots = (interface (view b) u).slots

        unit : k / 64 ≡ u
        unit = omega arith

        slot : k % 64 ≡ s
        slot = omega arith

        here : slot_of (view b) (k / 64) (k % 64) ≡ get_or slots s None
        here = ap₂ (slot_of (view b)) unit slot

        more : drop s slots ≡ get_or slots s None ∷ drop (s + 1) slots
        more = drop-cons slots s None (omega (arith, count, h)) ∙ ap (λ (j : ℕ). get_or slots s None ∷ drop j slots) (sym (add-one s))

-- where a slot stands
module _ (b : List ℕ) (F : Fit b) (u : ℕ) (lu : u < 8) (f : Interface) (e : f ≡ interface_at b u) (s : ℕ) (h : s < f.used) where
  pub slot_low : s < 64
  slot_low = omega (arith, ap (λ (x : Interface). x.used) e, F.canon.steady.slots u lu, h)

  pub slot_there : (t : ℕ) → t ≡ sum_up 8 (interface_at b) u → ((u * 64 + s) / 64 < 8) × (((u * 64 + s) % 64 < (interface_at b ((u * 64 + s) / 64)).used) × (t ≡ sum_up 8 (interface_at b) ((u * 64 + s) / 64)))
  slot_there t p =
      let l = slot_low in
      let unit : u ≡ (u * 64 + s) / 64 = omega arith in
      let slot : s ≡ (u * 64 + s) % 64 = omega arith in
      (omega arith, (omega (arith, slot, h, ap (λ (x : Interface). x.used) e, ap (λ (v : ℕ). (interface_at b v).used) unit), p ∙ ap (sum_up 8 (interface_at b)) unit))

-- ---- the interfaces of a tree
pub record Leasting (b : List ℕ) (unit i low : ℕ) : Type 0 where
  pub is : (l : ℕ) → l < 9223372036854775808 → (sunk low l || sinking (pos l) (slots_left b unit i)) ≡ sinking (pos l) (slots_left b unit 0)

-- no length reaches it
far : (l : ℕ) → l < 9223372036854775808 → sunk 18446744073709551615 l ≡ false
far l h = le-ltb 18446744073709551615 (1152921504606846976 + l) (omega arith)

module _ (b : List ℕ) (F : Fit b) (unit : ℕ) (lu : unit < 8) (free : (interface (view b) unit).parent ≡ None) (f : Interface) (e : f ≡ interface_at b unit) where
  mark : floored (view b) unit ≡ f.marks.floored
  mark = ap (λ (x : plain.Interface). x.marks.floored) (interface_in_lem (get_or b 0 0) (interface_at b) (node_at b) unit lu) ∙ ap (λ (x : Interface). x.marks.floored) (sym e)

  pub unfloored : f.marks.floored ≡ false → Lowest b unit 18446744073709551615
  unfloored z = record { is = λ l h. below_slots (view b) (pos l) F.frame unit lu free ∙ ap (λ (c : Bool). c && sinking (pos l) (slots_left b unit 0)) (mark ∙ z) ∙ sym (far l h) }

  pub leasting_starts : Leasting b unit 0 18446744073709551615
  leasting_starts = record { is = λ l h. ap (λ (c : Bool). c || sinking (pos l) (slots_left b unit 0)) (far l h) }

  module _ (z : f.marks.floored ≡ true) (o : Order) (L : Lists b unit o) (i low : ℕ) (M : Leasting b unit i low) where
    pub leasting_ends : o.count ≤ i → Lowest b unit low
    unfolding any
    leasting_ends h = record {
      is = λ l k.
          below_slots (view b) (pos l) F.frame unit lu free ∙ ap (λ (c : Bool). c && sinking (pos l) (slots_left b unit 0)) (mark ∙ z)
          ∙ sym (M.is l k) ∙ ap (λ (ts : List (ℕ × ℕ × Option plain.Node)). sunk low l || sinking (pos l) ts) (left_none b F unit lu o L i h) ∙ or_none (sunk low l);
    }

    pub leasting_on : i < o.count → (u : ℕ) → u ≡ get_or o.units i 0 → (low' : ℕ) → LowerIn b u low low' → Leasting b unit (i + 1) low'
    unfolding gather
    leasting_on h u g low' D = record {
      is = λ l k.
          ap (λ (x : Bool). x || sinking (pos l) (slots_left b unit (i + 1))) (D.is l)
          ∙ or_assoc (sunk low l) (any (sinks (pos l)) (interface (view b) u).slots) (sinking (pos l) (slots_left b unit (i + 1)))
          ∙ ap (λ (x : Bool). sunk low l || x)
          (sym (ap (sinking (pos l)) (left_more b F unit lu o L i u h g)
          ∙ any_append (λ (t : ℕ × ℕ × Option plain.Node). sinks (pos l) t.2) (slots_from u 0 (interface (view b) u).slots) (slots_left b unit (i + 1))
          ∙ ap (λ (x : Bool). x || sinking (pos l) (slots_left b unit (i + 1))) (sinking_slots (pos l) u 0 (interface (view b) u).slots)))
          ∙ M.is l k;
    }
