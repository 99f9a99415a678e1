-- Along the interfaces of a tree: what is left is the first one's slots and then the others', so the count and the next node fall into one interface
-- after the other. Assumes nothing.
use Rattle.std.specs.Prelude.{None, Some, Option}
use Prim.Native.Nat.{ℕ, zero, suc, ◌+◌, ◌-◌, ◌*◌, ◌<◌, ◌≤◌}
use mathlib.Core.Path.{◌≡◌, refl, ap, sym, ◌∙◌}
use mathlib.Core.List.{List, [], ◌∷◌, ◌++◌}
use native.Mathlib.Omega.{arith}
use borrow.Author.Tests.{lt-leb}
use lib.Dec.{leb}
use lib.ListN.{length, get_or}
use Rattle.slot_map.specs.Slots.{count_to, first_from}
use Rattle.bench_words.specs.Store.{node_at, interface_at}
use Rattle.bench_words.specs.declared.Interface.{Interface}
use Rattle.ledger_spec.specs.Bench as plain
use Rattle.ledger_spec.specs.Look.{interface}
use Rattle.ledger_spec.specs.Tests.{first}
use Rattle.ledger_spec.specs.Reads.{slots_from, gather, slots_of}
use Rattle.bench_views.specs.View.{view}
use Rattle.bench_views.specs.Canon.{held_in}
use Rattle.bench_views.specs.Fit.{Fit}
use Rattle.bench_views.proofs.Views.{view_count}
use Rattle.bench_orders.specs.declared.Order.{Order}
use Rattle.bench_orders.specs.Order.{Lists}
use Rattle.bench_orders.proofs.Counting.{slots_left, left_none, unit_low, left_more, used_small, length_more}
use Rattle.read_sound.proofs.Numbers.{first_no, first_none}
use Rattle.read_sound.proofs.Saying.{accepted, refused}
use Rattle.read_present.specs.Present.{present_in, next_from}
use Rattle.read_present.specs.Shown.{hand_in, walk_of}
use Rattle.read_present.proofs.Presence.{slots_present, none_here, met}

-- ---- what holds at each turn
pub record Summing (b : List ℕ) (unit i n : ℕ) : Type 0 where
  pub sum : n + present_in (slots_left b unit i) ≡ present_in (slots_left b unit 0)
  pub small : n ≤ i * 64

pub record Going (b : List ℕ) (unit k i n : ℕ) : Type 0 where
  pub sum : n + length (slots_left b unit i) ≡ length (slots_left b unit 0)
  pub next : next_from 0 k (slots_left b unit 0) ≡ next_from n k (slots_left b unit i)
  pub small : n ≤ i * 64

module _ (b : List ℕ) (F : Fit b) (unit : ℕ) (lu : unit < 8) (o : Order) (L : Lists b unit o) where
  abbrev left : ℕ → List (ℕ × ℕ × Option plain.Node)
  left i = slots_left b unit i

  module _ (i u : ℕ) (l : i < o.count) (e : u ≡ get_or o.units i 0) where
    low : u < 8
    low = unit_low b F unit lu o L i u l e

    parts : left i ≡ slots_from u 0 (interface (view b) u).slots ++ left (i + 1)
    unfolding gather
    parts = left_more b F unit lu o L i u l e

    pub sum_on : (n m : ℕ) → (m ≡ count_to (held_in (node_at b) u) 64) × (m ≤ 64) → Summing b unit i n → Summing b unit (i + 1) (n + m)
    sum_on n m c S =
        let q : present_in (left i) ≡ count_to (held_in (node_at b) u) 64 + present_in (left (i + 1)) = ap present_in parts ∙ slots_present b F u low (left (i + 1)) in
        record { sum = omega (arith, S.sum, c.0); small = omega (arith, S.small, c.1) }

    module _ (k n : ℕ) (G : Going b unit k i n) where
      pub go_on : (f : Interface) → f ≡ interface_at b u → None ≡ first_from (held_in (node_at b) u) (k - n) (64 - (k - n)) → Going b unit k (i + 1) (n + f.used)
      go_on f g q =
          let m = length_more b F unit lu o L i u l e f g in
          let s = used_small b F unit lu o L i u l e f g in
          let c : length (interface (view b) u).slots ≡ f.used = view_count (get_or b 0 0) (interface_at b) (node_at b) u low ∙ ap (λ (x : Interface). x.used) (sym g) in
          record {
            sum = omega (arith, G.sum);
            next = G.next ∙ ap (next_from n k) parts ∙ none_here b F u low n k (left (i + 1)) (sym q) ∙ ap (λ (x : ℕ). next_from (n + x) k (left (i + 1))) c;
            small = omega (arith, G.small);
          }

      pub go_met : (t : ℕ) → Some t ≡ first_from (held_in (node_at b) u) (k - n) (64 - (k - n)) → (t < 64) × ((0, (n + t, Some (hand_in (node_at b) u t))) ≡ walk_of (view b) unit k)
      unfolding walk_of
      go_met t q =
          let M = met b F u low n k (left (i + 1)) t (sym q) in
          let m = length_more b F unit lu o L i u l e (interface_at b u) refl in
          let c = view_count (get_or b 0 0) (interface_at b) (node_at b) u low in
          let in-it : k < length (slots_of (view b) unit) = omega (arith, M.inside, M.later, G.sum, m, c) in (
            M.low,
            accepted (next_from 0 k (slots_of (view b) unit)) (0, None) 0 (first ((leb (length (slots_of (view b) unit)) k, 18) ∷ []))
                (sym (first_no (leb (length (slots_of (view b) unit)) k) 18 [] (lt-leb (length (slots_of (view b) unit)) k in-it) ∙ first_none)) refl (n + t, Some (hand_in (node_at b) u t))
                (sym (G.next ∙ ap (next_from n k) parts ∙ M.next)),
          )

  pub sum_ends : (i n : ℕ) → o.count ≤ i → Summing b unit i n → n ≡ present_in (slots_of (view b) unit)
  unfolding present_in
  sum_ends i n l S = omega (arith, S.sum, ap present_in (left_none b F unit lu o L i l))

  module _ (i k n : ℕ) (l : o.count ≤ i) (G : Going b unit k i n) where
    whole : n ≡ length (slots_of (view b) unit)
    whole = omega (arith, G.sum, ap length (left_none b F unit lu o L i l))

    nothing_left : (0, None) ≡ next_from 0 k (slots_of (view b) unit)
    unfolding next_from
    nothing_left = sym (G.next ∙ ap (next_from n k) (left_none b F unit lu o L i l))

    pub go_ends : (r : ℕ) → r ≡ first ((leb n k, 18) ∷ []) → (r, (0, None)) ≡ walk_of (view b) unit k
    unfolding walk_of
    go_ends r e = done r (e ∙ ap (λ (x : ℕ). first ((leb x k, 18) ∷ [])) whole)
      where
        done : (r : ℕ) → r ≡ first ((leb (length (slots_of (view b) unit)) k, 18) ∷ []) → (r, (0, None)) ≡ walk_of (view b) unit k
        done zero q = accepted (next_from 0 k (slots_of (view b) unit)) (0, None) 0 (first ((leb (length (slots_of (view b) unit)) k, 18) ∷ [])) q refl (0, None) nothing_left
        done (suc r) q = refused (next_from 0 k (slots_of (view b) unit)) (0, None) (suc r) (first ((leb (length (slots_of (view b) unit)) k, 18) ∷ [])) q (λ z. omega arith)
