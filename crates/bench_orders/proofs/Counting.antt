-- Along the interfaces of a tree: what is left of the slots is the first interface's and then the others', so a count, an index and a place fall
-- into one interface after the other. Assumes nothing.
use Rattle.std.specs.Prelude.{None, Option, Some}
use Prim.Native.Nat.{ℕ, ◌+◌, ◌-◌, ◌*◌, ◌/◌, ◌%◌, ◌<◌, ◌≤◌}
use mathlib.Core.Path.{◌≡◌, ap, ap₂, sym, ◌∙◌, subst}
use mathlib.Core.List.{List, [], ◌∷◌}
use native.Mathlib.Numerals.{add-one}
use native.Mathlib.Omega.{arith}
use lib.ListN.{length, drop, get_or, drop_of_length-le}
use lib.Seq.{drop-cons, get_or-take, length-take-le}
use Rattle.bench_words.specs.Store.{node_at, interface_at}
use Rattle.bench_words.specs.declared.Interface.{Interface}
use Rattle.ledger_spec.specs.Bench.{Handle, Node}
use Rattle.ledger_spec.specs.Look.{interface, slot_of, tree}
use Rattle.ledger_spec.specs.Reads.{gather, slots_of}
use Rattle.ledger_spec.specs.Check.{index_in}
use Rattle.ledger_spec.proofs.Indices.{gather_length, gather_at, gather_past, index_here, index_past}
use Rattle.bench_views.specs.View.{view}
use Rattle.bench_views.specs.Fit.{Fit}
use Rattle.bench_views.proofs.Views.{view_count}
use Rattle.bench_orders.specs.declared.Order.{Order}
use Rattle.bench_orders.specs.Order.{listed, Lists, AtIndex, Locates}
use Rattle.bench_orders.proofs.Trees.{tree_low}

-- ---- one turn along the order

-- the slots of all but the first i interfaces
abbrev pub slots_left : List ℕ → ℕ → ℕ → List (ℕ × ℕ × Option Node)
slots_left b unit i = gather (view b) (drop i (tree 8 (view b) unit))

module _ (b : List ℕ) (F : Fit b) (unit : ℕ) (lu : unit < 8) (o : Order) (L : Lists b unit o) where
  abbrev left : ℕ → List (ℕ × ℕ × Option Node)
  left i = slots_left b unit i

  counted : length (tree 8 (view b) unit) ≡ o.count
  counted = sym (ap length L.list) ∙ length-take-le o.count o.units (omega (arith, L.few, L.long))

  pub left_none : (i : ℕ) → o.count ≤ i → left i ≡ []
  unfolding gather
  left_none i l = ap (gather (view b)) (drop_of_length-le (tree 8 (view b) unit) {i = i} (omega (arith, counted)))

  module _ (i u : ℕ) (l : i < o.count) (e : u ≡ get_or o.units i 0) where
    unit_at : get_or (tree 8 (view b) unit) i 0 ≡ u
    unit_at = sym (ap (λ (us : List ℕ). get_or us i 0) L.list) ∙ get_or-take o.count o.units i 0 l ∙ sym e

    pub unit_low : u < 8
    unit_low = subst (λ (x : ℕ). x < 8) unit_at (tree_low (view b) F.frame unit i lu (omega (arith, counted)))

    pub left_more : left i ≡ gather (view b) (u ∷ drop (i + 1) (tree 8 (view b) unit))
    left_more = ap (gather (view b)) (drop-cons (tree 8 (view b) unit) i 0 (omega (arith, counted)) ∙ ap₂ (λ (x : ℕ) (n : ℕ). x ∷ drop n (tree 8 (view b) unit)) unit_at (sym (add-one i)))

    pub index_there : (n : ℕ) (h : Handle) → u ≡ h.unit → h.slot < (interface_at b h.unit).used → index_in (left i) n h ≡ n + h.slot
    index_there n h q m =
        let c = view_count (get_or b 0 0) (interface_at b) (node_at b) h.unit (subst (λ (x : ℕ). x < 8) q unit_low) in
        ap (λ (ts : List (ℕ × ℕ × Option Node)). index_in ts n h) left_more
        ∙ ap (λ (x : ℕ). index_in (gather (view b) (x ∷ drop (i + 1) (tree 8 (view b) unit))) n h) q
        ∙ index_here (view b) (drop (i + 1) (tree 8 (view b) unit)) n h (omega arith)

    module _ (f : Interface) (g : f ≡ interface_at b u) where
      used_seen : length (interface (view b) u).slots ≡ f.used
      used_seen = view_count (get_or b 0 0) (interface_at b) (node_at b) u unit_low ∙ ap (λ (x : Interface). x.used) (sym g)

      pub used_small : f.used ≤ 64
      used_small = rw g (F.canon.steady.slots u unit_low)

      pub length_more : length (left i) ≡ f.used + length (left (i + 1))
      length_more = ap length left_more ∙ gather_length (view b) u (drop (i + 1) (tree 8 (view b) unit)) ∙ ap (λ (x : ℕ). x + length (left (i + 1))) used_seen

      -- an index into this interface, and one past it
      pub at_here : (rest : ℕ) → rest < f.used → get_or (left i) rest (0, 0, None) ≡ (u, rest, slot_of (view b) u rest)
      at_here rest m = ap (λ (ts : List (ℕ × ℕ × Option Node)). get_or ts rest (0, 0, None)) left_more
          ∙ gather_at (view b) u (drop (i + 1) (tree 8 (view b) unit)) (0, 0, None) rest (omega (arith, used_seen))

      pub at_more : (rest : ℕ) → f.used ≤ rest → get_or (left i) rest (0, 0, None) ≡ get_or (left (i + 1)) (rest - f.used) (0, 0, None)
      at_more rest m =
          let r : rest ≡ length (interface (view b) u).slots + (rest - f.used) = omega (arith, used_seen) in
          ap₂ (λ (ts : List (ℕ × ℕ × Option Node)) (x : ℕ). get_or ts x (0, 0, None)) left_more r ∙ gather_past (view b) u (drop (i + 1) (tree 8 (view b) unit)) (0, 0, None) (rest - f.used)

      pub index_more : (n : ℕ) (h : Handle) → (u ≡ h.unit → ⊥) → index_in (left i) n h ≡ index_in (left (i + 1)) (n + f.used) h
      index_more n h ne = ap (λ (ts : List (ℕ × ℕ × Option Node)). index_in ts n h) left_more ∙ index_past (view b) (drop (i + 1) (tree 8 (view b) unit)) n h u ne
          ∙ ap (λ (x : ℕ). index_in (left (i + 1)) (n + x) h) used_seen

-- ---- one turn along what `Order::listed` gives
module _ (b : List ℕ) (unit : ℕ) (o : Order) (L : Lists b unit o) (us : List ℕ) (e : us ≡ listed o) where
  pub listed_many : length us ≡ o.count
  listed_many = ap length e ∙ length-take-le o.count o.units (omega (arith, L.few, L.long))

  pub listed_at : (i : ℕ) → i < length us → (i < o.count) × (get_or us i 0 ≡ get_or o.units i 0)
  listed_at i l =
      let m : i < o.count = omega (arith, l, listed_many) in
      (m, ap (λ (xs : List ℕ). get_or xs i 0) e ∙ get_or-take o.count o.units i 0 m)

-- ---- what holds at each turn
pub record Counted (b : List ℕ) (unit i n : ℕ) : Type 0 where
  pub sum : n + length (slots_left b unit i) ≡ length (slots_left b unit 0)
  pub small : n ≤ i * 64

-- the index is what is left of it among the slots that are left
pub record Sought (b : List ℕ) (unit index i rest : ℕ) : Type 0 where
  pub at : get_or (slots_left b unit 0) index (0, 0, None) ≡ get_or (slots_left b unit i) rest (0, 0, None)
  pub count : length (slots_left b unit 0) + rest ≡ index + length (slots_left b unit i)

pub record Passed (b : List ℕ) (unit : ℕ) (h : Handle) (i n : ℕ) : Type 0 where
  pub index : index_in (slots_left b unit 0) 0 h ≡ index_in (slots_left b unit i) n h
  pub small : n ≤ i * 64

module _ (b : List ℕ) (F : Fit b) (unit : ℕ) (lu : unit < 8) (o : Order) (L : Lists b unit o) where
  module _ (i u : ℕ) (l : i < o.count) (e : u ≡ get_or o.units i 0) (f : Interface) (g : f ≡ interface_at b u) where
    pub count_on : (n : ℕ) → Counted b unit i n → Counted b unit (i + 1) (n + f.used)
    count_on n C =
        let m = length_more b F unit lu o L i u l e f g in
        let s = used_small b F unit lu o L i u l e f g in
        record { sum = omega (arith, C.sum); small = omega (arith, C.small) }

    pub seek_on : (index rest : ℕ) → Sought b unit index i rest → f.used ≤ rest → Sought b unit index (i + 1) (rest - f.used)
    seek_on index rest S m =
        let n = length_more b F unit lu o L i u l e f g in
        record { at = S.at ∙ at_more b F unit lu o L i u l e f g rest m; count = omega (arith, S.count) }

    pub seek_ends : (index rest k : ℕ) → Sought b unit index i rest → rest < f.used → k ≡ u * 64 + rest → AtIndex b unit index k
    seek_ends index rest k S m p =
        let n = length_more b F unit lu o L i u l e f g in
        let s = used_small b F unit lu o L i u l e f g in
        let lo = unit_low b F unit lu o L i u l e in
        let q : k / 64 ≡ u = omega arith in
        let t : k % 64 ≡ rest = omega arith in
        record {
          inside = omega (arith, S.count);
          at = S.at ∙ at_here b F unit lu o L i u l e f g rest m ∙ ap₂ (λ (v s : ℕ). (v, s, slot_of (view b) v s)) (sym q) (sym t);
          low = omega arith;
          used = rw (q, t) (omega (arith, m, ap (λ (x : Interface). x.used) g));
        }

    pub pass_on : (n : ℕ) (h : Handle) → Passed b unit h i n → (u ≡ h.unit → ⊥) → Passed b unit h (i + 1) (n + f.used)
    pass_on n h P ne =
        let s = used_small b F unit lu o L i u l e f g in
        record { index = P.index ∙ index_more b F unit lu o L i u l e f g n h ne; small = omega (arith, P.small) }

  pub count_ends : (i n : ℕ) → o.count ≤ i → Counted b unit i n → n ≡ length (slots_of (view b) unit)
  count_ends i n l C = omega (arith, C.sum, ap length (left_none b F unit lu o L i l))

  pub seek_past : (index rest i : ℕ) → o.count ≤ i → Sought b unit index i rest → length (slots_of (view b) unit) ≤ index
  seek_past index rest i l S = omega (arith, S.count, ap length (left_none b F unit lu o L i l))

  pub index_ends : (h : Handle) (i n : ℕ) → o.count ≤ i → Passed b unit h i n → 0 ≡ index_in (slots_of (view b) unit) 0 h
  unfolding index_in
  index_ends h i n l P = sym (P.index ∙ ap (λ (ts : List (ℕ × ℕ × Option Node)). index_in ts n h) (left_none b F unit lu o L i l))

-- ---- by what was located
module _ (b : List ℕ) (unit index : ℕ) {r : Option ℕ} (f : Locates b unit index r) where
  pub located : (k : ℕ) → r ≡ Some k → AtIndex b unit index k
  located k e = subst (λ (x : Option ℕ). Locates b unit index x) e f

  pub located_past : r ≡ None → length (slots_of (view b) unit) ≤ index
  located_past e = subst (λ (x : Option ℕ). Locates b unit index x) e f
