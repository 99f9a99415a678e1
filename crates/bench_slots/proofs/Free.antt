-- The free slot of the plain ledger, off the words: the used count, or the lowest bit that the map has not; and that the words hold nothing there.
-- Assumes nothing.
use Rattle.std.specs.Prelude.{None, Option, Some}
use Prim.Native.Nat.{ℕ, ◌+◌, ◌*◌, ◌<◌, ◌≤◌}
use mathlib.Core.Path.{◌≡◌, refl, ap, sym, ◌∙◌, subst}
use mathlib.Core.Logic.{by_cases}
use mathlib.Core.Bool.{Bool, true, false, not, true≢false}
use mathlib.Core.List.{List}
use native.Mathlib.Decide.{dec_lt}
use native.Mathlib.Omega.{arith}
use lib.ListN.{length, get_or}
use Rattle.slot_map.specs.Slots.{bit_at, first_from}
use Rattle.slot_map.proofs.Firsts.{First, first_found, first_lacks, clear_map}
use Rattle.kinds.specs.declared.Class.{Class}
use Rattle.kinds.specs.declared.Class.TheVariants.{Absent, Blossom, Defect}
use Rattle.bench_words.specs.Store.{node_at, interface_at, map_at}
use Rattle.bench_words.specs.declared.Node.{Node}
use Rattle.bench_words.specs.declared.Interface.{Interface}
use Rattle.ledger_spec.specs.Bench.{Member}
use Rattle.ledger_spec.specs.Bench as plain
use Rattle.ledger_spec.specs.Look.{interface, gap, free_slot}
use Rattle.ledger_spec.specs.Tests.{is_some}
use Rattle.ledger_spec.proofs.Slots.{free_fills, free_plain, free_vacant, gap_lowest}
use Rattle.bench_views.specs.View.{view, slot_seen, sum_up, circle_of}
use Rattle.bench_views.specs.Canon.{is_held, held_in, Canon}
use Rattle.bench_views.proofs.Views.{interface_in_lem, view_slot, view_past, view_count}
use Rattle.bench_views.proofs.Maps.{held_absent}

-- ---- a slot holds a node exactly where one is seen
pub held_seen : (n : Node) (t : ℕ) (ms : List Member) → is_some (slot_seen n t ms) ≡ is_held n.class
unfolding slot_seen is_held
held_seen n t ms = go n.class refl
  where
    go : (c : Class) → n.class ≡ c → is_some (slot_seen n t ms) ≡ is_held n.class
    go Absent e = rw e
    go Blossom e = rw e
    go (Defect v) e = rw e

pub not_held : (c : Class) → is_held c ≡ false → c ≡ Absent
unfolding is_held
not_held Absent e = refl
not_held Blossom e = absurd (true≢false e)
not_held (Defect v) e = absurd (true≢false e)

not_true : (p : Bool) → not p ≡ true → p ≡ false
not_true true e = absurd (true≢false (sym e))
not_true false e = refl

not_false : (p : Bool) → not p ≡ false → p ≡ true
not_false true e = refl
not_false false e = absurd (true≢false e)

module _ (b : List ℕ) (C : Canon b) (u : ℕ) (lu : u < 8) where
  abbrev A : ℕ → Node
  A = node_at b

  abbrev slots : List (Option plain.Node)
  slots = (interface (view b) u).slots

  count : length slots ≡ (interface_at b u).used
  count = view_count (get_or b 0 0) (interface_at b) A u lu

  few : length slots ≤ 64
  few = subst (λ (n : ℕ). n ≤ 64) (sym count) (C.steady.slots u lu)

  held : (s : ℕ) → s < 64 → is_some (get_or slots s None) ≡ held_in A u s
  held s ls = by_cases (dec_lt s (interface_at b u).used)
      (λ (h : s < (interface_at b u).used). ap (λ (o : Option plain.Node). is_some o) (view_slot (get_or b 0 0) (interface_at b) A u s lu h) ∙ held_seen (A (u * 64 + s)) (sum_up 8 (interface_at b) u) (circle_of A (u * 64 + s)))
      (λ (q : s < (interface_at b u).used → ⊥).
      ap (λ (o : Option plain.Node). is_some o) (view_past (get_or b 0 0) (interface_at b) A u s lu (omega (arith, q))) ∙ sym (held_absent (ap (λ (n : Node). n.class) (C.past u s lu ls (omega (arith, q))))))

  marks : (interface (view b) u).marks.fills ≡ (interface_at b u).marks.fills
  marks = ap (λ (f : plain.Interface). f.marks.fills) (interface_in_lem (get_or b 0 0) (interface_at b) A u lu)

  -- ---- free in the words: no further than the used slots, and nothing there
  pub free_low : free_slot (view b) u ≤ (interface_at b u).used
  free_low = omega (arith, count, (free_vacant (view b) u).low)

  pub free_bare : free_slot (view b) u < 64 → (A (u * 64 + free_slot (view b) u)).class ≡ Absent
  free_bare l = not_held (A (u * 64 + free_slot (view b) u)).class (sym (held (free_slot (view b) u) l) ∙ ap (λ (o : Option plain.Node). is_some o) (free_vacant (view b) u).bare)

  -- ---- by the mode
  free_next : (interface_at b u).marks.fills ≡ false → (interface_at b u).used ≡ free_slot (view b) u
  free_next e = sym (free_plain (view b) u (marks ∙ e) ∙ count)

  module _ (e : (interface_at b u).marks.fills ≡ true) where
    by_gap : free_slot (view b) u ≡ gap slots
    by_gap = free_fills (view b) u (marks ∙ e)

    clear : first_from (λ s. not (bit_at (map_at b u) s)) 0 64 ≡ first_from (λ s. not (held_in A u s)) 0 64
    clear = ap (λ (w : ℕ). first_from (λ s. not (bit_at w s)) 0 64) (C.map u lu) ∙ clear_map (held_in A u)

    -- every slot below the free one holds a node
    below : (s : ℕ) → s < 64 → s < free_slot (view b) u → held_in A u s ≡ true
    below s ls h = sym (held s ls) ∙ gap_lowest slots s (omega (arith, h, by_gap))

    bare : free_slot (view b) u < 64 → held_in A u (free_slot (view b) u) ≡ false
    bare l = held_absent (free_bare l)

    free_lowest : (s : ℕ) → Some s ≡ first_from (λ s. not (bit_at (map_at b u) s)) 0 64 → s ≡ free_slot (view b) u
    free_lowest s q = by_cases (dec_lt s (free_slot (view b) u))
        (λ (h : s < free_slot (view b) u). absurd (true≢false (sym (below s low h) ∙ not_true (held_in A u s) G.there)))
        (λ (h : s < free_slot (view b) u → ⊥). by_cases (dec_lt (free_slot (view b) u) s)
        (λ (k : free_slot (view b) u < s). absurd (true≢false (sym (not_false (held_in A u (free_slot (view b) u)) (G.none (free_slot (view b) u) (omega arith) k)) ∙ bare (omega (arith, k, low)))))
        (λ (k : free_slot (view b) u < s → ⊥). omega (arith, h, k)))
      where
        G : First (λ t. not (held_in A u t)) 0 64 s
        G = first_found (λ t. not (held_in A u t)) 64 0 s (sym (q ∙ clear))

        low : s < 64
        low = G.below

    free_nothing : None ≡ first_from (λ s. not (bit_at (map_at b u) s)) 0 64 → 64 ≡ free_slot (view b) u
    free_nothing q = by_cases (dec_lt (free_slot (view b) u) 64)
        (λ (h : free_slot (view b) u < 64).
        absurd (true≢false (sym (not_false (held_in A u (free_slot (view b) u)) (first_lacks (λ t. not (held_in A u t)) 64 0 (sym (q ∙ clear)) (free_slot (view b) u) (omega arith) (omega (arith, h)))) ∙ bare h)))
        (λ (h : free_slot (view b) u < 64 → ⊥). omega (arith, h, few, (free_vacant (view b) u).low))

  -- ---- off an interface and a map that were loaded
  module _ (f : Interface) (ef : f ≡ interface_at b u) where
    pub used_small : f.used ≤ 64
    used_small = rw ef (C.steady.slots u lu)

    pub next_slot : not f.marks.fills ≡ true → f.used ≡ free_slot (view b) u
    next_slot t = ap (λ (x : Interface). x.used) ef ∙ free_next (ap (λ (x : Interface). x.marks.fills) (sym ef) ∙ not_true f.marks.fills t)

    module _ (t : not f.marks.fills ≡ false) (w : ℕ) (ew : w ≡ map_at b u) (r : Option ℕ) (er : r ≡ first_from (λ s. not (bit_at w s)) 0 64) where
      fills : (interface_at b u).marks.fills ≡ true
      fills = ap (λ (x : Interface). x.marks.fills) (sym ef) ∙ not_false f.marks.fills t

      by_map : r ≡ first_from (λ s. not (bit_at (map_at b u) s)) 0 64
      by_map = er ∙ ap (λ (x : ℕ). first_from (λ s. not (bit_at x s)) 0 64) ew

      pub lowest_slot : (s : ℕ) → r ≡ Some s → s ≡ free_slot (view b) u
      lowest_slot s e = free_lowest fills s (sym e ∙ by_map)

      pub no_slot : r ≡ None → 64 ≡ free_slot (view b) u
      no_slot e = free_nothing fills (sym e ∙ by_map)
