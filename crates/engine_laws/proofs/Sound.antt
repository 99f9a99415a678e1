-- A bench is sound in either engine or in none. Assumes nothing.
use Rattle.std.specs.Prelude.{None, Option, Some}
use Prim.Native.Nat.{ℕ, ◌+◌, ◌*◌}
use mathlib.Core.Path.{◌≡◌, refl, ap, ◌∙◌}
use mathlib.Core.Bool.{Bool, true, ◌&&◌}
use mathlib.Core.List.{List, [], ◌∷◌, map}
use lib.ListN.{length}
use lib.Dec.{eqb, leb, ltb}
use lib.IntN.{◌-ℤ◌, nat_abs}
use Rattle.ledger_spec.specs.Numbers.{serial_limit, circle_limit}
use Rattle.ledger_spec.specs.Bench.{Handle, Member, Class, defect, blossom, Node, Bench}
use Rattle.ledger_spec.specs.Look.{interface, node_named, tree, same_handle}
use Rattle.ledger_spec.specs.Deeds.{members}
use Rattle.ledger_spec.specs.SoundTree.{all, units, tally, links_up, links_down, sound_interface, reach}
use Rattle.ledger_spec.specs.Sound.{is_stay, same_parent, sound_touch, sound_class, sound_parent, sound_slot, rates, sound_top, serials, different, sound_floor, sound_plain, sound}
use Rattle.engine_laws.specs.Engines.{in_engine}
use Rattle.engine_laws.proofs.Looks.{top_in, tree_in, sizes_in, gather_in, slots_in}

module _ (m : Bool) (b : Bench) where
  class_in : (h : Handle) (c : Class) (n : ℕ) → sound_class (in_engine m b) h c n ≡ sound_class b h c n
  unfolding sound_class node_named
  class_in h (defect v) n = refl
  class_in h (blossom ms) n = λ i. ((leb 1 (length ms) && leb (length ms) circle_limit) && eqb n (sizes_in m b (map (λ (x : Member). x.node) ms) i))
      && all (λ (x : Member). same_parent (node_named b x.node) h && (sound_touch b x.touch.0 && sound_touch b x.touch.1)) ms

  parent_in : (h : Handle) (n : Node) → sound_parent (in_engine m b) h n ≡ sound_parent b h n
  unfolding sound_parent node_named
  parent_in h n = λ i. elim n.parent [
    | None ↦ true
    | Some q ↦ ((is_stay n.state && ltb n.serial q.serial) && eqb (top_in m b q.unit i) (top_in m b h.unit i)) && eqb (tally (same_handle h) (members (node_named b q))) 1
  ]

  abbrev at : ℕ × ℕ × Option Node → Node → Handle
  at t n = record { unit = t.0; slot = t.1; serial = n.serial }

  slot_in : (w : ℕ) (t : ℕ × ℕ × Option Node) → sound_slot (in_engine m b) w t ≡ sound_slot b w t
  unfolding sound_slot
  slot_in w t = λ i. elim t.2 [
    | None ↦ true
    | Some n ↦ ((leb 1 n.serial && ltb n.serial b.next) && leb (nat_abs n.value) w) && (parent_in (at t n) n i && class_in (at t n) n.class n.size i)
  ]

  reach_in : (us : List ℕ) → reach (in_engine m b) us ≡ reach b us
  unfolding reach
  reach_in [] = refl
  reach_in (u ∷ us) = λ i. nat_abs (interface b u).progress + reach_in us i

  reached : (u : ℕ) → reach (in_engine m b) (tree 8 (in_engine m b) u) ≡ reach b (tree 8 b u)
  reached u = reach_in (tree 8 (in_engine m b) u) ∙ ap (reach b) (tree_in m b 8 u)

  top_sound : (u : ℕ) → sound_top (in_engine m b) u ≡ sound_top b u
  unfolding sound_top
  top_sound u = λ i. elim (interface b u).parent [
    | Some p ↦ true
    | None ↦ all (λ t. slot_in (reached u i) t i) (slots_in m b u i) && (leb (nat_abs (interface b u).sum) (512 * reached u i) && eqb (nat_abs ((interface b u).speed -ℤ rates (slots_in m b u i))) 0)
  ]

  interface_in_lem : (u : ℕ) → sound_interface (in_engine m b) u ≡ sound_interface b u
  unfolding sound_interface links_up links_down
  interface_in_lem u = refl

  floor_in : (u : ℕ) → sound_floor (in_engine m b) u ≡ sound_floor b u
  unfolding sound_floor
  floor_in u = refl

  plain_in : sound_plain (in_engine m b) ≡ sound_plain b
  unfolding sound_plain
  plain_in = λ i. ((leb 1 b.next && leb b.next serial_limit) && eqb (length b.interfaces) 8)
      && ((all (λ u. interface_in_lem u i) units && all (λ u. top_sound u i) units) && different (serials (gather_in m b units i)))

  pub sound_engine : sound (in_engine m b) ≡ sound b
  unfolding sound
  sound_engine = λ i. plain_in i && all (λ u. floor_in u i) units
