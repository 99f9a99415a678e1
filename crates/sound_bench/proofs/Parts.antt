-- The test taken apart: what it says of the next serial, each interface, each slot, each top, each serial and each floor. Assumes nothing.
use Prim.Native.Nat.{ℕ, ◌+◌, ◌*◌, ◌<◌, ◌≤◌}
use mathlib.Core.Path.{◌≡◌, refl, ◌∙◌, ap}
use mathlib.Core.Bool.{Bool, true, false, not, ◌&&◌}
use mathlib.Core.List.{List}
use lib.Dec.{eqb, leb, ltb}
use lib.ListN.{get_or}
use borrow.Author.Tests.{eqb-false, ne_eqb, leb-true, le-leb, ltb-true, lt-ltb, not-true}
use Rattle.slot_map.specs.Slots.{bit_at}
use Rattle.bench_words.specs.Codec.{pick}
use Rattle.bench_words.specs.Store.{node_at, interface_at, map_at}
use Rattle.ledger_spec.specs.Look.{climb}
use Rattle.ledger_spec.proofs.Lists.{and_true, both_true}
use Rattle.bench_views.specs.View.{sum_up, view}
use Rattle.sound_trees.specs.Below.{all_to}
use Rattle.bench_words.specs.Coding.{blank_at, coded_at}
use Rattle.sound_trees.proofs.Belows.{all_each, all_of}
use Rattle.sound_trees.proofs.Codings.{Coding, coded_words, words_coded}
use Rattle.sound_trees.specs.Links.{interface_test}
use Rattle.sound_trees.specs.Width.{width_of}
use Rattle.sound_rings.specs.Rings.{class_test}
use Rattle.sound_seats.specs.Seats.{parent_test}
use Rattle.sound_nodes.specs.Nodes.{near_test, handle_in, node_in, node_test, slot_test, slots_test}
use Rattle.sound_tops.specs.Tops.{top_test}
use Rattle.sound_serials.specs.Different.{once_test}
use Rattle.sound_floors.specs.Floors.{floor_test}
use Rattle.sound_bench.specs.Sound.{sound_words}

-- a node that keeps the rules
pub record Kept (b : List ℕ) (u s : ℕ) : Type 0 where
  pub coded : Coding b (u * 64 + s)
  pub least : 1 ≤ (node_at b (u * 64 + s)).serial.0
  pub below : (node_at b (u * 64 + s)).serial.0 < get_or b 0 0
  pub near : near_test (node_at b (u * 64 + s)).state (node_at b (u * 64 + s)).bias (sum_up 8 (interface_at b) u) (width_of b (climb 8 (view b) u)) ≡ true
  pub class : class_test (node_at b) (get_or b 0 0) (handle_in u s (node_at b (u * 64 + s))) (node_at b (u * 64 + s)) ≡ true
  pub parent : parent_test b (u * 64 + s) (climb 8 (view b) u) (node_at b (u * 64 + s)) ≡ true

pub data Slot (b : List ℕ) (u s : ℕ) : Type 0 where
  blank : bit_at (map_at b u) s ≡ false → blank_at b (u * 64 + s) ≡ true → Slot b u s
  held : bit_at (map_at b u) s ≡ true → s < (interface_at b u).used → Kept b u s → Slot b u s

pub record Parts (b : List ℕ) : Type 0 where
  pub some : get_or b 0 0 ≡ 0 → ⊥
  pub worn : get_or b 0 0 ≤ 4294967296
  pub interface : (u : ℕ) → u < 8 → interface_test b u ≡ true
  pub map : (u : ℕ) → u < 8 → map_at b u < 18446744073709551616
  pub slot : (u s : ℕ) → u < 8 → s < 64 → Slot b u s
  pub top : (u : ℕ) → u < 8 → top_test b u ≡ true
  pub once : (k : ℕ) → k < 512 → once_test b k ≡ true
  pub floor : (u : ℕ) → u < 8 → floor_test b u ≡ true

module _ (b : List ℕ) (u s : ℕ) where
  kept_of : node_test b u s ≡ true → Kept b u s
  unfolding node_test node_in
  kept_of e =
      let n = node_at b (u * 64 + s) in
      let x = and_true (coded_at b (u * 64 + s)) _ e in
      let y = and_true ((leb 1 n.serial.0 && ltb n.serial.0 (get_or b 0 0)) && near_test n.state n.bias (sum_up 8 (interface_at b) u) (width_of b (climb 8 (view b) u))) _ x.1 in
      let z = and_true (leb 1 n.serial.0 && ltb n.serial.0 (get_or b 0 0)) _ y.0 in
      let w = and_true (leb 1 n.serial.0) (ltb n.serial.0 (get_or b 0 0)) z.0 in
      let v = and_true (class_test (node_at b) (get_or b 0 0) (handle_in u s n) n) (parent_test b (u * 64 + s) (climb 8 (view b) u) n) y.1 in
      record { coded = coded_words b (u * 64 + s) x.0; least = leb-true 1 n.serial.0 w.0; below = ltb-true n.serial.0 (get_or b 0 0) w.1; near = z.1; class = v.0; parent = v.1 }

  kept_node : Kept b u s → node_test b u s ≡ true
  unfolding node_test node_in
  kept_node K =
      both_true (words_coded b (u * 64 + s) K.coded) (both_true (both_true (both_true (le-leb 1 (node_at b (u * 64 + s)).serial.0 K.least) (lt-ltb (node_at b (u * 64 + s)).serial.0 (get_or b 0 0) K.below)) K.near) (both_true K.class K.parent))

  slot_says : slot_test b (interface_at b u).used (map_at b u) u s ≡ true → Slot b u s
  unfolding slot_test
  slot_says e = go (bit_at (map_at b u) s) refl e
    where
      go : (c : Bool) → bit_at (map_at b u) s ≡ c → pick c (ltb s (interface_at b u).used && node_test b u s) (blank_at b (u * 64 + s)) ≡ true → Slot b u s
      go false q h = blank q h
      go true q h = let x = and_true (ltb s (interface_at b u).used) (node_test b u s) h in held q (ltb-true s (interface_at b u).used x.0) (kept_of x.1)

  slot_holds : Slot b u s → slot_test b (interface_at b u).used (map_at b u) u s ≡ true
  unfolding slot_test
  slot_holds (blank q h) = ap (λ (c : Bool). pick c (ltb s (interface_at b u).used && node_test b u s) (blank_at b (u * 64 + s))) q ∙ h
  slot_holds (held q l K) = ap (λ (c : Bool). pick c (ltb s (interface_at b u).used && node_test b u s) (blank_at b (u * 64 + s))) q ∙ both_true (lt-ltb s (interface_at b u).used l) (kept_node K)

pub parts : (b : List ℕ) → sound_words b ≡ true → Parts b
unfolding sound_words slots_test
parts b e =
    let x = and_true (not (eqb (get_or b 0 0) 0)) _ e in
    let y = and_true (leb (get_or b 0 0) 4294967296) _ x.1 in
    let z = and_true (all_to (interface_test b) 8) _ y.1 in
    let w = and_true (all_to (slots_test b) 8) _ z.1 in
    let v = and_true (all_to (top_test b) 8) _ w.1 in
    let t = and_true (all_to (once_test b) 512) (all_to (floor_test b) 8) v.1 in
    let slots : (u : ℕ) → u < 8 → (ltb (map_at b u) 18446744073709551616 ≡ true) × (all_to (slot_test b (interface_at b u).used (map_at b u) u) 64 ≡ true) = λ u lu. and_true (ltb (map_at b u) 18446744073709551616) _ (all_each (slots_test b) 8 w.0 u lu) in
    record {
      some = eqb-false (get_or b 0 0) 0 (not-true (eqb (get_or b 0 0) 0) x.0);
      worn = leb-true (get_or b 0 0) 4294967296 y.0;
      interface = all_each (interface_test b) 8 z.0;
      map = λ u lu. ltb-true (map_at b u) 18446744073709551616 (slots u lu).0;
      slot = λ u s lu ls. slot_says b u s (all_each (slot_test b (interface_at b u).used (map_at b u) u) 64 (slots u lu).1 s ls);
      top = all_each (top_test b) 8 v.0;
      once = all_each (once_test b) 512 t.0;
      floor = all_each (floor_test b) 8 t.1;
    }

pub whole : (b : List ℕ) → Parts b → sound_words b ≡ true
unfolding sound_words slots_test
whole b P =
    both_true (ap not (ne_eqb (get_or b 0 0) 0 P.some)) (both_true (le-leb (get_or b 0 0) 4294967296 P.worn) (both_true (all_of (interface_test b) 8 P.interface)
    (both_true (all_of (slots_test b) 8 (λ u lu. both_true (lt-ltb (map_at b u) 18446744073709551616 (P.map u lu)) (all_of (slot_test b (interface_at b u).used (map_at b u) u) 64 (λ s ls. slot_holds b u s (P.slot u s lu ls))))) (both_true (all_of (top_test b) 8 P.top) (both_true (all_of (once_test b) 512 P.once) (all_of (floor_test b) 8 P.floor))))))
