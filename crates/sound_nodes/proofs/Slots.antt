-- The code's tests of a slot, put together as the definitions have them. Assumes nothing.
use Prim.Native.Nat.{ℕ, ◌+◌, ◌-◌, ◌*◌, ◌<◌, ◌≤◌}
use mathlib.Core.Path.{◌≡◌, sym, ◌∙◌, ap, ap₂, subst}
use mathlib.Core.Bool.{Bool, true, false, ◌&&◌}
use mathlib.Core.List.{List}
use lib.Dec.{leb, ltb}
use lib.ListN.{get_or}
use borrow.Author.Tests.{le-leb, lt-leb, lt-ltb, le-ltb}
use Rattle.kinds.specs.declared.GrowState.{GrowState}
use Rattle.slot_map.specs.Slots.{bit_at}
use Rattle.bench_words.specs.Codec.{pick}
use Rattle.bench_words.specs.Store.{node_at, interface_at, map_at}
use Rattle.bench_words.specs.declared.Interface.{Interface}
use Rattle.bench_words.specs.declared.Node.{Node}
use Rattle.bench_words.proofs.Laws.{GoodParent, good_node}
use Rattle.ledger_spec.specs.Look.{climb}
use Rattle.bench_views.specs.View.{value_by, sum_up, view}
use Rattle.bench_trees.specs.Climb.{Climbs}
use Rattle.sound_trees.specs.Below.{all_to, between}
use Rattle.bench_words.specs.Coding.{blank_at, coded_at}
use Rattle.sound_trees.specs.Width.{width_of}
use Rattle.sound_rings.specs.Rings.{class_test}
use Rattle.sound_seats.specs.Seats.{parent_test}
use Rattle.sound_nodes.specs.declared.Ground.{Ground}
use Rattle.sound_nodes.specs.Nodes.{Grounds, near_test, handle_in, node_in, node_test, slot_test, slots_test}

pub grounded : (b : List ℕ) (u i t w : ℕ) → Climbs b u i t → (w ≡ width_of b i) × (w ≤ 8796093022208) → Grounds b u (record { top = i; total = t; width = w })
grounded b u i t w C e = record { top = C.top; total = C.total; width = e.0 ∙ ap (width_of b) C.top; small = C.small; narrow = e.1 }

module _ (g : GrowState) (bias t w : ℕ) where
  pub near_low : bias < 576460752303423488 → false ≡ near_test g bias t w
  unfolding near_test
  near_low l = rw (lt-leb 576460752303423488 bias l)

  pub near_high : 576460752303423488 ≤ bias → 2305843009213693952 < bias → false ≡ near_test g bias t w
  unfolding near_test
  near_high k l = rw (le-leb 576460752303423488 bias k, lt-leb bias 2305843009213693952 l)

  pub near_row : 576460752303423488 ≤ bias → bias ≤ 2305843009213693952 → (v : ℕ) → v ≡ value_by g bias t → (leb (1152921504606846976 - w) v && leb v (1152921504606846976 + w)) ≡ near_test g bias t w
  unfolding near_test
  near_row k l v e = ap (between 1152921504606846976 w) e ∙ sym (ap₂ (λ (x y : Bool). x && (y && between 1152921504606846976 w (value_by g bias t))) (le-leb 576460752303423488 bias k) (le-leb bias 2305843009213693952 l))

pub good_parent : (b : List ℕ) (k : ℕ) (n : Node) → n ≡ node_at b k → GoodParent n.parent
good_parent b k n e = subst (λ (x : Node). GoodParent x.parent) (sym e) (good_node b k).parent

module _ (b : List ℕ) (u s : ℕ) where
  pub node_uncoded : (t : Bool) → t ≡ coded_at b (u * 64 + s) → t ≡ false → false ≡ node_test b u s
  unfolding node_test
  node_uncoded t e f = sym (ap (λ (x : Bool). x && node_in b u s (sum_up 8 (interface_at b) u) (width_of b (climb 8 (view b) u)) (climb 8 (view b) u) (node_at b (u * 64 + s))) (sym e ∙ f))

  pub node_row : (t : Bool) → t ≡ coded_at b (u * 64 + s) → t ≡ true → (g : Ground) → Grounds b u g → (next : ℕ) → next ≡ get_or b 0 0 → (n : Node) → n ≡ node_at b (u * 64 + s)
      → (x y z : Bool) → x ≡ near_test n.state n.bias g.total g.width → y ≡ class_test (node_at b) next (handle_in u s n) n → z ≡ parent_test b (u * 64 + s) g.top n
      → (((leb 1 n.serial.0 && ltb n.serial.0 next) && x) && (y && z)) ≡ node_test b u s
  unfolding node_test node_in
  node_row t e f g G next en n eq x y z ex ey ez =
      rw (ex, ey, ez, G.total, G.width, G.top, en, eq)
      (sym (ap (λ (c : Bool). c && node_in b u s (sum_up 8 (interface_at b) u) (width_of b (climb 8 (view b) u)) (climb 8 (view b) u) (node_at b (u * 64 + s))) (sym e ∙ f)))

  module _ (used w : ℕ) (t : Bool) (e : t ≡ bit_at w s) where
    pub slot_blank : t ≡ false → (r : Bool) → r ≡ blank_at b (u * 64 + s) → r ≡ slot_test b used w u s
    unfolding slot_test
    slot_blank f r h = h ∙ sym (ap (λ (x : Bool). pick x (ltb s used && node_test b u s) (blank_at b (u * 64 + s))) (sym e ∙ f))

    pub slot_past : t ≡ true → used ≤ s → false ≡ slot_test b used w u s
    unfolding slot_test
    slot_past f l = sym (ap₂ (λ (x y : Bool). pick x (y && node_test b u s) (blank_at b (u * 64 + s))) (sym e ∙ f) (le-ltb s used l))

    pub slot_node : t ≡ true → s < used → (r : Bool) → r ≡ node_test b u s → r ≡ slot_test b used w u s
    unfolding slot_test
    slot_node f l r h = h ∙ sym (ap₂ (λ (x y : Bool). pick x (y && node_test b u s) (blank_at b (u * 64 + s))) (sym e ∙ f) (lt-ltb s used l))

pub slots_of : (b : List ℕ) (u : ℕ) (f : Interface) (w : ℕ) → f ≡ interface_at b u → w ≡ map_at b u → w < 18446744073709551616 → (r : Bool) → r ≡ all_to (slot_test b f.used w u) 64 → r ≡ slots_test b u
unfolding slots_test
slots_of b u f w e ew l r h =
    h ∙ ap₂ (λ (x : Interface) (y : ℕ). all_to (slot_test b x.used y u) 64) e ew
    ∙ sym (ap (λ (c : Bool). c && all_to (slot_test b (interface_at b u).used (map_at b u) u) 64) (lt-ltb (map_at b u) 18446744073709551616 (subst (λ (x : ℕ). x < 18446744073709551616) ew l)))
