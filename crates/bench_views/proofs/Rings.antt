-- Where the members of a circle stand, in a bench whose nodes are knit together. Assumes nothing.
use Rattle.std.specs.Prelude.{None, Some}
use Prim.Native.Nat.{ℕ, ◌+◌, ◌*◌, ◌/◌, ◌%◌, ◌<◌}
use mathlib.Core.Path.{◌≡◌, refl, ap, ap₂, sym, ◌∙◌, subst}
use mathlib.Core.List.{List}
use native.Mathlib.Decide.{dec_lt}
use native.Mathlib.Omega.{arith}
use lib.ListN.{get_or}
use Rattle.bench_words.specs.Store.{node_at, interface_at}
use Rattle.kinds.specs.declared.Class.{Class}
use Rattle.kinds.specs.declared.Class.TheVariants.{Absent, Blossom, Defect}
use Rattle.bench_words.specs.declared.Node.{Node}
use Rattle.ledger_spec.specs.Bench.{Member, blossom}
use Rattle.ledger_spec.specs.Bench as plain
use Rattle.ledger_spec.specs.Look.{slot_of, top, same_handle}
use Rattle.ledger_spec.specs.SoundTree.{tally}
use Rattle.ledger_spec.specs.Knit.{In, nodes, mk, Up, Down, Sewn}
use Rattle.ledger_spec.proofs.Knit.{none_some, some_eq, blossom_eq}
use Rattle.bench_views.specs.View.{circle_of, handle_at, slot_seen, node_seen, sum_up, view}
use Rattle.ledger_spec.specs.Named.{parent_named}
use Rattle.bench_views.proofs.Views.{view_slot, view_past, view_out}

-- what a slot that shows a node holds
pub record Shows (n : Node) (m : plain.Node) : Type 0 where
  pub present : n.class ≡ Absent → ⊥
  pub serial : m.serial ≡ n.serial.0
  pub parent : m.parent ≡ parent_named n.parent
  pub size : m.size ≡ n.size

pub slot_shows : (n : Node) (t : ℕ) (ms : List Member) (m : plain.Node) → slot_seen n t ms ≡ Some m → Shows n m
unfolding slot_seen
slot_shows n t ms m h = go n.class refl
  where
    go : (c : Class) → n.class ≡ c → Shows n m
    go Absent e = absurd (let h2 : None ≡ Some m = rw e at h in none_some refl h2)
    go Blossom e =
        let h2 = rw e at h in
        record {
          present = λ a. let z : Absent ≡ Blossom = sym a ∙ e in let z2 : ◌≡◌ {A = ℕ} 0 1 = cc in omega arith;
          serial = cc;
          parent = cc;
          size = cc;
        }
    go (Defect v) e =
        let h2 = rw e at h in
        record {
          present = λ a. let z : Absent ≡ Defect v = sym a ∙ e in let z2 : ◌≡◌ {A = ℕ} 0 1 = cc in omega arith;
          serial = cc;
          parent = cc;
          size = cc;
        }

-- a slot that is not empty shows its node
pub slot_held : (n : Node) (t : ℕ) (ms : List Member) → (n.class ≡ Absent → ⊥) → (c : plain.Class) × (slot_seen n t ms ≡ Some (node_seen n t c))
unfolding slot_seen
slot_held n t ms p = go n.class refl
  where
    go : (c : Class) → n.class ≡ c → (d : plain.Class) × (slot_seen n t ms ≡ Some (node_seen n t d))
    go Absent e = absurd (p e)
    go Blossom e = (blossom ms, rw e)
    go (Defect v) e = (plain.defect v.0, rw e)

pub record Blossoms (n : Node) (t : ℕ) (ms : List Member) : Type 0 where
  pub node : plain.Node
  pub shown : slot_seen n t ms ≡ Some node
  pub class : node.class ≡ blossom ms
  pub serial : node.serial ≡ n.serial.0

pub slot_blossom : (n : Node) (t : ℕ) (ms : List Member) → n.class ≡ Blossom → Blossoms n t ms
unfolding slot_seen
slot_blossom n t ms e = record { node = node_seen n t (blossom ms); shown = rw e; class = refl; serial = refl }

module _ (b : List ℕ) (S : Sewn (view b)) where
  -- p holds a member of the blossom in slot r of unit v
  pub record Ringed (v r p : ℕ) : Type 0 where
    pub unit : p / 64 < 8
    pub slot : p % 64 < (interface_at b (p / 64)).used
    pub present : (node_at b p).class ≡ Absent → ⊥
    pub parent : parent_named (node_at b p).parent ≡ Some (record { unit = v; slot = r; serial = (node_at b (v * 64 + r)).serial.0 })
    pub node : plain.Node
    pub stands : slot_of (view b) (p / 64) (p % 64) ≡ Some node
    pub above : node.parent ≡ Some (record { unit = v; slot = r; serial = (node_at b (v * 64 + r)).serial.0 })
    pub own : node.serial ≡ (node_at b p).serial.0

  pub ringed : (v r : ℕ) → v < 8 → r < (interface_at b v).used → (node_at b (v * 64 + r)).class ≡ Blossom → (p : ℕ) → In (handle_at (node_at b) p) (nodes (circle_of (node_at b) (v * 64 + r))) → Ringed v r p
  ringed v r lv lr e p i = go (dec_lt (p / 64) 8) (dec_lt (p % 64) (interface_at b (p / 64)).used)
    where
      A : ℕ → Node
      A = node_at b

      B : Blossoms (A (v * 64 + r)) (sum_up 8 (interface_at b) v) (circle_of A (v * 64 + r))
      B = slot_blossom (A (v * 64 + r)) (sum_up 8 (interface_at b) v) (circle_of A (v * 64 + r)) e

      D : Down (slot_of (view b)) (handle_at A p) (mk v r B.node)
      D = S.knit.down v r B.node (circle_of A (v * 64 + r)) (handle_at A p) (view_slot (get_or b 0 0) (interface_at b) A v r lv lr ∙ B.shown) B.class i

      go : Dec (p / 64 < 8) → Dec (p % 64 < (interface_at b (p / 64)).used) → Ringed v r p
      go (no q) w = absurd (none_some (view_out (get_or b 0 0) (interface_at b) A (p / 64) (p % 64) (omega arith)) D.has.stands)
      go (yes q) (no w) = absurd (none_some (view_past (get_or b 0 0) (interface_at b) A (p / 64) (p % 64) q (omega arith)) D.has.stands)
      go (yes q) (yes w) =
          let k : p / 64 * 64 + p % 64 ≡ p = omega arith in
          let s : Shows (A (p / 64 * 64 + p % 64)) D.node = slot_shows (A (p / 64 * 64 + p % 64)) (sum_up 8 (interface_at b) (p / 64)) (circle_of A (p / 64 * 64 + p % 64)) D.node (sym (view_slot (get_or b 0 0) (interface_at b) A (p / 64) (p % 64) q w) ∙ D.has.stands) in
          let s2 : Shows (A p) D.node = subst (λ (x : ℕ). Shows (A x) D.node) k s in
          record {
            unit = q;
            slot = w;
            present = s2.present;
            parent = sym s2.parent ∙ D.parent ∙ ap (λ (x : ℕ). Some (record { unit = v; slot = r; serial = x })) B.serial;
            node = D.node;
            stands = D.has.stands;
            above = D.parent ∙ ap (λ (x : ℕ). Some (record { unit = v; slot = r; serial = x })) B.serial;
            own = s2.serial;
          }

  -- a member stands in the circle once, and in its blossom's tree
  module _ (v r p : ℕ) (lv : v < 8) (lr : r < (interface_at b v).used) (e : (node_at b (v * 64 + r)).class ≡ Blossom) (g : Ringed v r p) where
    up_of : Up (slot_of (view b)) (top (view b)) (p / 64) (p % 64) g.node (record { unit = v; slot = r; serial = (node_at b (v * 64 + r)).serial.0 })
    up_of = S.knit.up (p / 64) (p % 64) g.node (record { unit = v; slot = r; serial = (node_at b (v * 64 + r)).serial.0 }) g.stands g.above

    pub ring_near : top (view b) (p / 64) ≡ top (view b) v
    ring_near = up_of.near

    pub ring_once : tally (same_handle (handle_at (node_at b) p)) (nodes (circle_of (node_at b) (v * 64 + r))) ≡ 1
    ring_once =
        let B = slot_blossom (node_at b (v * 64 + r)) (sum_up 8 (interface_at b) v) (circle_of (node_at b) (v * 64 + r)) e in
        let n : up_of.over ≡ B.node = some_eq up_of.has.stands (view_slot (get_or b 0 0) (interface_at b) (node_at b) v r lv lr ∙ B.shown) in
        let m : up_of.ms ≡ circle_of (node_at b) (v * 64 + r) = blossom_eq up_of.ring (ap (λ (x : plain.Node). x.class) n ∙ B.class) in
        ap₂ (λ (x : ℕ) (ms : List Member). tally (same_handle (record { unit = p / 64; slot = p % 64; serial = x })) (nodes ms)) (sym g.own) (sym m) ∙ up_of.once
