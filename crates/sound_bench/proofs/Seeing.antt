-- What a slot of the view shows, and what the words hold where it shows a node. Assumes nothing.
use Rattle.std.specs.Prelude.{None, Some}
use Prim.Native.Nat.{ℕ, ◌+◌, ◌*◌, ◌/◌, ◌%◌, ◌<◌}
use mathlib.Core.Path.{◌≡◌, refl, sym, ◌∙◌, subst}
use mathlib.Core.List.{List}
use native.Mathlib.Decide.{dec_lt}
use native.Mathlib.Omega.{arith}
use lib.ListN.{get_or}
use Rattle.kinds.specs.declared.Class.{Class}
use Rattle.kinds.specs.declared.Class.TheVariants.{Absent, Blossom, Defect}
use Rattle.kinds.specs.declared.Vertex.{Vertex}
use Rattle.bench_words.specs.Store.{node_at, interface_at}
use Rattle.bench_words.specs.declared.Node.{Node}
use Rattle.ledger_spec.specs.Bench.{blossom, defect}
use Rattle.ledger_spec.specs.Bench as plain
use Rattle.ledger_spec.specs.Look.{slot_of}
use Rattle.ledger_spec.proofs.Knit.{none_some, some_eq}
use Rattle.bench_views.specs.View.{sum_up, circle_of, node_seen, slot_seen, view}
use Rattle.bench_views.proofs.Views.{view_slot, view_past, view_out}

module _ (b : List ℕ) (u s : ℕ) where
  abbrev at : Node
  at = node_at b (u * 64 + s)

  abbrev pub shown_as : plain.Class → plain.Node
  shown_as c = node_seen at (sum_up 8 (interface_at b) u) c

  -- a node of the view is a blossom with its circle followed, or a defect with its vertex
  pub data Shown (n : plain.Node) : Type 0 where
    ring : at.class ≡ Blossom → n ≡ shown_as (blossom (circle_of (node_at b) (u * 64 + s))) → Shown n
    single : (v : Vertex) → at.class ≡ Defect v → n ≡ shown_as (defect v.0) → Shown n

  pub record Seen (n : plain.Node) : Type 0 where
    pub unit : u < 8
    pub slot : s < (interface_at b u).used
    pub shown : Shown n

  shown_of : (n : plain.Node) → slot_seen at (sum_up 8 (interface_at b) u) (circle_of (node_at b) (u * 64 + s)) ≡ Some n → Shown n
  unfolding slot_seen
  shown_of n e = go at.class refl
    where
      go : (c : Class) → at.class ≡ c → Shown n
      go Absent q = absurd (none_some {o = None} refl (rw q at e))
      go Blossom q = ring q (sym (some_eq {o = Some (shown_as (blossom (circle_of (node_at b) (u * 64 + s))))} refl (rw q at e)))
      go (Defect v) q = single v q (sym (some_eq {o = Some (shown_as (defect v.0))} refl (rw q at e)))

  pub seen : (n : plain.Node) → slot_of (view b) u s ≡ Some n → Seen n
  seen n e = go (dec_lt u 8) (dec_lt s (interface_at b u).used)
    where
      go : Dec (u < 8) → Dec (s < (interface_at b u).used) → Seen n
      go (no q) w = absurd (none_some (view_out (get_or b 0 0) (interface_at b) (node_at b) u s (omega arith)) e)
      go (yes q) (no w) = absurd (none_some (view_past (get_or b 0 0) (interface_at b) (node_at b) u s q (omega arith)) e)
      go (yes q) (yes w) = record { unit = q; slot = w; shown = shown_of n (sym (view_slot (get_or b 0 0) (interface_at b) (node_at b) u s q w) ∙ e) }

  -- and the other way round
  module _ (lu : u < 8) (ls : s < (interface_at b u).used) where
    pub see_ring : at.class ≡ Blossom → slot_of (view b) u s ≡ Some (shown_as (blossom (circle_of (node_at b) (u * 64 + s))))
    unfolding slot_seen
    see_ring e = view_slot (get_or b 0 0) (interface_at b) (node_at b) u s lu ls ∙ rw e

    pub see_single : (v : Vertex) → at.class ≡ Defect v → slot_of (view b) u s ≡ Some (shown_as (defect v.0))
    unfolding slot_seen
    see_single v e = view_slot (get_or b 0 0) (interface_at b) (node_at b) u s lu ls ∙ rw e

-- a fact of every slot, by its position
pub by_place : (P : ℕ → Type 0) → ((u s : ℕ) → u < 8 → s < 64 → P (u * 64 + s)) → (k : ℕ) → k < 512 → P k
by_place P h k l = let e : k / 64 * 64 + k % 64 ≡ k = omega arith in subst P e (h (k / 64) (k % 64) (omega arith) (omega arith))
