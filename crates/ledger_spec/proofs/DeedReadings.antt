-- What stands in each slot after a defect or a blossom was added or a blossom expanded, and the numbers that go with it. A place is the new one, a
-- member's, or another. Assumes nothing.
use Rattle.std.specs.Prelude.{None, Option, Some}
use Prim.Native.Nat.{ℕ, suc, ◌≤◌, ◌<◌, max}
use mathlib.Core.Path.{◌≡◌, refl, ◌∙◌, ap}
use mathlib.Core.List.{List}
use native.Mathlib.Omega.{arith}
use lib.ListN.{length}
use lib.IntN.{ℤ, pos}
use Rattle.ledger_spec.specs.Bench.{Handle, grows, stays, defect, blossom, Node, Interface, Bench, with_slots, with_speed}
use Rattle.ledger_spec.specs.Look.{interface, free_slot, slot_of, node_named}
use Rattle.ledger_spec.specs.Change.{place, push, restate, mark_all}
use Rattle.ledger_spec.specs.Deeds.{new_handle, add_defect, circle, sizes, add_blossom, members, remove_blossom}
use Rattle.ledger_spec.specs.Knit.{In}
use Rattle.ledger_spec.proofs.Slots.{Vacant, free_vacant}
use Rattle.ledger_spec.proofs.Readings.{place_field, mark_all_field, push_field, place_at, place_off, place_count, place_next, place_plain, mark_all_at, mark_all_off, mark_all_none, mark_all_count, mark_all_length, mark_all_next, mark_all_plain, push_at, push_off, push_count, push_else, push_next, push_plain}

-- the nodes that are made
abbrev pub defect_node : Bench → ℕ → Node
defect_node b v = record { serial = b.next; class = defect v; state = grows; parent = None; value = pos 0; size = 1 }

abbrev pub blossom_node : Bench → List Handle → List (Handle × Handle) → Node
blossom_node b hs ts = record { serial = b.next; class = blossom (circle hs ts); state = grows; parent = None; value = pos 0; size = sizes b hs }

-- the slot that a new node takes holds nothing
pub bare : (b : Bench) (u : ℕ) → slot_of b u (free_slot b u) ≡ None
bare b u = (free_vacant b u).bare

new_low : (b : Bench) (u : ℕ) → free_slot b u ≤ length (interface b u).slots
new_low b u = (free_vacant b u).low

-- ---- a defect added
module _ (b : Bench) (u v : ℕ) where
  pub defect_is : add_defect b u v ≡ push b u (free_slot b u) (defect_node b v)
  unfolding add_defect
  defect_is = refl

  pub defect_at : u < length b.interfaces → slot_of (add_defect b u v) u (free_slot b u) ≡ Some (defect_node b v)
  unfolding add_defect
  defect_at h = push_at b u (free_slot b u) (defect_node b v) h (new_low b u)

  pub defect_off : u < length b.interfaces → (w t : ℕ) → (w ≡ u → t ≡ free_slot b u → ⊥) → slot_of (add_defect b u v) w t ≡ slot_of b w t
  unfolding add_defect
  defect_off h w t off = push_off b u (free_slot b u) (defect_node b v) h (new_low b u) w t off

  pub defect_next : (add_defect b u v).next ≡ suc b.next
  unfolding add_defect
  defect_next = push_next b u (free_slot b u) (defect_node b v)

  pub defect_plain : (add_defect b u v).plain ≡ b.plain
  unfolding add_defect
  defect_plain = push_plain b u (free_slot b u) (defect_node b v)

  pub defect_count : u < length b.interfaces → length (interface (add_defect b u v) u).slots ≡ max (length (interface b u).slots) (suc (free_slot b u))
  unfolding add_defect
  defect_count h = push_count b u (free_slot b u) (defect_node b v) h (new_low b u)

  pub defect_count_else : (w : ℕ) → (w ≡ u → ⊥) → length (interface (add_defect b u v) w).slots ≡ length (interface b w).slots
  unfolding add_defect
  defect_count_else w q = ap length (push_else b u (free_slot b u) (defect_node b v) w q)

  -- any field but the slots and the speed
  pub defect_field : {X : Type 0} (φ : Interface → X) → ((f : Interface) (l : List (Option Node)) → φ (with_slots f l) ≡ φ f) → ((f : Interface) (x : ℤ) → φ (with_speed f x) ≡ φ f)
      → (w : ℕ) → φ (interface (add_defect b u v) w) ≡ φ (interface b w)
  unfolding add_defect
  defect_field = push_field b u _ _

-- ---- a blossom added: members marked, then the blossom pushed
module _ (b : Bench) (u : ℕ) (hs : List Handle) (ts : List (Handle × Handle)) where
  abbrev marked : Bench
  marked = mark_all b hs stays (Some (new_handle b u))

  pub blossom_is : add_blossom b u hs ts ≡ push (mark_all b hs stays (Some (new_handle b u))) u (free_slot b u) (blossom_node b hs ts)
  unfolding add_blossom
  blossom_is = refl

  marked_count : (w : ℕ) → length (interface marked w).slots ≡ length (interface b w).slots
  marked_count w = mark_all_count stays (Some (new_handle b u)) b hs w

  marked<n : u < length b.interfaces → u < length marked.interfaces
  marked<n h = omega (arith, h, mark_all_length stays (Some (new_handle b u)) b hs)

  -- the new slot is free after the marks too
  marked_low : free_slot b u ≤ length (interface marked u).slots
  marked_low = omega (arith, new_low b u, marked_count u)

  pub blossom_vacant : Vacant (interface marked u).slots (free_slot b u)
  blossom_vacant = record { low = marked_low; bare = mark_all_none stays (Some (new_handle b u)) b hs u (free_slot b u) (bare b u) }

  pub blossom_at : u < length b.interfaces → slot_of (add_blossom b u hs ts) u (free_slot b u) ≡ Some (blossom_node b hs ts)
  unfolding add_blossom
  blossom_at h = push_at marked u (free_slot b u) (blossom_node b hs ts) (marked<n h) marked_low

  pub blossom_member : u < length b.interfaces → (h : Handle) → In h hs → (h.unit ≡ u → h.slot ≡ free_slot b u → ⊥)
      → slot_of (add_blossom b u hs ts) h.unit h.slot ≡ restate (slot_of b h.unit h.slot) stays (Some (new_handle b u))
  unfolding add_blossom
  blossom_member low h i off = push_off marked u (free_slot b u) (blossom_node b hs ts) (marked<n low) marked_low h.unit h.slot off ∙ mark_all_at stays (Some (new_handle b u)) h b hs i

  pub blossom_off : u < length b.interfaces → (w t : ℕ) → ((h : Handle) → In h hs → h.unit ≡ w → h.slot ≡ t → ⊥) → (w ≡ u → t ≡ free_slot b u → ⊥)
      → slot_of (add_blossom b u hs ts) w t ≡ slot_of b w t
  unfolding add_blossom
  blossom_off low w t miss off = push_off marked u (free_slot b u) (blossom_node b hs ts) (marked<n low) marked_low w t off ∙ mark_all_off stays (Some (new_handle b u)) b hs w t miss

  pub blossom_next : (add_blossom b u hs ts).next ≡ suc b.next
  unfolding add_blossom
  blossom_next = push_next marked u (free_slot b u) (blossom_node b hs ts) ∙ ap suc (mark_all_next stays (Some (new_handle b u)) b hs)

  pub blossom_plain : (add_blossom b u hs ts).plain ≡ b.plain
  unfolding add_blossom
  blossom_plain = push_plain marked u (free_slot b u) (blossom_node b hs ts) ∙ (mark_all_plain stays (Some (new_handle b u)) b hs)

  pub blossom_count : u < length b.interfaces → length (interface (add_blossom b u hs ts) u).slots ≡ max (length (interface b u).slots) (suc (free_slot b u))
  unfolding add_blossom
  blossom_count h = push_count marked u (free_slot b u) (blossom_node b hs ts) (marked<n h) marked_low ∙ ap (λ (m : ℕ). max m (suc (free_slot b u))) (marked_count u)

  pub blossom_count_else : (w : ℕ) → (w ≡ u → ⊥) → length (interface (add_blossom b u hs ts) w).slots ≡ length (interface b w).slots
  unfolding add_blossom
  blossom_count_else w q = ap length (push_else marked u (free_slot b u) (blossom_node b hs ts) w q) ∙ marked_count w

  -- any field but the slots and the speed
  pub blossom_field : {X : Type 0} (φ : Interface → X) → ((f : Interface) (l : List (Option Node)) → φ (with_slots f l) ≡ φ f) → ((f : Interface) (x : ℤ) → φ (with_speed f x) ≡ φ f)
      → (w : ℕ) → φ (interface (add_blossom b u hs ts) w) ≡ φ (interface b w)
  unfolding add_blossom
  blossom_field φ p q w = push_field marked u _ _ φ p q w ∙ mark_all_field stays (Some (new_handle b u)) φ p q b hs w

-- ---- a blossom expanded: its slot emptied, then its members freed
module _ (b : Bench) (h : Handle) where
  abbrev emptied : Bench
  emptied = place b h.unit h.slot None

  pub expand_is : remove_blossom b h ≡ mark_all (place b h.unit h.slot None) (members (node_named b h)) grows None
  unfolding remove_blossom
  expand_is = refl

  pub expand_at : ((g : Handle) → In g (members (node_named b h)) → g.unit ≡ h.unit → g.slot ≡ h.slot → ⊥) → slot_of (remove_blossom b h) h.unit h.slot ≡ None
  unfolding remove_blossom
  expand_at far = mark_all_off grows None emptied (members (node_named b h)) h.unit h.slot far ∙ place_at b h.unit h.slot None (λ z. refl)

  pub expand_member : (g : Handle) → In g (members (node_named b h)) → (h.unit ≡ g.unit → h.slot ≡ g.slot → ⊥)
      → slot_of (remove_blossom b h) g.unit g.slot ≡ restate (slot_of b g.unit g.slot) grows None
  unfolding remove_blossom
  expand_member g i off = mark_all_at grows None g emptied (members (node_named b h)) i ∙ ap (λ (o : Option Node). restate o grows None) (place_off b h.unit h.slot None g.unit g.slot off)

  pub expand_off : (w t : ℕ) → ((g : Handle) → In g (members (node_named b h)) → g.unit ≡ w → g.slot ≡ t → ⊥) → (h.unit ≡ w → h.slot ≡ t → ⊥) → slot_of (remove_blossom b h) w t ≡ slot_of b w t
  unfolding remove_blossom
  expand_off w t miss off = mark_all_off grows None emptied (members (node_named b h)) w t miss ∙ place_off b h.unit h.slot None w t off

  pub expand_next : (remove_blossom b h).next ≡ b.next
  unfolding remove_blossom
  expand_next = mark_all_next grows None emptied (members (node_named b h)) ∙ place_next b h.unit h.slot None

  pub expand_plain : (remove_blossom b h).plain ≡ b.plain
  unfolding remove_blossom
  expand_plain = mark_all_plain grows None emptied (members (node_named b h)) ∙ place_plain b h.unit h.slot None

  pub expand_count : (w : ℕ) → length (interface (remove_blossom b h) w).slots ≡ length (interface b w).slots
  unfolding remove_blossom
  expand_count w = mark_all_count grows None emptied (members (node_named b h)) w ∙ place_count b h.unit h.slot None w

  -- any field but the slots and the speed
  pub expand_field : {X : Type 0} (φ : Interface → X) → ((f : Interface) (l : List (Option Node)) → φ (with_slots f l) ≡ φ f) → ((f : Interface) (x : ℤ) → φ (with_speed f x) ≡ φ f)
      → (w : ℕ) → φ (interface (remove_blossom b h) w) ≡ φ (interface b w)
  unfolding remove_blossom
  expand_field φ p q w = mark_all_field grows None φ p q emptied (members (node_named b h)) w ∙ place_field b h.unit h.slot None φ p q w
