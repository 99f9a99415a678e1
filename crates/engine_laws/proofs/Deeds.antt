-- Every deed does the same in either engine, and leaves the engine as it was. Assumes nothing.
use Rattle.std.specs.Prelude.{None, Option, Some}
use Prim.Native.Nat.{ℕ, suc}
use mathlib.Core.Path.{◌≡◌, refl, ap, ◌∙◌}
use mathlib.Core.Bool.{Bool, true, false}
use mathlib.Core.List.{List, [], ◌∷◌, map}
use lib.Dec.{eqb}
use lib.ListN.{set}
use lib.IntN.{ℤ, pos, ◌-ℤ◌}
use Rattle.ledger_spec.specs.Bench.{Handle, State, grows, stays, blossom, Node, Marking, Interface, Bench, fresh, with_slots}
use Rattle.ledger_spec.specs.Look.{interface, slot_of, free_slot, node_named}
use Rattle.ledger_spec.specs.Change.{share, with_interface, faster, place, push, restate, mark, mark_all}
use Rattle.ledger_spec.specs.Deeds.{new_handle, add_defect, circle, sizes, add_blossom, members, remove_blossom, grow_slot, across, booked, grow_by, join, choose, wipe}
use Rattle.engine_laws.specs.Engines.{in_engine}
use Rattle.engine_laws.proofs.Looks.{top_in, node_in, sizes_in}

-- ---- the changes that deeds are made of
module _ (m : Bool) where
  faster_in : (b : Bench) (u : ℕ) (v : ℤ) → faster (in_engine m b) u v ≡ in_engine m (faster b u v)
  unfolding faster
  faster_in b u v = refl

  place_in : (b : Bench) (u s : ℕ) (y : Option Node) → place (in_engine m b) u s y ≡ in_engine m (place b u s y)
  unfolding place faster
  place_in b u s y = λ i. in_engine m (faster (with_interface b u (with_slots (interface b u) (set (interface b u).slots s y))) (top_in m b u i) (share y -ℤ share (slot_of b u s)))

  push_in : (b : Bench) (u s : ℕ) (n : Node) → push (in_engine m b) u s n ≡ in_engine m (push b u s n)
  unfolding push faster
  push_in b u s n = refl

  pub mark_in : (b : Bench) (h : Handle) (s : State) (p : Option Handle) → mark (in_engine m b) h s p ≡ in_engine m (mark b h s p)
  unfolding mark
  mark_in b h s p = place_in b h.unit h.slot (restate (slot_of b h.unit h.slot) s p)

  mark_all_in : (b : Bench) (hs : List Handle) (s : State) (p : Option Handle) → mark_all (in_engine m b) hs s p ≡ in_engine m (mark_all b hs s p)
  unfolding mark_all
  mark_all_in b [] s p = refl
  mark_all_in b (h ∷ hs) s p = ap (λ x. mark_all x hs s p) (mark_in b h s p) ∙ mark_all_in (mark b h s p) hs s p

  across_in : (f : Interface → Interface) (b : Bench) (u k : ℕ) (xs : List Interface) → across f (in_engine m b) u k xs ≡ across f b u k xs
  unfolding across
  across_in f b u k [] = refl
  across_in f b u k (x ∷ xs) = λ i. elim (eqb (top_in m b k i) u) [ true ↦ f x | false ↦ x ] ∷ across_in f b u (suc k) xs i

-- ---- the deeds
module _ (m : Bool) (b : Bench) where
  pub handle_in : (u : ℕ) → new_handle (in_engine m b) u ≡ new_handle b u
  unfolding free_slot
  handle_in u = refl

  pub defect_in : (u v : ℕ) → add_defect (in_engine m b) u v ≡ in_engine m (add_defect b u v)
  unfolding add_defect free_slot push faster
  defect_in u v = refl

  pub blossom_in : (u : ℕ) (hs : List Handle) (ts : List (Handle × Handle)) → add_blossom (in_engine m b) u hs ts ≡ in_engine m (add_blossom b u hs ts)
  unfolding add_blossom free_slot
  blossom_in u hs ts = (λ i. push (mark_all_in m b hs stays (Some (new_handle b u)) i) u (free_slot b u) (made (sizes_in m b hs i)))
      ∙ push_in m (mark_all b hs stays (Some (new_handle b u))) u (free_slot b u) (made (sizes b hs))
    where
      made : ℕ → Node
      made n = record { serial = b.next; class = blossom (circle hs ts); state = grows; parent = None; value = pos 0; size = n }

  pub expand_in : (h : Handle) → remove_blossom (in_engine m b) h ≡ in_engine m (remove_blossom b h)
  unfolding remove_blossom
  expand_in h = (λ i. mark_all (place_in m b h.unit h.slot None i) (members (node_in m b h i)) grows None)
      ∙ mark_all_in m (place b h.unit h.slot None) (members (node_named b h)) grows None

  pub grow_in : (u : ℕ) (l : ℤ) → grow_by (in_engine m b) u l ≡ in_engine m (grow_by b u l)
  unfolding grow_by
  grow_in u l = λ i. in_engine m (stepped (across_in m (λ f. with_slots f (map (grow_slot l) f.slots)) b u 0 b.interfaces i))
    where
      stepped : List Interface → Bench
      stepped fs = let b₁ : Bench = record { next = b.next; interfaces = fs; plain = b.plain } in with_interface b₁ u (booked (interface b₁ u) l)

  pub fuse_in : (p l r : ℕ) → join (in_engine m b) p l r ≡ in_engine m (join b p l r)
  unfolding join
  fuse_in p l r = refl

  pub clear_in : (u : ℕ) → wipe (in_engine m b) u ≡ in_engine m (wipe b u)
  unfolding wipe
  clear_in u = λ i. record { next = b.next; interfaces = across_in m (λ f. fresh) b u 0 b.interfaces i; plain = m }

  pub choose_in : (u : ℕ) (k : Marking) → choose (in_engine m b) u k ≡ in_engine m (choose b u k)
  unfolding choose
  choose_in u k = refl
