-- What an accepted call of the patch does, it does alike on two benches whose interfaces of the patch are alike; what it tells is alike too.
-- Assumes nothing.
use Rattle.std.specs.Prelude.{None, Some}
use Prim.Native.Nat.{ℕ}
use mathlib.Core.Path.{◌≡◌, refl, sym, ◌∙◌, ap, ap₂, subst}
use mathlib.Core.Logic.{◌≢◌}
use mathlib.Core.Bool.{true}
use mathlib.Core.List.{List, [], ◌∷◌, ◌++◌, map, map-append}
use native.Mathlib.Decide.{ℕ_discrete}
use lib.IntN.{pos}
use Rattle.ledger_spec.specs.Bench.{Handle, grows, stays, defect, blossom, Interface, Bench}
use Rattle.ledger_spec.specs.Look.{interface, free_slot, node_named, top}
use Rattle.ledger_spec.specs.Change.{place, push, mark_all}
use Rattle.ledger_spec.specs.Tests.{first, both}
use Rattle.ledger_spec.specs.Deeds.{new_handle, members, add_defect, add_blossom, remove_blossom, join, wipe}
use Rattle.ledger_spec.specs.Calls.{Call, Defect, Blossom, Expand, SetState, Grow, Fuse, Clear, Mark}
use Rattle.ledger_spec.specs.Notices.{Notice, defect_added, state_set, shrink_prepared, blossom_added, blossom_removed, grown, tells}
use Rattle.ledger_spec.specs.Knit.{In, here, there}
use Rattle.ledger_spec.specs.Facts.{Sound}
use Rattle.ledger_spec.proofs.Lists.{in_left}
use Rattle.ledger_spec.proofs.Knit.{some_eq, none_some}
use Rattle.ledger_spec.proofs.Passed.{Fusable, fusable}
use Rattle.ledger_spec.proofs.DeedReadings.{defect_node, blossom_node}
use Rattle.ledger_spec.proofs.TreeReadings.{Joins, joins, grow_parent, grow_halves, join_l, join_r, join_rest, join_p, join_kept, wipe_under, wipe_else}
use Rattle.ledger_laws.proofs.Quiet.{place_quiet, defect_quiet, blossom_quiet, expand_quiet, mark_quiet, choose_quiet}
use Rattle.ledger_laws.proofs.Answered.{tests_of, deed_of}
use Rattle.patch_laws.specs.Patch.{Patch, mine}
use Rattle.patch_laws.proofs.Renamed.{Renaming, re_pair, re_circle, re_members}
use Rattle.patch_laws.proofs.Faces.{Faces, Closed, closed_same, closed_quiet, place_faces, mark_faces, mark_all_faces, push_faces, join_faces, choose_faces, grow_faces, wipe_faces}
use Rattle.patch_laws.proofs.Alike.{re_call, Own, Names, node_faces, sizes_faces, free_faces}
use Rattle.patch_laws.proofs.Held.{keep, Held, keep_names, members_mine, call_kept}

abbrev pub re_notice : Renaming → Notice → Notice
re_notice R (defect_added h) = defect_added (R.handle h)
re_notice R (state_set h t) = state_set (R.handle h) t
re_notice R (shrink_prepared hs) = shrink_prepared (map R.handle hs)
re_notice R (blossom_added h) = blossom_added (R.handle h)
re_notice R (blossom_removed h) = blossom_removed (R.handle h)
re_notice R (grown l) = grown l

module _ (p : Patch) (R : Renaming) (s b : Bench) (C : Closed p s) (F : Faces p R s b) (N : Names p R) (H : Held p s) (next : R.serial s.next ≡ b.next) where
  pub new_faces : (u : ℕ) → mine p u ≡ true → new_handle b u ≡ R.handle (new_handle s u)
  new_faces u m = (λ i. record { unit = u; slot = free_faces p R s b C F N u m i; serial = sym next i }) ∙ sym (N.plain (new_handle s u) m)

  members_faces : (h : Handle) → mine p h.unit ≡ true → members (node_named b (R.handle h)) ≡ map R.handle (members (node_named s h))
  members_faces h k = ap members (node_faces p R s b C F N h k) ∙ re_members R (node_named s h)

  -- ---- the bench after it
  defect_faces : (u v : ℕ) → mine p u ≡ true → Faces p R (add_defect s u v) (add_defect b u v)
  unfolding add_defect
  defect_faces u v m = subst (λ (t : ℕ). Faces p R (push s u (free_slot s u) (defect_node s v)) (push b u t (defect_node b v))) (sym (free_faces p R s b C F N u m))
      (push_faces p R s b F u (free_slot s u) (defect_node s v) (defect_node b v) m (λ i. record { serial = sym next i; class = defect v; state = grows; parent = None; value = pos 0; size = 1 }))

  blossom_faces : (u : ℕ) (hs : List Handle) (ts : List (Handle × Handle)) → mine p u ≡ true → ((h : Handle) → In h hs → mine p h.unit ≡ true)
      → Faces p R (add_blossom s u hs ts) (add_blossom b u (map R.handle hs) (map (re_pair R) ts))
  unfolding add_blossom
  blossom_faces u hs ts m k = subst (λ (t : ℕ). Faces p R (push s₁ u (free_slot s u) (blossom_node s hs ts)) (push b₁ u t (blossom_node b (map R.handle hs) (map (re_pair R) ts)))) (sym (free_faces p R s b C F N u m))
      (push_faces p R s₁ b₁ marked u (free_slot s u) (blossom_node s hs ts) (blossom_node b (map R.handle hs) (map (re_pair R) ts)) m
      (λ i. record { serial = sym next i; class = blossom (re_circle R hs ts i); state = grows; parent = None; value = pos 0; size = sizes_faces p R s b C F N hs k i }))
    where
      s₁ : Bench
      s₁ = mark_all s hs stays (Some (new_handle s u))

      b₁ : Bench
      b₁ = mark_all b (map R.handle hs) stays (Some (new_handle b u))

      marked : Faces p R s₁ b₁
      marked = subst (λ (h : Handle). Faces p R (mark_all s hs stays (Some (new_handle s u))) (mark_all b (map R.handle hs) stays (Some h))) (sym (new_faces u m))
          (mark_all_faces p R N.plain s b C F hs stays (Some (new_handle s u)) (λ h i. k h i))

  expand_faces : (h : Handle) → mine p h.unit ≡ true → Faces p R (remove_blossom s h) (remove_blossom b (R.handle h))
  unfolding remove_blossom
  expand_faces h k = subst (λ (l : List Handle). Faces p R (remove_blossom s h) (mark_all (place b (R.handle h).unit (R.handle h).slot None) l grows None)) (sym (members_faces h k))
      (mark_all_faces p R N.plain (place s h.unit h.slot None) (place b (R.handle h).unit (R.handle h).slot None) (closed_quiet p s (place s h.unit h.slot None) C (place_quiet s h.unit h.slot None)) placed
      (members (node_named s h)) grows None (λ g i. members_mine p s H h k g i))
    where
      placed : Faces p R (place s h.unit h.slot None) (place b (R.handle h).unit (R.handle h).slot None)
      placed = subst (λ (g : Handle). Faces p R (place s h.unit h.slot None) (place b g.unit g.slot None)) (sym (N.plain h k)) (place_faces p R s b C F h.unit h.slot None None k refl)

  pub deed_faces : (c : Call) → Own p c → Faces p R (deed_of s c) (deed_of b (re_call R c))
  unfolding deed_of
  deed_faces (Defect u v) k = defect_faces u v (k.units u (here refl))
  deed_faces (Blossom u hs ts) k = blossom_faces u hs ts (k.units u (here refl)) (λ h i. k.handles h (in_left (both ts) i))
  deed_faces (Expand u h) k = expand_faces h (k.handles h (here refl))
  deed_faces (SetState u h t) k = mark_faces p R N.plain s b C F h t None (k.handles h (here refl))
  deed_faces (Grow u l) k = grow_faces p R s b C F u l
  deed_faces (Fuse q l r) k = join_faces p R s b F q l r (k.units q (here refl)) (k.units l (there (here refl))) (k.units r (there (there (here refl))))
  deed_faces (Clear u) k = wipe_faces p R s b C F u
  deed_faces (Mark u t) k = choose_faces p R s b F u t (k.units u (here refl))

  -- ---- the node and the notices
  pub tells_faces : (c : Call) → Own p c → tells b (re_call R c) ≡ map (re_notice R) (tells s c)
  unfolding tells
  tells_faces (Defect u v) k = ap {B = List Notice} (λ (h : Handle). defect_added h ∷ []) (new_faces u (k.units u (here refl)))
  tells_faces (Blossom u hs ts) k = ap₂ {C = List Notice} ◌++◌ (set_all hs) (ap {B = List Notice} (λ (h : Handle). shrink_prepared (map R.handle hs) ∷ blossom_added h ∷ []) (new_faces u (k.units u (here refl))))
      ∙ sym (map-append (re_notice R) (map (λ (h : Handle). state_set h stays) hs) (shrink_prepared hs ∷ blossom_added (new_handle s u) ∷ []))
    where
      set_all : (l : List Handle) → map (λ (h : Handle). state_set h stays) (map R.handle l) ≡ map (re_notice R) (map (λ (h : Handle). state_set h stays) l)
      set_all [] = refl
      set_all (x ∷ xs) = ap {B = List Notice} (λ l. state_set (R.handle x) stays ∷ l) (set_all xs)
  tells_faces (Expand u h) k = ap {B = List Notice} (λ l. blossom_removed (R.handle h) ∷ l) (ap (map (λ (g : Handle). state_set g grows)) (members_faces h (k.handles h (here refl))) ∙ set_all (members (node_named s h)))
    where
      set_all : (l : List Handle) → map (λ (g : Handle). state_set g grows) (map R.handle l) ≡ map (re_notice R) (map (λ (g : Handle). state_set g grows) l)
      set_all [] = refl
      set_all (x ∷ xs) = ap {B = List Notice} (λ l. state_set (R.handle x) grows ∷ l) (set_all xs)
  tells_faces (SetState u h t) k = refl
  tells_faces (Grow u l) k = refl
  tells_faces (Fuse q l r) k = refl
  tells_faces (Clear u) k = refl
  tells_faces (Mark u t) k = refl

-- ---- links within the patch stay there
module _ (p : Patch) (s : Bench) (S : Sound s) (C : Closed p s) where
  fuse_closed : (q l r : ℕ) → Fusable s q l r → mine p q ≡ true → mine p l ≡ true → mine p r ≡ true → Closed p (join s q l r)
  fuse_closed q l r f mq ml mr = record { up = up; left = λ w x y m e. (halves w x y m e).0; right = λ w x y m e. (halves w x y m e).1 }
    where
      J : Joins s q l r
      J = joins S.frame f

      up : (w x : ℕ) → mine p w ≡ true → (interface (join s q l r) w).parent ≡ Some x → mine p x ≡ true
      up w x m e = go (ℕ_discrete w l) (ℕ_discrete w r)
        where
          go : Dec (w ≡ l) → Dec (w ≡ r) → mine p x ≡ true
          go (yes i) j = subst (λ (z : ℕ). mine p z ≡ true) (some_eq (join_l s q l r J) (ap (λ (z : ℕ). (interface (join s q l r) z).parent) (sym i) ∙ e)) mq
          go (no i) (yes j) = subst (λ (z : ℕ). mine p z ≡ true) (some_eq (join_r s q l r J) (ap (λ (z : ℕ). (interface (join s q l r) z).parent) (sym j) ∙ e)) mq
          go (no i) (no j) = C.up w x m (sym (join_rest s q l r J f.p_none w i j) ∙ e)

      halves : (w x y : ℕ) → mine p w ≡ true → (interface (join s q l r) w).halves ≡ Some (x, y) → (mine p x ≡ true) × (mine p y ≡ true)
      halves w x y m e = go (ℕ_discrete w q)
        where
          was : w ≢ q → (interface s w).halves ≡ Some (x, y)
          was i = sym (join_kept s q l r J (λ f. f.halves) (λ f z. refl) w i) ∙ e

          go : Dec (w ≡ q) → (mine p x ≡ true) × (mine p y ≡ true)
          go (yes i) = let h = some_eq (ap (λ (f : Interface). f.halves) (join_p s q l r J)) (ap (λ (z : ℕ). (interface (join s q l r) z).halves) (sym i) ∙ e) in
              (subst (λ (z : ℕ). mine p z ≡ true) (ap (λ (t : ℕ × ℕ). t.0) h) ml, subst (λ (z : ℕ). mine p z ≡ true) (ap (λ (t : ℕ × ℕ). t.1) h) mr)
          go (no i) = (C.left w x y m (was i), C.right w x y m (was i))

  clear_closed : (u : ℕ) → Closed p (wipe s u)
  clear_closed u = record {
    up = λ w x m e. C.up w x m (sym (ap (λ (f : Interface). f.parent) (still w (λ z. none_some (ap (λ (f : Interface). f.parent) (wipe_under s u w z)) e))) ∙ e);
    left = λ w x y m e. C.left w x y m (sym (ap (λ (f : Interface). f.halves) (still w (λ z. none_some (ap (λ (f : Interface). f.halves) (wipe_under s u w z)) e))) ∙ e);
    right = λ w x y m e. C.right w x y m (sym (ap (λ (f : Interface). f.halves) (still w (λ z. none_some (ap (λ (f : Interface). f.halves) (wipe_under s u w z)) e))) ∙ e);
  }
    where
      still : (w : ℕ) → (top s w ≡ u → ⊥) → interface (wipe s u) w ≡ interface s w
      still w q = wipe_else s u w q

  pub deed_closed : (c : Call) → Own p c → first (tests_of s c) ≡ 0 → Closed p (deed_of s c)
  unfolding deed_of tests_of
  deed_closed (Defect u v) k e = closed_quiet p s _ C (defect_quiet s u v)
  deed_closed (Blossom u hs ts) k e = closed_quiet p s _ C (blossom_quiet s u hs ts)
  deed_closed (Expand u h) k e = closed_quiet p s _ C (expand_quiet s h)
  deed_closed (SetState u h t) k e = closed_quiet p s _ C (mark_quiet s h t None)
  deed_closed (Grow u l) k e = closed_same p s _ C (grow_parent s u l) (grow_halves s u l)
  deed_closed (Fuse q l r) k e = fuse_closed q l r (fusable s q l r e) (k.units q (here refl)) (k.units l (there (here refl))) (k.units r (there (there (here refl))))
  deed_closed (Clear u) k e = clear_closed u
  deed_closed (Mark u t) k e = closed_quiet p s _ C (choose_quiet s u t)

  pub deed_held : Held p s → (c : Call) → Own p c → Held p (deed_of s c)
  deed_held H c k = subst (λ (d : Call). Faces p (keep p) (deed_of s c) (deed_of s d)) (call_kept p c k) (deed_faces p (keep p) s s C H (keep_names p) H refl c k)
