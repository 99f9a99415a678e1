-- A bench whose interfaces of one patch are another's, with serials renamed: every step of a call keeps it so. No step looks at a serial. Assumes nothing.
use Rattle.std.specs.Prelude.{None, Option, Some}
use Prim.Native.Nat.{ℕ, zero, suc, ◌≤◌, ◌<◌}
use mathlib.Core.Path.{◌≡◌, refl, sym, ◌∙◌, ap, ap₂, subst}
use mathlib.Core.Logic.{◌⊎◌, inl, inr}
use mathlib.Core.Bool.{Bool, true, false, true≢false}
use mathlib.Core.List.{List, [], ◌∷◌, map}
use native.Mathlib.Omega.{arith}
use native.Mathlib.Decide.{ℕ_discrete, dec_lt}
use lib.Dec.{eqb}
use lib.ListN.{get_or, length, set, length-set, get_or-map, get_or-eq_default}
use lib.IntN.{ℤ, pos, ◌+ℤ◌, ◌-ℤ◌}
use Rattle.ledger_spec.specs.Bench.{Handle, State, rate, Node, Interface, Bench, fresh, Marking, with_floor, with_mark, with_slots, with_progress, with_sum, with_speed, with_parent, with_halves, with_marks}
use Rattle.ledger_spec.specs.Look.{interface, slot_of, climb, top}
use Rattle.ledger_spec.specs.Change.{share, with_interface, faster, place, put, push, restate, mark, mark_all}
use Rattle.ledger_spec.specs.Deeds.{grow_by, booked, join, choose, wipe}
use Rattle.ledger_spec.specs.Tests.{is_some}
use Rattle.ledger_spec.specs.Frame.{Frame}
use Rattle.ledger_spec.specs.Knit.{In, here, there}
use Rattle.ledger_spec.proofs.Interfaces.{put_here, put_else, put_out}
use Rattle.ledger_spec.proofs.Tops.{climb_none, climb_some}
use Rattle.ledger_spec.proofs.TreeReadings.{in_tree, at_top, grow_interface, grow_length, wipe_under, wipe_else, wipe_length}
use Rattle.ledger_laws.proofs.Quiet.{Quiet, mark_quiet}
use Rattle.patch_laws.specs.Patch.{Patch, mine}
use Rattle.patch_laws.proofs.Renamed.{Renaming, re_parent, re_node, re_slot, re_face, map_set, re_share, re_put, re_restate, re_grows}

-- the patch's interfaces of b are those of s, renamed
pub record Faces (p : Patch) (R : Renaming) (s b : Bench) : Type 0 where
  pub long : length b.interfaces ≡ length s.interfaces
  pub face : (w : ℕ) → mine p w ≡ true → interface b w ≡ re_face R (interface s w)

-- a handle of the patch keeps its place
abbrev pub Plain : Patch → Renaming → Type 0
Plain p R = (h : Handle) → mine p h.unit ≡ true → R.handle h ≡ record { unit = h.unit; slot = h.slot; serial = R.serial h.serial }

-- what the patch's interfaces are linked to is the patch's
pub record Closed (p : Patch) (s : Bench) : Type 0 where
  pub up : (w q : ℕ) → mine p w ≡ true → (interface s w).parent ≡ Some q → mine p q ≡ true
  pub left : (w l r : ℕ) → mine p w ≡ true → (interface s w).halves ≡ Some (l, r) → mine p l ≡ true
  pub right : (w l r : ℕ) → mine p w ≡ true → (interface s w).halves ≡ Some (l, r) → mine p r ≡ true

module _ (p : Patch) (s s' : Bench) (C : Closed p s) where
  pub closed_same : ((w : ℕ) → (interface s' w).parent ≡ (interface s w).parent) → ((w : ℕ) → (interface s' w).halves ≡ (interface s w).halves) → Closed p s'
  closed_same ps hs = record {
    up = λ w q m e. C.up w q m (sym (ps w) ∙ e);
    left = λ w l r m e. C.left w l r m (sym (hs w) ∙ e);
    right = λ w l r m e. C.right w l r m (sym (hs w) ∙ e);
  }

  pub closed_quiet : Quiet s s' → Closed p s'
  closed_quiet q = closed_same q.parent q.halves

-- ---- tops
module _ (p : Patch) (s : Bench) (C : Closed p s) where
  pub climb_mine : (k w : ℕ) → mine p w ≡ true → mine p (climb k s w) ≡ true
  unfolding climb
  climb_mine zero w m = m
  climb_mine (suc k) w m = go (interface s w).parent refl (climb_mine k)
    where
      go : (o : Option ℕ) → (interface s w).parent ≡ o → ((q : ℕ) → mine p q ≡ true → mine p (climb k s q) ≡ true) → mine p (climb (suc k) s w) ≡ true
      go None e ih = subst (λ (t : ℕ). mine p t ≡ true) (sym (climb_none (suc k) s w e)) m
      go (Some q) e ih = subst (λ (t : ℕ). mine p t ≡ true) (sym (climb_some k s w q e)) (ih q (C.up w q m e))

module _ (p : Patch) (R : Renaming) (s b : Bench) (C : Closed p s) (F : Faces p R s b) where
  pub climb_faces : (k w : ℕ) → mine p w ≡ true → climb k b w ≡ climb k s w
  unfolding climb
  climb_faces zero w m = refl
  climb_faces (suc k) w m = go (interface s w).parent refl (climb_faces k)
    where
      now : (interface b w).parent ≡ (interface s w).parent
      now = ap (λ (f : Interface). f.parent) (F.face w m)

      go : (o : Option ℕ) → (interface s w).parent ≡ o → ((q : ℕ) → mine p q ≡ true → climb k b q ≡ climb k s q) → climb (suc k) b w ≡ climb (suc k) s w
      go None e ih = climb_none (suc k) b w (now ∙ e) ∙ sym (climb_none (suc k) s w e)
      go (Some q) e ih = climb_some k b w q (now ∙ e) ∙ ih q (C.up w q m e) ∙ sym (climb_some k s w q e)

  pub top_faces : (w : ℕ) → mine p w ≡ true → top b w ≡ top s w
  top_faces w m = climb_faces 8 w m

-- ---- and back: what stands under an interface of the patch is the patch's
pub climb_back : (p : Patch) (b : Bench) → Frame b → ((q l r : ℕ) → mine p q ≡ true → (interface b q).halves ≡ Some (l, r) → (mine p l ≡ true) × (mine p r ≡ true))
    → (k w : ℕ) → mine p (climb k b w) ≡ true → mine p w ≡ true
unfolding climb
climb_back p b F H zero w m = m
climb_back p b F H (suc k) w m = go (interface b w).parent refl (climb_back p b F H k)
  where
    go : (o : Option ℕ) → (interface b w).parent ≡ o → ((q : ℕ) → mine p (climb k b q) ≡ true → mine p q ≡ true) → mine p w ≡ true
    go None e ih = subst (λ (t : ℕ). mine p t ≡ true) (climb_none (suc k) b w e) m
    go (Some q) e ih = halves (interface b q).halves refl
      where
        above : mine p q ≡ true
        above = ih q (subst (λ (t : ℕ). mine p t ≡ true) (climb_some k b w q e) m)

        halves : (o : Option (ℕ × ℕ)) → (interface b q).halves ≡ o → mine p w ≡ true
        halves None f = absurd (true≢false (sym (F.linked w q e) ∙ ap is_some f))
        halves (Some lr) f = side (F.up w q lr.0 lr.1 e f)
          where
            side : (w ≡ lr.0) ⊎ (w ≡ lr.1) → mine p w ≡ true
            side (inl x) = subst (λ (z : ℕ). mine p z ≡ true) (sym x) (H q lr.0 lr.1 above f).0
            side (inr x) = subst (λ (z : ℕ). mine p z ≡ true) (sym x) (H q lr.0 lr.1 above f).1

-- ---- an interface put in another's place, on both benches
module _ (p : Patch) (R : Renaming) where
  pub slot_faces : (s b : Bench) → Faces p R s b → (u k : ℕ) → mine p u ≡ true → slot_of b u k ≡ re_slot R (slot_of s u k)
  slot_faces s b F u k m = ap (λ (f : Interface). get_or f.slots k None) (F.face u m) ∙ get_or-map (re_slot R) (interface s u).slots k None

  pub put_faces : (s b : Bench) → Faces p R s b → (u : ℕ) (f f' : Interface) → f' ≡ re_face R f → Faces p R (with_interface s u f) (with_interface b u f')
  put_faces s b F u f f' e = record {
    long = length-set b.interfaces u f' ∙ F.long ∙ sym (length-set s.interfaces u f);
    face = λ w m. go w m (ℕ_discrete w u) (dec_lt u (length s.interfaces));
  }
    where
      go : (w : ℕ) → mine p w ≡ true → Dec (w ≡ u) → Dec (u < length s.interfaces) → interface (with_interface b u f') w ≡ re_face R (interface (with_interface s u f) w)
      go w m (yes q) (yes h) = subst (λ (z : ℕ). interface (with_interface b u f') z ≡ re_face R (interface (with_interface s u f) z)) (sym q)
          (put_here (λ x. x) b u f' (omega (arith, h, F.long)) ∙ e ∙ ap (re_face R) (sym (put_here (λ x. x) s u f h)))
      go w m (yes q) (no h) = ap (λ (c : Bench). interface c w) (put_out (λ x. x) b u f' (omega (arith, h, F.long))) ∙ F.face w m ∙ ap (λ (c : Bench). re_face R (interface c w)) (sym (put_out (λ x. x) s u f (omega arith)))
      go w m (no q) h = put_else (λ x. x) b u f' w q ∙ F.face w m ∙ ap (re_face R) (sym (put_else (λ x. x) s u f w q))

  pub faster_faces : (s b : Bench) → Faces p R s b → (u : ℕ) (v : ℤ) → mine p u ≡ true → Faces p R (faster s u v) (faster b u v)
  unfolding faster
  faster_faces s b F u v m = put_faces s b F u _ _ (ap (λ (f : Interface). with_speed f (f.speed +ℤ v)) (F.face u m))

  pub place_faces : (s b : Bench) → Closed p s → Faces p R s b → (u k : ℕ) (y y' : Option Node) → mine p u ≡ true → y' ≡ re_slot R y → Faces p R (place s u k y) (place b u k y')
  unfolding place
  place_faces s b C F u k y y' m e = subst (λ (z : Bench). Faces p R (faster s₁ (top s u) v) z) (sym (ap₂ (faster b₁) (top_faces p R s b C F u m) speed))
      (faster_faces s₁ b₁ inner (top s u) v (climb_mine p s C 8 u m))
    where
      s₁ : Bench
      s₁ = with_interface s u (with_slots (interface s u) (set (interface s u).slots k y))

      b₁ : Bench
      b₁ = with_interface b u (with_slots (interface b u) (set (interface b u).slots k y'))

      v : ℤ
      v = share y -ℤ share (slot_of s u k)

      inner : Faces p R s₁ b₁
      inner = put_faces s b F u _ _ (ap₂ (λ (f : Interface) (z : Option Node). with_slots f (set f.slots k z)) (F.face u m) e ∙ ap (with_slots (re_face R (interface s u))) (sym (map_set (re_slot R) (interface s u).slots k y)))

      speed : share y' -ℤ share (slot_of b u k) ≡ v
      speed = ap₂ ◌-ℤ◌ (ap share e ∙ re_share R y) (ap share (slot_faces s b F u k m) ∙ re_share R (slot_of s u k))

  mark_place : (s b : Bench) → Closed p s → Faces p R s b → (h : Handle) (k : ℕ) (t : State) (q : Option Handle) → mine p h.unit ≡ true
      → Faces p R (mark s h t q) (mark b (record { unit = h.unit; slot = h.slot; serial = k }) t (re_parent R q))
  unfolding mark
  mark_place s b C F h k t q m = place_faces s b C F h.unit h.slot _ _ m (ap (λ (o : Option Node). restate o t (re_parent R q)) (slot_faces s b F h.unit h.slot m) ∙ re_restate R (slot_of s h.unit h.slot) t q)

  pub mark_faces : Plain p R → (s b : Bench) → Closed p s → Faces p R s b → (h : Handle) (t : State) (q : Option Handle) → mine p h.unit ≡ true
      → Faces p R (mark s h t q) (mark b (R.handle h) t (re_parent R q))
  mark_faces N s b C F h t q m = subst (λ (g : Handle). Faces p R (mark s h t q) (mark b g t (re_parent R q))) (sym (N h m)) (mark_place s b C F h (R.serial h.serial) t q m)

  pub mark_all_faces : Plain p R → (s b : Bench) → Closed p s → Faces p R s b → (hs : List Handle) (t : State) (q : Option Handle) → ((h : Handle) → In h hs → mine p h.unit ≡ true)
      → Faces p R (mark_all s hs t q) (mark_all b (map R.handle hs) t (re_parent R q))
  unfolding mark_all
  mark_all_faces N s b C F [] t q m = F
  mark_all_faces N s b C F (h ∷ hs) t q m = mark_all_faces N (mark s h t q) (mark b (R.handle h) t (re_parent R q)) (closed_quiet p s (mark s h t q) C (mark_quiet s h t q)) (mark_faces N s b C F h t q (m h (here refl))) hs t q (λ g i. m g (there i))

  pub push_faces : (s b : Bench) → Faces p R s b → (u t : ℕ) (n n' : Node) → mine p u ≡ true → n' ≡ re_node R n → Faces p R (push s u t n) (push b u t n')
  unfolding push
  push_faces s b F u t n n' m e = subst (λ (x : Node). Faces p R (push s u t n) (push b u t x)) (sym e) (faster_faces _ _ (record { long = inner.long; face = inner.face }) u (rate n.state) m)
    where
      inner : Faces p R (with_interface s u (with_slots (interface s u) (put (interface s u).slots t n))) (with_interface b u (with_slots (interface b u) (put (interface b u).slots t (re_node R n))))
      inner = put_faces s b F u _ _ (ap (λ (f : Interface). with_slots f (put f.slots t (re_node R n))) (F.face u m) ∙ ap (with_slots (re_face R (interface s u))) (re_put R (interface s u).slots t n))

  -- ---- fusing
  pub join_faces : (s b : Bench) → Faces p R s b → (q l r : ℕ) → mine p q ≡ true → mine p l ≡ true → mine p r ≡ true → Faces p R (join s q l r) (join b q l r)
  unfolding join
  join_faces s b F q l r mq ml mr = put_faces _ _ (put_faces _ _ (put_faces s b F l _ _ (ap (λ (f : Interface). with_parent f (Some q)) (F.face l ml))) r _ _ (ap (λ (f : Interface). with_parent f (Some q)) (F.face r mr))) q _ _
      (λ i. with_marks (with_halves (with_speed (with_sum (with_progress (with_parent (F.face q mq i) None) (pos 0)) ((F.face l ml i).sum +ℤ (F.face r mr i).sum)) ((F.face l ml i).speed +ℤ (F.face r mr i).speed)) (Some (l, r)))
      (with_floor (F.face q mq i).marks (F.face l ml i).marks.floored))

  -- ---- a mark
  pub choose_faces : (s b : Bench) → Faces p R s b → (u : ℕ) (k : Marking) → mine p u ≡ true → Faces p R (choose s u k) (choose b u k)
  unfolding choose
  choose_faces s b F u k m = put_faces s b F u _ _ (ap (λ (f : Interface). with_marks f (with_mark k f.marks)) (F.face u m))

  -- ---- growing and clearing, a whole tree at once
  re_grown : (l : ℤ) (x y : Bool) (f : Interface) → at_top y l (in_tree x l (re_face R f)) ≡ re_face R (at_top y l (in_tree x l f))
  re_grown l true true f = ap (λ (z : List (Option Node)). booked (with_slots f z) l) (re_grows R l f.slots)
  re_grown l true false f = ap (with_slots f) (re_grows R l f.slots)
  re_grown l false true f = refl
  re_grown l false false f = refl

  out : (b : Bench) (w : ℕ) → length b.interfaces ≤ w → interface b w ≡ fresh
  out b w h = get_or-eq_default b.interfaces fresh h

  pub grow_faces : (s b : Bench) → Closed p s → Faces p R s b → (u : ℕ) (l : ℤ) → Faces p R (grow_by s u l) (grow_by b u l)
  grow_faces s b C F u l = record { long = grow_length b u l ∙ F.long ∙ sym (grow_length s u l); face = λ w m. go w m (dec_lt w (length s.interfaces)) }
    where
      go : (w : ℕ) → mine p w ≡ true → Dec (w < length s.interfaces) → interface (grow_by b u l) w ≡ re_face R (interface (grow_by s u l) w)
      go w m (yes h) = grow_interface b u l w (omega (arith, h, F.long)) (eqb (top s w) u) (eqb w u) (ap (λ (t : ℕ). eqb t u) (top_faces p R s b C F w m)) refl
          ∙ ap (λ (f : Interface). at_top (eqb w u) l (in_tree (eqb (top s w) u) l f)) (F.face w m) ∙ re_grown l (eqb (top s w) u) (eqb w u) (interface s w)
          ∙ ap (re_face R) (sym (grow_interface s u l w h (eqb (top s w) u) (eqb w u) refl refl))
      go w m (no h) = out (grow_by b u l) w (omega (arith, h, F.long, grow_length b u l)) ∙ ap (re_face R) (sym (out (grow_by s u l) w (omega (arith, h, grow_length s u l))))

  pub wipe_faces : (s b : Bench) → Closed p s → Faces p R s b → (u : ℕ) → Faces p R (wipe s u) (wipe b u)
  wipe_faces s b C F u = record { long = wipe_length b u ∙ F.long ∙ sym (wipe_length s u); face = λ w m. go w m (ℕ_discrete (top s w) u) }
    where
      go : (w : ℕ) → mine p w ≡ true → Dec (top s w ≡ u) → interface (wipe b u) w ≡ re_face R (interface (wipe s u) w)
      go w m (yes e) = wipe_under b u w (top_faces p R s b C F w m ∙ e) ∙ ap (re_face R) (sym (wipe_under s u w e))
      go w m (no e) = wipe_else b u w (λ z. e (sym (top_faces p R s b C F w m) ∙ z)) ∙ F.face w m ∙ ap (re_face R) (sym (wipe_else s u w e))
