-- What a bench says of its interfaces and slots after a slot was changed (`place`), a node marked (`mark`, `mark_all`) or a slot added (`push`).
-- Each law is of one field; the definitions stay shut for whoever cites these. Assumes nothing.
use Rattle.std.specs.Prelude.{None, Option, Some}
use Prim.Native.Nat.{ℕ, zero, suc, ◌≤◌, ◌<◌, max}
use mathlib.Core.Path.{◌≡◌, refl, sym, ◌∙◌, ap, ap₂, subst}
use mathlib.Core.Logic.{◌≢◌}
use mathlib.Core.List.{List, [], ◌∷◌}
use native.Mathlib.Omega.{arith}
use native.Mathlib.Decide.{ℕ_discrete, dec_lt}
use lib.ListN.{get_or, length, set, length-set, get_or-eq_default}
use lib.Seq.{get_or-set_same, get_or-set_other, set_out}
use lib.IntN.{ℤ, ◌+ℤ◌, ◌-ℤ◌}
use Rattle.ledger_spec.specs.Bench.{Handle, State, rate, Node, Interface, Bench, fresh, with_slots, with_speed}
use Rattle.ledger_spec.specs.Look.{interface, slot_of, top}
use Rattle.ledger_spec.specs.Change.{share, with_interface, faster, place, put, push, restate, mark, mark_all}
use Rattle.ledger_spec.specs.Knit.{In, here, there}
use Rattle.ledger_spec.proofs.Interfaces.{put_here, put_else, put_kept}
use Rattle.ledger_spec.proofs.Slots.{put_at, put_off, put_count}

-- no interface, no node
pub slot_out : (b : Bench) (u s : ℕ) → length b.interfaces ≤ u → slot_of b u s ≡ None
slot_out b u s h = ap (λ (f : Interface). get_or f.slots s None) (get_or-eq_default b.interfaces fresh h)

-- ---- a slot changed
module _ (b : Bench) (u s : ℕ) (y : Option Node) where
  abbrev one : Bench
  one = with_interface b u (with_slots (interface b u) (set (interface b u).slots s y))

  -- any field but the slots and the speed
  pub place_field : {X : Type 0} (φ : Interface → X) → ((f : Interface) (l : List (Option Node)) → φ (with_slots f l) ≡ φ f) → ((f : Interface) (x : ℤ) → φ (with_speed f x) ≡ φ f)
      → (w : ℕ) → φ (interface (place b u s y) w) ≡ φ (interface b w)
  unfolding place faster
  place_field φ p q w = put_kept φ one (top b u) _ (q _ _) w ∙ put_kept φ b u _ (p _ _) w

  -- an interface that is neither the slot's nor its top, whole
  pub place_aside : (w : ℕ) → w ≢ u → w ≢ top b u → interface (place b u s y) w ≡ interface b w
  unfolding place faster
  place_aside w p q = put_else (λ f. f) one (top b u) _ w q ∙ put_else (λ f. f) b u _ w p

  pub place_else : (w : ℕ) → w ≢ u → (interface (place b u s y) w).slots ≡ (interface b w).slots
  unfolding place faster
  place_else w q = put_kept (λ f. f.slots) one (top b u) _ refl w ∙ put_else (λ f. f.slots) b u _ w q

  pub place_here : u < length b.interfaces → (interface (place b u s y) u).slots ≡ set (interface b u).slots s y
  unfolding place faster
  place_here h = put_kept (λ f. f.slots) one (top b u) _ refl u ∙ put_here (λ f. f.slots) b u _ h

  pub place_slow : (w : ℕ) → w ≢ top b u → (interface (place b u s y) w).speed ≡ (interface b w).speed
  unfolding place faster
  place_slow w q = put_else (λ f. f.speed) one (top b u) _ w q ∙ put_kept (λ f. f.speed) b u _ refl w

  pub place_fast : top b u < length b.interfaces → (interface (place b u s y) (top b u)).speed ≡ (interface b (top b u)).speed +ℤ (share y -ℤ share (slot_of b u s))
  unfolding place faster
  place_fast h = put_here (λ f. f.speed) one (top b u) _ (subst (λ (n : ℕ). top b u < n) (sym (length-set b.interfaces u _)) h)
      ∙ ap (λ (x : ℤ). x +ℤ (share y -ℤ share (slot_of b u s))) (put_kept (λ f. f.speed) b u _ refl (top b u))

  pub place_length : length (place b u s y).interfaces ≡ length b.interfaces
  unfolding place faster
  place_length = simp length-set

  pub place_next : (place b u s y).next ≡ b.next
  unfolding place faster
  place_next = refl

  pub place_plain : (place b u s y).plain ≡ b.plain
  unfolding place faster
  place_plain = refl

  -- where it is placed: y, if there is such a slot
  pub place_at : (slot_of b u s ≡ None → y ≡ None) → slot_of (place b u s y) u s ≡ y
  place_at fit = go (dec_lt u (length b.interfaces)) (dec_lt s (length (interface b u).slots))
    where
      go : Dec (u < length b.interfaces) → Dec (s < length (interface b u).slots) → slot_of (place b u s y) u s ≡ y
      go (yes h) (yes k) = ap (λ (l : List (Option Node)). get_or l s None) (place_here h) ∙ get_or-set_same (interface b u).slots s y None k
      go (yes h) (no k) = ap (λ (l : List (Option Node)). get_or l s None) (place_here h) ∙ ap (λ (l : List (Option Node)). get_or l s None) (set_out (interface b u).slots s y (omega arith)) ∙ bare ∙ sym (fit bare)
        where
          bare : slot_of b u s ≡ None
          bare = get_or-eq_default (interface b u).slots None (omega arith)
      go (no h) k = slot_out (place b u s y) u s (omega (arith, h, place_length)) ∙ sym (fit (slot_out b u s (omega arith)))

  pub place_off : (w t : ℕ) → (u ≡ w → s ≡ t → ⊥) → slot_of (place b u s y) w t ≡ slot_of b w t
  place_off w t off = go (ℕ_discrete w u) (dec_lt u (length b.interfaces))
    where
      go : Dec (w ≡ u) → Dec (u < length b.interfaces) → slot_of (place b u s y) w t ≡ slot_of b w t
      go (yes e) (yes h) = subst (λ (z : ℕ). slot_of (place b u s y) z t ≡ slot_of b z t) (sym e) (ap (λ (l : List (Option Node)). get_or l t None) (place_here h) ∙ get_or-set_other (interface b u).slots s t y None (λ z. off (sym e) (sym z)))
      go (yes e) (no h) = slot_out (place b u s y) w t (omega (arith, h, e, place_length)) ∙ sym (slot_out b w t (omega arith))
      go (no e) h = ap (λ (l : List (Option Node)). get_or l t None) (place_else w e)

  -- how many slots an interface has
  pub place_count : (w : ℕ) → length (interface (place b u s y) w).slots ≡ length (interface b w).slots
  place_count w = go (ℕ_discrete w u) (dec_lt u (length b.interfaces))
    where
      go : Dec (w ≡ u) → Dec (u < length b.interfaces) → length (interface (place b u s y) w).slots ≡ length (interface b w).slots
      go (yes e) (yes h) = subst (λ (z : ℕ). length (interface (place b u s y) z).slots ≡ length (interface b z).slots) (sym e) (ap length (place_here h) ∙ length-set (interface b u).slots s y)
      go (yes e) (no h) = ap (λ (f : Interface). length f.slots) (get_or-eq_default (place b u s y).interfaces fresh (omega (arith, h, e, place_length)) ∙ sym (get_or-eq_default b.interfaces fresh (omega arith)))
      go (no e) h = ap length (place_else w e)

-- ---- a node marked
restate_none : (o : Option Node) (s : State) (p : Option Handle) → o ≡ None → restate o s p ≡ None
restate_none o s p e = ap (λ (x : Option Node). restate x s p) e

restate_twice : (o : Option Node) (s : State) (p : Option Handle) → restate (restate o s p) s p ≡ restate o s p
restate_twice None s p = refl
restate_twice (Some n) s p = refl

module _ (b : Bench) (h : Handle) (s : State) (p : Option Handle) where
  pub mark_field : {X : Type 0} (φ : Interface → X) → ((f : Interface) (l : List (Option Node)) → φ (with_slots f l) ≡ φ f) → ((f : Interface) (x : ℤ) → φ (with_speed f x) ≡ φ f)
      → (w : ℕ) → φ (interface (mark b h s p) w) ≡ φ (interface b w)
  unfolding mark
  mark_field φ x y w = place_field b h.unit h.slot _ φ x y w

  pub mark_aside : (w : ℕ) → w ≢ h.unit → w ≢ top b h.unit → interface (mark b h s p) w ≡ interface b w
  unfolding mark
  mark_aside w x y = place_aside b h.unit h.slot _ w x y

  pub mark_at : slot_of (mark b h s p) h.unit h.slot ≡ restate (slot_of b h.unit h.slot) s p
  unfolding mark
  mark_at = place_at b h.unit h.slot _ (restate_none (slot_of b h.unit h.slot) s p)

  pub mark_off : (u t : ℕ) → (h.unit ≡ u → h.slot ≡ t → ⊥) → slot_of (mark b h s p) u t ≡ slot_of b u t
  unfolding mark
  mark_off u t off = place_off b h.unit h.slot _ u t off

  pub mark_count : (u : ℕ) → length (interface (mark b h s p) u).slots ≡ length (interface b u).slots
  unfolding mark
  mark_count u = place_count b h.unit h.slot _ u

  pub mark_slow : (w : ℕ) → w ≢ top b h.unit → (interface (mark b h s p) w).speed ≡ (interface b w).speed
  unfolding mark
  mark_slow w q = place_slow b h.unit h.slot _ w q

  pub mark_fast : top b h.unit < length b.interfaces → (interface (mark b h s p) (top b h.unit)).speed
      ≡ (interface b (top b h.unit)).speed +ℤ (share (restate (slot_of b h.unit h.slot) s p) -ℤ share (slot_of b h.unit h.slot))
  unfolding mark
  mark_fast q = place_fast b h.unit h.slot _ q

  pub mark_length : length (mark b h s p).interfaces ≡ length b.interfaces
  unfolding mark
  mark_length = place_length b h.unit h.slot _

  pub mark_next : (mark b h s p).next ≡ b.next
  unfolding mark
  mark_next = place_next b h.unit h.slot _

  pub mark_plain : (mark b h s p).plain ≡ b.plain
  unfolding mark
  mark_plain = place_plain b h.unit h.slot _

-- ---- nodes marked one after the other
module _ (s : State) (p : Option Handle) where
  pub mark_all_field : {X : Type 0} (φ : Interface → X) → ((f : Interface) (l : List (Option Node)) → φ (with_slots f l) ≡ φ f) → ((f : Interface) (x : ℤ) → φ (with_speed f x) ≡ φ f)
      → (b : Bench) (hs : List Handle) (w : ℕ) → φ (interface (mark_all b hs s p) w) ≡ φ (interface b w)
  unfolding mark_all
  mark_all_field φ x y b [] w = refl
  mark_all_field φ x y b (h ∷ hs) w = mark_all_field φ x y (mark b h s p) hs w ∙ mark_field b h s p φ x y w

  pub mark_all_off : (b : Bench) (hs : List Handle) (u t : ℕ) → ((h : Handle) → In h hs → h.unit ≡ u → h.slot ≡ t → ⊥) → slot_of (mark_all b hs s p) u t ≡ slot_of b u t
  unfolding mark_all
  mark_all_off b [] u t off = refl
  mark_all_off b (g ∷ hs) u t off = mark_all_off (mark b g s p) hs u t (λ h i. off h (there i)) ∙ mark_off b g s p u t (off g (here refl))

  -- once marked, so it stays
  mark_all_fix : (b : Bench) (hs : List Handle) (u t : ℕ) (o : Option Node) → slot_of b u t ≡ restate o s p → slot_of (mark_all b hs s p) u t ≡ restate o s p
  unfolding mark_all
  mark_all_fix b [] u t o e = e
  mark_all_fix b (g ∷ hs) u t o e = mark_all_fix (mark b g s p) hs u t o (go (ℕ_discrete g.unit u) (ℕ_discrete g.slot t))
    where
      go : Dec (g.unit ≡ u) → Dec (g.slot ≡ t) → slot_of (mark b g s p) u t ≡ restate o s p
      go (yes x) (yes y) = ap₂ (slot_of (mark b g s p)) (sym x) (sym y) ∙ mark_at b g s p ∙ ap (λ (z : Option Node). restate z s p) (ap₂ (slot_of b) x y ∙ e) ∙ restate_twice o s p
      go (yes x) (no y) = mark_off b g s p u t (λ a c. y c) ∙ e
      go (no x) y = mark_off b g s p u t (λ a c. x a) ∙ e

  pub mark_all_at : (h : Handle) (b : Bench) (hs : List Handle) → In h hs → slot_of (mark_all b hs s p) h.unit h.slot ≡ restate (slot_of b h.unit h.slot) s p
  unfolding mark_all
  mark_all_at h b hs (here {g} {hs = tl} e) = mark_all_fix (mark b g s p) tl h.unit h.slot (slot_of b h.unit h.slot)
      (subst (λ (z : Handle). slot_of (mark b g s p) z.unit z.slot ≡ restate (slot_of b z.unit z.slot) s p) (sym e) (mark_at b g s p))
  mark_all_at h b hs (there {g} {hs = tl} i) = go (ℕ_discrete g.unit h.unit) (ℕ_discrete g.slot h.slot) (mark_all_at h (mark b g s p) tl i)
    where
      off : (g.unit ≡ h.unit → g.slot ≡ h.slot → ⊥) → slot_of (mark_all (mark b g s p) tl s p) h.unit h.slot ≡ restate (slot_of (mark b g s p) h.unit h.slot) s p → slot_of (mark_all (mark b g s p) tl s p) h.unit h.slot ≡ restate (slot_of b h.unit h.slot) s p
      off k ih = ih ∙ ap (λ (z : Option Node). restate z s p) (mark_off b g s p h.unit h.slot k)

      go : Dec (g.unit ≡ h.unit) → Dec (g.slot ≡ h.slot) → slot_of (mark_all (mark b g s p) tl s p) h.unit h.slot ≡ restate (slot_of (mark b g s p) h.unit h.slot) s p → slot_of (mark_all (mark b g s p) tl s p) h.unit h.slot ≡ restate (slot_of b h.unit h.slot) s p
      go (yes x) (yes y) ih = mark_all_fix (mark b g s p) tl h.unit h.slot (slot_of b h.unit h.slot)
          (ap₂ (slot_of (mark b g s p)) (sym x) (sym y) ∙ mark_at b g s p ∙ ap (λ (z : Option Node). restate z s p) (ap₂ (slot_of b) x y))
      go (yes x) (no y) ih = off (λ a c. y c) ih
      go (no x) y ih = off (λ a c. x a) ih

  pub mark_all_count : (b : Bench) (hs : List Handle) (u : ℕ) → length (interface (mark_all b hs s p) u).slots ≡ length (interface b u).slots
  unfolding mark_all
  mark_all_count b [] u = refl
  mark_all_count b (g ∷ hs) u = mark_all_count (mark b g s p) hs u ∙ mark_count b g s p u

  pub mark_all_length : (b : Bench) (hs : List Handle) → length (mark_all b hs s p).interfaces ≡ length b.interfaces
  unfolding mark_all
  mark_all_length b [] = refl
  mark_all_length b (g ∷ hs) = mark_all_length (mark b g s p) hs ∙ mark_length b g s p

  pub mark_all_next : (b : Bench) (hs : List Handle) → (mark_all b hs s p).next ≡ b.next
  unfolding mark_all
  mark_all_next b [] = refl
  mark_all_next b (g ∷ hs) = mark_all_next (mark b g s p) hs ∙ mark_next b g s p

  pub mark_all_plain : (b : Bench) (hs : List Handle) → (mark_all b hs s p).plain ≡ b.plain
  unfolding mark_all
  mark_all_plain b [] = refl
  mark_all_plain b (g ∷ hs) = mark_all_plain (mark b g s p) hs ∙ mark_plain b g s p

  -- a slot that holds nothing holds nothing still
  pub mark_all_none : (b : Bench) (hs : List Handle) (u t : ℕ) → slot_of b u t ≡ None → slot_of (mark_all b hs s p) u t ≡ None
  mark_all_none b hs u t e = mark_all_fix b hs u t None e

-- ---- a node put at a free slot
module _ (b : Bench) (u t : ℕ) (n : Node) where
  abbrev more : Bench
  more = with_interface b u (with_slots (interface b u) (put (interface b u).slots t n))

  pub push_field : {X : Type 0} (φ : Interface → X) → ((f : Interface) (l : List (Option Node)) → φ (with_slots f l) ≡ φ f) → ((f : Interface) (x : ℤ) → φ (with_speed f x) ≡ φ f)
      → (w : ℕ) → φ (interface (push b u t n) w) ≡ φ (interface b w)
  unfolding push faster
  push_field φ p q w = put_kept φ more u _ (q _ _) w ∙ put_kept φ b u _ (p _ _) w

  -- any other interface, whole
  pub push_aside : (w : ℕ) → w ≢ u → interface (push b u t n) w ≡ interface b w
  unfolding push faster
  push_aside w q = put_else (λ f. f) more u _ w q ∙ put_else (λ f. f) b u _ w q

  pub push_else : (w : ℕ) → w ≢ u → (interface (push b u t n) w).slots ≡ (interface b w).slots
  push_else w q = ap (λ (f : Interface). f.slots) (push_aside w q)

  pub push_here : u < length b.interfaces → (interface (push b u t n) u).slots ≡ put (interface b u).slots t n
  unfolding push faster
  push_here h = put_kept (λ f. f.slots) more u _ refl u ∙ put_here (λ f. f.slots) b u _ h

  pub push_slow : (w : ℕ) → w ≢ u → (interface (push b u t n) w).speed ≡ (interface b w).speed
  push_slow w q = ap (λ (f : Interface). f.speed) (push_aside w q)

  pub push_fast : u < length b.interfaces → (interface (push b u t n) u).speed ≡ (interface b u).speed +ℤ rate n.state
  unfolding push faster
  push_fast h = put_here (λ f. f.speed) more u _ (subst (λ (m : ℕ). u < m) (sym (length-set b.interfaces u _)) h)
      ∙ ap (λ (x : ℤ). x +ℤ rate n.state) (put_kept (λ f. f.speed) b u _ refl u)

  pub push_length : length (push b u t n).interfaces ≡ length b.interfaces
  unfolding push faster
  push_length = simp length-set

  pub push_next : (push b u t n).next ≡ suc b.next
  unfolding push faster
  push_next = refl

  pub push_plain : (push b u t n).plain ≡ b.plain
  unfolding push faster
  push_plain = refl

  pub push_count : u < length b.interfaces → t ≤ length (interface b u).slots → length (interface (push b u t n) u).slots ≡ max (length (interface b u).slots) (suc t)
  push_count h x = ap length (push_here h) ∙ put_count (interface b u).slots t n x

  pub push_at : u < length b.interfaces → t ≤ length (interface b u).slots → slot_of (push b u t n) u t ≡ Some n
  push_at h x = ap (λ (l : List (Option Node)). get_or l t None) (push_here h) ∙ put_at (interface b u).slots t n x

  pub push_off : u < length b.interfaces → t ≤ length (interface b u).slots → (w v : ℕ) → (w ≡ u → v ≡ t → ⊥) → slot_of (push b u t n) w v ≡ slot_of b w v
  push_off h x w v off = go (ℕ_discrete w u)
    where
      go : Dec (w ≡ u) → slot_of (push b u t n) w v ≡ slot_of b w v
      go (yes e) = subst (λ (z : ℕ). slot_of (push b u t n) z v ≡ slot_of b z v) (sym e) (ap (λ (l : List (Option Node)). get_or l v None) (push_here h) ∙ put_off (interface b u).slots t n x v (λ z. off e z))
      go (no e) = ap (λ (l : List (Option Node)). get_or l v None) (push_else w e)
