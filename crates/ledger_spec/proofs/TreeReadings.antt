-- What a bench says of its interfaces after a tree grew (`grow_by`), two were fused (`join`) or one was cleared (`wipe`). Each law is of one
-- field or of a whole interface; the definitions stay shut for whoever cites these. Assumes nothing.
use Rattle.std.specs.Prelude.{None, Option, Some}
use Prim.Native.Nat.{ℕ, ◌<◌}
use mathlib.Core.Path.{◌≡◌, refl, sym, ◌∙◌, ap, ap₂, subst}
use mathlib.Core.Logic.{◌≢◌}
use mathlib.Core.Bool.{Bool, true, false}
use mathlib.Core.List.{List, [], map}
use native.Mathlib.Omega.{arith}
use native.Mathlib.Decide.{ℕ_discrete, dec_lt}
use lib.Dec.{eqb}
use borrow.Author.Tests.{eqb-true, eqb-false}
use lib.ListN.{get_or, length, set, length-set, length-map, get_or-eq_default, get_or-map}
use lib.IntN.{ℤ, ◌+ℤ◌, ◌*ℤ◌}
use Rattle.ledger_spec.specs.Bench.{rate, Node, Marks, Marking, with_mark, Interface, Bench, fresh, with_slots, with_parent, with_marks}
use Rattle.ledger_spec.specs.Look.{interface, slot_of, top}
use Rattle.ledger_spec.specs.Change.{with_interface}
use Rattle.ledger_spec.specs.Deeds.{grow_slot, across, booked, grow_by, fused_parent, join, wipe, choose}
use Rattle.ledger_spec.specs.Frame.{Frame}
use Rattle.ledger_spec.proofs.Interfaces.{nil_of, put_here, put_else, put_kept, across_yes, across_no, across_kept, across_length}
use Rattle.ledger_spec.proofs.Tops.{climb_same, fused_l, fused_r, fused_else, cleared_under, cleared_else}
use Rattle.ledger_spec.proofs.Passed.{Fusable}
use Rattle.ledger_spec.proofs.Readings.{slot_out}

-- ---- growing
-- what growing makes of one interface, by whether it stands in the tree and whether it is the top
abbrev pub in_tree : Bool → ℤ → Interface → Interface
in_tree true l f = with_slots f (map (grow_slot l) f.slots)
in_tree false l f = f

abbrev pub at_top : Bool → ℤ → Interface → Interface
at_top true l f = booked f l
at_top false l f = f

-- a node of the tree: only its value moves
abbrev pub grown_node : ℤ → Node → Node
grown_node l n = record { serial = n.serial; class = n.class; state = n.state; parent = n.parent; value = n.value +ℤ l *ℤ rate n.state; size = n.size }

module _ (b : Bench) (u : ℕ) (l : ℤ) where
  abbrev lift : Interface → Interface
  lift f = with_slots f (map (grow_slot l) f.slots)

  abbrev lifted : Bench
  lifted = record { next = b.next; interfaces = across lift b u 0 b.interfaces; plain = b.plain }

  -- any field but slots, progress and sum
  pub grow_field : {X : Type 0} (φ : Interface → X) → ((f : Interface) (s : List (Option Node)) → φ (with_slots f s) ≡ φ f) → ((f : Interface) → φ (booked f l) ≡ φ f)
      → (w : ℕ) → φ (interface (grow_by b u l) w) ≡ φ (interface b w)
  unfolding grow_by
  grow_field φ p q w = put_kept φ lifted u _ (q _) w ∙ across_kept φ lift (λ x. p x _) b u 0 b.interfaces w

  pub grow_parent : (w : ℕ) → (interface (grow_by b u l) w).parent ≡ (interface b w).parent
  grow_parent = grow_field (λ f. f.parent) (λ f s. refl) (λ f. refl)

  pub grow_halves : (w : ℕ) → (interface (grow_by b u l) w).halves ≡ (interface b w).halves
  grow_halves = grow_field (λ f. f.halves) (λ f s. refl) (λ f. refl)

  pub grow_marks : (w : ℕ) → (interface (grow_by b u l) w).marks ≡ (interface b w).marks
  grow_marks = grow_field (λ f. f.marks) (λ f s. refl) (λ f. refl)

  pub grow_speed : (w : ℕ) → (interface (grow_by b u l) w).speed ≡ (interface b w).speed
  grow_speed = grow_field (λ f. f.speed) (λ f s. refl) (λ f. refl)

  pub grow_top : (w : ℕ) → top (grow_by b u l) w ≡ top b w
  grow_top w = climb_same b (grow_by b u l) grow_parent 8 w

  pub grow_under : (w : ℕ) → w < length b.interfaces → top b w ≡ u → (interface (grow_by b u l) w).slots ≡ map (grow_slot l) (interface b w).slots
  unfolding grow_by
  grow_under w h e = put_kept (λ f. f.slots) lifted u _ refl w ∙ ap (λ (f : Interface). f.slots) (across_yes lift b u w h e)

  pub grow_else : (w : ℕ) → w < length b.interfaces → top b w ≢ u → (interface (grow_by b u l) w).slots ≡ (interface b w).slots
  unfolding grow_by
  grow_else w h e = put_kept (λ f. f.slots) lifted u _ refl w ∙ ap (λ (f : Interface). f.slots) (across_no lift b u w h e)

  pub grow_sum : u < length b.interfaces → (interface (grow_by b u l) u).sum ≡ (interface b u).sum +ℤ l *ℤ (interface b u).speed
  unfolding grow_by
  grow_sum h = put_here (λ f. f.sum) lifted u _ (subst (λ (m : ℕ). u < m) (sym (across_length lift b u 0 b.interfaces)) h)
      ∙ ap₂ (λ (x y : ℤ). x +ℤ l *ℤ y) (across_kept (λ f. f.sum) lift (λ x. refl) b u 0 b.interfaces u) (across_kept (λ f. f.speed) lift (λ x. refl) b u 0 b.interfaces u)

  pub grow_sum_else : (w : ℕ) → w ≢ u → (interface (grow_by b u l) w).sum ≡ (interface b w).sum
  unfolding grow_by
  grow_sum_else w q = put_else (λ f. f.sum) lifted u _ w q ∙ across_kept (λ f. f.sum) lift (λ x. refl) b u 0 b.interfaces w

  pub grow_progress : u < length b.interfaces → (interface (grow_by b u l) u).progress ≡ (interface b u).progress +ℤ l
  unfolding grow_by
  grow_progress h = put_here (λ f. f.progress) lifted u _ (subst (λ (m : ℕ). u < m) (sym (across_length lift b u 0 b.interfaces)) h)
      ∙ ap (λ (x : ℤ). x +ℤ l) (across_kept (λ f. f.progress) lift (λ f. refl) b u 0 b.interfaces u)

  pub grow_progress_else : (w : ℕ) → w ≢ u → (interface (grow_by b u l) w).progress ≡ (interface b w).progress
  unfolding grow_by
  grow_progress_else w q = put_else (λ f. f.progress) lifted u _ w q ∙ across_kept (λ f. f.progress) lift (λ f. refl) b u 0 b.interfaces w

  pub grow_length : length (grow_by b u l).interfaces ≡ length b.interfaces
  unfolding grow_by
  grow_length = simp length-set (across_length lift b u 0 b.interfaces)

  pub grow_next : (grow_by b u l).next ≡ b.next
  unfolding grow_by
  grow_next = refl

  pub grow_plain : (grow_by b u l).plain ≡ b.plain
  unfolding grow_by
  grow_plain = refl

  pub grow_count : (w : ℕ) → length (interface (grow_by b u l) w).slots ≡ length (interface b w).slots
  unfolding grow_by
  grow_count w = put_kept (λ f. length f.slots) lifted u _ refl w
      ∙ across_kept (λ f. length f.slots) lift (λ x. length-map x.slots (grow_slot l)) b u 0 b.interfaces w

  -- an empty list of slots was one before
  pub grow_bare : (w : ℕ) → (interface (grow_by b u l) w).slots ≡ [] → (interface b w).slots ≡ []
  grow_bare w e = nil_of (interface b w).slots (sym (grow_count w) ∙ ap length e)

  -- a slot of the tree, and one of another
  pub grow_at : (w v : ℕ) → top b w ≡ u → slot_of (grow_by b u l) w v ≡ grow_slot l (slot_of b w v)
  unfolding grow_slot
  grow_at w v e = go (dec_lt w (length b.interfaces))
    where
      go : Dec (w < length b.interfaces) → slot_of (grow_by b u l) w v ≡ grow_slot l (slot_of b w v)
      go (yes h) = ap (λ (s : List (Option Node)). get_or s v None) (grow_under w h e) ∙ get_or-map (grow_slot l) (interface b w).slots v None
      go (no h) = slot_out (grow_by b u l) w v (omega (arith, h, grow_length)) ∙ ap (grow_slot l) (sym (slot_out b w v (omega arith)))

  pub grow_node : (w v : ℕ) (n : Node) → top b w ≡ u → slot_of b w v ≡ Some n → slot_of (grow_by b u l) w v ≡ Some (grown_node l n)
  unfolding grow_slot
  grow_node w v n e k = grow_at w v e ∙ ap (grow_slot l) k

  pub grow_off : (w v : ℕ) → top b w ≢ u → slot_of (grow_by b u l) w v ≡ slot_of b w v
  grow_off w v e = go (dec_lt w (length b.interfaces))
    where
      go : Dec (w < length b.interfaces) → slot_of (grow_by b u l) w v ≡ slot_of b w v
      go (yes h) = ap (λ (s : List (Option Node)). get_or s v None) (grow_else w h e)
      go (no h) = slot_out (grow_by b u l) w v (omega (arith, h, grow_length)) ∙ sym (slot_out b w v (omega arith))

  -- one interface, whole
  lifted_interface : (w : ℕ) → w < length b.interfaces → (x : Bool) → eqb (top b w) u ≡ x → interface lifted w ≡ in_tree x l (interface b w)
  lifted_interface w h true e = across_yes lift b u w h (eqb-true (top b w) u e)
  lifted_interface w h false e = across_no lift b u w h (eqb-false (top b w) u e)

  pub grow_interface : (w : ℕ) → w < length b.interfaces → (x y : Bool) → eqb (top b w) u ≡ x → eqb w u ≡ y
      → interface (grow_by b u l) w ≡ at_top y l (in_tree x l (interface b w))
  unfolding grow_by
  grow_interface w h x true ex ey = subst (λ (z : ℕ). get_or (set lifted.interfaces z (booked (interface lifted z) l)) w fresh ≡ booked (interface lifted w) l) w_is
      (put_here (λ f. f) lifted w _ (omega (arith, h, across_length lift b u 0 b.interfaces)))
      ∙ ap (λ (f : Interface). booked f l) (lifted_interface w h x ex)
    where
      w_is : w ≡ u
      w_is = eqb-true w u ey
  grow_interface w h x false ex ey = put_else (λ f. f) lifted u _ w (eqb-false w u ey) ∙ lifted_interface w h x ex

-- ---- fusing
-- p is an interface, and l and r are two of lower numbers
pub record Joins (b : Bench) (p l r : ℕ) : Type 0 where
  pub inside : p < length b.interfaces
  pub l<p : l < p
  pub r<p : r < p
  pub l≢r : l ≢ r

pub joins : {b : Bench} {p l r : ℕ} → Frame b → Fusable b p l r → Joins b p l r
joins F f = record { inside = omega (arith, F.eight, f.p<8); l<p = f.l<p; r<p = f.r<p; l≢r = f.l≢r }

module _ (b : Bench) (p l r : ℕ) (j : Joins b p l r) where
  abbrev b₁ : Bench
  b₁ = with_interface b l (with_parent (interface b l) (Some p))

  abbrev b₂ : Bench
  b₂ = with_interface b₁ r (with_parent (interface b r) (Some p))

  l<n : l < length b.interfaces
  l<n = omega arith

  r<n₁ : r < length b₁.interfaces
  r<n₁ = omega (arith, length-set b.interfaces l (with_parent (interface b l) (Some p)))

  p<n₂ : p < length b₂.interfaces
  p<n₂ = omega (arith, length-set b.interfaces l (with_parent (interface b l) (Some p)), length-set b₁.interfaces r (with_parent (interface b r) (Some p)))

  l≢p : l ≢ p
  l≢p e = omega arith

  r≢p : r ≢ p
  r≢p e = omega arith

  pub join_slots : (w : ℕ) → (interface (join b p l r) w).slots ≡ (interface b w).slots
  unfolding join
  join_slots w = put_kept (λ f. f.slots) b₂ p _ (sym (two p)) w ∙ two w
    where
      two : (w : ℕ) → (interface b₂ w).slots ≡ (interface b w).slots
      two w = put_kept (λ f. f.slots) b₁ r _ (sym (put_kept (λ f. f.slots) b l _ refl r)) w ∙ put_kept (λ f. f.slots) b l _ refl w

  -- any other interface, whole
  pub join_else : (w : ℕ) → w ≢ p → w ≢ l → w ≢ r → interface (join b p l r) w ≡ interface b w
  unfolding join
  join_else w x y z = put_else (λ f. f) b₂ p _ w x ∙ put_else (λ f. f) b₁ r _ w z ∙ put_else (λ f. f) b l _ w y

  -- of l and r only the parent changes
  pub join_kept : {X : Type 0} (φ : Interface → X) → ((f : Interface) (q : ℕ) → φ (with_parent f (Some q)) ≡ φ f) → (w : ℕ) → w ≢ p → φ (interface (join b p l r) w) ≡ φ (interface b w)
  unfolding join
  join_kept φ e w x = put_else φ b₂ p _ w x ∙ put_kept φ b₁ r _ (e (interface b r) p ∙ sym (put_kept φ b l _ (e (interface b l) p) r)) w ∙ put_kept φ b l _ (e (interface b l) p) w

  pub join_l : (interface (join b p l r) l).parent ≡ Some p
  unfolding join
  join_l = put_else (λ f. f.parent) b₂ p _ l l≢p ∙ put_else (λ f. f.parent) b₁ r _ l j.l≢r ∙ put_here (λ f. f.parent) b l _ l<n

  pub join_r : (interface (join b p l r) r).parent ≡ Some p
  unfolding join
  join_r = put_else (λ f. f.parent) b₂ p _ r r≢p ∙ put_here (λ f. f.parent) b₁ r _ r<n₁

  pub join_p : interface (join b p l r) p ≡ fused_parent b p l r
  unfolding join
  join_p = put_here (λ f. f) b₂ p _ p<n₂

  pub join_length : length (join b p l r).interfaces ≡ length b.interfaces
  unfolding join
  join_length = simp length-set

  pub join_next : (join b p l r).next ≡ b.next
  unfolding join
  join_next = refl

  pub join_plain : (join b p l r).plain ≡ b.plain
  unfolding join
  join_plain = refl

  -- parents: only those of l and r change, if p had none
  pub join_rest : (interface b p).parent ≡ None → (w : ℕ) → w ≢ l → w ≢ r → (interface (join b p l r) w).parent ≡ (interface b w).parent
  join_rest p_none w x y = go (ℕ_discrete w p)
    where
      go : Dec (w ≡ p) → (interface (join b p l r) w).parent ≡ (interface b w).parent
      go (yes e) = subst (λ (z : ℕ). (interface (join b p l r) z).parent ≡ (interface b z).parent) (sym e) (ap (λ (f : Interface). f.parent) join_p ∙ sym p_none)
      go (no e) = ap (λ (f : Interface). f.parent) (join_else w e x y)

-- tops after fusing
module _ (b : Bench) (F : Frame b) (p l r : ℕ) (f : Fusable b p l r) where
  abbrev jn : Joins b p l r
  jn = joins F f

  pub join_top_l : (u : ℕ) → top b u ≡ l → top (join b p l r) u ≡ p
  join_top_l = fused_l b (join b p l r) F p l r f.l<p f.r<p f.l_none f.r_none f.p_none (join_l b p l r jn) (join_r b p l r jn) (join_rest b p l r jn f.p_none)

  pub join_top_r : (u : ℕ) → top b u ≡ r → top (join b p l r) u ≡ p
  join_top_r = fused_r b (join b p l r) F p l r f.l<p f.r<p f.l_none f.r_none f.p_none (join_l b p l r jn) (join_r b p l r jn) (join_rest b p l r jn f.p_none)

  pub join_top_else : (u : ℕ) → top b u ≢ l → top b u ≢ r → top (join b p l r) u ≡ top b u
  join_top_else = fused_else b (join b p l r) F p l r f.l<p f.r<p f.l_none f.r_none f.p_none (join_l b p l r jn) (join_r b p l r jn) (join_rest b p l r jn f.p_none)

  -- what had one top has one top
  pub join_together : (x w : ℕ) → top b x ≡ top b w → top (join b p l r) x ≡ top (join b p l r) w
  join_together x w e = go (ℕ_discrete (top b x) l) (ℕ_discrete (top b x) r)
    where
      go : Dec (top b x ≡ l) → Dec (top b x ≡ r) → top (join b p l r) x ≡ top (join b p l r) w
      go (yes a) c = join_top_l x a ∙ sym (join_top_l w (sym e ∙ a))
      go (no a) (yes c) = join_top_r x c ∙ sym (join_top_r w (sym e ∙ c))
      go (no a) (no c) = join_top_else x a c ∙ e ∙ sym (join_top_else w (λ z. a (e ∙ z)) (λ z. c (e ∙ z)))

-- ---- clearing
module _ (b : Bench) (u : ℕ) where
  pub wipe_length : length (wipe b u).interfaces ≡ length b.interfaces
  unfolding wipe
  wipe_length = across_length (λ f. fresh) b u 0 b.interfaces

  pub wipe_next : (wipe b u).next ≡ b.next
  unfolding wipe
  wipe_next = refl

  pub wipe_plain : (wipe b u).plain ≡ b.plain
  unfolding wipe
  wipe_plain = refl

  pub wipe_under : (w : ℕ) → top b w ≡ u → interface (wipe b u) w ≡ fresh
  unfolding wipe
  wipe_under w e = go (dec_lt w (length b.interfaces))
    where
      go : Dec (w < length b.interfaces) → interface (wipe b u) w ≡ fresh
      go (yes h) = across_yes (λ f. fresh) b u w h e
      go (no h) = get_or-eq_default (across (λ f. fresh) b u 0 b.interfaces) fresh (omega (arith, h, across_length (λ f. fresh) b u 0 b.interfaces))

  pub wipe_else : (w : ℕ) → top b w ≢ u → interface (wipe b u) w ≡ interface b w
  unfolding wipe
  wipe_else w e = go (dec_lt w (length b.interfaces))
    where
      go : Dec (w < length b.interfaces) → interface (wipe b u) w ≡ interface b w
      go (yes h) = across_no (λ f. fresh) b u w h e
      go (no h) = get_or-eq_default (across (λ f. fresh) b u 0 b.interfaces) fresh (omega (arith, h, across_length (λ f. fresh) b u 0 b.interfaces))
          ∙ sym (get_or-eq_default b.interfaces fresh (omega arith))

  pub wipe_top_under : Frame b → (w : ℕ) → top b w ≡ u → top (wipe b u) w ≡ w
  wipe_top_under F = cleared_under b (wipe b u) F u (λ w e. ap (λ (f : Interface). f.parent) (wipe_under w e)) (λ w e. ap (λ (f : Interface). f.parent) (wipe_else w e))

  pub wipe_top_else : Frame b → (w : ℕ) → top b w ≢ u → top (wipe b u) w ≡ top b w
  wipe_top_else F = cleared_else b (wipe b u) F u (λ w e. ap (λ (f : Interface). f.parent) (wipe_under w e)) (λ w e. ap (λ (f : Interface). f.parent) (wipe_else w e))

-- ---- marking
module _ (b : Bench) (u : ℕ) (k : Marking) where
  -- any field but the marks
  pub choose_field : {X : Type 0} (φ : Interface → X) → ((f : Interface) (m : Marks) → φ (with_marks f m) ≡ φ f) → (w : ℕ) → φ (interface (choose b u k) w) ≡ φ (interface b w)
  unfolding choose
  choose_field φ p w = put_kept φ b u _ (p _ _) w

  pub choose_here : u < length b.interfaces → (interface (choose b u k) u).marks ≡ with_mark k (interface b u).marks
  unfolding choose
  choose_here h = put_here (λ f. f.marks) b u _ h

  pub choose_else : (w : ℕ) → w ≢ u → interface (choose b u k) w ≡ interface b w
  unfolding choose
  choose_else w q = put_else (λ f. f) b u _ w q

  pub choose_length : length (choose b u k).interfaces ≡ length b.interfaces
  unfolding choose
  choose_length = simp length-set

  pub choose_next : (choose b u k).next ≡ b.next
  unfolding choose
  choose_next = refl

  pub choose_plain : (choose b u k).plain ≡ b.plain
  unfolding choose
  choose_plain = refl
