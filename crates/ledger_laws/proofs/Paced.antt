-- Speeds that follow: every step keeps the speed of each interface without a parent the sum of the rates of the nodes in its tree. Assumes nothing.
use Rattle.std.specs.Prelude.{None, Option, Some}
use Prim.Native.Nat.{ℕ, ◌≤◌, ◌<◌}
use mathlib.Core.Path.{◌≡◌, refl, sym, ◌∙◌, ap, subst, fun_ext}
use mathlib.Core.List.{List, [], ◌∷◌, map}
use native.Mathlib.Omega.{arith}
use native.Mathlib.Decide.{ℕ_discrete, dec_lt}
use lib.Dec.{eqb}
use lib.ListN.{length, set, length-set, get_or-eq_default}
use lib.IntN.{ℤ, ◌+ℤ◌, ◌-ℤ◌}
use Rattle.ledger_spec.specs.Bench.{Handle, State, rate, Node, Marking, Interface, Bench, fresh, set_up, with_slots}
use Rattle.ledger_spec.specs.Look.{interface, slot_of, top}
use Rattle.ledger_spec.specs.Change.{share, with_interface, faster, place, push, restate, mark, mark_all}
use Rattle.ledger_spec.specs.Deeds.{grow_slot, grow_by, join, wipe, choose}
use Rattle.ledger_spec.specs.Account.{slot_sum, gate, rates_in}
use Rattle.ledger_spec.specs.Frame.{Frame}
use Rattle.ledger_spec.proofs.Sums.{Σ_same, Σ_zero, zero_gate}
use Rattle.ledger_spec.proofs.Interfaces.{over_set, put_out}
use Rattle.ledger_spec.proofs.Slots.{Vacant, over_put}
use Rattle.ledger_spec.proofs.Tops.{climb_none, below, tops, alone}
use Rattle.ledger_spec.proofs.Passed.{Fusable}
use Rattle.ledger_spec.proofs.Readings.{place_here, place_else, place_fast, place_slow, push_here, push_else, push_fast, push_slow}
use Rattle.ledger_spec.proofs.TreeReadings.{joins, grow_under, grow_else, grow_speed, grow_top, join_slots, join_kept, join_p, join_top_l, join_top_r, join_top_else, wipe_under, wipe_else, wipe_top_else, choose_field}
use Rattle.ledger_laws.proofs.Balance.{Balanced, bal_change, bal_fuse, bal_clear}
use Rattle.ledger_laws.proofs.Quiet.{quiet_top, quiet_frame, place_quiet, mark_quiet, push_quiet, choose_quiet}
use Rattle.ledger_laws.proofs.Linked.{all_fresh}

abbrev pub Paced : Bench → Type 0
Paced b = Balanced (top b) (λ i. (interface b i).speed) (rates_in b)

-- the same tops
pub tops_same : {t t' : ℕ → ℕ} (s v : ℕ → ℤ) → ((w : ℕ) → t' w ≡ t w) → Balanced t s v → Balanced t' s v
tops_same s v e = subst (λ (t : ℕ → ℕ). Balanced t s v) (sym (fun_ext e))

pub inside : (b : Bench) → Frame b → {u : ℕ} → u < 8 → u < length b.interfaces
inside b F h = omega (arith, F.eight, h)

-- ---- a slot changed, a node marked
module _ (b : Bench) (F : Frame b) (u s : ℕ) (y : Option Node) (u<8 : u < 8) (within : length (interface b u).slots ≤ s → y ≡ None) where
  pub place_paced : Paced b → Paced (place b u s y)
  place_paced P = tops_same _ _ (quiet_top b (place b u s y) (place_quiet b u s y))
      (bal_change (top b) (rates_in b) (rates_in (place b u s y)) u (share y -ℤ share (slot_of b u s)) u<8
      (ap (slot_sum share) (place_here b u s y (inside b F u<8)) ∙ over_set share refl (interface b u).slots s y within)
      (λ w q. ap (slot_sum share) (place_else b u s y w q)) (λ i. (interface b i).speed) (λ i. (interface (place b u s y) i).speed)
      (place_fast b u s y (inside b F (below b F 8 u u<8))) (place_slow b u s y) P)

-- a handle of no interface changes nothing
pub mark_out : (b : Bench) → Frame b → (h : Handle) (s : State) (p : Option Handle) → 8 ≤ h.unit → mark b h s p ≡ b
unfolding mark place faster
mark_out b F h s p far = put_out (λ f. f) b₁ (top b h.unit) _ (omega (arith, long, still, far)) ∙ put_out (λ f. f) b h.unit _ short
  where
    b₁ : Bench
    b₁ = with_interface b h.unit (with_slots (interface b h.unit) (set (interface b h.unit).slots h.slot (restate (slot_of b h.unit h.slot) s p)))

    long : length b₁.interfaces ≡ 8
    long = length-set b.interfaces h.unit _ ∙ F.eight

    short : length b.interfaces ≤ h.unit
    short = omega (arith, F.eight, far)

    still : top b h.unit ≡ h.unit
    still = climb_none 8 b h.unit (ap (λ (f : Interface). f.parent) (get_or-eq_default b.interfaces fresh short))

pub mark_paced : (b : Bench) → Frame b → (h : Handle) (s : State) (p : Option Handle) → Paced b → Paced (mark b h s p)
unfolding mark
mark_paced b F h s p P = go (dec_lt h.unit 8)
  where
    go : Dec (h.unit < 8) → Paced (mark b h s p)
    go (yes u<8) = place_paced b F h.unit h.slot (restate (slot_of b h.unit h.slot) s p) u<8
        (λ out. ap (λ (o : Option Node). restate o s p) (get_or-eq_default (interface b h.unit).slots None out)) P
    go (no q) = subst Paced (sym (mark_out b F h s p (omega arith))) P

pub mark_all_paced : (b : Bench) → Frame b → (hs : List Handle) (s : State) (p : Option Handle) → Paced b → Paced (mark_all b hs s p)
unfolding mark_all
mark_all_paced b F [] s p P = P
mark_all_paced b F (h ∷ hs) s p P = mark_all_paced (mark b h s p) (quiet_frame b (mark b h s p) (mark_quiet b h s p) F) hs s p (mark_paced b F h s p P)

-- ---- a slot added
pub push_paced : (b : Bench) → Frame b → (u t : ℕ) (n : Node) → u < 8 → (interface b u).parent ≡ None → Vacant (interface b u).slots t → Paced b → Paced (push b u t n)
push_paced b F u t n u<8 root free P = tops_same _ _ (quiet_top b (push b u t n) (push_quiet b u t n))
    (bal_change (top b) (rates_in b) (rates_in (push b u t n)) u (rate n.state) u<8
    (ap (slot_sum share) (push_here b u t n (inside b F u<8)) ∙ over_put share refl (interface b u).slots t n free)
    (λ w q. ap (slot_sum share) (push_else b u t n w q)) (λ i. (interface b i).speed) (λ i. (interface (push b u t n) i).speed)
    (subst (λ (i : ℕ). (interface (push b u t n) i).speed ≡ (interface b i).speed +ℤ rate n.state) (sym self) (push_fast b u t n (inside b F u<8)))
    (λ i q. push_slow b u t n i (λ e. q (e ∙ sym self))) P)
  where
    self : top b u ≡ u
    self = climb_none 8 b u root

-- ---- growing
grown_share : (l : ℤ) (o : Option Node) → share (grow_slot l o) ≡ share o
unfolding grow_slot
grown_share l None = refl
grown_share l (Some n) = refl

grown_rates : (l : ℤ) (xs : List (Option Node)) → slot_sum share (map (grow_slot l) xs) ≡ slot_sum share xs
unfolding slot_sum
grown_rates l [] = refl
grown_rates l (x ∷ xs) = λ i. grown_share l x i +ℤ grown_rates l xs i

pub grow_rates : (b : Bench) → Frame b → (u : ℕ) (l : ℤ) (w : ℕ) → w < 8 → rates_in (grow_by b u l) w ≡ rates_in b w
grow_rates b F u l w h = go (ℕ_discrete (top b w) u)
  where
    go : Dec (top b w ≡ u) → rates_in (grow_by b u l) w ≡ rates_in b w
    go (yes e) = ap (slot_sum share) (grow_under b u l w (inside b F h) e) ∙ grown_rates l (interface b w).slots
    go (no e) = ap (slot_sum share) (grow_else b u l w (inside b F h) e)

pub grow_paced : (b : Bench) → Frame b → (u : ℕ) (l : ℤ) → Paced b → Paced (grow_by b u l)
grow_paced b F u l P = tops_same _ _ (grow_top b u l) (λ i h root. grow_speed b u l i ∙ P i h root
    ∙ sym (Σ_same 8 (λ w. gate (eqb (top b w) i) (rates_in b w)) (λ w. gate (eqb (top b w) i) (rates_in (grow_by b u l) w)) (λ w k. ap (gate (eqb (top b w) i)) (grow_rates b F u l w k))))

-- ---- fusing
pub fuse_paced : (b : Bench) → Frame b → (p l r : ℕ) → Fusable b p l r → Paced b → Paced (join b p l r)
unfolding slot_sum
fuse_paced b F p l r f P = subst (Balanced (top (join b p l r)) (λ i. (interface (join b p l r) i).speed)) (sym (fun_ext (λ w. ap (slot_sum share) (join_slots b p l r (joins F f) w))))
    (bal_fuse (top b) (top (join b p l r)) (rates_in b) p l r (climb_none 8 b l f.l_none) (climb_none 8 b r f.r_none) f.l≢r
    (join_top_l b F p l r f) (join_top_r b F p l r f) (join_top_else b F p l r f)
    (λ u e. ap (rates_in b) (alone b F p f.no_halves u e) ∙ ap (slot_sum share) f.no_slots)
    (λ i. (interface b i).speed) (λ i. (interface (join b p l r) i).speed) (omega arith) (omega arith)
    (ap (λ (f : Interface). f.speed) (join_p b p l r (joins F f))) (join_kept b p l r (joins F f) (λ f. f.speed) (λ f q. refl)) P)

-- ---- marking
pub choose_paced : (b : Bench) (u : ℕ) (k : Marking) → Paced b → Paced (choose b u k)
choose_paced b u k P = tops_same _ _ (quiet_top b (choose b u k) (choose_quiet b u k))
    (subst (λ (s : ℕ → ℤ). Balanced (top b) s (rates_in (choose b u k))) (sym (fun_ext (choose_field b u k (λ f. f.speed) (λ f m. refl))))
    (subst (Balanced (top b) (λ i. (interface b i).speed)) (sym (fun_ext (λ w. ap (slot_sum share) (choose_field b u k (λ f. f.slots) (λ f m. refl) w)))) P))

-- ---- clearing
pub clear_paced : (b : Bench) → Frame b → (u : ℕ) → Paced b → Paced (wipe b u)
unfolding slot_sum
clear_paced b F u P = bal_clear (top b) (top (wipe b u)) (rates_in b) (rates_in (wipe b u)) u (λ w h. tops b F w) (λ w h. wipe_top_else b u F w)
    (λ w h e. ap (λ (f : Interface). slot_sum share f.slots) (wipe_under b u w e)) (λ w h e. ap (λ (f : Interface). slot_sum share f.slots) (wipe_else b u w e))
    (λ i. (interface b i).speed) (λ i. (interface (wipe b u) i).speed)
    (λ w h e. ap (λ (f : Interface). f.speed) (wipe_under b u w e)) (λ w h e. ap (λ (f : Interface). f.speed) (wipe_else b u w e)) P

-- ---- set-up
pub opened_paced : (n : ℕ) → Paced (set_up n)
unfolding slot_sum
opened_paced n i h root = ap (λ (f : Interface). f.speed) (all_fresh 8 i)
    ∙ sym (Σ_zero 8 _ (λ w x. ap (λ (f : Interface). gate (eqb (top (set_up n) w) i) (slot_sum share f.slots)) (all_fresh 8 w) ∙ zero_gate (eqb (top (set_up n) w) i)))
