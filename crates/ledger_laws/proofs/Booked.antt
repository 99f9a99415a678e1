-- The account: every step keeps the sum of each interface without a parent the values of the nodes in its tree and of what went from it since the
-- last clear. An interface without slots has nothing gone, which fusing asks. Assumes nothing.
use Rattle.std.specs.Prelude.{None, Option, Some}
use Prim.Native.Nat.{ℕ, ◌≤◌, ◌<◌}
use mathlib.Core.Path.{◌≡◌, refl, sym, ◌∙◌, ap, ap₂, subst, fun_ext}
use mathlib.Core.Logic.{◌≢◌}
use mathlib.Core.Bool.{Bool, true, false}
use mathlib.Core.List.{List, [], ◌∷◌, map}
use native.Mathlib.Omega.{arith}
use native.Mathlib.Decide.{ℕ_discrete, dec_lt}
use lib.Dec.{eqb}
use borrow.Author.Tests.{eq-eqb, ne_eqb}
use lib.ListN.{length, set, length-set, get_or-eq_default}
use lib.IntN.{ℤ, pos, ◌+ℤ◌, ◌-ℤ◌, ◌*ℤ◌, +ℤ_assoc, +ℤ_comm, +ℤ_idl, +ℤ_idr, +ℤ_invr, *ℤ-zero}
use Rattle.ledger_spec.specs.Bench.{Handle, State, Node, Marking, Interface, Bench, set_up}
use Rattle.ledger_spec.specs.Look.{interface, slot_of, top}
use Rattle.ledger_spec.specs.Change.{share, worth, place, put, push, restate, mark, mark_all}
use Rattle.ledger_spec.specs.Deeds.{grow_slot, grow_by, join, wipe, choose}
use Rattle.ledger_spec.specs.Book.{Gone, forgotten}
use Rattle.ledger_spec.specs.Account.{slot_sum, total, gate, rates_in}
use Rattle.ledger_spec.specs.Frame.{Frame}
use Rattle.ledger_spec.proofs.Ints.{swap_mid, *ℤ_dist_l, traded}
use Rattle.ledger_spec.proofs.Sums.{Σ_zero, zero_gate}
use Rattle.ledger_spec.proofs.Interfaces.{nil_of, over_set}
use Rattle.ledger_spec.proofs.Slots.{Vacant, put_some, over_put}
use Rattle.ledger_spec.proofs.Tops.{climb_none, tops, alone}
use Rattle.ledger_spec.proofs.Passed.{Fusable}
use Rattle.ledger_spec.proofs.Readings.{place_here, place_else, push_here, push_else}
use Rattle.ledger_spec.proofs.TreeReadings.{joins, grow_under, grow_else, grow_bare, grow_sum, grow_sum_else, grow_top, join_slots, join_kept, join_p, join_top_l, join_top_r, join_top_else, wipe_under, wipe_else, wipe_top_else, choose_field}
use Rattle.ledger_laws.proofs.Balance.{Balanced, bal_change, bal_scale, bal_fuse, bal_clear}
use Rattle.ledger_laws.proofs.Quiet.{Quiet, quiet_top, quiet_frame, place_quiet, mark_quiet, push_quiet, choose_quiet}
use Rattle.ledger_laws.proofs.Linked.{all_fresh}
use Rattle.ledger_laws.proofs.Paced.{Paced, tops_same, inside, mark_out}

-- what stands in an interface and what went from it
abbrev pub values_in : Bench → Gone → ℕ → ℤ
values_in b g u = slot_sum worth (interface b u).slots +ℤ total (g u)

pub record Booked (b : Bench) (g : Gone) : Type 0 where
  pub bare : (u : ℕ) → (interface b u).slots ≡ [] → g u ≡ []
  pub sums : Balanced (top b) (λ i. (interface b i).sum) (values_in b g)

-- ---- a slot changed: what leaves it goes to the book
module _ (b : Bench) (F : Frame b) (u s : ℕ) (y : Option Node) (g g' : Gone) (u<8 : u < 8)
    (within : length (interface b u).slots ≤ s → y ≡ None)
    (g-here : total (g' u) ≡ total (g u) +ℤ (worth (slot_of b u s) -ℤ worth y))
    (g-else : (w : ℕ) → w ≢ u → g' w ≡ g w)
    (bare' : set (interface b u).slots s y ≡ [] → g' u ≡ []) where
  pub place_booked : Booked b g → Booked (place b u s y) g'
  place_booked K = record {
    bare = bare_now;
    sums = tops_same _ _ (quiet_top b b' Q) (bal_change (top b) (values_in b g) (values_in b' g') u (pos 0) u<8
        (ap₂ (λ (x z : ℤ). x +ℤ z) (ap (slot_sum worth) (place_here b u s y (inside b F u<8)) ∙ over_set worth refl (interface b u).slots s y within) g-here ∙ traded (slot_sum worth (interface b u).slots) (total (g u)) (worth (slot_of b u s)) (worth y))
        (λ w q. ap₂ (λ (l : List (Option Node)) (z : List ℤ). slot_sum worth l +ℤ total z) (place_else b u s y w q) (g-else w q))
        (λ i. (interface b i).sum) (λ i. (interface b' i).sum) (Q.sum (top b u) ∙ sym (+ℤ_idr _)) (λ i q. Q.sum i) K.sums);
  }
    where
      b' : Bench
      b' = place b u s y

      Q : Quiet b b'
      Q = place_quiet b u s y

      bare_now : (w : ℕ) → (interface b' w).slots ≡ [] → g' w ≡ []
      bare_now w e = go (ℕ_discrete w u)
        where
          go : Dec (w ≡ u) → g' w ≡ []
          go (yes p) = ap g' p ∙ bare' (sym (place_here b u s y (inside b F u<8)) ∙ ap (λ (z : ℕ). (interface b' z).slots) (sym p) ∙ e)
          go (no q) = g-else w q ∙ K.bare w (sym (place_else b u s y w q) ∙ e)

-- ---- a node gets a state and a parent
pub set_nil : (l : List (Option Node)) (s : ℕ) (y : Option Node) → set l s y ≡ [] → l ≡ []
set_nil l s y e = nil_of l (sym (length-set l s y) ∙ ap length e)

restate_worth : (o : Option Node) (s : State) (p : Option Handle) → worth (restate o s p) ≡ worth o
restate_worth None s p = refl
restate_worth (Some n) s p = refl

pub mark_booked : (b : Bench) → Frame b → (h : Handle) (s : State) (p : Option Handle) (g : Gone) → Booked b g → Booked (mark b h s p) g
unfolding mark
mark_booked b F h s p g K = go (dec_lt h.unit 8)
  where
    old : Option Node
    old = slot_of b h.unit h.slot

    go : Dec (h.unit < 8) → Booked (mark b h s p) g
    go (yes u<8) = place_booked b F h.unit h.slot (restate old s p) g g u<8
        (λ out. ap (λ (o : Option Node). restate o s p) (get_or-eq_default (interface b h.unit).slots None out))
        (sym (ap (λ (z : ℤ). total (g h.unit) +ℤ (worth old -ℤ z)) (restate_worth old s p) ∙ ap (λ (z : ℤ). total (g h.unit) +ℤ z) (+ℤ_invr (worth old)) ∙ +ℤ_idr (total (g h.unit))))
        (λ w q. refl) (λ e. K.bare h.unit (set_nil (interface b h.unit).slots h.slot (restate old s p) e)) K
    go (no q) = subst (λ (c : Bench). Booked c g) (sym (mark_out b F h s p (omega arith))) K

pub mark_all_booked : (b : Bench) → Frame b → (hs : List Handle) (s : State) (p : Option Handle) (g : Gone) → Booked b g → Booked (mark_all b hs s p) g
unfolding mark_all
mark_all_booked b F [] s p g K = K
mark_all_booked b F (h ∷ hs) s p g K = mark_all_booked (mark b h s p) (quiet_frame b (mark b h s p) (mark_quiet b h s p) F) hs s p g (mark_booked b F h s p g K)

-- ---- a node of value 0 added
pub push_booked : (b : Bench) → Frame b → (u t : ℕ) (n : Node) (g : Gone) → u < 8 → Vacant (interface b u).slots t → n.value ≡ pos 0 → Booked b g → Booked (push b u t n) g
push_booked b F u t n g u<8 free nil K = record {
  bare = bare_now;
  sums = tops_same _ _ (quiet_top b b' Q) (bal_change (top b) (values_in b g) (values_in b' g) u (pos 0) u<8
      (ap (λ (z : ℤ). z +ℤ total (g u)) (ap (slot_sum worth) (push_here b u t n u<n) ∙ over_put worth refl (interface b u).slots t n free ∙ ap (λ (z : ℤ). slot_sum worth (interface b u).slots +ℤ z) nil ∙ +ℤ_idr (slot_sum worth (interface b u).slots)) ∙ sym (+ℤ_idr (values_in b g u)))
      (λ w q. ap (λ (l : List (Option Node)). slot_sum worth l +ℤ total (g w)) (push_else b u t n w q))
      (λ i. (interface b i).sum) (λ i. (interface b' i).sum) (Q.sum (top b u) ∙ sym (+ℤ_idr _)) (λ i q. Q.sum i) K.sums);
}
  where
    b' : Bench
    b' = push b u t n

    Q : Quiet b b'
    Q = push_quiet b u t n

    u<n : u < length b.interfaces
    u<n = inside b F u<8

    bare_now : (w : ℕ) → (interface b' w).slots ≡ [] → g w ≡ []
    bare_now w e = go (ℕ_discrete w u)
      where
        filled : (l : List (Option Node)) → put l t n ≡ [] → ⊥
        filled l f = omega (arith, ap length f, put_some l t n)

        go : Dec (w ≡ u) → g w ≡ []
        go (yes p) = absurd (filled (interface b u).slots (sym (push_here b u t n u<n) ∙ ap (λ (z : ℕ). (interface b' z).slots) (sym p) ∙ e))
        go (no q) = K.bare w (sym (push_else b u t n w q) ∙ e)

-- ---- growing: values move by their rates, the sum by the speed
grown_worth : (l : ℤ) (o : Option Node) → worth (grow_slot l o) ≡ worth o +ℤ l *ℤ share o
unfolding grow_slot
grown_worth l None = sym (+ℤ_idl (l *ℤ pos 0) ∙ *ℤ-zero l)
grown_worth l (Some n) = refl

grown_values : (l : ℤ) (xs : List (Option Node)) → slot_sum worth (map (grow_slot l) xs) ≡ slot_sum worth xs +ℤ l *ℤ slot_sum share xs
unfolding slot_sum
grown_values l [] = sym (+ℤ_idl (l *ℤ pos 0) ∙ *ℤ-zero l)
grown_values l (x ∷ xs) = ap₂ ◌+ℤ◌ (grown_worth l x) (grown_values l xs) ∙ swap_mid (worth x) (l *ℤ share x) (slot_sum worth xs) (l *ℤ slot_sum share xs)
    ∙ ap (λ (z : ℤ). (worth x +ℤ slot_sum worth xs) +ℤ z) (sym (*ℤ_dist_l l (share x) (slot_sum share xs)))

pub grow_booked : (b : Bench) → Frame b → Paced b → (u : ℕ) (l : ℤ) (g : Gone) → u < 8 → Booked b g → Booked (grow_by b u l) g
grow_booked b F P u l g u<8 K = record {
  bare = λ w e. K.bare w (grow_bare b u l w e);
  sums = tops_same _ _ (grow_top b u l) (bal_scale (top b) (values_in b g) (values_in b' g) (rates_in b) u l
      (λ w h e. ap (λ (z : ℤ). z +ℤ total (g w)) (ap (slot_sum worth) (grow_under b u l w (inside b F h) e) ∙ grown_values l (interface b w).slots)
      ∙ +ℤ_assoc (slot_sum worth (interface b w).slots) (l *ℤ rates_in b w) (total (g w)) ∙ ap (λ (z : ℤ). slot_sum worth (interface b w).slots +ℤ z) (+ℤ_comm (l *ℤ rates_in b w) (total (g w))) ∙ sym (+ℤ_assoc (slot_sum worth (interface b w).slots) (total (g w)) (l *ℤ rates_in b w)))
      (λ w h e. ap (λ (z : List (Option Node)). slot_sum worth z +ℤ total (g w)) (grow_else b u l w (inside b F h) e))
      (λ i. (interface b i).sum) (λ i. (interface b' i).sum) (λ i. (interface b i).speed) (grow_sum b u l (inside b F u<8)) (grow_sum_else b u l) P K.sums);
}
  where
    b' : Bench
    b' = grow_by b u l

-- ---- fusing
pub fuse_booked : (b : Bench) → Frame b → (p l r : ℕ) (g : Gone) → Fusable b p l r → Booked b g → Booked (join b p l r) g
unfolding slot_sum total
fuse_booked b F p l r g f K = record {
  bare = λ w e. K.bare w (sym (slots w) ∙ e);
  sums = subst (Balanced (top b') (λ i. (interface b' i).sum)) (sym (fun_ext (λ w. ap (λ (z : List (Option Node)). slot_sum worth z +ℤ total (g w)) (slots w))))
      (bal_fuse (top b) (top b') (values_in b g) p l r (climb_none 8 b l f.l_none) (climb_none 8 b r f.r_none) f.l≢r
      (join_top_l b F p l r f) (join_top_r b F p l r f) (join_top_else b F p l r f)
      (λ u e. ap (values_in b g) (alone b F p f.no_halves u e) ∙ ap₂ (λ (x : List (Option Node)) (z : List ℤ). slot_sum worth x +ℤ total z) f.no_slots (K.bare p f.no_slots))
      (λ i. (interface b i).sum) (λ i. (interface b' i).sum) (omega arith) (omega arith)
      (ap (λ (f : Interface). f.sum) (join_p b p l r (joins F f))) (join_kept b p l r (joins F f) (λ f. f.sum) (λ f q. refl)) K.sums);
}
  where
    b' : Bench
    b' = join b p l r

    slots : (w : ℕ) → (interface b' w).slots ≡ (interface b w).slots
    slots = join_slots b p l r (joins F f)

-- ---- marking
pub choose_booked : (b : Bench) (u : ℕ) (k : Marking) (g : Gone) → Booked b g → Booked (choose b u k) g
choose_booked b u k g K = record {
  bare = λ w e. K.bare w (sym (slots w) ∙ e);
  sums = tops_same _ _ (quiet_top b (choose b u k) Q) (subst (λ (s : ℕ → ℤ). Balanced (top b) s (values_in (choose b u k) g)) (sym (fun_ext Q.sum))
      (subst (Balanced (top b) (λ i. (interface b i).sum)) (sym (fun_ext (λ w. ap (λ (l : List (Option Node)). slot_sum worth l +ℤ total (g w)) (slots w)))) K.sums));
}
  where
    Q : Quiet b (choose b u k)
    Q = choose_quiet b u k

    slots : (w : ℕ) → (interface (choose b u k) w).slots ≡ (interface b w).slots
    slots = choose_field b u k (λ f. f.slots) (λ f m. refl)

-- ---- clearing: the book of the tree is forgotten too
forgot : (g : Gone) (w : ℕ) → Bool → List ℤ
forgot g w c = elim c [ true ↦ [] | false ↦ g w ]

module _ (b : Bench) (F : Frame b) (u : ℕ) (g : Gone) where
  forgot_yes : (w : ℕ) → top b w ≡ u → forgotten g b u w ≡ []
  unfolding forgot
  forgot_yes w e = ap (forgot g w) (eq-eqb (top b w) u e)

  forgot_no : (w : ℕ) → top b w ≢ u → forgotten g b u w ≡ g w
  unfolding forgot
  forgot_no w e = ap (forgot g w) (ne_eqb (top b w) u e)

  pub clear_booked : Booked b g → Booked (wipe b u) (forgotten g b u)
  unfolding slot_sum total
  clear_booked K = record {
    bare = λ w e. bare_now w e (ℕ_discrete (top b w) u);
    sums = bal_clear (top b) (top (wipe b u)) (values_in b g) (values_in (wipe b u) (forgotten g b u)) u (λ w h. tops b F w) (λ w h. wipe_top_else b u F w)
        (λ w h e. ap₂ (λ (f : Interface) (z : List ℤ). slot_sum worth f.slots +ℤ total z) (wipe_under b u w e) (forgot_yes w e))
        (λ w h e. ap₂ (λ (f : Interface) (z : List ℤ). slot_sum worth f.slots +ℤ total z) (wipe_else b u w e) (forgot_no w e))
        (λ i. (interface b i).sum) (λ i. (interface (wipe b u) i).sum) (λ w h e. ap (λ (f : Interface). f.sum) (wipe_under b u w e)) (λ w h e. ap (λ (f : Interface). f.sum) (wipe_else b u w e)) K.sums;
  }
    where
      bare_now : (w : ℕ) → (interface (wipe b u) w).slots ≡ [] → Dec (top b w ≡ u) → forgotten g b u w ≡ []
      bare_now w e (yes x) = forgot_yes w x
      bare_now w e (no x) = forgot_no w x ∙ K.bare w (ap (λ (f : Interface). f.slots) (sym (wipe_else b u w x)) ∙ e)

-- ---- set-up
pub opened_booked : (n : ℕ) → Booked (set_up n) (λ w. [])
unfolding slot_sum total
opened_booked n = record {
  bare = λ u e. refl;
  sums = λ i h root. ap (λ (f : Interface). f.sum) (all_fresh 8 i)
      ∙ sym (Σ_zero 8 _ (λ w x. ap (λ (f : Interface). gate (eqb (top (set_up n) w) i) (slot_sum worth f.slots +ℤ pos 0)) (all_fresh 8 w) ∙ zero_gate (eqb (top (set_up n) w) i)));
}
