-- Every accepted call leaves a sound bench sound: what the links, the speeds, the nodes and W are after it, put together. Assumes nothing.
use Rattle.std.specs.Prelude.{None, Option, Some}
use Prim.Native.Nat.{ℕ, ◌+◌, ◌*◌, ◌≤◌, ◌<◌, ◌^◌}
use mathlib.Core.Path.{◌≡◌, refl, sym, ◌∙◌, ap, subst}
use mathlib.Core.Logic.{◌≢◌}
use mathlib.Core.Bool.{false}
use mathlib.Core.List.{List}
use native.Mathlib.Omega.{arith}
use native.Mathlib.Decide.{ℕ_discrete}
use borrow.Author.Tests.{ltb-false}
use lib.ListN.{get_or, length}
use lib.IntN.{ℤ, pos, nat_abs, ◌+ℤ◌}
use lib.Signed.{lt_z}
use Rattle.ledger_spec.specs.Bench.{Handle, State, stays, grows, Node, Marking, Interface, Bench, fresh, set_up}
use Rattle.ledger_spec.specs.Look.{interface, free_slot, slot_of, node_named, top}
use Rattle.ledger_spec.specs.Change.{place, mark, mark_all}
use Rattle.ledger_spec.specs.Deeds.{new_handle, members, add_defect, add_blossom, remove_blossom, grow_by, fused_parent, join, wipe, choose}
use Rattle.ledger_spec.specs.Frame.{Frame}
use Rattle.ledger_spec.specs.Knit.{Sewn}
use Rattle.ledger_spec.specs.Facts.{W, Floors, Sound}
use Rattle.ledger_spec.proofs.Range.{abs_add}
use Rattle.ledger_spec.proofs.Tops.{climb_none, alone, root_parent, below, top_root}
use Rattle.ledger_spec.proofs.Knit.{none_some}
use Rattle.ledger_spec.proofs.Passed.{Fusable}
use Rattle.ledger_spec.proofs.Accepted.{DefectPassed, BlossomPassed, ExpandPassed, StatePassed, GrowPassed, MarkPassed}
use Rattle.ledger_spec.proofs.Slots.{free_vacant}
use Rattle.ledger_spec.proofs.Gathered.{held_unit}
use Rattle.ledger_spec.proofs.Readings.{mark_field, mark_count, mark_next}
use Rattle.ledger_spec.proofs.DeedReadings.{defect_field, blossom_field, expand_field, blossom_node, defect_is, defect_count, defect_count_else, defect_next, blossom_is, blossom_count, blossom_vacant, blossom_count_else, blossom_next, expand_is, expand_count, expand_next}
use Rattle.ledger_spec.proofs.TreeReadings.{joins, grow_parent, grow_top, grow_count, grow_next, grow_sum, grow_sum_else, grow_progress, grow_progress_else, join_slots, join_kept, join_p, join_next, join_rest, join_l, join_r, join_top_l, join_top_r, join_top_else, wipe_next, wipe_under, wipe_else, wipe_top_else, choose_field, choose_next}
use Rattle.ledger_spec.proofs.Bounds.{grown_sum, speed_bound}
use Rattle.ledger_laws.proofs.Quiet.{Quiet, quiet_frame, quiet_top, quiet-W, defect_quiet, blossom_quiet, expand_quiet, mark_quiet, place_quiet, mark_all_quiet, choose_quiet}
use Rattle.ledger_laws.proofs.Linked.{fuse_frame, clear_frame, opened_frame, all_fresh}
use Rattle.ledger_laws.proofs.Paced.{Paced, inside, place_paced, mark_paced, mark_all_paced, push_paced, grow_paced, fuse_paced, choose_paced, clear_paced, opened_paced}
use Rattle.ledger_laws.proofs.Sewn.{defect_sewn, blossom_sewn, expand_sewn, state_sewn, grow_sewn, fuse_sewn, choose_sewn, clear_sewn, opened_sewn, opened_empty}
use Rattle.ledger_laws.proofs.Floors.{still_floors, grow_floors, fuse_floors, clear_floors, choose_floors, opened_floors}
use Rattle.ledger_laws.proofs.Stems.{Came, rings_kept, values_kept}
use Rattle.ledger_laws.proofs.CameCalls.{still, defect_came, blossom_came, expand_came, state_came, grown, grown_here, grown_else, grow_came, fuse_came, clear_came, choose_came}
use Rattle.ledger_laws.proofs.Reach.{not_negative, pos_sum, grow_frame, W-grow, W-grow-else, W-fuse, W-fuse-else, W-clear-else}

pub paced_of : (b : Bench) → Sound b → Paced b
paced_of b S i h root = S.speeds i h (root_parent b S.frame i root)

-- ---- the calls that touch nodes only
module _ (b b' : Bench) (S : Sound b) (Q : Quiet b b') (S' : Sewn b') (P' : Paced b') (came : Came b b' still)
    (later : b.next ≤ b'.next) (worn : b'.next ≤ 2 ^ 32) (few : (u : ℕ) → length (interface b' u).slots ≤ 64) (floors : Floors b') where
  quiet_sound : Sound b'
  quiet_sound = record {
    frame = quiet_frame b b' Q S.frame;
    few = few;
    forward = λ u. Q.progress u ∙ S.forward u ∙ ap (λ (z : ℤ). pos (nat_abs z)) (sym (Q.progress u));
    limit = λ u. omega (arith, ap nat_abs (Q.progress u), S.limit u);
    worn = worn;
    sewn = S';
    rings = rings_kept b b' S.sewn S' later still came S.rings;
    values = values_kept b b' still came (λ u s x e. omega (arith, quiet-W b b' Q (top b' u), ap (W b) (quiet_top b b' Q u))) S.values;
    sums = λ i h free. omega (arith, ap nat_abs (Q.sum i), quiet-W b b' Q i, S.sums i h (sym (Q.parent i) ∙ free));
    speeds = λ i h free. P' i h (climb_none 8 b' i free);
    floors = floors;
  }

pub defect_sound : (b : Bench) → Sound b → (u v : ℕ) → DefectPassed b u → Sound (add_defect b u v)
defect_sound b S u v P = quiet_sound b (add_defect b u v) S (defect_quiet b u v) (defect_sewn b S.frame S.sewn u v P)
    (subst Paced (sym (defect_is b u v)) (push_paced b S.frame u _ _ P.here.low P.here.free (free_vacant b u) (paced_of b S)))
    (defect_came b S.frame u v P) (omega (arith, defect_next b u v)) (omega (arith, defect_next b u v, P.unworn)) few
    (still_floors b (add_defect b u v) (defect_quiet b u v).parent (defect_field b u v (λ f. f.marks) (λ f l. refl) (λ f x. refl)) (defect_came b S.frame u v P) S.floors)
  where
    few : (w : ℕ) → length (interface (add_defect b u v) w).slots ≤ 64
    few w = go (ℕ_discrete w u)
      where
        go : Dec (w ≡ u) → length (interface (add_defect b u v) w).slots ≤ 64
        go (yes e) = subst (λ (z : ℕ). length (interface (add_defect b u v) z).slots ≤ 64) (sym e) (omega (arith, defect_count b u v (inside b S.frame P.here.low), P.room, S.few u))
        go (no e) = omega (arith, defect_count_else b u v w e, S.few w)

pub blossom_sound : (b : Bench) → Sound b → (u : ℕ) (hs : List Handle) (ts : List (Handle × Handle)) → BlossomPassed b u hs ts → Sound (add_blossom b u hs ts)
blossom_sound b S u hs ts P = quiet_sound b (add_blossom b u hs ts) S (blossom_quiet b u hs ts) (blossom_sewn b S.frame S.sewn u hs ts P)
    (subst Paced (sym (blossom_is b u hs ts)) (push_paced c (quiet_frame b c marks S.frame) u (free_slot b u) (blossom_node b hs ts) P.here.low (marks.parent u ∙ P.here.free) (blossom_vacant b u hs ts) (mark_all_paced b S.frame hs stays (Some (new_handle b u)) (paced_of b S))))
    (blossom_came b S u hs ts P) (omega (arith, blossom_next b u hs ts)) (omega (arith, blossom_next b u hs ts, P.unworn)) few
    (still_floors b (add_blossom b u hs ts) (blossom_quiet b u hs ts).parent (blossom_field b u hs ts (λ f. f.marks) (λ f l. refl) (λ f x. refl)) (blossom_came b S u hs ts P) S.floors)
  where
    c : Bench
    c = mark_all b hs stays (Some (new_handle b u))

    marks : Quiet b c
    marks = mark_all_quiet b hs stays (Some (new_handle b u))

    few : (w : ℕ) → length (interface (add_blossom b u hs ts) w).slots ≤ 64
    few w = go (ℕ_discrete w u)
      where
        go : Dec (w ≡ u) → length (interface (add_blossom b u hs ts) w).slots ≤ 64
        go (yes e) = subst (λ (z : ℕ). length (interface (add_blossom b u hs ts) z).slots ≤ 64) (sym e) (omega (arith, blossom_count b u hs ts (inside b S.frame P.here.low), P.room, S.few u))
        go (no e) = omega (arith, blossom_count_else b u hs ts w e, S.few w)

pub expand_sound : (b : Bench) → Sound b → (u : ℕ) (h : Handle) → ExpandPassed b u h → Sound (remove_blossom b h)
expand_sound b S u h P = quiet_sound b (remove_blossom b h) S (expand_quiet b h) (expand_sewn b S.sewn u h P)
    (subst Paced (sym (expand_is b h)) (mark_all_paced c (quiet_frame b c (place_quiet b h.unit h.slot None) S.frame) (members (node_named b h)) grows None
    (place_paced b S.frame h.unit h.slot None (held_unit b S.frame h.unit h.slot P.named.node P.named.has.stands) (λ x. refl) (paced_of b S))))
    (expand_came b S.sewn u h P) (omega (arith, expand_next b h)) (omega (arith, expand_next b h, S.worn)) (λ w. omega (arith, expand_count b h w, S.few w))
    (still_floors b (remove_blossom b h) (expand_quiet b h).parent (expand_field b h (λ f. f.marks) (λ f l. refl) (λ f x. refl)) (expand_came b S.sewn u h P) S.floors)
  where
    c : Bench
    c = place b h.unit h.slot None

pub state_sound : (b : Bench) → Sound b → (u : ℕ) (h : Handle) (s : State) → StatePassed b u h → Sound (mark b h s None)
state_sound b S u h s P = quiet_sound b (mark b h s None) S (mark_quiet b h s None) (state_sewn b S.sewn u h s P) (mark_paced b S.frame h s None (paced_of b S)) (state_came b h s None)
    (omega (arith, mark_next b h s None)) (omega (arith, mark_next b h s None, S.worn)) (λ w. omega (arith, mark_count b h s None w, S.few w))
    (still_floors b (mark b h s None) (mark_quiet b h s None).parent (mark_field b h s None (λ f. f.marks) (λ f l. refl) (λ f x. refl)) (state_came b h s None) S.floors)

pub choose_sound : (b : Bench) → Sound b → (u : ℕ) (k : Marking) → MarkPassed b u → Sound (choose b u k)
choose_sound b S u k P = quiet_sound b (choose b u k) S (choose_quiet b u k) (choose_sewn b S.sewn u k) (choose_paced b u k (paced_of b S)) (choose_came b u k)
    (omega (arith, choose_next b u k)) (omega (arith, choose_next b u k, S.worn)) (λ w. omega (arith, ap length (choose_field b u k (λ f. f.slots) (λ f m. refl) w), S.few w))
    (choose_floors b S.frame S.floors u k P)

-- ---- grow
not_past : (z : ℤ) (m : ℕ) → lt_z (pos m) z ≡ false → z ≡ pos (nat_abs z) → nat_abs z ≤ m
not_past z m e p = ltb-false m (nat_abs z) (ap (lt_z (pos m)) (sym p) ∙ e)

module _ (b : Bench) (S : Sound b) (u : ℕ) (l : ℤ) (P : GrowPassed b u l) where
  abbrev g : Bench
  g = grow_by b u l

  ahead : l ≡ pos (nat_abs l)
  ahead = not_negative l P.forward

  here : u < length b.interfaces
  here = inside b S.frame P.here.low

  W-here : W g u ≡ W b u + nat_abs l
  W-here = W-grow b S.frame u l P.here (S.forward u) ahead

  W-other : (i : ℕ) → i < 8 → (interface b i).parent ≡ None → i ≢ u → W g i ≡ W b i
  W-other = W-grow-else b S.frame u l P.here (S.forward u) ahead

  forward' : (w : ℕ) → (interface g w).progress ≡ pos (nat_abs (interface g w).progress)
  forward' w = go (ℕ_discrete w u)
    where
      go : Dec (w ≡ u) → (interface g w).progress ≡ pos (nat_abs (interface g w).progress)
      go (yes e) = subst (λ (z : ℕ). (interface g z).progress ≡ pos (nat_abs (interface g z).progress)) (sym e)
          (subst (λ (z : ℤ). z ≡ pos (nat_abs z)) (sym (grow_progress b u l here)) (pos_sum (interface b u).progress l (S.forward u) ahead))
      go (no e) = subst (λ (z : ℤ). z ≡ pos (nat_abs z)) (sym (grow_progress_else b u l w e)) (S.forward w)

  limit' : (w : ℕ) → nat_abs (interface g w).progress ≤ 2 ^ 40
  limit' w = go (ℕ_discrete w u)
    where
      go : Dec (w ≡ u) → nat_abs (interface g w).progress ≤ 2 ^ 40
      go (yes e) = subst (λ (z : ℕ). nat_abs (interface g z).progress ≤ 2 ^ 40) (sym e)
          (subst (λ (z : ℤ). nat_abs z ≤ 2 ^ 40) (sym (grow_progress b u l here)) (not_past ((interface b u).progress +ℤ l) (2 ^ 40) P.limit (pos_sum (interface b u).progress l (S.forward u) ahead)))
      go (no e) = omega (arith, ap nat_abs (grow_progress_else b u l w e), S.limit w)

  room : (w s : ℕ) (x : Node) → slot_of g w s ≡ Some x → W b (top b w) + grown b u l w ≤ W g (top g w)
  room w s x k = go (ℕ_discrete (top b w) u)
    where
      w<8 : w < 8
      w<8 = held_unit g (grow_frame b S.frame u l) w s x k

      go : Dec (top b w ≡ u) → W b (top b w) + grown b u l w ≤ W g (top g w)
      go (yes e) = omega (arith, ap (W b) e, grown_here b u l w e, ap (W g) (grow_top b u l w ∙ e), W-here)
      go (no e) = omega (arith, grown_else b u l w e, ap (W g) (grow_top b u l w), W-other (top b w) (below b S.frame 8 w w<8) (top_root b S.frame w) e)

  sums' : (i : ℕ) → i < 8 → (interface g i).parent ≡ None → nat_abs (interface g i).sum ≤ 512 * W g i
  sums' i h free = go (ℕ_discrete i u)
    where
      go : Dec (i ≡ u) → nat_abs (interface g i).sum ≤ 512 * W g i
      go (yes e) = subst (λ (z : ℕ). nat_abs (interface g z).sum ≤ 512 * W g z) (sym e)
          (omega (arith, ap nat_abs (grow_sum b u l here), W-here, grown_sum (interface b u).sum (interface b u).speed l (W b u) (nat_abs l) (S.sums u P.here.low P.here.free) (speed_bound b S u P.here.low P.here.free) (omega arith)))
      go (no e) = omega (arith, ap nat_abs (grow_sum_else b u l i e), W-other i h (sym (grow_parent b u l i) ∙ free) e, S.sums i h (sym (grow_parent b u l i) ∙ free))

  pub grow_sound : Sound (grow_by b u l)
  grow_sound = record {
    frame = grow_frame b S.frame u l;
    few = λ w. omega (arith, grow_count b u l w, S.few w);
    forward = forward';
    limit = limit';
    worn = omega (arith, grow_next b u l, S.worn);
    sewn = grow_sewn b S.sewn u l;
    rings = rings_kept b g S.sewn (grow_sewn b S.sewn u l) (omega (arith, grow_next b u l)) (grown b u l) (grow_came b u l) S.rings;
    values = values_kept b g (grown b u l) (grow_came b u l) room S.values;
    sums = sums';
    speeds = λ i h free. grow_paced b S.frame u l (paced_of b S) i h (climb_none 8 g i free);
    floors = grow_floors b S.frame S.floors u l P;
  }

-- ---- fuse
module _ (b : Bench) (S : Sound b) (p l r : ℕ) (f : Fusable b p l r) where
  abbrev j : Bench
  j = join b p l r

  abbrev F : Frame b
  F = S.frame

  at_p : {X : Type 0} (φ : Interface → X) (w : ℕ) → w ≡ p → φ (interface j w) ≡ φ (fused_parent b p l r)
  at_p φ w e = ap (λ (z : ℕ). φ (interface j z)) e ∙ ap φ (join_p b p l r (joins F f))

  progress_else : (w : ℕ) → w ≢ p → (interface j w).progress ≡ (interface b w).progress
  progress_else = join_kept b p l r (joins F f) (λ g. g.progress) (λ g q. refl)

  -- an interface without a parent that is not p was one before, and neither half
  old_root : (i : ℕ) → i ≢ p → (interface j i).parent ≡ None → (i ≢ l) × (i ≢ r) × ((interface b i).parent ≡ None)
  old_root i q free = (not_l, not_r, sym (join_rest b p l r (joins F f) f.p_none i not_l not_r) ∙ free)
    where
      not_l : i ≢ l
      not_l e = none_some free (ap (λ (z : ℕ). (interface j z).parent) e ∙ join_l b p l r (joins F f))

      not_r : i ≢ r
      not_r e = none_some free (ap (λ (z : ℕ). (interface j z).parent) e ∙ join_r b p l r (joins F f))

  fuse_room : (w s : ℕ) (x : Node) → slot_of j w s ≡ Some x → W b (top b w) + 0 ≤ W j (top j w)
  fuse_room w s x k = go (ℕ_discrete (top b w) l) (ℕ_discrete (top b w) r) (ℕ_discrete (top b w) p)
    where
      k' : slot_of b w s ≡ Some x
      k' = ap (λ (y : List (Option Node)). get_or y s None) (sym (join_slots b p l r (joins F f) w)) ∙ k

      go : Dec (top b w ≡ l) → Dec (top b w ≡ r) → Dec (top b w ≡ p) → W b (top b w) + 0 ≤ W j (top j w)
      go (yes e) y z = omega (arith, ap (W b) e, ap (W j) (join_top_l b F p l r f w e), W-fuse b F p l r f)
      go (no x') (yes e) z = omega (arith, ap (W b) e, ap (W j) (join_top_r b F p l r f w e), W-fuse b F p l r f)
      go (no x') (no y) (yes z) = absurd (none_some (ap (λ (y : List (Option Node)). get_or y s None) (ap (λ (m : ℕ). (interface b m).slots) (alone b F p f.no_halves w z) ∙ f.no_slots)) k')
      go (no x') (no y) (no z) = omega (arith, ap (W j) (join_top_else b F p l r f w x' y), W-fuse-else b F p l r f (top b w) (below b F 8 w (held_unit b F w s x k')) (top_root b F w) z x' y)

  fuse_sums : (i : ℕ) → i < 8 → (interface j i).parent ≡ None → nat_abs (interface j i).sum ≤ 512 * W j i
  fuse_sums i h free = go (ℕ_discrete i p)
    where
      go : Dec (i ≡ p) → nat_abs (interface j i).sum ≤ 512 * W j i
      go (yes e) = omega (arith, ap nat_abs (at_p (λ g. g.sum) i e), abs_add (interface b l).sum (interface b r).sum, S.sums l (omega (arith, f.l<p, f.p<8)) f.l_none, S.sums r (omega (arith, f.r<p, f.p<8)) f.r_none, ap (W j) e, W-fuse b F p l r f)
      go (no e) = let o = old_root i e free in
          omega (arith, ap nat_abs (join_kept b p l r (joins F f) (λ g. g.sum) (λ g q. refl) i e), W-fuse-else b F p l r f i h o.2 e o.0 o.1, S.sums i h o.2)

  pub fuse_sound : Sound (join b p l r)
  fuse_sound = record {
    frame = fuse_frame b F p l r f;
    few = λ w. omega (arith, ap length (join_slots b p l r (joins F f) w), S.few w);
    forward = λ w. forward_at w (ℕ_discrete w p);
    limit = λ w. limit_at w (ℕ_discrete w p);
    worn = omega (arith, join_next b p l r (joins F f), S.worn);
    sewn = fuse_sewn b F S.sewn p l r f;
    rings = rings_kept b j S.sewn (fuse_sewn b F S.sewn p l r f) (omega (arith, join_next b p l r (joins F f))) still (fuse_came b F p l r f) S.rings;
    values = values_kept b j still (fuse_came b F p l r f) fuse_room S.values;
    sums = fuse_sums;
    speeds = λ i h free. fuse_paced b F p l r f (paced_of b S) i h (climb_none 8 j i free);
    floors = fuse_floors b F S.floors p l r f;
  }
    where
      forward_at : (w : ℕ) → Dec (w ≡ p) → (interface j w).progress ≡ pos (nat_abs (interface j w).progress)
      forward_at w (yes e) = subst (λ (z : ℤ). z ≡ pos (nat_abs z)) (sym (at_p (λ g. g.progress) w e)) refl
      forward_at w (no e) = subst (λ (z : ℤ). z ≡ pos (nat_abs z)) (sym (progress_else w e)) (S.forward w)

      limit_at : (w : ℕ) → Dec (w ≡ p) → nat_abs (interface j w).progress ≤ 2 ^ 40
      limit_at w (yes e) = omega (arith, ap nat_abs (at_p (λ g. g.progress) w e))
      limit_at w (no e) = omega (arith, ap nat_abs (progress_else w e), S.limit w)

-- ---- clear
module _ (b : Bench) (S : Sound b) (u : ℕ) where
  abbrev c : Bench
  c = wipe b u

  -- what holds of a fresh interface and of the old one holds of each
  each : (P : Interface → Type 0) (w : ℕ) → P fresh → P (interface b w) → P (interface c w)
  each P w x y = go (ℕ_discrete (top b w) u)
    where
      go : Dec (top b w ≡ u) → P (interface c w)
      go (yes e) = subst P (sym (wipe_under b u w e)) x
      go (no e) = subst P (sym (wipe_else b u w e)) y

  clear_room : (w s : ℕ) (x : Node) → slot_of c w s ≡ Some x → W b (top b w) + 0 ≤ W c (top c w)
  clear_room w s x k = go (ℕ_discrete (top b w) u)
    where
      go : Dec (top b w ≡ u) → W b (top b w) + 0 ≤ W c (top c w)
      go (yes e) = absurd (none_some (ap (λ (f : Interface). get_or f.slots s None) (wipe_under b u w e)) k)
      go (no e) = omega (
        arith,
        ap (W c) (wipe_top_else b u S.frame w e),
        W-clear-else b S.frame u (top b w) (below b S.frame 8 w (held_unit c (clear_frame b S.frame u) w s x k)) (top_root b S.frame w) e,
      )

  clear_sums : (i : ℕ) → i < 8 → (interface c i).parent ≡ None → nat_abs (interface c i).sum ≤ 512 * W c i
  clear_sums i h free = go (ℕ_discrete (top b i) u)
    where
      go : Dec (top b i ≡ u) → nat_abs (interface c i).sum ≤ 512 * W c i
      go (yes e) = omega (arith, ap (λ (f : Interface). nat_abs f.sum) (wipe_under b u i e))
      go (no e) = omega (arith, ap (λ (f : Interface). nat_abs f.sum) (wipe_else b u i e), W-clear-else b S.frame u i h old (λ q. e (climb_none 8 b i old ∙ q)), S.sums i h old)
        where
          old : (interface b i).parent ≡ None
          old = ap (λ (f : Interface). f.parent) (sym (wipe_else b u i e)) ∙ free

  pub clear_sound : Sound (wipe b u)
  clear_sound = record {
    frame = clear_frame b S.frame u;
    few = λ w. each (λ f. length f.slots ≤ 64) w (omega arith) (S.few w);
    forward = λ w. each (λ f. f.progress ≡ pos (nat_abs f.progress)) w refl (S.forward w);
    limit = λ w. each (λ f. nat_abs f.progress ≤ 2 ^ 40) w (omega arith) (S.limit w);
    worn = omega (arith, wipe_next b u, S.worn);
    sewn = clear_sewn b S.frame S.sewn u;
    rings = rings_kept b c S.sewn (clear_sewn b S.frame S.sewn u) (omega (arith, wipe_next b u)) still (clear_came b u) S.rings;
    values = values_kept b c still (clear_came b u) clear_room S.values;
    sums = clear_sums;
    speeds = λ i h free. clear_paced b S.frame u (paced_of b S) i h (climb_none 8 c i free);
    floors = clear_floors b S.frame S.floors u;
  }

-- ---- set-up
pub opened_sound : (n : ℕ) → 1 ≤ n → n ≤ 2 ^ 32 → Sound (set_up n)
opened_sound n low high = record {
  frame = opened_frame n;
  few = λ w. all (λ f. length f.slots ≤ 64) w (omega arith);
  forward = λ w. all (λ f. f.progress ≡ pos (nat_abs f.progress)) w refl;
  limit = λ w. all (λ f. nat_abs f.progress ≤ 2 ^ 40) w (omega arith);
  worn = high;
  sewn = opened_sewn n low;
  rings = λ u s m e. absurd (none_some (opened_empty n u s) e);
  values = λ u s m e. absurd (none_some (opened_empty n u s) e);
  sums = λ i h free. omega (arith, ap (λ (f : Interface). nat_abs f.sum) (all_fresh 8 i));
  speeds = λ i h free. opened_paced n i h (climb_none 8 (set_up n) i free);
  floors = opened_floors n;
}
  where
    all : (P : Interface → Type 0) (w : ℕ) → P fresh → P (interface (set_up n) w)
    all P w x = subst P (sym (all_fresh 8 w)) x
