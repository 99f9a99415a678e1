-- W after each call that changes it: growing adds the length to the tree's, fusing adds two, clearing leaves the others. By the sums of `Balance`,
-- since W is the sum of the progress of a tree. Assumes nothing.
use Rattle.std.specs.Prelude.{None}
use Prim.Native.Nat.{ℕ, ◌+◌, ◌<◌}
use mathlib.Core.Path.{◌≡◌, refl, sym, ◌∙◌, ap, ap₂}
use mathlib.Core.Logic.{◌≢◌}
use mathlib.Core.Bool.{false, true≢false}
use native.Mathlib.Omega.{arith}
use native.Mathlib.Decide.{ℕ_discrete}
use lib.Dec.{eqb}
use lib.IntN.{ℤ, pos, negsuc, nat_abs, ◌+ℤ◌}
use lib.Signed.{lt_z}
use Rattle.ledger_spec.specs.Bench.{Interface, Bench}
use Rattle.ledger_spec.specs.Look.{interface, top}
use Rattle.ledger_spec.specs.Deeds.{grow_by, join, wipe}
use Rattle.ledger_spec.specs.Account.{gate, tree_sum}
use Rattle.ledger_spec.specs.Frame.{Frame}
use Rattle.ledger_spec.specs.Facts.{W}
use Rattle.ledger_spec.proofs.Sums.{Σ_same}
use Rattle.ledger_spec.proofs.Tops.{climb_none, tops, alone}
use Rattle.ledger_spec.proofs.Bounds.{progress_in, W-under}
use Rattle.ledger_spec.proofs.Passed.{Open, Fusable}
use Rattle.ledger_spec.proofs.TreeReadings.{joins, grow_length, grow_parent, grow_halves, grow_top, grow_progress, grow_progress_else, join_kept, join_p, join_rest, join_top_l, join_top_r, join_top_else, wipe_under, wipe_else, wipe_top_else}
use Rattle.ledger_laws.proofs.Balance.{under_change, under_other, under_fuse, under_unfused, under_spared}
use Rattle.ledger_laws.proofs.Quiet.{frame_same}
use Rattle.ledger_laws.proofs.Linked.{fuse_frame, clear_frame}
use Rattle.ledger_laws.proofs.Paced.{inside}

pos_eq : {a c : ℕ} → pos a ≡ pos c → a ≡ c
pos_eq e = ap nat_abs e

under_same : {t t' : ℕ → ℕ} {v v' : ℕ → ℤ} → ((w : ℕ) → t' w ≡ t w) → ((w : ℕ) → v' w ≡ v w) → (i : ℕ) → tree_sum t' v' i ≡ tree_sum t v i
under_same {t} {t'} {v} {v'} e f i = Σ_same 8 (λ u. gate (eqb (t u) i) (v u)) (λ u. gate (eqb (t' u) i) (v' u)) (λ w h. ap₂ (λ (x : ℕ) (y : ℤ). gate (eqb x i) y) (e w) (f w))

-- a number that is not negative
pub not_negative : (z : ℤ) → lt_z z (pos 0) ≡ false → z ≡ pos (nat_abs z)
not_negative (pos n) e = refl
not_negative (negsuc n) e = absurd (true≢false e)

pub abs_sum : (x y : ℤ) → x ≡ pos (nat_abs x) → y ≡ pos (nat_abs y) → nat_abs (x +ℤ y) ≡ nat_abs x + nat_abs y
abs_sum x y p q = ap₂ (λ (a c : ℤ). nat_abs (a +ℤ c)) p q

pub pos_sum : (x y : ℤ) → x ≡ pos (nat_abs x) → y ≡ pos (nat_abs y) → x +ℤ y ≡ pos (nat_abs (x +ℤ y))
pos_sum x y p q = ap₂ (λ (a c : ℤ). a +ℤ c) p q ∙ ap pos (sym (abs_sum x y p q))

-- ---- growing
pub grow_frame : (b : Bench) → Frame b → (u : ℕ) (l : ℤ) → Frame (grow_by b u l)
grow_frame b F u l = frame_same b (grow_by b u l) (grow_length b u l) (grow_parent b u l) (grow_halves b u l) F

module _ (b : Bench) (F : Frame b) (u : ℕ) (l : ℤ) (o : Open b u) (forward : (interface b u).progress ≡ pos (nat_abs (interface b u).progress)) (ahead : l ≡ pos (nat_abs l)) where
  more : progress_in (grow_by b u l) u ≡ progress_in b u +ℤ pos (nat_abs l)
  more = ap pos (ap nat_abs (grow_progress b u l (inside b F o.low)) ∙ abs_sum (interface b u).progress l forward ahead)

  others : (w : ℕ) → w ≢ u → progress_in (grow_by b u l) w ≡ progress_in b w
  others w q = ap (λ (z : ℤ). pos (nat_abs z)) (grow_progress_else b u l w q)

  W-now : (i : ℕ) → i < 8 → (interface b i).parent ≡ None → pos (W (grow_by b u l) i) ≡ tree_sum (top b) (progress_in (grow_by b u l)) i
  W-now i h free = W-under (grow_by b u l) (grow_frame b F u l) i h (grow_parent b u l i ∙ free) ∙ under_same (grow_top b u l) (λ w. refl) i

  pub W-grow : W (grow_by b u l) u ≡ W b u + nat_abs l
  W-grow = pos_eq (W-now u o.low o.free ∙ under_change (top b) (progress_in b) (progress_in (grow_by b u l)) u (pos (nat_abs l)) o.low more others u (climb_none 8 b u o.free)
      ∙ ap (λ (z : ℤ). z +ℤ pos (nat_abs l)) (sym (W-under b F u o.low o.free)))

  pub W-grow-else : (i : ℕ) → i < 8 → (interface b i).parent ≡ None → i ≢ u → W (grow_by b u l) i ≡ W b i
  W-grow-else i h free q = pos_eq (W-now i h free ∙ under_other (top b) (progress_in b) (progress_in (grow_by b u l)) u (pos (nat_abs l)) o.low more others i (λ e. q (sym e ∙ climb_none 8 b u o.free))
      ∙ sym (W-under b F i h free))

-- ---- fusing
module _ (b : Bench) (F : Frame b) (p l r : ℕ) (f : Fusable b p l r) where
  abbrev j : Bench
  j = join b p l r

  same_progress : (w : ℕ) → progress_in j w ≡ progress_in b w
  same_progress w = go (ℕ_discrete w p)
    where
      go : Dec (w ≡ p) → progress_in j w ≡ progress_in b w
      go (yes e) = ap (progress_in j) e ∙ ap (λ (g : Interface). pos (nat_abs g.progress)) (join_p b p l r (joins F f)) ∙ ap pos (sym f.no_progress) ∙ ap (progress_in b) (sym e)
      go (no e) = ap (λ (z : ℤ). pos (nat_abs z)) (join_kept b p l r (joins F f) (λ g. g.progress) (λ g q. refl) w e)

  nothing : (u : ℕ) → top b u ≡ p → progress_in b u ≡ pos 0
  nothing u e = ap (progress_in b) (alone b F p f.no_halves u e) ∙ ap pos f.no_progress

  p_free : (interface j p).parent ≡ None
  p_free = ap (λ (g : Interface). g.parent) (join_p b p l r (joins F f))

  pub W-fuse : W j p ≡ W b l + W b r
  W-fuse = pos_eq (W-under j (fuse_frame b F p l r f) p f.p<8 p_free ∙ under_same (λ w. refl) same_progress p
      ∙ under_fuse (top b) (top j) (progress_in b) p l r (climb_none 8 b l f.l_none) (climb_none 8 b r f.r_none) f.l≢r (join_top_l b F p l r f) (join_top_r b F p l r f) (join_top_else b F p l r f) nothing
      ∙ ap₂ ◌+ℤ◌ (sym (W-under b F l (omega arith) f.l_none)) (sym (W-under b F r (omega arith) f.r_none)))

  pub W-fuse-else : (i : ℕ) → i < 8 → (interface b i).parent ≡ None → i ≢ p → i ≢ l → i ≢ r → W j i ≡ W b i
  W-fuse-else i h free x y z = pos_eq (W-under j (fuse_frame b F p l r f) i h (join_rest b p l r (joins F f) f.p_none i y z ∙ free) ∙ under_same (λ w. refl) same_progress i
      ∙ under_unfused (top b) (top j) (progress_in b) p l r (climb_none 8 b l f.l_none) (climb_none 8 b r f.r_none) f.l≢r (join_top_l b F p l r f) (join_top_r b F p l r f) (join_top_else b F p l r f) nothing i x y z
      ∙ sym (W-under b F i h free))

-- ---- clearing
module _ (b : Bench) (F : Frame b) (u : ℕ) where
  pub W-clear-else : (i : ℕ) → i < 8 → (interface b i).parent ≡ None → i ≢ u → W (wipe b u) i ≡ W b i
  W-clear-else i h free q = pos_eq (W-under (wipe b u) (clear_frame b F u) i h (ap (λ (g : Interface). g.parent) (wipe_else b u i other) ∙ free)
      ∙ under_spared (top b) (top (wipe b u)) (progress_in b) (progress_in (wipe b u)) u (λ w k. tops b F w) (λ w k. wipe_top_else b u F w)
      (λ w k e. ap (λ (g : Interface). pos (nat_abs g.progress)) (wipe_under b u w e)) (λ w k e. ap (λ (g : Interface). pos (nat_abs g.progress)) (wipe_else b u w e)) i other
      ∙ sym (W-under b F i h free))
    where
      other : top b i ≢ u
      other e = q (sym (climb_none 8 b i free) ∙ e)
