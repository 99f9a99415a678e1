-- Fusing two trees and clearing one leave the interfaces linked as a frame; so is set-up's bench. Assumes nothing.
use Rattle.std.specs.Prelude.{None, Option, Some}
use Prim.Native.Nat.{ℕ, zero, suc, ◌<◌}
use mathlib.Core.Path.{◌≡◌, refl, sym, ◌∙◌, ap}
use mathlib.Core.Logic.{◌≢◌, ◌⊎◌, inl, inr}
use mathlib.Core.Bool.{true, true≢false}
use native.Mathlib.Omega.{arith}
use native.Mathlib.Decide.{ℕ_discrete}
use lib.ListN.{get_or, replicate}
use Rattle.ledger_spec.specs.Bench.{Interface, Bench, fresh, set_up}
use Rattle.ledger_spec.specs.Look.{interface, top}
use Rattle.ledger_spec.specs.Tests.{is_some}
use Rattle.ledger_spec.specs.Deeds.{join, wipe}
use Rattle.ledger_spec.specs.Frame.{Frame}
use Rattle.ledger_spec.proofs.Knit.{some_eq, none_some}
use Rattle.ledger_spec.proofs.Tops.{top_parent}
use Rattle.ledger_spec.proofs.Passed.{Fusable}
use Rattle.ledger_spec.proofs.TreeReadings.{Joins, joins, join_kept, join_l, join_r, join_p, join_length, join_rest, wipe_length, wipe_under, wipe_else}

pair_inj : {a c d e : ℕ} {o : Option (ℕ × ℕ)} → o ≡ Some (a, c) → o ≡ Some (d, e) → (a ≡ d) × (c ≡ e)
pair_inj {a} {c} {d} {e} {o} p q = (ap fst (sym p ∙ q), ap snd (sym p ∙ q))
  where
    fst : Option (ℕ × ℕ) → ℕ
    fst None = 0
    fst (Some x) = x.0

    snd : Option (ℕ × ℕ) → ℕ
    snd None = 0
    snd (Some x) = x.1

-- ---- fusing
module _ (b : Bench) (F : Frame b) (p l r : ℕ) (f : Fusable b p l r) where
  abbrev b' : Bench
  b' = join b p l r

  abbrev j : Joins b p l r
  j = joins F f

  now_l : (w : ℕ) → w ≡ l → (interface b' w).parent ≡ Some p
  now_l w x = ap (λ (m : ℕ). (interface b' m).parent) x ∙ join_l b p l r j

  now_r : (w : ℕ) → w ≡ r → (interface b' w).parent ≡ Some p
  now_r w x = ap (λ (m : ℕ). (interface b' m).parent) x ∙ join_r b p l r j

  rest : (w : ℕ) → w ≢ l → w ≢ r → (interface b' w).parent ≡ (interface b w).parent
  rest = join_rest b p l r j f.p_none

  halves_p : (u : ℕ) → u ≡ p → (interface b' u).halves ≡ Some (l, r)
  halves_p u x = ap (λ (m : ℕ). (interface b' m).halves) x ∙ ap (λ (f : Interface). f.halves) (join_p b p l r j)

  halves_else : (q : ℕ) → q ≢ p → (interface b' q).halves ≡ (interface b q).halves
  halves_else q z = join_kept b p l r j (λ f. f.halves) (λ f q. refl) q z

  rises : (u q : ℕ) → (interface b' u).parent ≡ Some q → (u < q) × (q < 8)
  rises u q e = go (ℕ_discrete u l) (ℕ_discrete u r)
    where
      go : Dec (u ≡ l) → Dec (u ≡ r) → (u < q) × (q < 8)
      go (yes x) y = let z : p ≡ q = some_eq (now_l u x) e in omega arith
      go (no x) (yes y) = let z : p ≡ q = some_eq (now_r u y) e in omega arith
      go (no x) (no y) = F.rising u q (sym (rest u x y) ∙ e)

  links : (u q : ℕ) → (interface b' u).parent ≡ Some q → is_some (interface b' q).halves ≡ true
  links u q e = go (ℕ_discrete u l) (ℕ_discrete u r) (ℕ_discrete q p)
    where
      go : Dec (u ≡ l) → Dec (u ≡ r) → Dec (q ≡ p) → is_some (interface b' q).halves ≡ true
      go x y (yes z) = ap is_some (halves_p q z)
      go (yes x) y (no z) = absurd (z (some_eq e (now_l u x)))
      go (no x) (yes y) (no z) = absurd (z (some_eq e (now_r u y)))
      go (no x) (no y) (no z) = ap is_some (halves_else q z) ∙ F.linked u q (sym (rest u x y) ∙ e)

  ups : (w u c d : ℕ) → (interface b' w).parent ≡ Some u → (interface b' u).halves ≡ Some (c, d) → (w ≡ c) ⊎ (w ≡ d)
  ups w u c d e h = go (ℕ_discrete w l) (ℕ_discrete w r) (ℕ_discrete u p)
    where
      go : Dec (w ≡ l) → Dec (w ≡ r) → Dec (u ≡ p) → (w ≡ c) ⊎ (w ≡ d)
      go (yes x) y z = inl (x ∙ (pair_inj (halves_p u (some_eq e (now_l w x))) h).0)
      go (no x) (yes y) z = inr (y ∙ (pair_inj (halves_p u (some_eq e (now_r w y))) h).1)
      go (no x) (no y) (yes z) = absurd (true≢false (sym (F.linked w p (sym (rest w x y) ∙ e ∙ ap Some z)) ∙ f.no_halves))
      go (no x) (no y) (no z) = F.up w u c d (sym (rest w x y) ∙ e) (sym (halves_else u z) ∙ h)

  -- who had a parent before is neither l nor r
  had : (w u : ℕ) → (interface b w).parent ≡ Some u → (interface b' w).parent ≡ Some u
  had w u e = rest w (λ x. none_some (ap (λ (m : ℕ). (interface b m).parent) x ∙ f.l_none) e) (λ x. none_some (ap (λ (m : ℕ). (interface b m).parent) x ∙ f.r_none) e) ∙ e

  half : (u c d : ℕ) → (interface b' u).halves ≡ Some (c, d) → ((interface b' c).parent ≡ Some u) × ((interface b' d).parent ≡ Some u)
  half u c d h = go (ℕ_discrete u p)
    where
      go : Dec (u ≡ p) → ((interface b' c).parent ≡ Some u) × ((interface b' d).parent ≡ Some u)
      go (yes z) = let q : (l ≡ c) × (r ≡ d) = pair_inj (halves_p u z) h in (now_l c (sym q.0) ∙ ap Some (sym z), now_r d (sym q.1) ∙ ap Some (sym z))
      go (no z) = (had c u (F.left u c d (sym (halves_else u z) ∙ h)), had d u (F.right u c d (sym (halves_else u z) ∙ h)))

  parts : (u c d : ℕ) → (interface b' u).halves ≡ Some (c, d) → c ≢ d
  parts u c d h = go (ℕ_discrete u p)
    where
      go : Dec (u ≡ p) → c ≢ d
      go (yes z) g = let q : (l ≡ c) × (r ≡ d) = pair_inj (halves_p u z) h in f.l≢r (q.0 ∙ g ∙ sym q.1)
      go (no z) g = F.apart u c d (sym (halves_else u z) ∙ h) g

  pub fuse_frame : Frame (join b p l r)
  fuse_frame = record { eight = join_length b p l r j ∙ F.eight; rising = rises; linked = links; up = ups; left = λ u c d h. (half u c d h).0; right = λ u c d h. (half u c d h).1; apart = parts }

-- ---- clearing
module _ (b : Bench) (F : Frame b) (u : ℕ) where
  parent_of : (w q : ℕ) → (interface (wipe b u) w).parent ≡ Some q → (top b w ≢ u) × ((interface b w).parent ≡ Some q)
  parent_of w q e = go (ℕ_discrete (top b w) u)
    where
      go : Dec (top b w ≡ u) → (top b w ≢ u) × ((interface b w).parent ≡ Some q)
      go (yes x) = absurd (none_some (ap (λ (f : Interface). f.parent) (wipe_under b u w x)) e)
      go (no x) = (x, ap (λ (f : Interface). f.parent) (sym (wipe_else b u w x)) ∙ e)

  halves_of : (x : ℕ) (lr : ℕ × ℕ) → (interface (wipe b u) x).halves ≡ Some lr → (top b x ≢ u) × ((interface b x).halves ≡ Some lr)
  halves_of x lr e = go (ℕ_discrete (top b x) u)
    where
      go : Dec (top b x ≡ u) → (top b x ≢ u) × ((interface b x).halves ≡ Some lr)
      go (yes y) = absurd (none_some (ap (λ (f : Interface). f.halves) (wipe_under b u x y)) e)
      go (no y) = (y, ap (λ (f : Interface). f.halves) (sym (wipe_else b u x y)) ∙ e)

  -- a parent in a tree that stays
  stays_up : (w x : ℕ) → top b x ≢ u → (interface b w).parent ≡ Some x → (interface (wipe b u) w).parent ≡ Some x
  stays_up w x ne e = ap (λ (f : Interface). f.parent) (wipe_else b u w (λ t. ne (sym (top_parent b F w x e) ∙ t))) ∙ e

  pub clear_frame : Frame (wipe b u)
  clear_frame = record {
    eight = wipe_length b u ∙ F.eight;
    rising = λ w q e. F.rising w q (parent_of w q e).1;
    linked = λ w q e. let z = parent_of w q e in ap (λ (f : Interface). is_some f.halves) (wipe_else b u q (λ t. z.0 (top_parent b F w q z.1 ∙ t))) ∙ F.linked w q z.1;
    up = λ w x c d e h. F.up w x c d (parent_of w x e).1 (halves_of x (c, d) h).1;
    left = λ x c d h. let z = halves_of x (c, d) h in stays_up c x z.0 (F.left x c d z.1);
    right = λ x c d h. let z = halves_of x (c, d) h in stays_up d x z.0 (F.right x c d z.1);
    apart = λ x c d h. F.apart x c d (halves_of x (c, d) h).1;
  }

-- ---- set-up
pub all_fresh : (m u : ℕ) → get_or (replicate m fresh) u fresh ≡ fresh
all_fresh zero u = refl
all_fresh (suc m) zero = refl
all_fresh (suc m) (suc u) = all_fresh m u

pub opened_frame : (n : ℕ) → Frame (set_up n)
opened_frame n = record {
  eight = refl;
  rising = λ u p e. absurd (no_parent u p e);
  linked = λ u p e. absurd (no_parent u p e);
  up = λ w u l r e f. absurd (no_parent w u e);
  left = λ u l r f. absurd (no_halves u (l, r) f);
  right = λ u l r f. absurd (no_halves u (l, r) f);
  apart = λ u l r f. absurd (no_halves u (l, r) f);
}
  where
    no_parent : (u p : ℕ) → (interface (set_up n) u).parent ≡ Some p → ⊥
    no_parent u p e = none_some (ap (λ (f : Interface). f.parent) (all_fresh 8 u)) e

    no_halves : (u : ℕ) (lr : ℕ × ℕ) → (interface (set_up n) u).halves ≡ Some lr → ⊥
    no_halves u lr e = none_some (ap (λ (f : Interface). f.halves) (all_fresh 8 u)) e
