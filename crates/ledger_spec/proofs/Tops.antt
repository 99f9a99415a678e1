-- The top of an interface's tree: what it depends on, that the climb ends, and what fusing and clearing do to it. Assumes nothing.
use Rattle.std.specs.Prelude.{None, Option, Some}
use Prim.Native.Nat.{ℕ, zero, suc, ◌+◌, ◌≤◌, ◌<◌}
use mathlib.Core.Path.{◌≡◌, refl, sym, ◌∙◌, ap, ap₂, subst}
use mathlib.Core.Logic.{◌≢◌}
use mathlib.Core.Bool.{Bool, true, false, cond, ◌||◌, true≢false}
use native.Mathlib.Omega.{arith}
use native.Mathlib.Decide.{ℕ_discrete}
use lib.Dec.{eqb}
use borrow.Author.Tests.{eq-eqb, ne_eqb}
use Rattle.ledger_spec.specs.Bench.{Bench}
use Rattle.ledger_spec.specs.Look.{interface, climb, top}
use Rattle.ledger_spec.specs.Tests.{is_some}
use Rattle.ledger_spec.specs.Frame.{Frame}

pub climb_none : (k : ℕ) (b : Bench) (u : ℕ) → (interface b u).parent ≡ None → climb k b u ≡ u
unfolding climb
climb_none zero b u e = refl
climb_none (suc k) b u e = rw (e, climb)

pub climb_some : (k : ℕ) (b : Bench) (u p : ℕ) → (interface b u).parent ≡ Some p → climb (suc k) b u ≡ climb k b p
unfolding climb
climb_some k b u p e = rw (e, climb)

-- it goes by the parents alone
pub climb_same : (b b' : Bench) → ((w : ℕ) → (interface b' w).parent ≡ (interface b w).parent) → (k u : ℕ) → climb k b' u ≡ climb k b u
unfolding climb
climb_same b b' same zero u = refl
climb_same b b' same (suc k) u = go (interface b u).parent refl (climb_same b b' same k)
  where
    go : (q : Option ℕ) → (interface b u).parent ≡ q → ((p : ℕ) → climb k b' p ≡ climb k b p) → climb (suc k) b' u ≡ climb (suc k) b u
    go None e ih = climb_none (suc k) b' u (same u ∙ e) ∙ sym (climb_none (suc k) b u e)
    go (Some p) e ih = climb_some k b' u p (same u ∙ e) ∙ ih p ∙ sym (climb_some k b u p e)

module _ (b : Bench) (F : Frame b) where
  -- with fuel enough the climb ends at an interface without a parent, and more fuel changes nothing
  pub ends : (k u : ℕ) → 7 ≤ u + k → (interface b (climb k b u)).parent ≡ None
  unfolding climb
  ends zero u h = go (interface b u).parent refl
    where
      go : (q : Option ℕ) → (interface b u).parent ≡ q → (interface b u).parent ≡ None
      go None e = e
      go (Some p) e = let r : (u < p) × (p < 8) = F.rising u p e in absurd (omega arith)
  ends (suc k) u h = go (interface b u).parent refl (ends k)
    where
      go : (q : Option ℕ) → (interface b u).parent ≡ q → ((p : ℕ) → 7 ≤ p + k → (interface b (climb k b p)).parent ≡ None) → (interface b (climb (suc k) b u)).parent ≡ None
      go None e ih = ap (λ (z : ℕ). (interface b z).parent) (climb_none (suc k) b u e) ∙ e
      go (Some p) e ih = let r : (u < p) × (p < 8) = F.rising u p e in ap (λ (z : ℕ). (interface b z).parent) (climb_some k b u p e) ∙ ih p (omega arith)

  pub top_root : (u : ℕ) → (interface b (top b u)).parent ≡ None
  top_root u = ends 8 u (omega arith)

  pub tops : (u : ℕ) → top b (top b u) ≡ top b u
  tops u = climb_none 8 b (top b u) (top_root u)

  pub root_parent : (i : ℕ) → top b i ≡ i → (interface b i).parent ≡ None
  root_parent i e = ap (λ (z : ℕ). (interface b z).parent) (sym e) ∙ top_root i

  pub below : (k u : ℕ) → u < 8 → climb k b u < 8
  unfolding climb
  below zero u h = h
  below (suc k) u h = go (interface b u).parent refl (below k)
    where
      go : (q : Option ℕ) → (interface b u).parent ≡ q → ((p : ℕ) → p < 8 → climb k b p < 8) → climb (suc k) b u < 8
      go None e ih = subst (λ (z : ℕ). z < 8) (sym (climb_none (suc k) b u e)) h
      go (Some p) e ih = subst (λ (z : ℕ). z < 8) (sym (climb_some k b u p e)) (ih p (F.rising u p e).1)

  pub settled : (k u : ℕ) → 7 ≤ u + k → climb (suc k) b u ≡ climb k b u
  unfolding climb
  settled zero u h = climb_none 1 b u (ends zero u h)
  settled (suc k) u h = go (interface b u).parent refl (settled k)
    where
      go : (q : Option ℕ) → (interface b u).parent ≡ q → ((p : ℕ) → 7 ≤ p + k → climb (suc k) b p ≡ climb k b p) → climb (suc (suc k)) b u ≡ climb (suc k) b u
      go None e ih = climb_none (suc (suc k)) b u e ∙ sym (climb_none (suc k) b u e)
      go (Some p) e ih = let r : (u < p) × (p < 8) = F.rising u p e in climb_some (suc k) b u p e ∙ ih p (omega arith) ∙ sym (climb_some k b u p e)

  -- an interface has its parent's top
  pub top_parent : (u p : ℕ) → (interface b u).parent ≡ Some p → top b u ≡ top b p
  top_parent u p e = climb_some 7 b u p e ∙ sym (settled 7 p (omega arith))

-- ---- fusing: l and r get the parent p, and nothing else changes its parent
moved : ℕ → ℕ → ℕ → ℕ → ℕ
moved p l r t = cond (eqb t l || eqb t r) p t

module _ (p l r t : ℕ) where
  moved_l : t ≡ l → moved p l r t ≡ p
  unfolding moved
  moved_l e = ap (λ (c : Bool). cond (c || eqb t r) p t) (eq-eqb t l e)

  moved_r : t ≡ r → moved p l r t ≡ p
  unfolding moved
  moved_r e = ap (λ (c : Bool). cond (eqb t l || c) p t) (eq-eqb t r e) ∙ go (eqb t l)
    where
      go : (c : Bool) → cond (c || true) p t ≡ p
      go true = refl
      go false = refl

  moved_else : t ≢ l → t ≢ r → moved p l r t ≡ t
  unfolding moved
  moved_else e f = ap₂ (λ (c d : Bool). cond (c || d) p t) (ne_eqb t l e) (ne_eqb t r f)

module _ (b b' : Bench) (F : Frame b) (p l r : ℕ) (l<p : l < p) (r<p : r < p)
    (l_none : (interface b l).parent ≡ None) (r_none : (interface b r).parent ≡ None) (p_none : (interface b p).parent ≡ None)
    (l-now : (interface b' l).parent ≡ Some p) (r-now : (interface b' r).parent ≡ Some p)
    (rest : (w : ℕ) → w ≢ l → w ≢ r → (interface b' w).parent ≡ (interface b w).parent) where
  p_now : (interface b' p).parent ≡ None
  p_now = rest p (λ e. omega arith) (λ e. omega arith) ∙ p_none

  not_none : (q : ℕ) (o : Option ℕ) → o ≡ None → o ≡ Some q → ⊥
  not_none q o e f = let z : ◌≡◌ {A = ℕ} 0 1 = cc in omega arith

  step : (k u : ℕ) → ((q : ℕ) → u < q → q < 8 → climb k b' q ≡ moved p l r (climb k b q)) → climb (suc k) b' u ≡ moved p l r (climb (suc k) b u)
  step k u ih = go (interface b u).parent refl (ℕ_discrete u l) (ℕ_discrete u r)
    where
      via : (interface b' u).parent ≡ Some p → climb (suc k) b' u ≡ p
      via e = climb_some k b' u p e ∙ climb_none k b' p p_now

      go : (q : Option ℕ) → (interface b u).parent ≡ q → Dec (u ≡ l) → Dec (u ≡ r) → climb (suc k) b' u ≡ moved p l r (climb (suc k) b u)
      go None e (yes x) y = via (ap (λ (z : ℕ). (interface b' z).parent) x ∙ l-now) ∙ sym (ap (moved p l r) (climb_none (suc k) b u e) ∙ moved_l p l r u x)
      go None e (no x) (yes y) = via (ap (λ (z : ℕ). (interface b' z).parent) y ∙ r-now) ∙ sym (ap (moved p l r) (climb_none (suc k) b u e) ∙ moved_r p l r u y)
      go None e (no x) (no y) = climb_none (suc k) b' u (rest u x y ∙ e) ∙ sym (ap (moved p l r) (climb_none (suc k) b u e) ∙ moved_else p l r u x y)
      go (Some q) e (yes x) y = absurd (not_none q (interface b u).parent (ap (λ (z : ℕ). (interface b z).parent) x ∙ l_none) e)
      go (Some q) e (no x) (yes y) = absurd (not_none q (interface b u).parent (ap (λ (z : ℕ). (interface b z).parent) y ∙ r_none) e)
      go (Some q) e (no x) (no y) = climb_some k b' u q (rest u x y ∙ e) ∙ ih q (F.rising u q e).0 (F.rising u q e).1 ∙ ap (moved p l r) (sym (climb_some k b u q e))

  climbed : (k u : ℕ) → 7 ≤ u + k → climb (suc k) b' u ≡ moved p l r (climb (suc k) b u)
  climbed zero u h = step zero u (λ q a c. absurd (omega arith))
  climbed (suc k) u h = step (suc k) u (λ q a c. climbed k q (omega arith))

  pub fused_l : (u : ℕ) → top b u ≡ l → top b' u ≡ p
  fused_l u e = climbed 7 u (omega arith) ∙ moved_l p l r (top b u) e

  pub fused_r : (u : ℕ) → top b u ≡ r → top b' u ≡ p
  fused_r u e = climbed 7 u (omega arith) ∙ moved_r p l r (top b u) e

  pub fused_else : (u : ℕ) → top b u ≢ l → top b u ≢ r → top b' u ≡ top b u
  fused_else u e f = climbed 7 u (omega arith) ∙ moved_else p l r (top b u) e f

-- an interface without halves is nobody's top but its own
alone_climb : (b : Bench) → Frame b → (p : ℕ) → is_some (interface b p).halves ≡ false → (k u : ℕ) → climb k b u ≡ p → u ≡ p
unfolding climb
alone_climb b F p bare zero u t = t
alone_climb b F p bare (suc k) u t = go (interface b u).parent refl (alone_climb b F p bare k)
  where
    go : (q : Option ℕ) → (interface b u).parent ≡ q → ((v : ℕ) → climb k b v ≡ p → v ≡ p) → u ≡ p
    go None e ih = sym (climb_none (suc k) b u e) ∙ t
    go (Some q) e ih = let q_is : q ≡ p = ih q (sym (climb_some k b u q e) ∙ t) in
        absurd (true≢false (sym (F.linked u p (e ∙ ap Some q_is)) ∙ bare))

pub alone : (b : Bench) → Frame b → (p : ℕ) → is_some (interface b p).halves ≡ false → (u : ℕ) → top b u ≡ p → u ≡ p
alone b F p bare u t = alone_climb b F p bare 8 u t

-- ---- clearing: all under i lose their parents, and nothing else does
module _ (b b' : Bench) (F : Frame b) (i : ℕ)
    (under : (w : ℕ) → top b w ≡ i → (interface b' w).parent ≡ None)
    (rest : (w : ℕ) → top b w ≢ i → (interface b' w).parent ≡ (interface b w).parent) where
  pub cleared_under : (u : ℕ) → top b u ≡ i → top b' u ≡ u
  cleared_under u e = climb_none 8 b' u (under u e)

  cleared_climb : (k u : ℕ) → top b u ≢ i → climb k b' u ≡ climb k b u
  unfolding climb
  cleared_climb zero u e = refl
  cleared_climb (suc k) u e = go (interface b u).parent refl (cleared_climb k)
    where
      go : (q : Option ℕ) → (interface b u).parent ≡ q → ((p : ℕ) → top b p ≢ i → climb k b' p ≡ climb k b p) → climb (suc k) b' u ≡ climb (suc k) b u
      go None f ih = climb_none (suc k) b' u (rest u e ∙ f) ∙ sym (climb_none (suc k) b u f)
      go (Some p) f ih = climb_some k b' u p (rest u e ∙ f) ∙ ih p (λ z. e (top_parent b F u p f ∙ z)) ∙ sym (climb_some k b u p f)

  pub cleared_else : (u : ℕ) → top b u ≢ i → top b' u ≡ top b u
  cleared_else u e = cleared_climb 8 u e
