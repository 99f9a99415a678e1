-- Sums of v over what stands under a top, and four ways to change v and the tops: one place, a tree by its rates, two trees fused, one emptied.
-- It speaks of no bench: `tp` says the top of each interface. Used of sums and values, of speeds and rates, of W and progress. Assumes nothing.
use Prim.Native.Nat.{ℕ, ◌<◌}
use mathlib.Core.Path.{◌≡◌, sym, ◌∙◌, ap, ap₂, subst}
use mathlib.Core.Logic.{◌≢◌}
use native.Mathlib.Decide.{ℕ_discrete}
use lib.Dec.{eqb}
use lib.IntN.{ℤ, pos, ◌+ℤ◌, ◌*ℤ◌, +ℤ_idl, +ℤ_idr, *ℤ-zero}
use Rattle.ledger_spec.specs.Account.{gate, tree_sum}
use Rattle.ledger_spec.proofs.Sums.{Σ_same, Σ_add, Σ_scale, Σ_change, Σ_zero, gate_yes, gate_no, zero_gate}

-- s at a top is the sum of v over what stands under it
abbrev pub Balanced : (ℕ → ℕ) → (ℕ → ℤ) → (ℕ → ℤ) → Type 0
Balanced tp s v = (i : ℕ) → i < 8 → tp i ≡ i → s i ≡ tree_sum tp v i

-- ---- v changes at k by d
module _ (tp : ℕ → ℕ) (v v' : ℕ → ℤ) (k : ℕ) (d : ℤ) (k<8 : k < 8) (v-k : v' k ≡ v k +ℤ d) (v-else : (w : ℕ) → w ≢ k → v' w ≡ v w) where
  apart : (i w : ℕ) → w ≢ k → gate (eqb (tp w) i) (v' w) ≡ gate (eqb (tp w) i) (v w)
  apart i w q = ap (gate (eqb (tp w) i)) (v-else w q)

  pub under_change : (i : ℕ) → tp k ≡ i → tree_sum tp v' i ≡ tree_sum tp v i +ℤ d
  under_change i p = Σ_change 8 (λ u. gate (eqb (tp u) i) (v u)) (λ u. gate (eqb (tp u) i) (v' u)) k d k<8 (apart i)
      (gate_yes p (v' k) ∙ v-k ∙ ap (λ (z : ℤ). z +ℤ d) (sym (gate_yes p (v k))))

  pub under_other : (i : ℕ) → tp k ≢ i → tree_sum tp v' i ≡ tree_sum tp v i
  under_other i q = Σ_change 8 (λ u. gate (eqb (tp u) i) (v u)) (λ u. gate (eqb (tp u) i) (v' u)) k (pos 0) k<8 (apart i)
      (gate_no q (v' k) ∙ sym (gate_no q (v k)) ∙ sym (+ℤ_idr _)) ∙ +ℤ_idr _

  pub bal_change : (s s' : ℕ → ℤ) → s' (tp k) ≡ s (tp k) +ℤ d → ((i : ℕ) → i ≢ tp k → s' i ≡ s i) → Balanced tp s v → Balanced tp s' v'
  bal_change s s' s-k s-else bal i i<8 root = go (ℕ_discrete (tp k) i)
    where
      go : Dec (tp k ≡ i) → s' i ≡ tree_sum tp v' i
      go (yes p) = subst (λ (z : ℕ). s' z ≡ s z +ℤ d) p s-k ∙ ap (λ (z : ℤ). z +ℤ d) (bal i i<8 root) ∙ sym (under_change i p)
      go (no q) = s-else i (λ e. q (sym e)) ∙ bal i i<8 root ∙ sym (under_other i q)

-- ---- everything under the top k moves by l times its r
module _ (tp : ℕ → ℕ) (v v' r : ℕ → ℤ) (k : ℕ) (l : ℤ)
    (v-under : (u : ℕ) → u < 8 → tp u ≡ k → v' u ≡ v u +ℤ l *ℤ r u) (v-else : (u : ℕ) → u < 8 → tp u ≢ k → v' u ≡ v u) where
  pub under_scale : tree_sum tp v' k ≡ tree_sum tp v k +ℤ l *ℤ tree_sum tp r k
  under_scale = Σ_same 8 (λ u. gate (eqb (tp u) k) (v u) +ℤ l *ℤ gate (eqb (tp u) k) (r u)) (λ u. gate (eqb (tp u) k) (v' u)) (λ u h. here u h (ℕ_discrete (tp u) k))
      ∙ Σ_add 8 (λ u. gate (eqb (tp u) k) (v u)) (λ u. l *ℤ gate (eqb (tp u) k) (r u))
      ∙ ap (λ (z : ℤ). tree_sum tp v k +ℤ z) (Σ_scale 8 l (λ u. gate (eqb (tp u) k) (r u)))
    where
      here : (u : ℕ) → u < 8 → Dec (tp u ≡ k) → gate (eqb (tp u) k) (v' u) ≡ gate (eqb (tp u) k) (v u) +ℤ l *ℤ gate (eqb (tp u) k) (r u)
      here u h (yes p) = gate_yes p (v' u) ∙ v-under u h p ∙ ap₂ (λ (x y : ℤ). x +ℤ l *ℤ y) (sym (gate_yes p (v u))) (sym (gate_yes p (r u)))
      here u h (no q) = gate_no q (v' u) ∙ sym (ap₂ (λ (x y : ℤ). x +ℤ l *ℤ y) (gate_no q (v u)) (gate_no q (r u)) ∙ ap (λ (z : ℤ). pos 0 +ℤ z) (*ℤ-zero l))

  pub under_still : (i : ℕ) → i ≢ k → tree_sum tp v' i ≡ tree_sum tp v i
  under_still i ne = Σ_same 8 (λ u. gate (eqb (tp u) i) (v u)) (λ u. gate (eqb (tp u) i) (v' u)) (λ u h. there u h (ℕ_discrete (tp u) i))
    where
      there : (u : ℕ) → u < 8 → Dec (tp u ≡ i) → gate (eqb (tp u) i) (v' u) ≡ gate (eqb (tp u) i) (v u)
      there u h (yes p) = ap (gate (eqb (tp u) i)) (v-else u h (λ e. ne (sym p ∙ e)))
      there u h (no q) = gate_no q (v' u) ∙ sym (gate_no q (v u))

  -- s at k moves by l times its t, where t and r balance
  pub bal_scale : (s s' t : ℕ → ℤ) → s' k ≡ s k +ℤ l *ℤ t k → ((i : ℕ) → i ≢ k → s' i ≡ s i) → Balanced tp t r → Balanced tp s v → Balanced tp s' v'
  bal_scale s s' t s-k s-else turn bal i i<8 root = go (ℕ_discrete i k)
    where
      go : Dec (i ≡ k) → s' i ≡ tree_sum tp v' i
      go (yes p) = subst (λ (z : ℕ). s' z ≡ tree_sum tp v' z) (sym p) (s-k ∙ ap₂ (λ (x y : ℤ). x +ℤ l *ℤ y) (subst (λ (z : ℕ). s z ≡ tree_sum tp v z) p (bal i i<8 root)) (subst (λ (z : ℕ). t z ≡ tree_sum tp r z) p (turn i i<8 root)) ∙ sym under_scale)
      go (no q) = s-else i q ∙ bal i i<8 root ∙ sym (under_still i q)

-- ---- the tops a and b go under p, which stood alone with nothing
module _ (tp tp' : ℕ → ℕ) (v : ℕ → ℤ) (p a b : ℕ) (a-top : tp a ≡ a) (b-top : tp b ≡ b) (a≢b : a ≢ b)
    (to-a : (u : ℕ) → tp u ≡ a → tp' u ≡ p) (to-b : (u : ℕ) → tp u ≡ b → tp' u ≡ p) (tp-else : (u : ℕ) → tp u ≢ a → tp u ≢ b → tp' u ≡ tp u)
    (alone : (u : ℕ) → tp u ≡ p → v u ≡ pos 0) where
  pub under_fuse : tree_sum tp' v p ≡ tree_sum tp v a +ℤ tree_sum tp v b
  under_fuse = Σ_same 8 (λ u. gate (eqb (tp u) a) (v u) +ℤ gate (eqb (tp u) b) (v u)) (λ u. gate (eqb (tp' u) p) (v u))
      (λ u h. both u (ℕ_discrete (tp u) a) (ℕ_discrete (tp u) b) (ℕ_discrete (tp u) p))
      ∙ Σ_add 8 (λ u. gate (eqb (tp u) a) (v u)) (λ u. gate (eqb (tp u) b) (v u))
    where
      both : (u : ℕ) → Dec (tp u ≡ a) → Dec (tp u ≡ b) → Dec (tp u ≡ p) → gate (eqb (tp' u) p) (v u) ≡ gate (eqb (tp u) a) (v u) +ℤ gate (eqb (tp u) b) (v u)
      both u (yes e) y z = gate_yes (to-a u e) (v u) ∙ sym (+ℤ_idr (v u)) ∙ sym (ap₂ ◌+ℤ◌ (gate_yes e (v u)) (gate_no (λ f. a≢b (sym e ∙ f)) (v u)))
      both u (no x) (yes e) z = gate_yes (to-b u e) (v u) ∙ sym (+ℤ_idl (v u)) ∙ sym (ap₂ ◌+ℤ◌ (gate_no x (v u)) (gate_yes e (v u)))
      both u (no x) (no y) (yes e) = gate_yes (tp-else u x y ∙ e) (v u) ∙ alone u e ∙ sym (ap₂ ◌+ℤ◌ (gate_no x (v u)) (gate_no y (v u)))
      both u (no x) (no y) (no z) = gate_no (λ f. z (sym (tp-else u x y) ∙ f)) (v u) ∙ sym (ap₂ ◌+ℤ◌ (gate_no x (v u)) (gate_no y (v u)))

  -- a top that is not p was one before
  pub fuse_root : (i : ℕ) → i ≢ p → tp' i ≡ i → (tp i ≡ i) × (i ≢ a) × (i ≢ b)
  fuse_root i ne root = go (ℕ_discrete (tp i) a) (ℕ_discrete (tp i) b)
    where
      go : Dec (tp i ≡ a) → Dec (tp i ≡ b) → (tp i ≡ i) × (i ≢ a) × (i ≢ b)
      go (yes f) g = absurd (ne (sym root ∙ to-a i f))
      go (no f) (yes g) = absurd (ne (sym root ∙ to-b i g))
      go (no f) (no g) = (sym (tp-else i f g) ∙ root, λ e. f (ap tp e ∙ a-top), λ e. g (ap tp e ∙ b-top))

  pub under_unfused : (i : ℕ) → i ≢ p → i ≢ a → i ≢ b → tree_sum tp' v i ≡ tree_sum tp v i
  under_unfused i ne f g = Σ_same 8 (λ u. gate (eqb (tp u) i) (v u)) (λ u. gate (eqb (tp' u) i) (v u)) (λ u h. same u (ℕ_discrete (tp u) a) (ℕ_discrete (tp u) b))
    where
      same : (u : ℕ) → Dec (tp u ≡ a) → Dec (tp u ≡ b) → gate (eqb (tp' u) i) (v u) ≡ gate (eqb (tp u) i) (v u)
      same u (yes x) y = gate_no (λ e. ne (sym e ∙ to-a u x)) (v u) ∙ sym (gate_no (λ e. f (sym e ∙ x)) (v u))
      same u (no x) (yes y) = gate_no (λ e. ne (sym e ∙ to-b u y)) (v u) ∙ sym (gate_no (λ e. g (sym e ∙ y)) (v u))
      same u (no x) (no y) = ap (λ (z : ℕ). gate (eqb z i) (v u)) (tp-else u x y)

  pub bal_fuse : (s s' : ℕ → ℤ) → a < 8 → b < 8 → s' p ≡ s a +ℤ s b → ((i : ℕ) → i ≢ p → s' i ≡ s i) → Balanced tp s v → Balanced tp' s' v
  bal_fuse s s' a<8 b<8 s-p s-else bal i i<8 root = go (ℕ_discrete i p)
    where
      go : Dec (i ≡ p) → s' i ≡ tree_sum tp' v i
      go (yes e) = subst (λ (z : ℕ). s' z ≡ tree_sum tp' v z) (sym e) (s-p ∙ ap₂ ◌+ℤ◌ (bal a a<8 a-top) (bal b b<8 b-top) ∙ sym under_fuse)
      go (no ne) = let old : (tp i ≡ i) × (i ≢ a) × (i ≢ b) = fuse_root i ne root in
          s-else i ne ∙ bal i i<8 old.0 ∙ sym (under_unfused i ne old.1 old.2)

-- ---- all under the top k is emptied and stands alone
module _ (tp tp' : ℕ → ℕ) (v v' : ℕ → ℤ) (k : ℕ) (tops : (u : ℕ) → u < 8 → tp (tp u) ≡ tp u)
    (tp-else : (u : ℕ) → u < 8 → tp u ≢ k → tp' u ≡ tp u)
    (v-under : (u : ℕ) → u < 8 → tp u ≡ k → v' u ≡ pos 0) (v-else : (u : ℕ) → u < 8 → tp u ≢ k → v' u ≡ v u) where
  pub under_cleared : (i : ℕ) → tp i ≡ k → tree_sum tp' v' i ≡ pos 0
  under_cleared i e = Σ_zero 8 (λ u. gate (eqb (tp' u) i) (v' u)) (λ u h. none_left u h (ℕ_discrete (tp u) k))
    where
      none_left : (u : ℕ) → u < 8 → Dec (tp u ≡ k) → gate (eqb (tp' u) i) (v' u) ≡ pos 0
      none_left u h (yes f) = ap (gate (eqb (tp' u) i)) (v-under u h f) ∙ zero_gate (eqb (tp' u) i)
      none_left u h (no f) = gate_no (λ g. f (sym (tops u h) ∙ ap tp (sym (tp-else u h f) ∙ g) ∙ e)) (v' u)

  pub under_spared : (i : ℕ) → tp i ≢ k → tree_sum tp' v' i ≡ tree_sum tp v i
  under_spared i ne = Σ_same 8 (λ u. gate (eqb (tp u) i) (v u)) (λ u. gate (eqb (tp' u) i) (v' u)) (λ u h. same u h (ℕ_discrete (tp u) k))
    where
      same : (u : ℕ) → u < 8 → Dec (tp u ≡ k) → gate (eqb (tp' u) i) (v' u) ≡ gate (eqb (tp u) i) (v u)
      same u h (yes f) = ap (gate (eqb (tp' u) i)) (v-under u h f) ∙ zero_gate (eqb (tp' u) i) ∙ sym (gate_no (λ g. ne (ap tp (sym g) ∙ tops u h ∙ f)) (v u))
      same u h (no f) = ap₂ (λ (z : ℕ) (y : ℤ). gate (eqb z i) y) (tp-else u h f) (v-else u h f)

  pub bal_clear : (s s' : ℕ → ℤ) → ((u : ℕ) → u < 8 → tp u ≡ k → s' u ≡ pos 0) → ((u : ℕ) → u < 8 → tp u ≢ k → s' u ≡ s u) → Balanced tp s v → Balanced tp' s' v'
  bal_clear s s' s-under s-else bal i i<8 root = go (ℕ_discrete (tp i) k)
    where
      go : Dec (tp i ≡ k) → s' i ≡ tree_sum tp' v' i
      go (yes e) = s-under i i<8 e ∙ sym (under_cleared i e)
      go (no ne) = s-else i i<8 ne ∙ bal i i<8 (sym (tp-else i i<8 ne) ∙ root) ∙ sym (under_spared i ne)
