-- Numbers of two interfaces added, each standing higher than it is; and the progress above an interface where two tops get a parent that has grown
-- nothing: it stays. Assumes nothing.
use Rattle.std.specs.Prelude.{None, Option, Some}
use Prim.Native.Nat.{ℕ, zero, suc, ◌+◌, ◌-◌, ◌≤◌}
use mathlib.Core.Path.{◌≡◌, refl, ap, ◌∙◌}
use mathlib.Core.Logic.{◌≢◌, by_cases}
use native.Mathlib.Decide.{ℕ_discrete}
use lib.IntN.{ℤ, pos, neg_ℤ, ◌+ℤ◌, ◌-ℤ◌, +ℤ_assoc}
use Rattle.bench_words.specs.declared.Interface.{Interface}
use Rattle.bench_views.specs.View.{lag_of, off, over, sum_up}
use Rattle.bench_views.proofs.Offsets.{off_sub, off_add}

pub off_join : (c a b : ℕ) → c ≤ a + b → off c (a + b - c) ≡ off c a +ℤ off c b
unfolding off
off_join c a b l = off_sub c (a + b) c l ∙ ap (λ (z : ℤ). z -ℤ pos c) (off_add c a b) ∙ +ℤ_assoc (off c a) (pos b) (neg_ℤ (pos c))

-- ---- the sums stay
module _ (A A' : ℕ → Interface) (p l r : ℕ) (top-l : (A l).parent ≡ None) (top-r : (A r).parent ≡ None) (bare : lag_of (A p) ≡ 0)
    (at_p : (A' p).parent ≡ None) (at-l : (A' l).parent ≡ Some p) (at-r : (A' r).parent ≡ Some p)
    (other : (v : ℕ) → v ≢ l → v ≢ r → (A' v).parent ≡ (A v).parent) (progress : (v : ℕ) → lag_of (A' v) ≡ lag_of (A v)) where
  sum_p : (n : ℕ) → sum_up n A' p ≡ 0
  unfolding sum_up
  sum_p zero = refl
  sum_p (suc n) = rw (at_p, progress p, bare)

  over_same : (q : Option ℕ) (n : ℕ) → ((w : ℕ) → sum_up n A' w ≡ sum_up n A w) → over q 0 (sum_up n A') ≡ over q 0 (sum_up n A)
  over_same None n h = refl
  over_same (Some q) n h = h q

  pub fuse_sums : (n v : ℕ) → sum_up n A' v ≡ sum_up n A v
  unfolding sum_up
  fuse_sums zero v = refl
  fuse_sums (suc n) v =
      by_cases (ℕ_discrete v l)
      (λ (e : v ≡ l). rw (e, progress l, at-l, top-l, sum_p n))
      (λ (nl : v ≡ l → ⊥).
      by_cases (ℕ_discrete v r)
      (λ (e : v ≡ r). rw (e, progress r, at-r, top-r, sum_p n))
      (λ (nr : v ≡ r → ⊥). rw (progress v, other v nl nr) (ap (λ (x : ℕ). lag_of (A v) + x) (over_same (A v).parent n (fuse_sums n)))))
