-- Numbers that stand higher than they are, in ℤ. Assumes nothing.
use Prim.Native.Nat.{ℕ, zero, suc, ◌+◌, ◌-◌, ◌*◌, ◌≤◌}
use mathlib.Core.Path.{◌≡◌, refl, ap, sym, ◌∙◌}
use native.Mathlib.Omega.{arith}
use lib.IntN.{ℤ, pos, neg_ℤ, ◌+ℤ◌, ◌-ℤ◌, ◌*ℤ◌, +ℤ_assoc, +ℤ_comm, +ℤ_idr, +ℤ_invr, +ℤ-neg_ℤ_cancel}
use Rattle.ledger_spec.proofs.Ints.{*ℤ_dist_l}
use Rattle.ledger_spec.specs.Bench.{rate}
use Rattle.kinds.specs.declared.GrowState.{GrowState}
use Rattle.kinds.specs.declared.GrowState.TheVariants.{Grow as Growing, Stay, Shrink}
use Rattle.bench_views.specs.View.{off, value_by}
use Rattle.ledger_spec.specs.Named.{state_named}
use Rattle.bench_views.specs.Records.{rate_of}

module _ (c : ℕ) where
  pub off_add : (n l : ℕ) → off c (n + l) ≡ off c n +ℤ pos l
  unfolding off
  off_add n l =
      +ℤ_assoc (pos n) (pos l) (neg_ℤ (pos c))
      ∙ ap (λ (z : ℤ). pos n +ℤ z) (+ℤ_comm (pos l) (neg_ℤ (pos c)))
      ∙ sym (+ℤ_assoc (pos n) (neg_ℤ (pos c)) (pos l))

  pub off_sub : (n l : ℕ) → l ≤ n → off c (n - l) ≡ off c n -ℤ pos l
  off_sub n l h =
      let e : n - l + l ≡ n = omega arith in
      sym (ap (λ (z : ℤ). z -ℤ pos l) (sym (ap (off c) e) ∙ off_add (n - l) l) ∙ +ℤ-neg_ℤ_cancel (off c (n - l)) (pos l))

  pub off_both : (n a b : ℕ) → b ≤ n + a → off c (n + a - b) ≡ off c n +ℤ (pos a -ℤ pos b)
  off_both n a b h = off_sub (n + a) b h ∙ ap (λ (z : ℤ). z -ℤ pos b) (off_add n a) ∙ +ℤ_assoc (off c n) (pos a) (neg_ℤ (pos b))

  pub off_zero : off c c ≡ pos 0
  unfolding off
  off_zero = +ℤ_invr (pos c)

-- shares of the speed
pub rates : (g h : GrowState) → pos (rate_of g) -ℤ pos (rate_of h) ≡ rate (state_named g) -ℤ rate (state_named h)
rates Growing Growing = refl
rates Growing Stay = refl
rates Growing Shrink = refl
rates Stay Growing = refl
rates Stay Stay = refl
rates Stay Shrink = refl
rates Shrink Growing = refl
rates Shrink Stay = refl
rates Shrink Shrink = refl

neg_mul : (l c : ℕ) → neg_ℤ (pos (l * c)) ≡ pos l *ℤ neg_ℤ (pos c)
neg_mul l zero = let e : l * 0 ≡ 0 = omega arith in ap (λ (x : ℕ). neg_ℤ (pos x)) e ∙ sym (ap pos e)
neg_mul l (suc c) = refl

pub sum_grown : (c d s l p : ℕ) → l * d ≤ s + l * p → off c (s + l * p - l * d) ≡ off c s +ℤ pos l *ℤ off d p
unfolding off
sum_grown c d s l p h =
    off_both c s (l * p) (l * d) h
    ∙ ap (λ (z : ℤ). off c s +ℤ z) (ap (λ (z : ℤ). pos (l * p) +ℤ z) (neg_mul l d) ∙ sym (*ℤ_dist_l (pos l) (pos p) (neg_ℤ (pos d))))

pub value_grown : (c : ℕ) (g : GrowState) (b t l : ℕ) → t + l ≤ b → off c (value_by g b (t + l)) ≡ off c (value_by g b t) +ℤ pos l *ℤ rate (state_named g)
value_grown c Growing b t l h =
    let e : b + (t + l) ≡ b + t + l = omega arith in
    let one : l * 1 ≡ l = omega arith in
    ap (off c) e ∙ off_add c (b + t) l ∙ ap (λ (x : ℕ). off c (b + t) +ℤ pos x) (sym one)
value_grown c Stay b t l h =
    let nil : l * 0 ≡ 0 = omega arith in
    sym (ap (λ (x : ℕ). off c b +ℤ pos x) nil ∙ +ℤ_idr (off c b))
value_grown c Shrink b t l h =
    let e : b - (t + l) ≡ b - t - l = omega arith in
    let one : l * 1 ≡ l = omega arith in
    ap (off c) e ∙ off_sub c (b - t) l (omega arith) ∙ ap (λ (x : ℕ). off c (b - t) +ℤ neg_ℤ (pos x)) (sym one)
