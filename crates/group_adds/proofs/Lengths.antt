-- The smaller of two lengths, by a test of what the machine reads back from their bits. Assumes nothing.
use mathlib.Core.Path.{◌≡◌, sym, ap, ◌∙◌}
use mathlib.Core.Bool.{Bool, true, false, cond}
use lib.IntN.{ℤ}
use lib.Signed.{lt_z}
use Rattle.ledger_spec.specs.Groups.{smaller}

module _ (a b a' b' : ℤ) (p : a' ≡ a) (q : b' ≡ b) where
  pub smaller_other : lt_z b' a' ≡ true → b' ≡ smaller a b
  smaller_other t = q ∙ sym (ap (λ (c : Bool). cond c b a) (sym (λ i. lt_z (q i) (p i)) ∙ t))

  pub smaller_own : lt_z b' a' ≡ false → a' ≡ smaller a b
  smaller_own t = p ∙ sym (ap (λ (c : Bool). cond c b a) (sym (λ i. lt_z (q i) (p i)) ∙ t))
