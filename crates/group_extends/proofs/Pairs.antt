-- The smaller of two pairs, by tests of what the machine reads back from the lengths' bits. Assumes nothing.
use mathlib.Core.Path.{◌≡◌, sym, ap, ◌∙◌}
use mathlib.Core.Bool.{Bool, true, false, cond, ◌&&◌}
use lib.IntN.{ℤ}
use lib.Signed.{lt_z}
use Rattle.ledger_spec.specs.Groups.{growth, largest, eq_z, smaller_pair}
use Rattle.group_extends.specs.Extends.{least_of}

module _ (a b a' b' : ℤ) (f h : Bool) (p : a' ≡ a) (q : b' ≡ b) where
  pub pair_largest : eq_z b largest ≡ true → growth a' f ≡ least_of a f b h
  pair_largest e = ap (λ (z : ℤ). growth z f) p ∙ sym (ap (λ (c : Bool). cond c (growth a f) (smaller_pair a f b h)) e)

  module _ (e : eq_z b largest ≡ false) where
    by_pair_lem : least_of a f b h ≡ smaller_pair a f b h
    by_pair_lem = ap (λ (c : Bool). cond c (growth a f) (smaller_pair a f b h)) e

    pub pair_other : lt_z b' a' ≡ true → growth b' h ≡ least_of a f b h
    unfolding smaller_pair
    pair_other t = ap (λ (z : ℤ). growth z h) q ∙ sym (by_pair_lem ∙ rw (sym (λ i. lt_z (q i) (p i)) ∙ t))

    pub pair_own : lt_z b' a' ≡ false → lt_z a' b' ≡ true → growth a' f ≡ least_of a f b h
    unfolding smaller_pair
    pair_own t s = ap (λ (z : ℤ). growth z f) p ∙ sym (by_pair_lem ∙ rw (sym (λ i. lt_z (q i) (p i)) ∙ t, sym (λ i. lt_z (p i) (q i)) ∙ s))

    pub pair_both : (j : Bool) → j ≡ (f && h) → lt_z b' a' ≡ false → lt_z a' b' ≡ false → growth a' j ≡ least_of a f b h
    unfolding smaller_pair
    pair_both j m t s = (λ i. growth (p i) (m i)) ∙ sym (by_pair_lem ∙ rw (sym (λ i. lt_z (q i) (p i)) ∙ t, sym (λ i. lt_z (p i) (q i)) ∙ s))
