-- Sign and size of a number, where -1 - z stands for a z below 0, since -z need not fit. Assumes nothing.
use Prim.Native.Nat.{ℕ, zero, suc, ◌+◌, ◌-◌, ◌<◌, ◌≤◌}
use native.Mathlib.Omega.{arith}
use native.Mathlib.Nat.{zero-add}
use native.Mathlib.Numerals.{add-one}
use mathlib.Core.Path.{◌≡◌, refl, sym, ap}
use mathlib.Core.Bool.{true, false, true≢false}
use mathlib.Core.List.{◌∷◌}
use lib.Dec.{T}
use lib.Signed.{lt_z, non_neg}
use lib.IntN.{ℤ, pos, negsuc, nat_abs, neg_ℤ, ◌-ℤ◌}
use borrow.Author.Tests.{ltb-true, le-ltb}
use mir.Syntax.{w64}
use mir.Val.{SFits, Fits, to_z, of_z}
use mir.Facts.{to_z-of_z}
use Rattle.ledger_spec.specs.Decimals.{decimal, signed}

less_one : (n : ℕ) → suc n - 1 ≡ n
less_one n = omega arith

-- ---- read: -n is -1 - (n - 1)

pub below : (k : ℕ) → negsuc 0 -ℤ pos k ≡ negsuc k
below zero = refl
below (suc k) = simp zero-add

pub fits_below : (k : ℕ) → k < 9223372036854775808 → SFits w64 (negsuc k)
fits_below k h = record { sfits = h }

pub negated : (n : ℕ) → 0 < n → neg_ℤ (pos n) ≡ negsuc (n - 1)
negated zero h = absurd (omega arith)
negated (suc n) h = ap negsuc (sym (less_one n))

pub fits_plus : (n : ℕ) → n < 9223372036854775808 → SFits w64 (pos n)
fits_plus n h = record { sfits = h }

pub fits_minus : (n : ℕ) → (0 < n) × (n ≤ 9223372036854775808) → SFits w64 (neg_ℤ (pos n))
fits_minus n h = rw (negated n h.0) (record { sfits = omega (arith, h.0, h.1) })

-- ---- written: a z below 0 is turned into y = -1 - z; each is read again from 64 bits

abbrev pub again : ℤ → ℤ
again z = to_z w64 (of_z w64 z)

pub record Turned (z y x : ℤ) : Type 0 where
  pub fits : SFits w64 y
  pub whole : T (non_neg x) × Fits w64 (nat_abs x)
  pub more : Fits w64 (nat_abs x + 1)
  pub text : signed z ≡ 45 ∷ decimal (nat_abs x + 1)

back : (n : ℕ) → negsuc 0 -ℤ negsuc n ≡ pos n
back n = rw (le-ltb (suc n) 1 (omega arith)) (ap pos (less_one n))

turned_once : (z : ℤ) → SFits w64 z → lt_z z (pos 0) ≡ true → Turned z (negsuc 0 -ℤ z) (negsuc 0 -ℤ z)
unfolding signed
turned_once (pos n) f e = absurd (omega (arith, ltb-true n 0 e))
turned_once (negsuc n) f e = rw (back n) (let h : n < 9223372036854775808 = f.sfits in record {
  fits = record { sfits = h };
  whole = (tt, record { fits = omega arith });
  more = record { fits = omega arith };
  text = rw add-one;
})

pub turned : (z : ℤ) → SFits w64 z → lt_z (again z) (pos 0) ≡ true → Turned z (negsuc 0 -ℤ again z) (again (negsuc 0 -ℤ again z))
turned z f e = let t = turned_once z f (rw (to_z-of_z f) at e) in rw (to_z-of_z f, to_z-of_z t.fits) t

pub record Plain (z x : ℤ) : Type 0 where
  pub whole : T (non_neg x) × Fits w64 (nat_abs x)
  pub text : signed z ≡ decimal (nat_abs x)

plain_once : (z : ℤ) → SFits w64 z → lt_z z (pos 0) ≡ false → Plain z z
unfolding signed
plain_once (pos n) f e = record { whole = (tt, record { fits = let h : n < 9223372036854775808 = f.sfits in omega arith }); text = refl }
plain_once (negsuc n) f e = absurd (true≢false e)

pub plain : (z : ℤ) → SFits w64 z → lt_z (again z) (pos 0) ≡ false → Plain z (again z)
plain z f e = let t = plain_once z f (rw (to_z-of_z f) at e) in rw (to_z-of_z f) t
