-- A length's number in 8 bytes, where -1 - z stands for a z below 0, since -z need not fit. Assumes nothing.
use Prim.Native.Nat.{ℕ, suc, ◌-◌, ◌<◌}
use native.Mathlib.Omega.{arith}
use mathlib.Core.Path.{◌≡◌, refl, ap}
use mathlib.Core.Bool.{true, false, true≢false}
use lib.Dec.{T}
use lib.Signed.{lt_z, non_neg}
use lib.IntN.{ℤ, pos, negsuc, nat_abs, ◌-ℤ◌}
use borrow.Author.Tests.{ltb-true, le-ltb}
use mir.Syntax.{w64}
use mir.Val.{SFits, Fits}
use mir.Facts.{to_z-of_z}
use Rattle.text_decimals.proofs.Signs.{again}
use Rattle.record_spec.specs.Numbers.{complement}

pub record Turned (z y x : ℤ) : Type 0 where
  pub fits : SFits w64 y
  pub whole : T (non_neg x) × Fits w64 (nat_abs x)
  pub value : 18446744073709551615 - nat_abs x ≡ complement z

back : (n : ℕ) → negsuc 0 -ℤ negsuc n ≡ pos n
back n = let e : suc n - 1 ≡ n = omega arith in rw (le-ltb (suc n) 1 (omega arith)) (ap pos e)

turned_once : (z : ℤ) → SFits w64 z → lt_z z (pos 0) ≡ true → Turned z (negsuc 0 -ℤ z) (negsuc 0 -ℤ z)
unfolding complement
turned_once (pos n) f e = absurd (omega (arith, ltb-true n 0 e))
turned_once (negsuc n) f e = rw (back n) (let h : n < 9223372036854775808 = f.sfits in record {
  fits = record { sfits = h };
  whole = (tt, record { fits = omega arith });
  value = refl;
})

pub turned : (z : ℤ) → SFits w64 z → lt_z (again z) (pos 0) ≡ true → Turned z (negsuc 0 -ℤ again z) (again (negsuc 0 -ℤ again z))
turned z f e = let t = turned_once z f (rw (to_z-of_z f) at e) in rw (to_z-of_z f, to_z-of_z t.fits) t

pub record Plain (z x : ℤ) : Type 0 where
  pub whole : T (non_neg x) × Fits w64 (nat_abs x)
  pub value : nat_abs x ≡ complement z

plain_once : (z : ℤ) → SFits w64 z → lt_z z (pos 0) ≡ false → Plain z z
unfolding complement
plain_once (pos n) f e = record { whole = (tt, record { fits = let h : n < 9223372036854775808 = f.sfits in omega arith }); value = refl }
plain_once (negsuc n) f e = absurd (true≢false e)

pub plain : (z : ℤ) → SFits w64 z → lt_z (again z) (pos 0) ≡ false → Plain z (again z)
plain z f e = let t = plain_once z f (rw (to_z-of_z f) at e) in rw (to_z-of_z f) t
