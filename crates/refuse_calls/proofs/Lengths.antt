-- A length of 64 bits with a sign: below 0, or the unsigned number that it is. Assumes nothing.
use Prim.Native.Nat.{◌<◌}
use native.Mathlib.Omega.{arith}
use mathlib.Core.Path.{◌≡◌, refl}
use mathlib.Core.Bool.{true, false, true≢false}
use lib.Dec.{T}
use lib.Signed.{lt_z, non_neg}
use lib.IntN.{ℤ, pos, negsuc, nat_abs}
use mir.Syntax.{w64}
use mir.Val.{SFits, Fits, to_z, of_z}
use mir.Facts.{to_z-of_z}

-- as the code reads it again from 64 bits
abbrev pub again : ℤ → ℤ
again z = to_z w64 (of_z w64 z)

pub back : {z : ℤ} → SFits w64 z → lt_z (again z) (pos 0) ≡ true → lt_z z (pos 0) ≡ true
back f e = rw (to_z-of_z f) at e

pub record Forward (z x : ℤ) : Type 0 where
  pub sign : lt_z z (pos 0) ≡ false
  pub whole : T (non_neg x) × Fits w64 (nat_abs x)
  pub is : z ≡ pos (nat_abs x)
  pub small : nat_abs x < 9223372036854775808

once : (z : ℤ) → SFits w64 z → lt_z z (pos 0) ≡ false → Forward z z
once (pos n) f e = let h : n < 9223372036854775808 = f.sfits in record { sign = e; whole = (tt, record { fits = omega arith }); is = refl; small = h }
once (negsuc n) f e = absurd (true≢false e)

pub forward_of : (z : ℤ) → SFits w64 z → lt_z z (pos 0) ≡ false → Forward z (again z)
forward_of z f e = let t = once z f e in rw (to_z-of_z f) t

pub forward : (z : ℤ) → SFits w64 z → lt_z (again z) (pos 0) ≡ false → Forward z (again z)
forward z f e = forward_of z f (rw (to_z-of_z f) at e)
