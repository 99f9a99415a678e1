-- How long a decimal is: k + 1 digits for a number below 10 to the k + 1, at most 20 bytes for a signed 64-bit number. Assumes nothing.
use Prim.Native.Nat.{ℕ, zero, suc, ◌*◌, ◌/◌, ◌%◌, ◌+◌, ◌^◌, ◌≤◌, ◌<◌}
use native.Mathlib.Nat.{pow-suc}
use native.Mathlib.Omega.{arith}
use native.Mathlib.Decide.{dec_lt}
use mathlib.Core.Path.{ap}
use mathlib.Core.List.{[], ◌∷◌}
use lib.ListN.{length, length-append}
use lib.IntN.{ℤ, pos, negsuc}
use mir.Syntax.{w64}
use mir.Val.{SFits}
use Rattle.ledger_spec.specs.Decimals.{decimal, signed}
use Rattle.text_decimals.proofs.Digits.{decimal_small, decimal_more}

pub width : (k n : ℕ) → n < 10 ^ suc k → length (decimal n) ≤ suc k
width zero n h = omega (arith, ap length (decimal_small n h))
width (suc k) n h = go (dec_lt n 10) (width k (n / 10))
  where
    go : Dec (n < 10) → (n / 10 < 10 ^ suc k → length (decimal (n / 10)) ≤ suc k) → length (decimal n) ≤ suc (suc k)
    go (yes l) i = omega (arith, ap length (decimal_small n l))
    go (no l) i =
        let m : 10 ≤ n = omega arith in
        let p : n < 10 ^ suc k * 10 = rw (pow-suc 10 (suc k)) at h in
        let j = i (omega arith) in
        omega (arith, j, ap length (decimal_more n m), length-append (decimal (n / 10)) ((48 + n % 10) ∷ []))

pub signed_width : (z : ℤ) → SFits w64 z → length (signed z) ≤ 20
unfolding signed
signed_width (pos n) f = let h : n < 9223372036854775808 = f.sfits in let w = width 18 n (omega arith) in omega arith
signed_width (negsuc n) f = let h : n < 9223372036854775808 = f.sfits in let w = width 18 (suc n) (omega arith) in omega arith
