-- A number's sign decides a state; a number below 0 is written from -1 - z, since -z need not fit. Assumes nothing.
use Prim.Native.Nat.{ℕ, zero, suc, ◌-◌, ◌<◌, ◌≤◌}
use native.Mathlib.Omega.{arith}
use mathlib.Core.Path.{◌≡◌, refl, sym, ap}
use mathlib.Core.Bool.{true, false, true≢false}
use lib.Dec.{T}
use lib.Signed.{lt_z, non_neg}
use lib.IntN.{ℤ, pos, negsuc, nat_abs, ◌-ℤ◌}
use borrow.Author.Tests.{ltb-true, ltb-false, le-ltb}
use mir.Syntax.{Width, w8, w64}
use mir.Val.{SFits, Fits, to_z, of_z}
use mir.Facts.{to_z-of_z}
use Rattle.ledger_spec.specs.Bench.{grows, stays, shrinks}
use Rattle.link_answers.specs.Forms.{signed_word, state_given}

-- as the code reads it again from its bits
abbrev pub again : Width → ℤ → ℤ
again w z = to_z w (of_z w z)

-- ---- a state

down : (z : ℤ) → lt_z z (pos 0) ≡ true → shrinks ≡ state_given z
down (pos n) e = absurd (omega (arith, ltb-true n 0 e))
down (negsuc n) e = refl

up : (z : ℤ) → lt_z (pos 0) z ≡ true → grows ≡ state_given z
up (pos zero) e = absurd (omega (arith, ltb-true 0 0 e))
up (pos (suc n)) e = refl
up (negsuc n) e = absurd (true≢false (sym e))

level : (z : ℤ) → lt_z z (pos 0) ≡ false → lt_z (pos 0) z ≡ false → stays ≡ state_given z
level (pos zero) e f = refl
level (pos (suc n)) e f = absurd (omega (arith, ltb-false 0 (suc n) f))
level (negsuc n) e f = absurd (true≢false e)

module _ (z : ℤ) (f : SFits w8 z) where
  pub falls : lt_z (again w8 z) (pos 0) ≡ true → shrinks ≡ state_given z
  falls e = down z (rw (to_z-of_z f) at e)

  pub rises : lt_z (pos 0) (again w8 z) ≡ true → grows ≡ state_given z
  rises e = up z (rw (to_z-of_z f) at e)

  pub remains : lt_z (again w8 z) (pos 0) ≡ false → lt_z (pos 0) (again w8 z) ≡ false → stays ≡ state_given z
  remains d e = level z (rw (to_z-of_z f) at d) (rw (to_z-of_z f) at e)

-- ---- a signed word: z below 0 is turned into y = -1 - z; each is read again from 64 bits

pub record Turned (z y x : ℤ) : Type 0 where
  pub fits : SFits w64 y
  pub whole : T (non_neg x) × Fits w64 (nat_abs x)
  pub less : nat_abs x ≤ 18446744073709551615
  pub word : 18446744073709551615 - nat_abs x ≡ signed_word z

turned_over : (n : ℕ) → negsuc 0 -ℤ negsuc n ≡ pos n
turned_over n = let k : suc n - 1 ≡ n = omega arith in rw (le-ltb (suc n) 1 (omega arith)) (ap pos k)

turned_once : (z : ℤ) → SFits w64 z → lt_z z (pos 0) ≡ true → Turned z (negsuc 0 -ℤ z) (negsuc 0 -ℤ z)
turned_once (pos n) f e = absurd (omega (arith, ltb-true n 0 e))
turned_once (negsuc n) f e = rw (turned_over n) (let h : n < 9223372036854775808 = f.sfits in record {
  fits = record { sfits = h };
  whole = (tt, record { fits = omega arith });
  less = omega arith;
  word = refl;
})

pub turned : (z : ℤ) → SFits w64 z → lt_z (again w64 z) (pos 0) ≡ true → Turned z (negsuc 0 -ℤ again w64 z) (again w64 (negsuc 0 -ℤ again w64 z))
turned z f e = let t = turned_once z f (rw (to_z-of_z f) at e) in rw (to_z-of_z f, to_z-of_z t.fits) t

pub record Kept (z x : ℤ) : Type 0 where
  pub whole : T (non_neg x) × Fits w64 (nat_abs x)
  pub word : nat_abs x ≡ signed_word z

kept_once : (z : ℤ) → SFits w64 z → lt_z z (pos 0) ≡ false → Kept z z
kept_once (pos n) f e = record { whole = (tt, record { fits = let h : n < 9223372036854775808 = f.sfits in omega arith }); word = refl }
kept_once (negsuc n) f e = absurd (true≢false e)

pub kept : (z : ℤ) → SFits w64 z → lt_z (again w64 z) (pos 0) ≡ false → Kept z (again w64 z)
kept z f e = let t = kept_once z f (rw (to_z-of_z f) at e) in rw (to_z-of_z f) t
