-- A length read off its word: -1 - z stands for a z below 0, since -z need not fit. Assumes nothing.
use Prim.Native.Nat.{ℕ, zero, suc, ◌-◌, ◌<◌, ◌≤◌}
use native.Mathlib.Omega.{arith}
use native.Mathlib.Nat.{zero-add}
use mathlib.Core.Path.{◌≡◌, refl, ◌∙◌}
use lib.IntN.{pos, negsuc, ◌-ℤ◌}
use borrow.Author.Tests.{lt-ltb, le-ltb}
use mir.Syntax.{w64}
use mir.Val.{SFits, to_z, of_z}
use mir.Facts.{to_z-of_z, to_z_pos}
use Rattle.group_lent.specs.Forms.{length_of}

below : (k : ℕ) → negsuc 0 -ℤ pos k ≡ negsuc k
below zero = refl
below (suc k) = simp zero-add

pub read_plain : (w : ℕ) → w < 9223372036854775808 → to_z w64 w ≡ length_of w
read_plain w h = rw (to_z_pos w64 {n = w} h, lt-ltb w 9223372036854775808 h)

module _ (w : ℕ) (h : 9223372036854775808 ≤ w) (k : w < 18446744073709551616) where
  turned_word : negsuc 0 -ℤ to_z w64 (18446744073709551615 - w) ≡ negsuc (18446744073709551615 - w)
  turned_word = rw (to_z_pos w64 {n = 18446744073709551615 - w} (omega arith), below)

  pub read_fits : SFits w64 (negsuc 0 -ℤ to_z w64 (18446744073709551615 - w))
  read_fits = rw turned_word (record { sfits = omega arith })

  pub read_turned : to_z w64 (of_z w64 (negsuc 0 -ℤ to_z w64 (18446744073709551615 - w))) ≡ length_of w
  read_turned = to_z-of_z read_fits ∙ turned_word ∙ rw (le-ltb w 9223372036854775808 h)
