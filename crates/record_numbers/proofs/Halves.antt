-- The number in twice as many bytes, from its low half and its high half. Assumes nothing.
use Prim.Native.Nat.{ℕ, suc, ◌+◌, ◌*◌}
use native.Mathlib.Omega.{arith}
use mathlib.Core.Path.{◌≡◌, ap}
use mathlib.Core.List.{List}
use Rattle.record_spec.specs.Places.{at}

module _ (s : List ℕ) (p low high : ℕ) where
  pub two_of : low ≡ at 1 s p → high ≡ at 1 s (p + 1) → low + 256 * high ≡ at 2 s p
  unfolding at
  two_of e f = let q : p + 1 ≡ suc p = omega arith in omega (arith, e, f, ap (at 1 s) q)

  pub four_of : low ≡ at 2 s p → high ≡ at 2 s (p + 2) → low + 65536 * high ≡ at 4 s p
  unfolding at
  four_of e f = let q : p + 2 ≡ suc (suc p) = omega arith in omega (arith, e, f, ap (at 2 s) q)

  pub eight_of : low ≡ at 4 s p → high ≡ at 4 s (p + 4) → low + 4294967296 * high ≡ at 8 s p
  unfolding at
  eight_of e f = let q : p + 4 ≡ suc (suc (suc (suc p))) = omega arith in omega (arith, e, f, ap (at 4 s) q)
