-- A decimal's digits counted one by one, and a length's text from its number in 8 bytes. Assumes nothing.
use Prim.Native.Nat.{ℕ, suc, ◌+◌, ◌-◌, ◌/◌, ◌≤◌, ◌<◌}
use native.Mathlib.Omega.{arith}
use mathlib.Core.Path.{◌≡◌, sym, ap}
use mathlib.Core.List.{◌∷◌}
use lib.ListN.{length}
use borrow.Author.Tests.{lt-ltb, le-ltb, ne_eqb}
use Rattle.ledger_spec.specs.Decimals.{decimal, signed}
use Rattle.text_decimals.proofs.Widths.{width}
use Rattle.text_decimals.proofs.Writes.{one_digit, room}
use Rattle.record_spec.specs.Numbers.{length_in}
use Rattle.record_spec.specs.Reader.{state_in}
use Rattle.record_measures.specs.Measures.{state_digits}

-- k digits are counted of n, and m is left of it
pub record Counting (n k m : ℕ) : Type 0 where
  pub whole : k + length (decimal m) ≡ suc (length (decimal n))
  pub small : m < 18446744073709551616
  pub few : length (decimal n) ≤ 20

pub starting : (n : ℕ) → n < 18446744073709551616 → Counting n 1 n
starting n h = record { whole = omega arith; small = h; few = width 19 n (omega arith) }

pub turning : (n k m : ℕ) → Counting n k m → 9 < m → Counting n (k + 1) (m / 10)
turning n k m c h = record { whole = omega (arith, c.whole, room m (omega arith)); small = omega (arith, c.small); few = c.few }

pub ending : (n k m : ℕ) → Counting n k m → m ≤ 9 → (k ≡ length (decimal n)) × (k ≤ 20)
ending n k m c h =
    let e = one_digit m (omega arith) in
    (omega (arith, c.whole, e), omega (arith, c.whole, c.few, e))

-- ---- a length

pub above : (n : ℕ) → n < 9223372036854775808 → signed (length_in n) ≡ decimal n
unfolding length_in signed
above n h = rw (lt-ltb n 9223372036854775808 h, length_in)

pub below : (n m : ℕ) → 9223372036854775808 ≤ n → m ≡ suc (18446744073709551615 - n) → signed (length_in n) ≡ 45 ∷ decimal m
unfolding length_in signed
below n m h e = rw (le-ltb n 9223372036854775808 h, length_in) (ap (λ (k : ℕ). 45 ∷ decimal k) (sym e))

-- ---- a state

pub no_state : (n : ℕ) → (n ≡ 0 → ⊥) → (n ≡ 1 → ⊥) → (n ≡ 255 → ⊥) → 0 ≡ state_digits n
unfolding state_digits state_in
no_state n a b c = rw (ne_eqb n 0 a, ne_eqb n 1 b, ne_eqb n 255 c)
