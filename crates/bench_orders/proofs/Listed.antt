-- A loop over the first elements of a list, as a slice: how many they are, and which stands at a place. So of the interfaces that an order lists.
-- Assumes nothing.
use Prim.Native.Nat.{ℕ, ◌<◌, ◌≤◌}
use mathlib.Core.Path.{◌≡◌}
use mathlib.Core.List.{List}
use native.Mathlib.Omega.{arith}
use Rattle.std.proofs.lemmas.List.{length-take-le, get_or-take}
use lib.ListN.{length, get_or, take}
use Rattle.bench_orders.specs.declared.Order.{Order}
use Rattle.bench_orders.specs.Order.{Lists}

module _ (xs : List ℕ) (n : ℕ) (l : n ≤ length xs) where
  pub front_long : length (take n xs) ≡ n
  front_long = length-take-le n xs l

  pub front_at : {i : ℕ} → i < length (take n xs) → (i < n) × (get_or (take n xs) i 0 ≡ get_or xs i 0)
  front_at {i} h = let within : i < n = omega (arith, front_long) in (within, get_or-take n xs i 0 within)

module _ {b : List ℕ} {unit : ℕ} {o : Order} (L : Lists b unit o) where
  all_there : o.count ≤ length o.units
  all_there = omega (arith, L.few, L.long)

  pub listed_long : length (take o.count o.units) ≡ o.count
  listed_long = front_long o.units o.count all_there

  pub listed_at : {i : ℕ} → i < length (take o.count o.units) → (i < o.count) × (get_or (take o.count o.units) i 0 ≡ get_or o.units i 0)
  listed_at = front_at o.units o.count all_there
