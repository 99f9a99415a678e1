-- At each turn the slots from k on have their indices. Assumes nothing.
use Prim.Native.Nat.{ℕ, ◌-◌, ◌≤◌}
use mathlib.Core.Path.{◌≡◌, subst}
use native.Mathlib.Omega.{arith}
use Rattle.picture_indices.proofs.Listing.{Listing, listing_starts, back_low, listing_back, listing_ends}
use borrow.Author.Rules.{rules}
use Rattle.picture_indices.proofs.indices.Given as goal

abbrev pub invariant-loop-k : goal.invariant-loop-k
invariant-loop-k l = (l.k ≤ l.count) × Listing l.b l.unit l.k l.index
