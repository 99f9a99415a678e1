-- A slice of bytes holds bytes, from any place on. Assumes nothing.
use Prim.Native.Nat.{ℕ, suc, ◌+◌}
use native.Mathlib.Omega.{arith}
use mathlib.Core.List.{List, [], ◌∷◌}
use lib.ListN.{drop, get_or}
use lib.Seq.{get_or-drop}
use mir.Syntax.{w8}
use mir.Val.{Fits}
use Rattle.record_spec.specs.Numbers.{Bytes}

pub bytes_all : (s : List ℕ) → ((i : ℕ) → Fits w8 (get_or s i 0)) → Bytes s
bytes_all [] h = tt
bytes_all (b ∷ s) h = (omega (arith, h 0), bytes_all s (λ i. h (suc i)))

pub bytes_from : (s : List ℕ) (p : ℕ) → ((i : ℕ) → Fits w8 (get_or s i 0)) → Bytes (drop p s)
bytes_from s p h = bytes_all (drop p s) (λ i. rw (get_or-drop p s i 0) (h (p + i)))
