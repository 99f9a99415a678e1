-- A run that std copies into a part of an array is laid at the part's place. Assumes nothing.
use Prim.Native.Nat.{ℕ, ◌+◌, ◌-◌}
use mathlib.Core.Path.{◌≡◌}
use mathlib.Core.List.{List}
use native.Mathlib.Omega.{arith}
use lib.ListN.{take, drop}
use lib.Seq.{drop-drop}
use borrow.Rule.Slice.PartMut.{put_mid}
use Rattle.std.proofs.lemmas.Slice.{between_is}
use Rattle.group_runs.specs.Runs.{laid_at}

pub run_laid : {A : Type 0} (l s r : List A) (at from n : ℕ) → r ≡ take (n - from) (drop from s) → put_mid at (at + (n - from) - at) l r ≡ laid_at at l from n s
run_laid l s r at from n e =
    let k : at + (n - from) - at ≡ n - from = omega arith in
    rw (k, e, between_is s from n, drop-drop (n - from) at l)
