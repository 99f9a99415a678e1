-- What is answered and what is left make the whole run. Assumes nothing.
use native.Mathlib.Omega.{arith}
use Prim.Native.Nat.{◌+◌, ◌-◌}
use mathlib.Core.Path.{◌≡◌, refl, sym, ◌∙◌, subst}
use mathlib.Core.List.{List}
use lib.IntN.{ℤ}
use lib.ListN.{length}
use borrow.Author.Rules.{rules}
use Rattle.record_runs.proofs.Running.{AllRunning, running, listed_at, recorded_at, sound_now, still_long, turn, finish}
use borrow.Author.Rules.{rules}
use Rattle.record_runs.proofs.go.Given as goal

abbrev pub invariant-loop-i : goal.invariant-loop-i
invariant-loop-i l = AllRunning l.initial.b l.file l.initial.answers l.b l.answers l.i × ((length l.members ≡ 65) × (length l.touching ≡ 130))
