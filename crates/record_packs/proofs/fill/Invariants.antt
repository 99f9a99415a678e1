-- What is written and what is left make the whole (`Filling`); each line ends further on. Assumes nothing.
use native.Mathlib.Omega.{arith}
use Prim.Native.Nat.{◌-◌}
use mathlib.Core.Path.{◌≡◌, ◌∙◌, ap}
use mathlib.Core.List.{List}
use borrow.Author.Rules.{rules}
use lib.ListN.{length, take, drop}
use Rattle.text_decimals.proofs.Writes.{same_text}
use Rattle.record_spec.specs.Operations.{Op}
use Rattle.record_packs.proofs.Filling.{Filling, filling, line_read, next, enough, fill_on, filled}
use Rattle.record_packs.proofs.fill.Given as goal

abbrev pub invariant-loop-from : goal.invariant-loop-from
invariant-loop-from l = Filling l.text l.initial.out l.start l.from l.p l.entry l.out × (length l.serials ≡ 1024)

abbrev pub decreases-loop-from : goal.decreases-loop-from
decreases-loop-from l = length l.text - l.from
