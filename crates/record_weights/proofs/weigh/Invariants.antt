-- What is weighed and what is left make the whole (`Weighing`); each line ends further on. Assumes nothing.
use native.Mathlib.Omega.{arith}
use Prim.Native.Nat.{◌-◌, ◌<◌}
use mathlib.Core.Path.{◌≡◌, ◌∙◌}
use borrow.Author.Rules.{rules}
use lib.ListN.{length, take, drop}
use Rattle.record_weights.proofs.Sizes.{read_small, read_none, read_some}
use Rattle.record_weights.proofs.Weighing.{Weighing, weighing, unended, bad_line, too_large, weigh_on, weighed}
use Rattle.record_weights.proofs.weigh.Given as goal

abbrev pub invariant-loop-start : goal.invariant-loop-start
invariant-loop-start l = Weighing l.text l.start l.count l.size × (length l.scratch ≡ 1)

abbrev pub decreases-loop-start : goal.decreases-loop-start
decreases-loop-start l = length l.text - l.start
