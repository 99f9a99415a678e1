-- What is left to test decides. Assumes nothing.
use Rattle.std.proofs.Common.{◌≡◌, drop}
use Rattle.ledger_spec.specs.Groups.{rising_from}
use Rattle.groups.proofs.are_rising.Given as goal

abbrev pub invariant-loop-s : goal.invariant-loop-s
invariant-loop-s l = rising_from 0 l.s-items ≡ rising_from l.least (drop l.s-index l.s-items)
