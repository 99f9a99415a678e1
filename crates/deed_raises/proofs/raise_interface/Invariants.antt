-- The slots before s are done. Assumes nothing.
use Rattle.deed_raises.specs.Raises.{RaisedIn}
use Rattle.deed_raises.proofs.raise_interface.Given as goal

abbrev pub invariant-loop-s : goal.invariant-loop-s
invariant-loop-s l = RaisedIn l.initial.b l.unit l.length l.b l.s
