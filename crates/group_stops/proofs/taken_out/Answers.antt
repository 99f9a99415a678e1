-- std's copy moves the stops after the place down. Assumes nothing.
use Rattle.std.proofs.Common.{◌∙◌, arith}
use Rattle.group_stops.proofs.Places.{goes_out}
use Rattle.group_stops.proofs.taken_out.Goals as goal

pub returns : goal.returns
returns c =
    c.copy_within.ensures.after ∙ goes_out c.args.stops c.args.p c.args.n (omega arith) (omega arith)
