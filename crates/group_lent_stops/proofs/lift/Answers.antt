-- The words move as std's `copy_within` says. Assumes nothing.
use Rattle.std.proofs.Common.{◌∙◌, arith}
use Rattle.group_lent_stops.proofs.Lifts.{lifted_copied}
use Rattle.group_lent_stops.proofs.lift.Goals as goal

pub returns : goal.returns
returns c = c.copy_within.ensures.after ∙ lifted_copied c.args.w.now c.args.at c.args.k (omega arith)
