-- std's copy moves the stops from the place on up, and the new one is stored there. Assumes nothing.
use Rattle.std.proofs.Common.{◌∙◌, ap, arith, List, set}
use Rattle.kinds.specs.declared.Stop.{Stop}
use Rattle.group_stops.proofs.Places.{comes_in}
use Rattle.group_stops.proofs.put_in.Goals as goal

pub returns : goal.returns
returns c =
    ap (λ (t : List Stop). set t c.args.p c.args.x) c.copy_within.ensures.after
    ∙ comes_in c.args.stops c.args.p c.args.n (omega arith) c.args.x c.args.x (omega arith) (omega arith)
