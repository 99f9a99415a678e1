-- `one_stop` writes the one stop. Assumes nothing.
use mathlib.Core.Path.{◌≡◌}
use native.Mathlib.Omega.{arith}
use borrow.Author.Rules.{rules}
use lib.ListN.{length, length-map}
use Rattle.group_adds.proofs.Bytes.{lone_stop}
use Rattle.group_adds.proofs.one_stop.Goals as goal

pub returns : goal.returns
returns c =
    let w = (c.well_formed.0.1.1.1.1.0.1.0.1) in
    lone_stop c.args.s c.args.g (omega (arith, w))
