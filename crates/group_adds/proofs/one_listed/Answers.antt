-- `one_listed` writes the one entry. Assumes nothing.
use mathlib.Core.Path.{◌≡◌}
use native.Mathlib.Omega.{arith}
use borrow.Author.Rules.{rules}
use lib.ListN.{length, length-map}
use Rattle.group_adds.proofs.Bytes.{lone_entry}
use Rattle.group_adds.proofs.one_listed.Goals as goal

pub returns : goal.returns
returns c =
    let l = (c.well_formed.0.1.1.1.0.1.0.1) in
    lone_entry c.args.e c.args.g (omega (arith, l))
