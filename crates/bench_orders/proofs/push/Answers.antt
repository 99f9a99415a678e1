-- The interface is put after those listed: there is room for one more. Assumes nothing.
use mathlib.Core.Path.{◌≡◌}
use native.Mathlib.Omega.{arith}
use borrow.Author.Rules.{rules}
use lib.ListN.{length}
use Rattle.bench_orders.proofs.Listing.{pushed}
use Rattle.bench_orders.proofs.push.Goals as goal

pub returns : goal.returns
returns c =
    let o = c.args.o in
    let k : length o.units ≡ 8 = search rules in
    pushed o c.args.unit (omega (arith, c.requires))
