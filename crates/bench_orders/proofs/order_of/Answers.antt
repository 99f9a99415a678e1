-- The tree under an interface without a parent has at most eight, so there is room for them all. Assumes nothing.
use mathlib.Core.Path.{refl}
use native.Mathlib.Omega.{arith}
use lib.ListN.{replicate}
use Rattle.bench_orders.proofs.Listing.{list_whole, listable}
use Rattle.bench_orders.proofs.order_of.Goals as goal

pub list-requires : goal.list-requires
list-requires c = record { fit = c.requires.fit; unit_bound = c.requires.unit_bound; unit_bound_2 = omega (arith, listable c.args.b.now c.args.unit c.requires.fit c.requires.unit_bound c.requires.unit_value) }

pub returns : goal.returns
returns c = list_whole c.args.b.now c.args.unit (record { units = replicate 8 0; count = 0 }) c.list.result (listable c.args.b.now c.args.unit c.requires.fit c.requires.unit_bound c.requires.unit_value) refl refl c.list.ensures
