-- The lowest stands at 2^60 or higher, and is the least value so much higher. Assumes nothing.
use Rattle.bench_floors.proofs.Values.{high, least}
use Rattle.bench_floors.proofs.least_shrinking.Goals as goal

pub overflow_sub-result : goal.overflow_sub-result
overflow_sub-result c = high c.args.b.now c.requires.fit c.args.unit c.lowest-low.result c.lowest-low.ensures

pub returns : goal.returns
returns c = least c.args.b.now c.requires.fit c.args.unit c.lowest-low.result c.lowest-low.ensures
