-- By cases of the state; the ranges keep the sums in 64 bits. Assumes nothing.
use Rattle.bench_trees.proofs.valued.Goals as goal

pub returns-in-Grow : goal.returns-in-Grow
returns-in-Grow c = cc

pub returns-in-Shrink : goal.returns-in-Shrink
returns-in-Shrink c = cc
