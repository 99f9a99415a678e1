-- The difference of two numbers below 2^63 fits. Assumes nothing.
use native.Mathlib.Omega.{arith}
use mir.Syntax.{w64}
use mir.Facts.{to_z-of_z, to_z_pos}
use Rattle.bench_views.specs.View.{off}
use Rattle.bench_links.proofs.Weighing.{lowered_fits}
use Rattle.bench_links.proofs.lowered.Goals as goal

pub overflow_sub-result : goal.overflow_sub-result
overflow_sub-result c = rw (to_z_pos w64 {n = c.args.x} (omega arith), to_z_pos w64 {n = c.args.c} (omega arith)) (lowered_fits c.args.x c.args.c c.requires.0 c.requires.1)

pub returns : goal.returns
unfolding off
returns c = rw (to_z_pos w64 {n = c.args.x} (omega arith), to_z_pos w64 {n = c.args.c} (omega arith)) (to_z-of_z {w = w64} (lowered_fits c.args.x c.args.c c.requires.0 c.requires.1))
