-- At each turn the numbers so far stand where they should. Assumes nothing.
use mathlib.Core.Path.{◌≡◌}
use native.Mathlib.Omega.{arith}
use Rattle.check_places.proofs.Filling.{filled_none, filled_more}
use Rattle.check_places.proofs.fill.Goals as goal

pub loop-j-init : goal.loop-j-init
loop-j-init c = filled_none c.args.out.now c.args.n c.args.from c.requires.out_len

pub bounds-out-n : goal.bounds-out-n
bounds-out-n c = omega (arith, c.requires.many_bound)

pub loop-j-preserved : goal.loop-j-preserved
loop-j-preserved c =
    let l = c.loop-j in
    filled_more c.args.out.now c.args.n c.args.from l.j l.out (omega (arith, c.requires.many_bound)) l.invariant

pub returns : goal.returns
returns c =
    let l = c.loop-j in
    let last : l.j ≡ c.args.many = omega arith in
    rw (← last) l.invariant
