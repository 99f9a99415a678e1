-- Only where both words and the serials agree is it said. Assumes nothing.
use mathlib.Core.Path.{ap}
use native.Mathlib.Omega.{arith}
use borrow.Author.Tests.{leb-true}
use Rattle.bench_words.specs.declared.Node.{Node}
use Rattle.check_nests.proofs.Reading.{within}
use Rattle.check_nests.proofs.is_within.Goals as goal

pub returns-then-w-v-3 : goal.returns-then-w-v-3
returns-then-w-v-3 c =
    λ e.
    let above = c.load_node-above in
    let below = c.load_node-below in
    within c.args.b.now c.requires.fit c.args.t.now c.requires.nests c.args.m c.args.k c.requires.placed.low c.requires.placed_2.low
    (omega arith)
    (omega arith)
    (omega arith)
    (omega (arith, ap (λ (n : Node). n.size) above.ensures))
    (omega (arith, leb-true below.result.serial.0 above.result.serial.0 e, ap (λ (n : Node). n.serial.0) above.ensures, ap (λ (n : Node). n.serial.0) below.ensures))
