-- The word names it; where there is none the walk up tells. Assumes nothing.
use mathlib.Core.Path.{ap, ◌∙◌}
use native.Mathlib.Omega.{arith}
use Rattle.ledger_spec.specs.Named.{handle_named}
use Rattle.ledger_spec.specs.Walk.{outermost}
use Rattle.bench_views.specs.View.{view}
use Rattle.bench_vertices.proofs.Circling.{standing}
use Rattle.check_nests.proofs.Reading.{outer_read}
use Rattle.check_nests.proofs.outer.Goals as goal

pub outermost-requires : goal.outermost-requires
outermost-requires c = record { fit = c.requires.fit; stands = rw c.handle_at.ensures (standing c.args.b.now c.requires.fit c.args.k c.requires.placed) }

pub returns-then-w-eq0 : goal.returns-then-w-eq0
returns-then-w-eq0 c =
    let o = c.outermost in
    (o.ensures.node ∙ ap (outermost (view c.args.b.now)) c.handle_at.ensures, o.ensures.stands)

pub returns : goal.returns
returns c =
    outer_read c.args.b.now c.requires.fit c.args.t.now c.requires.nests c.args.k c.requires.placed.low (omega (arith, c.if-w-eq0.false)) (handle_named c.handle_at-2.result) c.handle_at-2.ensures
