-- The walk up ends at a node without a parent. Assumes nothing.
use mathlib.Core.Path.{ap, ◌∙◌}
use Rattle.ledger_spec.specs.Named.{handle_named}
use Rattle.ledger_spec.specs.Walk.{outermost}
use Rattle.bench_views.specs.View.{view, handle_at}
use Rattle.bench_words.specs.Store.{node_at}
use Rattle.bench_vertices.proofs.Circling.{standing}
use Rattle.check_nests.proofs.Reading.{root_of}
use Rattle.check_nests.proofs.note.Goals as goal

pub outermost-o-requires : goal.outermost-o-requires
outermost-o-requires c = record { fit = c.requires.fit; stands = rw c.handle_at-h.ensures (standing c.args.b.now c.requires.fit c.args.k c.requires.placed) }

pub spread-requires : goal.spread-requires
spread-requires c =
    let b = c.args.b.now in
    let o = c.outermost-o in
    let h = c.handle_at-h in
    let r = root_of b c.requires.fit (handle_at (node_at b) c.args.k) (handle_named o.result.node) (standing b c.requires.fit c.args.k c.requires.placed) o.ensures.stands (o.ensures.node ∙ ap (outermost (view b)) h.ensures) in record { fit = c.requires.fit; placed = r.placed; k_value = r.free; nests = c.requires.nests }
