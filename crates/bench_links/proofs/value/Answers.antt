-- The climb gives T, and the bias has room for it on either side. Assumes nothing.
use mathlib.Core.Path.{ap, ◌∙◌}
use mir.Facts.{to_z-of_z}
use native.Mathlib.Omega.{arith}
use Rattle.ledger_spec.specs.Named.{handle_named}
use Rattle.bench_views.specs.View.{off}
use Rattle.bench_links.proofs.Weighing.{bias_room, value_small, value_seen}
use mir.Syntax.{w64}
use Rattle.bench_links.proofs.value.Goals as goal

pub valued-requires : goal.valued-requires
valued-requires c = bias_room c.args.b.now (handle_named c.args.h) c.requires.stands c.load_node-n.result c.load_node-n.ensures c.climb-c.result.total c.requires.fit c.climb-c.ensures.small

pub lowered-requires : goal.lowered-requires
lowered-requires c =
    let v = value_small c.args.b.now (handle_named c.args.h) c.requires.stands c.load_node-n.result c.load_node-n.ensures c.climb-c.result.total c.requires.fit c.climb-c.ensures.small in
    (omega (arith, c.valued.ensures), omega arith)

pub returns : goal.returns
returns c =
    to_z-of_z {w = w64} (record { sfits = c.lowered.type_inv }) ∙ c.lowered.ensures
    ∙ ap (off 1152921504606846976) c.valued.ensures
    ∙ value_seen c.args.b.now (handle_named c.args.h) c.requires.stands c.load_node-n.result c.load_node-n.ensures c.climb-c.result.total c.climb-c.ensures.total
