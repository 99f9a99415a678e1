-- Each way out is a part of the test that fails, and the last that all hold. Assumes nothing.
use mathlib.Core.Path.{sym, ◌∙◌}
use borrow.Author.Tests.{not-true, not-false}
use Rattle.sound_bench.proofs.Rows.{steady_tested, next_none, next_worn, no_trees, no_nodes, no_tops, not_once, all_there}
use borrow.Author.Rules.{rules}
use Rattle.sound_bench.proofs.is_sound.Goals as goal

pub returns-then-next-eq0 : goal.returns-then-next-eq0
returns-then-next-eq0 c = next_none c.args.b.now c.load_next-next.result c.load_next-next.ensures c.if-next-eq0.true

pub returns-then-next-gt-PAST : goal.returns-then-next-gt-PAST
returns-then-next-gt-PAST c = next_worn c.args.b.now c.load_next-next.result c.load_next-next.ensures c.if-next-eq0.false c.if-next-gt-PAST.true

pub returns-then-not-are_trees : goal.returns-then-not-are_trees
returns-then-not-are_trees c =
    no_trees c.args.b.now c.load_next-next.result c.load_next-next.ensures c.if-next-eq0.false c.if-next-gt-PAST.false c.are_trees.result c.are_trees.ensures (c.if-not-are_trees.true)

pub are_nodes-requires : goal.are_nodes-requires
are_nodes-requires c =
    steady_tested c.args.b.now c.full.ensures (sym c.are_trees.ensures ∙ (c.if-not-are_trees.false))

pub returns-then-not-are_nodes : goal.returns-then-not-are_nodes
returns-then-not-are_nodes c =
    no_nodes c.args.b.now c.load_next-next.result c.load_next-next.ensures c.if-next-eq0.false c.if-next-gt-PAST.false c.are_trees.result c.are_trees.ensures (c.if-not-are_trees.false) c.are_nodes.result c.are_nodes.ensures (c.if-not-are_nodes.true)

pub are_tops-requires : goal.are_tops-requires
are_tops-requires c =
    steady_tested c.args.b.now c.full.ensures (sym c.are_trees.ensures ∙ (c.if-not-are_trees.false))

pub returns-then-not-are_tops : goal.returns-then-not-are_tops
returns-then-not-are_tops c =
    no_tops c.args.b.now c.load_next-next.result c.load_next-next.ensures c.if-next-eq0.false c.if-next-gt-PAST.false c.are_trees.result c.are_trees.ensures (c.if-not-are_trees.false) c.are_nodes.result c.are_nodes.ensures (c.if-not-are_nodes.false) c.are_tops.result c.are_tops.ensures (c.if-not-are_tops.true)

pub returns-then-not-are_different : goal.returns-then-not-are_different
returns-then-not-are_different c =
    not_once c.args.b.now c.load_next-next.result c.load_next-next.ensures c.if-next-eq0.false c.if-next-gt-PAST.false c.are_trees.result c.are_trees.ensures (c.if-not-are_trees.false) c.are_nodes.result c.are_nodes.ensures (c.if-not-are_nodes.false) c.are_tops.result c.are_tops.ensures (c.if-not-are_tops.false) c.are_different.result c.are_different.ensures (c.if-not-are_different.true)

pub are_floors-requires : goal.are_floors-requires
are_floors-requires c =
    steady_tested c.args.b.now c.full.ensures (sym c.are_trees.ensures ∙ (c.if-not-are_trees.false))

pub returns : goal.returns
returns c =
    all_there c.args.b.now c.load_next-next.result c.load_next-next.ensures c.if-next-eq0.false c.if-next-gt-PAST.false c.are_trees.result c.are_trees.ensures (c.if-not-are_trees.false) c.are_nodes.result c.are_nodes.ensures (c.if-not-are_nodes.false) c.are_tops.result c.are_tops.ensures (c.if-not-are_tops.false) c.are_different.result c.are_different.ensures (c.if-not-are_different.false) c.are_floors.result c.are_floors.ensures
