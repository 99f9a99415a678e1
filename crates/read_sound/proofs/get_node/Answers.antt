-- The order of the index leads to a slot or past the count; the slot holds a node or nothing. Assumes nothing.
use Rattle.std.specs.Prelude.{None, Some}
use mathlib.Core.Path.{◌≡◌, ap, sym, ◌∙◌}
use borrow.Author.Rules.{rules}
use Rattle.ledger_spec.specs.Reads.{as_handle}
use Rattle.bench_orders.proofs.Counting.{located, located_past}
use Rattle.bench_views.specs.View.{view}
use Rattle.read_sound.specs.Shown.{maybe}
use Rattle.ledger_spec.proofs.Accepted.{clear_passed}
use Rattle.read_sound.proofs.Saying.{index_no, index_past, index_there}
use Rattle.read_sound.proofs.get_node.Goals as goal

pub returns-then-number-ne0 : goal.returns-then-number-ne0
returns-then-number-ne0 c = index_no (view c.args.b.now) c.args.unit c.args.index.0 c.unit_number-number.result c.unit_number-number.ensures c.if-number-ne0.true

pub locate-requires : goal.locate-requires
locate-requires c =
    let o = clear_passed (view c.args.b.now) c.args.unit (sym c.unit_number-number.ensures ∙ c.if-number-ne0.false) in record { fit = c.requires; unit_bound = o.low; unit_value = o.free }

pub node_at-requires : goal.node_at-requires
node_at-requires c =
    let k = c.in-Some.k in
    let q : c.locate.result ≡ Some k = cc in
    let a = located c.args.b.now c.args.unit c.args.index.0 c.locate.ensures k q in record { k_bound = a.low; k_bound_2 = a.used }

pub returns-in-None : goal.returns-in-None
returns-in-None c =
    let q : c.locate.result ≡ None = cc in
    index_past (view c.args.b.now) c.args.unit c.args.index.0 c.unit_number-number.result c.unit_number-number.ensures c.if-number-ne0.false (located_past c.args.b.now c.args.unit c.args.index.0 c.locate.ensures q)

pub returns-in-Some : goal.returns-in-Some
returns-in-Some c =
    let k = c.in-Some.k in
    let q : c.locate.result ≡ Some k = cc in
    let a = located c.args.b.now c.args.unit c.args.index.0 c.locate.ensures k q in
    index_there (view c.args.b.now) c.args.unit c.args.index.0 c.unit_number-number.result c.unit_number-number.ensures c.if-number-ne0.false a.inside (maybe c.node_at.result) (c.node_at.ensures ∙ ap as_handle (sym a.at))
