-- Each part that refuses gives the number; the tests before it have failed. Assumes nothing.
use borrow.Author.Rules.{rules}
use Rattle.deed_circles.specs.Given.{hands_given, pairs_given}
use Rattle.bench_views.specs.View.{view}
use Rattle.refuse_circles.proofs.Places.{placed}
use Rattle.call_sound_blossom.proofs.Numbers.{by_unit, named, by_shape, by_nodes, by_twice, by_room}
use Rattle.call_sound_blossom.proofs.blossom_number.Goals as goal

pub returns-then-named-ne0 : goal.returns-then-named-ne0
returns-then-named-ne0 c = let a = c.args in
    by_unit (view a.b.now) a.unit (hands_given a.members.now) (pairs_given a.touching.now) c.unit_number-named.result c.unit_number-named.ensures c.if-named-ne0.true

pub returns-then-shape-ne0 : goal.returns-then-shape-ne0
returns-then-shape-ne0 c = let a = c.args in
    by_shape (view a.b.now) a.unit (hands_given a.members.now) (pairs_given a.touching.now) c.unit_number-named.result c.unit_number-named.ensures c.if-named-ne0.false
    c.shape_number-shape.result c.shape_number-shape.ensures c.if-shape-ne0.true

pub nodes_number-nodes-requires : goal.nodes_number-nodes-requires
nodes_number-nodes-requires c =
    (c.requires, (named (view c.args.b.now) c.args.unit (hands_given c.args.members.now) (pairs_given c.args.touching.now) c.unit_number-named.result c.unit_number-named.ensures c.if-named-ne0.false).free)

pub returns-then-nodes-ne0 : goal.returns-then-nodes-ne0
returns-then-nodes-ne0 c = let a = c.args in
    by_nodes (view a.b.now) a.unit (hands_given a.members.now) (pairs_given a.touching.now) c.unit_number-named.result c.unit_number-named.ensures c.if-named-ne0.false
    c.shape_number-shape.result c.shape_number-shape.ensures c.if-shape-ne0.false c.nodes_number-nodes.result c.nodes_number-nodes.ensures c.if-nodes-ne0.true

pub given_twice-requires : goal.given_twice-requires
given_twice-requires c =
    placed c.args.b.now c.requires c.args.members.now c.args.unit (pairs_given c.args.touching.now) c.nodes_number-nodes.result c.nodes_number-nodes.ensures c.if-nodes-ne0.false

pub returns-then-given_twice : goal.returns-then-given_twice
returns-then-given_twice c =
    by_twice (view c.args.b.now) c.args.unit (hands_given c.args.members.now) (pairs_given c.args.touching.now) c.unit_number-named.result c.unit_number-named.ensures c.if-named-ne0.false
    c.shape_number-shape.result c.shape_number-shape.ensures c.if-shape-ne0.false c.nodes_number-nodes.result c.nodes_number-nodes.ensures c.if-nodes-ne0.false
    c.given_twice.result c.given_twice.ensures c.if-given_twice.true

pub room_number-requires : goal.room_number-requires
room_number-requires c =
    let a = c.args in record { canon = c.requires; unit_bound = (named (view a.b.now) a.unit (hands_given a.members.now) (pairs_given a.touching.now) c.unit_number-named.result c.unit_number-named.ensures c.if-named-ne0.false).low }

pub returns : goal.returns
returns c =
    by_room (view c.args.b.now) c.args.unit (hands_given c.args.members.now) (pairs_given c.args.touching.now) c.unit_number-named.result c.unit_number-named.ensures c.if-named-ne0.false
    c.shape_number-shape.result c.shape_number-shape.ensures c.if-shape-ne0.false c.nodes_number-nodes.result c.nodes_number-nodes.ensures c.if-nodes-ne0.false
    c.given_twice.result c.given_twice.ensures c.if-given_twice.false c.room_number.result c.room_number.ensures
