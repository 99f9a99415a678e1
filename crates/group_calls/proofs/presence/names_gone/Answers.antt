-- The nodes that the obstacle names are looked up in turn, by how many they are. Assumes nothing.
use mathlib.Core.Path.{◌∙◌}
use Rattle.group_calls.proofs.Turns.{none_has, one_has, first_has, rest_has, front_has, back_has, named_has}
use Rattle.group_calls.proofs.presence.names_gone.Goals as goal

pub returns-in-None : goal.returns-in-None
returns-in-None c = named_has _ _ _ _ c.nodes_of.ensures c.in-None.is (none_has _)

pub returns-in-One : goal.returns-in-One
returns-in-One c = named_has _ _ _ _ c.nodes_of.ensures c.in-One.is (c.is_gone.ensures ∙ one_has _ _)

pub returns-in-Two : goal.returns-in-Two
returns-in-Two c = named_has _ _ _ _ c.nodes_of.ensures c.in-Two.is c.either_gone.ensures

pub returns-then-is_gone : goal.returns-then-is_gone
returns-then-is_gone c =
    named_has _ _ _ _ c.nodes_of.ensures c.in-Three.is (first_has _ _ _ c.is_gone-in-Three.ensures c.if-is_gone.true)

pub returns-else-is_gone : goal.returns-else-is_gone
returns-else-is_gone c =
    named_has _ _ _ _ c.nodes_of.ensures c.in-Three.is (rest_has _ _ _ c.is_gone-in-Three.ensures c.if-is_gone.false c.either_gone-else-is_gone.ensures)

pub returns-then-either_gone : goal.returns-then-either_gone
returns-then-either_gone c =
    named_has _ _ _ _ c.nodes_of.ensures c.in-Four.is (front_has _ _ _ c.either_gone-in-Four.ensures c.if-either_gone.true)

pub returns-else-either_gone : goal.returns-else-either_gone
returns-else-either_gone c =
    named_has _ _ _ _ c.nodes_of.ensures c.in-Four.is (back_has _ _ _ c.either_gone-in-Four.ensures c.if-either_gone.false c.either_gone-else-either_gone.ensures)
