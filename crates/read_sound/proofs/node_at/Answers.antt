-- An empty slot has no handle; else its node's. Assumes nothing.
use borrow.Author.Rules.{rules}
use Rattle.read_sound.proofs.Slots.{nothing_there, node_there}
use Rattle.read_sound.proofs.node_at.Goals as goal

pub returns-then-is_absent : goal.returns-then-is_absent
returns-then-is_absent c = nothing_there c.args.b.now c.args.k c.requires.k_bound c.requires.k_bound_2 c.load_node-n.result c.load_node-n.ensures c.is_absent.ensures c.if-is_absent.true

pub returns : goal.returns
returns c = node_there c.args.b.now c.args.k c.requires.k_bound c.requires.k_bound_2 c.load_node-n.result c.load_node-n.ensures c.is_absent.ensures c.if-is_absent.false
