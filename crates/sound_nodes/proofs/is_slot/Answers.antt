-- Not in the map, past the used ones, or with a node. Assumes nothing.
use Rattle.sound_nodes.proofs.Slots.{slot_blank, slot_past, slot_node}
use Rattle.sound_nodes.proofs.is_slot.Goals as goal

pub returns-then-not-has : goal.returns-then-not-has
returns-then-not-has c =
    let a = c.args in
    let h = c.has in
    slot_blank a.b.now a.u a.s a.used a.map h.result h.ensures (c.if-not-has.true) c.is_blank.result c.is_blank.ensures

pub returns-then-used-s : goal.returns-then-used-s
returns-then-used-s c =
    let a = c.args in
    let h = c.has in
    slot_past a.b.now a.u a.s a.used a.map h.result h.ensures (c.if-not-has.false) c.if-used-s.true

pub returns : goal.returns
returns c =
    let a = c.args in
    let h = c.has in
    slot_node a.b.now a.u a.s a.used a.map h.result h.ensures (c.if-not-has.false) c.if-used-s.false c.is_node.result c.is_node.ensures
