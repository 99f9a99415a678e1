-- Each way out is one of the laws of room. Assumes nothing.
use Rattle.refuse_calls.proofs.Rooms.{room_full, room_worn, room_some}
use Rattle.refuse_calls.proofs.room_number.Goals as goal

pub free_slot-slot-requires : goal.free_slot-slot-requires
free_slot-slot-requires c = record { canon = c.requires.canon; unit_bound = c.requires.unit_bound }

pub returns-then-slot-ge-SLOTS : goal.returns-then-slot-ge-SLOTS
returns-then-slot-ge-SLOTS c = room_full c.args.b.now c.args.unit c.free_slot-slot.result c.free_slot-slot.ensures c.if-slot-ge-SLOTS.true

pub returns-then-next-ge-PAST : goal.returns-then-next-ge-PAST
returns-then-next-ge-PAST c = room_worn c.args.b.now c.args.unit c.free_slot-slot.result c.free_slot-slot.ensures c.if-slot-ge-SLOTS.false c.load_next-next.result c.load_next-next.ensures c.if-next-ge-PAST.true

pub returns : goal.returns
returns c = room_some c.args.b.now c.args.unit c.free_slot-slot.result c.free_slot-slot.ensures c.if-slot-ge-SLOTS.false c.load_next-next.result c.load_next-next.ensures c.if-next-ge-PAST.false
