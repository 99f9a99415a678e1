-- Each way out is one case of the definition. Assumes nothing.
use Rattle.sound_seats.proofs.Seating.{seat_many, seat_past, seat_row}
use Rattle.sound_seats.proofs.is_seated.Goals as goal

pub returns-then-m-gt64 : goal.returns-then-m-gt64
returns-then-m-gt64 c = seat_many c.args.b.now c.args.k c.args.top c.args.n c.args.q c.load_node-m.result c.load_node-m.ensures c.if-m-gt64.true

pub returns-then-m-n : goal.returns-then-m-n
returns-then-m-n c =
    seat_past c.args.b.now c.args.k c.args.top c.args.n c.args.q c.load_node-m.result c.load_node-m.ensures c.if-m-gt64.false c.if-m-n.true

pub returns : goal.returns
returns c =
    seat_row c.args.b.now c.args.k c.args.top c.args.n c.args.q c.load_node-m.result c.load_node-m.ensures c.if-m-gt64.false c.if-m-n.false c.is_stay-stays.result c.is_blossom-ring.result c.top_of-above.result c.walk-seat.result c.is_stay-stays.ensures c.is_blossom-ring.ensures c.top_of-above.ensures.0 c.walk-seat.ensures
