-- The length's own number first; then the least value that shrinks decides. Assumes nothing.
use Rattle.refuse_calls.proofs.Lengths.{forward_of}
use Rattle.refuse_calls.proofs.Belows.{length_said, grow_early, here, onward, grow_below, grow_above}
use Rattle.refuse_calls.proofs.grow_number.Goals as goal

pub length_number-number-requires : goal.length_number-number-requires
length_number-number-requires c = c.requires.canon.steady

pub returns-then-number-ne0 : goal.returns-then-number-ne0
returns-then-number-ne0 c = grow_early c.args.b.now c.args.unit c.args.length c.length_number-number.result (length_said c.args.b.now c.args.unit c.ranges.length c.length_number-number.ensures) c.if-number-ne0.true

pub least_shrinking-low-requires : goal.least_shrinking-low-requires
least_shrinking-low-requires c = let o = here c.args.b.now c.args.unit c.args.length c.length_number-number.result (length_said c.args.b.now c.args.unit c.ranges.length c.length_number-number.ensures) c.if-number-ne0.false in record { fit = c.requires; unit_bound = o.low; unit_value = o.free }

pub overflow_cast-length : goal.overflow_cast-length
overflow_cast-length c = (forward_of c.args.length c.ranges.length (onward c.args.b.now c.args.unit c.args.length c.length_number-number.result (length_said c.args.b.now c.args.unit c.ranges.length c.length_number-number.ensures) c.if-number-ne0.false)).whole

pub returns-then-low-length : goal.returns-then-low-length
returns-then-low-length c =
    let f = forward_of c.args.length c.ranges.length (onward c.args.b.now c.args.unit c.args.length c.length_number-number.result (length_said c.args.b.now c.args.unit c.ranges.length c.length_number-number.ensures) c.if-number-ne0.false) in
    grow_below c.args.b.now c.args.unit c.args.length c.length_number-number.result (length_said c.args.b.now c.args.unit c.ranges.length c.length_number-number.ensures) c.if-number-ne0.false c.least_shrinking-low.result c.least_shrinking-low.ensures _ f.is f.small c.if-low-length.true

pub returns : goal.returns
returns c =
    let f = forward_of c.args.length c.ranges.length (onward c.args.b.now c.args.unit c.args.length c.length_number-number.result (length_said c.args.b.now c.args.unit c.ranges.length c.length_number-number.ensures) c.if-number-ne0.false) in
    grow_above c.args.b.now c.args.unit c.args.length c.length_number-number.result (length_said c.args.b.now c.args.unit c.ranges.length c.length_number-number.ensures) c.if-number-ne0.false c.least_shrinking-low.result c.least_shrinking-low.ensures _ f.is f.small c.if-low-length.false
