-- Each way out is one case of the definition. Assumes nothing.
use Rattle.sound_nodes.proofs.Slots.{near_low, near_high, near_row}
use Rattle.sound_nodes.proofs.is_near.Goals as goal

pub returns-then-bias-lt576460752303423488 : goal.returns-then-bias-lt576460752303423488
returns-then-bias-lt576460752303423488 c = near_low c.args.g c.args.bias c.args.t c.args.w c.if-bias-lt576460752303423488.true

pub returns-then-bias-gt2305843009213693952 : goal.returns-then-bias-gt2305843009213693952
returns-then-bias-gt2305843009213693952 c = near_high c.args.g c.args.bias c.args.t c.args.w c.if-bias-lt576460752303423488.false c.if-bias-gt2305843009213693952.true

pub returns : goal.returns
returns c = near_row c.args.g c.args.bias c.args.t c.args.w c.if-bias-lt576460752303423488.false c.if-bias-gt2305843009213693952.false c.valued-v.result c.valued-v.ensures
