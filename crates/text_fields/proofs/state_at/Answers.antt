-- The match tells 1, 0 and -1 by their bits. Assumes nothing.
use Rattle.text_fields.proofs.States.{state_bits, no_state}
use Rattle.text_fields.proofs.state_at.Goals as goal

pub returns-in-1 : goal.returns-in-1
returns-in-1 c = state_bits c.args.z c.args.e 1 c.ranges.z c.in-1.in-1-own.keys1

pub returns-in-0 : goal.returns-in-0
returns-in-0 c = state_bits c.args.z c.args.e 0 c.ranges.z c.in-0.in-0-own.keys2

pub returns-in-minus1 : goal.returns-in-minus1
returns-in-minus1 c = state_bits c.args.z c.args.e 18446744073709551615 c.ranges.z c.in-minus1.in-minus1-own.keys3

pub returns-in_default : goal.returns-in_default
returns-in_default c = no_state c.args.z c.args.e c.in_default.in_default-own.rest.0.0.1 c.in_default.in_default-own.rest.0.1 c.in_default.in_default-own.rest.1
