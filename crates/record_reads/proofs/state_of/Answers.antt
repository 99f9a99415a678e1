-- Each byte in turn. Assumes nothing.
use Rattle.record_reads.proofs.Reading.{state_0, state_1, state_other}
use Rattle.record_reads.proofs.state_of.Goals as goal

pub returns-in-0 : goal.returns-in-0
returns-in-0 c = state_0 c.args.n c.in-0.is

pub returns-in-1 : goal.returns-in-1
returns-in-1 c = state_1 c.args.n c.in-1.is

pub returns-in_default : goal.returns-in_default
returns-in_default c = state_other c.args.n c.in_default.in_default-own.rest.0.1 c.in_default.in_default-own.rest.1
