-- The two tests find the sign. Assumes nothing.
use Rattle.link_answers.proofs.Signs.{falls, rises, remains}
use Rattle.link_answers.proofs.state_given.Goals as goal

pub returns-then-s-lt0 : goal.returns-then-s-lt0
returns-then-s-lt0 c = falls c.args.s c.ranges.s c.if-s-lt0.true

pub returns-then-s-gt0 : goal.returns-then-s-gt0
returns-then-s-gt0 c = rises c.args.s c.ranges.s c.if-s-gt0.true

pub returns : goal.returns
returns c = remains c.args.s c.ranges.s c.if-s-lt0.false c.if-s-gt0.false
