-- `top_of` asks the two counts. Assumes nothing.
use Rattle.group_takes.proofs.Tops.{top_entry, top_stop, top_none}
use Rattle.group_takes.proofs.top_of.Goals as goal

pub returns-then-n-gt0 : goal.returns-then-n-gt0
returns-then-n-gt0 c = top_entry c.args.n c.args.m c.args.e c.args.s c.if-n-gt0.true

pub returns-then-m-gt0 : goal.returns-then-m-gt0
returns-then-m-gt0 c = top_stop c.args.n c.args.m c.args.e c.args.s c.if-n-gt0.false c.if-m-gt0.true

pub returns : goal.returns
returns c = top_none c.args.n c.args.m c.args.e c.args.s c.if-n-gt0.false c.if-m-gt0.false
