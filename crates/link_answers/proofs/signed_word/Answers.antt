-- Below 0 the word is the largest less -1 - l; else it is the number. Assumes nothing.
use Rattle.link_answers.proofs.Signs.{turned, kept}
use Rattle.link_answers.proofs.signed_word.Goals as goal

pub overflow_sub-result : goal.overflow_sub-result
overflow_sub-result c = (turned c.args.l c.ranges.l c.if-l-lt0.true).fits

pub overflow_cast-result : goal.overflow_cast-result
overflow_cast-result c = (turned c.args.l c.ranges.l c.if-l-lt0.true).whole

pub overflow_sub-result-then-l-lt0 : goal.overflow_sub-result-then-l-lt0
overflow_sub-result-then-l-lt0 c = (turned c.args.l c.ranges.l c.if-l-lt0.true).less

pub returns-then-l-lt0 : goal.returns-then-l-lt0
returns-then-l-lt0 c = (turned c.args.l c.ranges.l c.if-l-lt0.true).word

pub overflow_cast-result-2 : goal.overflow_cast-result-2
overflow_cast-result-2 c = (kept c.args.l c.ranges.l c.if-l-lt0.false).whole

pub returns : goal.returns
returns c = (kept c.args.l c.ranges.l c.if-l-lt0.false).word
