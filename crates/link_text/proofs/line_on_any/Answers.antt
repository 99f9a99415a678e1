-- The verdict on the words decides: BROKEN, or the line on sound words. Assumes nothing.
use borrow.Author.Rules.{rules}
use Rattle.link_text.proofs.Lending.{sound_bench, line_broken, line_sound}
use mathlib.Core.Path.{ap}
use mathlib.Core.Bool.{not}
use Rattle.link_text.proofs.line_on_any.Goals as goal

pub returns-then-not-is_bench : goal.returns-then-not-is_bench
returns-then-not-is_bench c = line_broken c.args.b.now c.is_bench.result c.is_bench.ensures c.args.line.now c.silent.result (ap not c.if-not-is_bench.true) c.silent.ensures

pub line_on_sound-requires : goal.line_on_sound-requires
line_on_sound-requires c =
    sound_bench c.args.b.now c.is_bench.result c.is_bench.ensures (ap not c.if-not-is_bench.false)

pub returns : goal.returns
returns c =
    line_sound c.args.b.now c.is_bench.result c.is_bench.ensures c.args.line.now c.line_on_sound.result _ (ap not c.if-not-is_bench.false) c.line_on_sound.ensures
