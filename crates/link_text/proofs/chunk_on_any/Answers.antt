-- The verdict on the words decides: BROKEN, or the chunk on sound words. Assumes nothing.
use borrow.Author.Rules.{rules}
use Rattle.link_text.proofs.Lending.{sound_bench, chunk_broken, chunk_sound}
use mathlib.Core.Path.{ap}
use mathlib.Core.Bool.{not}
use Rattle.link_text.proofs.chunk_on_any.Goals as goal

pub returns-then-not-is_bench : goal.returns-then-not-is_bench
returns-then-not-is_bench c =
    let a = c.args in
    chunk_broken a.b.now c.is_bench.result c.is_bench.ensures a.chunk.now a.buf.now a.held a.out.now (ap not c.if-not-is_bench.true) c.refused.result c.refused.ensures

pub chunk_on_sound-requires : goal.chunk_on_sound-requires
chunk_on_sound-requires c =
    sound_bench c.args.b.now c.is_bench.result c.is_bench.ensures (ap not c.if-not-is_bench.false)

pub returns : goal.returns
returns c =
    let a = c.args in
    chunk_sound a.b.now c.is_bench.result c.is_bench.ensures a.chunk.now a.buf.now a.held a.out.now (ap not c.if-not-is_bench.false) c.chunk_on_sound.ensures
