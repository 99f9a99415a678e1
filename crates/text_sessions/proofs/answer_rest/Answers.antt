-- The lines passed are answered, and what is left of the chunk is to come. Assumes nothing.
use Prim.Native.Nat.{◌-◌}
use mathlib.Core.Path.{refl, sym, ◌∙◌}
use native.Mathlib.Omega.{arith}
use lib.ListN.{length, take, drop}
use lib.Seq.{length-take-le}
use Rattle.text_chunks.proofs.Going.{going_start, going_long, going_room, going_line, going_part, going_end}
use Rattle.bench_views.specs.View.{view}
use Rattle.text_sessions.proofs.Session.{Working}
use Rattle.text_sessions.proofs.answer_rest.Goals as goal

pub loop-at-init : goal.loop-at-init
loop-at-init c =
    let a = c.args in
    record { words = c.requires.0; same = refl; going = going_start (view a.b.now) a.chunk.now a.buf.now a.out.now a.before a.written a.from c.requires.2 c.requires.3 c.requires.4 c.requires.5 }

pub feed-f-requires : goal.feed-f-requires
feed-f-requires c =
    let g = c.loop-at.invariant.going in
    (g.in_chunk, (g.long, g.short))

pub slice_bounds-answer_line-end : goal.slice_bounds-answer_line-end
slice_bounds-answer_line-end c = let f = c.feed-f.ensures in omega (arith, f.short, f.long)

pub slice_bounds-answer_line-end-then-f : goal.slice_bounds-answer_line-end-then-f
slice_bounds-answer_line-end-then-f c = let f = c.feed-f.ensures in sym (length-take-le _ _ (omega (arith, f.short, f.long)))

pub answer_line-wrote-requires : goal.answer_line-wrote-requires
answer_line-wrote-requires c =
    let a = c.args in (
      c.loop-at.invariant.words,
      omega (arith, c.loop-at.invariant.same, c.requires.1),
      going_room (view a.b.now) a.chunk.now (drop a.from a.chunk.now) (take a.before a.buf.now) a.out.now a.written (view c.loop-at.b) c.loop-at.buf c.loop-at.out c.loop-at.held c.loop-at.wrote c.loop-at.at c.loop-at.invariant.going c.requires.6 c.loop-at-test.true,
    )

pub loop-at-smaller-then-f : goal.loop-at-smaller-then-f
loop-at-smaller-then-f c =
    let f = c.feed-f.ensures in omega (arith, f.on c.if-f.true, f.in_chunk, c.loop-at-test.true)

pub loop-at-preserved-then-f : goal.loop-at-preserved-then-f
loop-at-preserved-then-f c =
    record {
      words = c.answer_line-wrote.ensures.words;
      same = c.answer_line-wrote.auto.serials ∙ c.loop-at.invariant.same;
      going = going_line (view c.args.b.now) c.args.chunk.now (drop c.args.from c.args.chunk.now) (take c.args.before c.args.buf.now) c.args.out.now c.args.written (view c.loop-at.b) c.loop-at.buf c.loop-at.out c.loop-at.held c.loop-at.wrote c.loop-at.at c.loop-at.invariant.going
          c.feed-f.new.buf c.feed-f.result.ended c.feed-f.result.held c.feed-f.result.at c.feed-f.ensures c.if-f.true
          (view c.answer_line-wrote.new.b) c.answer_line-wrote.new.out c.answer_line-wrote.result c.answer_line-wrote.ensures.answered;
    }

pub loop-at-smaller : goal.loop-at-smaller
loop-at-smaller c = omega (arith, c.loop-at-test.true)

pub loop-at-preserved : goal.loop-at-preserved
loop-at-preserved c =
    let a = c.args in
    let l = c.loop-at in
    record {
      words = l.invariant.words;
      same = l.invariant.same;
      going = going_part (view a.b.now) a.chunk.now (drop a.from a.chunk.now) (take a.before a.buf.now) a.out.now a.written (view l.b) l.buf l.out l.held l.wrote l.at l.invariant.going
          c.feed-f.new.buf c.feed-f.result.ended c.feed-f.result.held c.feed-f.result.at c.feed-f.ensures c.if-f.false;
    }

pub shape_of-buf : goal.shape_of-buf
shape_of-buf c =
    c.loop-at.invariant.going.long ∙ sym c.requires.2

pub shape_of-serials : goal.shape_of-serials
shape_of-serials c = c.loop-at.invariant.same

pub shape_of-out : goal.shape_of-out
shape_of-out c =
    let a = c.args in
    let l = c.loop-at in
    going_long (view a.b.now) a.chunk.now (drop a.from a.chunk.now) (take a.before a.buf.now) a.out.now a.written (view l.b) l.buf l.out l.held l.wrote l.at l.invariant.going

pub returns : goal.returns
returns c =
    let a = c.args in
    let l = c.loop-at in
    record {
      words = l.invariant.words;
      answered = going_end (view a.b.now) a.chunk.now (drop a.from a.chunk.now) (take a.before a.buf.now) a.out.now a.written (view l.b) l.buf l.out l.held l.wrote l.at l.invariant.going c.loop-at-test.false;
      few = omega (arith, l.invariant.going.few, l.invariant.going.in_chunk);
    }
