-- Held bytes and the chunk's rest keep saying the same lines (`Feeding`). Assumes nothing.
use Prim.Native.Nat.{◌-◌}
use native.Mathlib.Omega.{arith}
use mathlib.Core.Path.{sym, ◌∙◌}
use lib.ListN.{length, take, drop}
use Rattle.text_chunks.proofs.Feeding.{Feeding, feed_start, feed_turn, feed_line, feed_part}
use Rattle.text_chunks.proofs.feed.Goals as goal

pub loop-i-init : goal.loop-i-init
loop-i-init c = let a = c.args in feed_start a.chunk.now a.buf.now a.held a.at c.requires.0 c.requires.1.0 c.requires.1.1

pub shape_of-buf-then-b-eq10 : goal.shape_of-buf-then-b-eq10
shape_of-buf-then-b-eq10 c =
    c.loop-i.invariant.long ∙ sym c.requires.1.0

pub returns-then-b-eq10 : goal.returns-then-b-eq10
returns-then-b-eq10 c =
    let a = c.args in
    let l = c.loop-i in
    feed_line a.at (drop a.at a.chunk.now) (take a.held a.buf.now) a.chunk.now l.buf l.n l.i l.invariant c.loop-i-test.true c.if-b-eq10.true

pub push-n-requires : goal.push-n-requires
push-n-requires c = (c.loop-i.invariant.long, c.loop-i.invariant.short)

pub loop-i-preserved : goal.loop-i-preserved
loop-i-preserved c =
    feed_turn c.args.at (drop c.args.at c.args.chunk.now) (take c.args.held c.args.buf.now) c.args.chunk.now c.loop-i.buf c.loop-i.n c.loop-i.i c.loop-i.invariant c.loop-i-test.true c.if-b-eq10.false
    c.push-n.new.buf c.push-n.result c.push-n.auto.buf c.push-n.ensures

pub shape_of-buf : goal.shape_of-buf
shape_of-buf c = c.loop-i.invariant.long ∙ sym c.requires.1.0

pub returns : goal.returns
returns c =
    let a = c.args in
    let l = c.loop-i in
    feed_part a.at (drop a.at a.chunk.now) (take a.held a.buf.now) a.chunk.now l.buf l.n l.i l.invariant c.loop-i-test.false
