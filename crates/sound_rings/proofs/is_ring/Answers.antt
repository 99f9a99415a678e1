-- Each turn follows one link of the circle; each way out is a test that fails, or all of them. Assumes nothing.
use native.Mathlib.Omega.{arith}
use Rattle.bench_words.specs.Store.{node_at}
use Rattle.sound_rings.proofs.Walking.{ring_none, ring_many, going_starts, going_out, going_fails, little, going_on, going_ends}
use Rattle.sound_rings.proofs.is_ring.Goals as goal

pub returns-then-n-eq0 : goal.returns-then-n-eq0
returns-then-n-eq0 c = ring_none (node_at c.args.b.now) c.args.next c.args.h c.args.n c.if-n-eq0.true

pub returns-then-n-gt64 : goal.returns-then-n-gt64
returns-then-n-gt64 c = ring_many (node_at c.args.b.now) c.args.next c.args.h c.args.n c.if-n-eq0.false c.if-n-gt64.true

pub loop-i-init : goal.loop-i-init
loop-i-init c = going_starts (node_at c.args.b.now) c.args.next c.args.h c.args.n c.if-n-eq0.false c.if-n-gt64.false

pub returns-then-p-ge512 : goal.returns-then-p-ge512
returns-then-p-ge512 c =
    going_out (node_at c.args.b.now) c.args.next c.args.h c.args.n c.loop-i.p c.loop-i.total c.loop-i.i c.loop-i.invariant c.loop-i-test.true c.if-p-ge512.true

pub returns-then-not-is_member : goal.returns-then-not-is_member
returns-then-not-is_member c =
    going_fails (node_at c.args.b.now) c.args.next c.args.h c.args.n c.loop-i.p c.loop-i.total c.loop-i.i c.loop-i.invariant c.loop-i-test.true c.if-p-ge512.false c.load_node-m.result c.load_node-m.ensures c.is_member.result c.is_member.ensures (c.if-not-is_member.true)

pub overflow_add-total : goal.overflow_add-total
overflow_add-total c =
    let m = little (node_at c.args.b.now) c.args.next c.args.h c.args.n c.loop-i.p c.loop-i.total c.loop-i.i c.loop-i.invariant c.loop-i-test.true c.if-p-ge512.false c.load_node-m.result c.load_node-m.ensures c.is_member.result c.is_member.ensures (c.if-not-is_member.false) in record { fits = omega (arith, c.loop-i.invariant.small, c.loop-i.invariant.low, c.loop-i.invariant.few) }

pub loop-i-preserved : goal.loop-i-preserved
loop-i-preserved c =
    going_on (node_at c.args.b.now) c.args.next c.args.h c.args.n c.loop-i.p c.loop-i.total c.loop-i.i c.loop-i.invariant c.loop-i-test.true c.if-p-ge512.false c.load_node-m.result c.load_node-m.ensures c.is_member.result c.is_member.ensures (c.if-not-is_member.false)

pub returns : goal.returns
returns c =
    going_ends (node_at c.args.b.now) c.args.next c.args.h c.args.n c.loop-i.p c.loop-i.total c.loop-i.i c.loop-i.invariant c.loop-i-test.false
