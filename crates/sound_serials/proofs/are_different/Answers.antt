-- The remainders of the slots before k are marked; where two meet, all are compared. Assumes nothing.
use Rattle.sound_serials.proofs.Marking.{going_none, going_more, going_ends}
use Rattle.sound_serials.proofs.are_different.Goals as goal

pub loop-k-init : goal.loop-k-init
loop-k-init c = going_none c.args.b.now _ c.all_marks.ensures

pub mark-requires : goal.mark-requires
mark-requires c = c.loop-k.invariant.long

pub returns-then-not-mark : goal.returns-then-not-mark
returns-then-not-mark c = c.are_compared.ensures

pub loop-k-preserved : goal.loop-k-preserved
loop-k-preserved c =
    going_more c.args.b.now c.loop-k.t c.mark.new.t c.loop-k.k c.serial_at-serial.result c.mark.result c.loop-k.invariant c.loop-k-test.true c.serial_at-serial.ensures c.mark.ensures (c.if-not-mark.false)

pub returns : goal.returns
returns c = going_ends c.args.b.now c.loop-k.t c.loop-k.k c.loop-k.invariant c.loop-k-test.false
