-- No mark, one that was met, or a new one. Assumes nothing.
use Rattle.sound_serials.proofs.Marking.{mark_none, mark_met, mark_new}
use Rattle.sound_serials.proofs.mark.Goals as goal

pub returns-then-serial-eq0 : goal.returns-then-serial-eq0
returns-then-serial-eq0 c = mark_none c.args.t.now c.args.serial c.if-serial-eq0.true

pub returns-then-t-i-ne0 : goal.returns-then-t-i-ne0
returns-then-t-i-ne0 c = mark_met c.args.t.now c.args.serial

pub returns : goal.returns
returns c = mark_new c.args.t.now c.args.serial c.requires c.if-t-i-ne0.false
