-- A serial of 0, or one that is new. Assumes nothing.
use Rattle.sound_serials.proofs.Differing.{once_none, once_new}
use Rattle.sound_serials.proofs.is_once.Goals as goal

pub returns-then-serial-eq0 : goal.returns-then-serial-eq0
returns-then-serial-eq0 c = once_none c.args.b.now c.args.k c.serial_at-serial.result c.serial_at-serial.ensures c.if-serial-eq0.true

pub returns : goal.returns
returns c = once_new c.args.b.now c.args.k c.serial_at-serial.result c.serial_at-serial.ensures c.if-serial-eq0.false c.is_new.result c.is_new.ensures
