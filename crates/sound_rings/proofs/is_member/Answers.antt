-- The parts of the test in the definition's order. Assumes nothing.
use Rattle.sound_rings.proofs.Walking.{member_row}
use Rattle.sound_rings.proofs.is_member.Goals as goal

pub returns : goal.returns
returns c =
    member_row c.args.m c.args.h c.args.i c.args.next c.is_inside-back.result c.is_inside-back.ensures
