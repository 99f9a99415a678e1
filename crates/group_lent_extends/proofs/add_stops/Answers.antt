-- A turn of the loop adds one stop, for which there is room. Assumes nothing.
use native.Mathlib.Omega.{arith}
use Rattle.group_lent_room.proofs.Words.{other_stop}
use Rattle.group_lent_extends.proofs.Rounds.{come_begin, other_form, other_low, come_turn, come_end}
use Rattle.group_lent_extends.proofs.add_stops.Goals as goal

pub loop-j-init : goal.loop-j-init
loop-j-init c = (omega arith, come_begin c.args.w.now c.args.other.now c.requires.listing c.requires.roomy.sound c.requires.roomy.kind)

pub add_stop-requires : goal.add_stop-requires
add_stop-requires c =
    let e = c.five_at-f.ensures in
    let h = c.loop-j-test.true in record { sound_group = c.loop-j.invariant.1.sound; f_value = (rw e (other_form c.args.w.now c.args.other.now c.requires.listing c.loop-j.j h), (rw e (other_stop c.args.other.now c.requires.listing c.loop-j.j h), other_low c.args.w.now c.args.other.now c.requires.listing c.loop-j.j h)) }

pub loop-j-preserved : goal.loop-j-preserved
loop-j-preserved c =
    (omega arith, come_turn c.args.w.now c.args.other.now c.requires.listing c.loop-j.w c.loop-j.j c.loop-j.invariant.1 c.requires.roomy.room c.loop-j-test.true _ _ (rw c.five_at-f.ensures at c.add_stop.ensures))

pub returns : goal.returns
returns c = come_end c.args.w.now c.args.other.now c.requires.listing c.loop-j.w c.loop-j.j c.loop-j.invariant.1 c.loop-j-test.false
