-- `add_stop` goes by the tests of the definition. Assumes nothing.
use Rattle.group_lent.proofs.Seen.{is_listing}
use Rattle.group_lent_stops.proofs.Branches.{place_within, held_within, out_growth, out_meet, out_full, out_insert}
use Rattle.group_lent_stops.proofs.Stopping.{stop_made}
use Rattle.group_lent_stops.proofs.add_stop.Goals as goal

pub returns-then-w-eq1 : goal.returns-then-w-eq1
returns-then-w-eq1 c =
    stop_made c.args.w.now c.args.f c.args.v c.requires.sound_group c.requires.f_value.0 c.requires.f_value.1.0 c.requires.f_value.1.1 _ _ (out_growth c.args.w.now c.args.f c.args.v c.if-w-eq1.true _ (rw (c.put_five.ensures, c.put_stop.ensures)))

pub place_of-p-requires : goal.place_of-p-requires
place_of-p-requires c = is_listing c.args.w.now c.requires.sound_group c.if-w-eq1.false

pub is_held-requires : goal.is_held-requires
is_held-requires c = (is_listing c.args.w.now c.requires.sound_group c.if-w-eq1.false).fewer

pub meet-requires : goal.meet-requires
meet-requires c =
    (c.requires.sound_group.long, (held_within c.args.w.now c.args.v _ _ c.is_held.ensures c.if-is_held.true, (is_listing c.args.w.now c.requires.sound_group c.if-w-eq1.false).fewer))

pub returns-then-is_held : goal.returns-then-is_held
returns-then-is_held c =
    stop_made c.args.w.now c.args.f c.args.v c.requires.sound_group c.requires.f_value.0 c.requires.f_value.1.0 c.requires.f_value.1.1 _ _
    (out_meet c.args.w.now c.args.f c.args.v c.if-w-eq1.false _ c.place_of-p.ensures _ c.is_held.ensures c.if-is_held.true _ c.meet.ensures)

pub returns-then-w-ge128 : goal.returns-then-w-ge128
returns-then-w-ge128 c =
    stop_made c.args.w.now c.args.f c.args.v c.requires.sound_group c.requires.f_value.0 c.requires.f_value.1.0 c.requires.f_value.1.1 _ _
    (out_full c.args.w.now c.args.f c.args.v c.if-w-eq1.false _ c.place_of-p.ensures _ c.is_held.ensures c.if-is_held.false c.if-w-ge128.true)

pub insert-requires : goal.insert-requires
insert-requires c =
    (c.requires.sound_group.long, (place_within c.args.w.now c.args.v _ c.place_of-p.ensures, c.if-w-ge128.false))

pub returns : goal.returns
returns c =
    stop_made c.args.w.now c.args.f c.args.v c.requires.sound_group c.requires.f_value.0 c.requires.f_value.1.0 c.requires.f_value.1.1 _ _
    (out_insert c.args.w.now c.args.f c.args.v c.if-w-eq1.false _ c.place_of-p.ensures _ c.is_held.ensures c.if-is_held.false c.if-w-ge128.false _ c.insert.ensures)
