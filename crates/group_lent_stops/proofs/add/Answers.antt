-- The kind says which of the three it is. Assumes nothing.
use Rattle.group_lent_stops.proofs.Meets.{listable_of, stop_of}
use Rattle.group_lent_stops.proofs.Branches.{add_growth, add_listed, add_stop_lem}
use Rattle.group_lent_stops.proofs.add.Goals as goal

pub returns-then-f-eq1 : goal.returns-then-f-eq1
returns-then-f-eq1 c = add_growth c.args.w.now c.args.f c.args.v _ _ c.if-f-eq1.true (c.add_growth.ensures c.args.v)

pub add_listed-requires : goal.add_listed-requires
add_listed-requires c =
    let f = c.args.f in record { sound_group = c.requires.sound_group; f_value = (c.requires.f_value.0, listable_of f.kind f.a f.b f.c f.d c.requires.f_value.0 c.if-f-eq1.false c.if-f-lt5.true) }

pub returns-then-f-lt5 : goal.returns-then-f-lt5
returns-then-f-lt5 c = add_listed c.args.w.now c.args.f c.args.v _ _ c.if-f-eq1.false c.if-f-lt5.true (c.add_listed.ensures c.args.v)

pub add_stop-requires : goal.add_stop-requires
add_stop-requires c = record { sound_group = c.requires.sound_group; f_value = (c.requires.f_value.0, (stop_of c.args.f c.requires.f_value.0 c.if-f-lt5.false, c.requires.f_value.1)) }

pub returns : goal.returns
returns c = add_stop_lem c.args.w.now c.args.f c.args.v _ _ c.if-f-eq1.false c.if-f-lt5.false c.add_stop.ensures
