-- `extend` goes by the kinds of the two groups. Assumes nothing.
use Rattle.group_lent.proofs.Seen.{is_listing}
use Rattle.group_lent_extends.proofs.Extending.{by_pair_lem, by_none, by_taking, by_room, fits, by_roomy, by_adding}
use Rattle.group_lent_extends.proofs.extend.Goals as goal

pub returns-then-w-eq1 : goal.returns-then-w-eq1
returns-then-w-eq1 c = by_pair_lem c.args.w.now c.args.other.now c.requires.sound_group c.requires.sound_group_2 c.if-other-eq1.true c.if-w-eq1.true _ c.pair.ensures

pub returns-then-other-eq1 : goal.returns-then-other-eq1
returns-then-other-eq1 c = by_none c.args.w.now c.args.other.now c.requires.sound_group c.requires.sound_group_2 c.if-other-eq1.true c.if-w-eq1.false

pub take_over-requires : goal.take_over-requires
take_over-requires c = record { w_len = (c.requires.sound_group.long, c.requires.sound_group_2.long); listing = is_listing c.args.other.now c.requires.sound_group_2 c.if-other-eq1.false }

pub returns-then-w-eq1-2 : goal.returns-then-w-eq1-2
returns-then-w-eq1-2 c = by_taking c.args.w.now c.args.other.now c.requires.sound_group c.requires.sound_group_2 c.if-other-eq1.false c.if-w-eq1-2.true _ c.take_over.ensures

pub has_room-requires : goal.has_room-requires
has_room-requires c = record { listing = is_listing c.args.w.now c.requires.sound_group c.if-w-eq1-2.false; listing_2 = is_listing c.args.other.now c.requires.sound_group_2 c.if-other-eq1.false }

pub returns-then-not-has_room : goal.returns-then-not-has_room
returns-then-not-has_room c = by_room c.args.w.now c.args.other.now c.requires.sound_group c.requires.sound_group_2 c.if-other-eq1.false c.if-w-eq1-2.false _ c.has_room.ensures (c.if-not-has_room.true)

pub append-requires : goal.append-requires
append-requires c = record { w_len = (c.requires.sound_group.long, c.requires.sound_group_2.long); other_bound = fits c.args.w.now c.args.other.now c.requires.sound_group c.requires.sound_group_2 c.if-other-eq1.false c.if-w-eq1-2.false _ c.has_room.ensures (c.if-not-has_room.false) }

pub add_stops-requires : goal.add_stops-requires
add_stops-requires c = record { roomy = by_roomy c.args.w.now c.args.other.now c.requires.sound_group c.requires.sound_group_2 c.if-other-eq1.false c.if-w-eq1-2.false _ c.has_room.ensures (c.if-not-has_room.false) _ c.append.ensures; listing = is_listing c.args.other.now c.requires.sound_group_2 c.if-other-eq1.false }

pub returns : goal.returns
returns c =
    by_adding c.args.w.now c.args.other.now c.requires.sound_group c.requires.sound_group_2 c.if-other-eq1.false c.if-w-eq1-2.false _ c.has_room.ensures (c.if-not-has_room.false) _ _ c.append.ensures c.add_stops.ensures
