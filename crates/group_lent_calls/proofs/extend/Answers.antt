-- STALE by the nodes that the other group names; else the group in place. Assumes nothing.
use Rattle.group_lent_calls.proofs.Calling.{extend_stale, extend_goes}
use Rattle.group_lent_calls.proofs.extend.Goals as goal

pub group_gone-requires : goal.group_gone-requires
group_gone-requires c = record { canon = c.requires.0.canon; sound_group = c.requires.1.1 }

pub returns-then-group_gone : goal.returns-then-group_gone
returns-then-group_gone c = extend_stale c.args.b.now c.args.w.now c.requires.0 c.requires.1.0 c.args.other.now c.requires.1.1 _ c.group_gone.ensures c.if-group_gone.true

pub extend-requires : goal.extend-requires
extend-requires c = record { sound_group = c.requires.1.0; sound_group_2 = c.requires.1.1 }

pub returns : goal.returns
returns c = extend_goes c.args.b.now c.args.w.now c.requires.0 c.requires.1.0 c.args.other.now c.requires.1.1 _ c.group_gone.ensures c.if-group_gone.false _ _ c.extend.ensures
