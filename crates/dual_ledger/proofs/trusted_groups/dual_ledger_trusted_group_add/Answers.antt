-- The call below. Assumes nothing.
use Rattle.dual_ledger.proofs.trusted_groups.dual_ledger_trusted_group_add.Goals as goal

pub add-requires : goal.add-requires
add-requires c = record { sound_words = c.requires.sound_words; o_value = c.requires.obstacle_value }

pub returns : goal.returns
returns c = c.add.ensures
