-- BROKEN, or the read on a sound group. Assumes nothing.
use Rattle.std.specs.Prelude.{None}
use borrow.Author.Rules.{rules}
use Rattle.ledger_spec.specs.GroupCalls.{growth_of}
use Rattle.group_lent_any.proofs.Judging.{asked_no, asked_yes, says_sound}
use mathlib.Core.Path.{ap}
use mathlib.Core.Bool.{not}
use Rattle.group_lent_any.proofs.get_none_zero_growth.Goals as goal

pub returns-then-not-is_group : goal.returns-then-not-is_group
returns-then-not-is_group c = asked_no c.args.w.now _ c.is_group.ensures None growth_of (ap not c.if-not-is_group.true)

pub get_none_zero_growth-requires : goal.get_none_zero_growth-requires
get_none_zero_growth-requires c = says_sound c.args.w.now _ c.is_group.ensures (ap not c.if-not-is_group.false)

pub returns : goal.returns
returns c = asked_yes c.args.w.now _ c.is_group.ensures None growth_of (ap not c.if-not-is_group.false) _ c.get_none_zero_growth.ensures
