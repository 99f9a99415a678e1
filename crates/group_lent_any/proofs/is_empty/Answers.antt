-- BROKEN, or the read on a sound group. Assumes nothing.
use mathlib.Core.Bool.{false}
use borrow.Author.Rules.{rules}
use Rattle.ledger_spec.specs.GroupCalls.{is_empty}
use Rattle.group_lent_any.proofs.Judging.{asked_no, asked_yes, says_sound}
use mathlib.Core.Path.{ap}
use mathlib.Core.Bool.{not}
use Rattle.group_lent_any.proofs.is_empty.Goals as goal

pub returns-then-not-is_group : goal.returns-then-not-is_group
returns-then-not-is_group c = asked_no c.args.w.now _ c.is_group.ensures false is_empty (ap not c.if-not-is_group.true)

pub is_empty-yes-requires : goal.is_empty-yes-requires
is_empty-yes-requires c = says_sound c.args.w.now _ c.is_group.ensures (ap not c.if-not-is_group.false)

pub returns : goal.returns
returns c = asked_yes c.args.w.now _ c.is_group.ensures false is_empty (ap not c.if-not-is_group.false) _ c.is_empty-yes.ensures
