-- BROKEN, or the call on a sound group. Assumes nothing.
use mathlib.Core.Path.{refl}
use borrow.Author.Rules.{rules}
use Rattle.group_lent_any.proofs.Judging.{picks, skips, is_not, is_yes, says_sound}
use mathlib.Core.Path.{ap}
use mathlib.Core.Bool.{not}
use Rattle.group_lent_any.proofs.pop.Goals as goal

pub returns-then-not-is_group : goal.returns-then-not-is_group
returns-then-not-is_group c = skips _ _ _ (is_not c.args.w.now _ c.is_group.ensures (ap not c.if-not-is_group.true)) (c.broken.ensures.0, (c.broken.ensures.1, refl))

pub pop-requires : goal.pop-requires
pop-requires c = says_sound c.args.w.now _ c.is_group.ensures (ap not c.if-not-is_group.false)

pub returns : goal.returns
returns c = picks _ _ _ (is_yes c.args.w.now _ c.is_group.ensures (ap not c.if-not-is_group.false)) c.pop.ensures
