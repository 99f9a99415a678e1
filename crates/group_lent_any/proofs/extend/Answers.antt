-- BROKEN, or the call on sound words. Assumes nothing.
use mathlib.Core.Path.{refl}
use borrow.Author.Rules.{rules}
use borrow.Author.Tests.{not-false}
use Rattle.group_lent_sound.specs.Test.{sound_in}
use Rattle.group_lent_any.proofs.Judging.{not_ready, not_fit, all_fit, is_not, is_yes, says_sound}
use mathlib.Core.Path.{ap}
use mathlib.Core.Bool.{not}
use Rattle.group_lent_any.proofs.extend.Goals as goal

pub returns-then-not-is_ready : goal.returns-then-not-is_ready
returns-then-not-is_ready c =
    let a = c.args in
    not_ready a.b.now a.w.now _ c.is_ready.ensures (sound_in a.other.now) _ _ (ap not c.if-not-is_ready.true) (refl, refl)

pub returns-then-not-is_group : goal.returns-then-not-is_group
returns-then-not-is_group c =
    let a = c.args in
    not_fit a.b.now a.w.now _ c.is_ready.ensures (sound_in a.other.now) _ _ (ap not c.if-not-is_ready.false)
    (is_not a.other.now _ c.is_group.ensures (ap not c.if-not-is_group.true)) (refl, refl)

pub extend-requires : goal.extend-requires
extend-requires c =
    let sound = c.is_ready.ensures.says (c.if-not-is_ready.false) in
    (sound.0, (sound.1, says_sound c.args.other.now _ c.is_group.ensures (ap not c.if-not-is_group.false)))

pub returns : goal.returns
returns c =
    let a = c.args in
    all_fit a.b.now a.w.now _ c.is_ready.ensures (sound_in a.other.now) _ _ (ap not c.if-not-is_ready.false)
    (is_yes a.other.now _ c.is_group.ensures (ap not c.if-not-is_group.false)) c.extend.ensures
