-- The tests that led to a return say which answer holds: BROKEN of the words or the own group, of the other, STALE, and what the extend of a sound group
-- by a sound one answers. Assumes nothing.
use mathlib.Core.Path.{sym, ◌∙◌}
use Rattle.group_calls.proofs.Answering.{fit, extend_unready, on_bench, own_sound, other_broken, extend_stale, extend_goes}
use mathlib.Core.Path.{ap}
use mathlib.Core.Bool.{not}
use Rattle.group_calls.proofs.extend.Goals as goal

pub returns-then-not-is_ready : goal.returns-then-not-is_ready
returns-then-not-is_ready c =
    c.refused.ensures ∙ extend_unready _ c.args.g c.is_ready.ensures (ap not c.if-not-is_ready.true) c.args.other

pub returns-then-not-group_is_sound : goal.returns-then-not-group_is_sound
returns-then-not-group_is_sound c =
    let r = c.is_ready.ensures in
    let g = c.args.g in
    c.refused-then-not-group_is_sound.ensures
    ∙ other_broken _ r.verdict (on_bench _ g r (ap not c.if-not-is_ready.false)) g c.args.other (own_sound _ g r (ap not c.if-not-is_ready.false)) (sym c.group_is_sound.ensures ∙ c.if-not-group_is_sound.true)

pub group_gone-requires : goal.group_gone-requires
group_gone-requires c =
    let r = c.is_ready.ensures in record { canon = (fit _ r.verdict (on_bench _ c.args.g r (ap not c.if-not-is_ready.false))).canon; g_value = sym c.group_is_sound.ensures ∙ c.if-not-group_is_sound.false }

pub returns-then-group_gone : goal.returns-then-group_gone
returns-then-group_gone c =
    let r = c.is_ready.ensures in
    let g = c.args.g in
    c.refused-then-group_gone.ensures
    ∙ extend_stale _ r.verdict (on_bench _ g r (ap not c.if-not-is_ready.false)) g c.args.other (own_sound _ g r (ap not c.if-not-is_ready.false)) (sym c.group_is_sound.ensures ∙ c.if-not-group_is_sound.false)
    (sym c.group_gone.ensures ∙ c.if-group_gone.true)

pub extend-requires : goal.extend-requires
extend-requires c = record { g_value = own_sound _ c.args.g c.is_ready.ensures (ap not c.if-not-is_ready.false); h_value = sym c.group_is_sound.ensures ∙ c.if-not-group_is_sound.false }

pub returns : goal.returns
returns c =
    let r = c.is_ready.ensures in
    let g = c.args.g in
    extend_goes _ r.verdict (on_bench _ g r (ap not c.if-not-is_ready.false)) g c.args.other (own_sound _ g r (ap not c.if-not-is_ready.false)) (sym c.group_is_sound.ensures ∙ c.if-not-group_is_sound.false)
    (sym c.group_gone.ensures ∙ c.if-group_gone.false) c.extend.result c.extend.ensures
