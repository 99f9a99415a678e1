-- The tests that led to a return say which answer holds: BROKEN, STALE, and what the add of a sound group answers. Assumes nothing.
use mathlib.Core.Path.{sym, ◌∙◌}
use Rattle.group_calls.proofs.Answering.{fit, add_unready, on_bench, own_sound, add_stale, add_goes}
use mathlib.Core.Path.{ap}
use mathlib.Core.Bool.{not}
use Rattle.group_calls.proofs.add.Goals as goal

pub returns-then-not-is_ready : goal.returns-then-not-is_ready
returns-then-not-is_ready c =
    c.refused.ensures ∙ add_unready _ c.args.g c.is_ready.ensures (ap not c.if-not-is_ready.true) c.args.o

pub names_gone-requires : goal.names_gone-requires
names_gone-requires c =
    let r = c.is_ready.ensures in
    (fit _ r.verdict (on_bench _ c.args.g r (ap not c.if-not-is_ready.false))).canon

pub returns-then-names_gone : goal.returns-then-names_gone
returns-then-names_gone c =
    let r = c.is_ready.ensures in
    let g = c.args.g in
    c.refused-then-names_gone.ensures ∙ add_stale _ r.verdict (on_bench _ g r (ap not c.if-not-is_ready.false)) g c.args.o (own_sound _ g r (ap not c.if-not-is_ready.false)) (sym c.names_gone.ensures ∙ c.if-names_gone.true)

pub vertex_of-first-requires : goal.vertex_of-first-requires
vertex_of-first-requires c =
    let r = c.is_ready.ensures in
    fit _ r.verdict (on_bench _ c.args.g r (ap not c.if-not-is_ready.false))

pub add-requires : goal.add-requires
add-requires c =
    own_sound _ c.args.g c.is_ready.ensures (ap not c.if-not-is_ready.false)

pub returns : goal.returns
returns c =
    let r = c.is_ready.ensures in
    let g = c.args.g in
    add_goes _ r.verdict (on_bench _ g r (ap not c.if-not-is_ready.false)) g c.args.o (own_sound _ g r (ap not c.if-not-is_ready.false))
    (sym c.names_gone.ensures ∙ c.if-names_gone.false) _ c.vertex_of-first.ensures c.add.result c.add.ensures
