-- `pop` tests the group, asks its kind, reads the one on top, and lays what is left into the arrays. Assumes nothing.
use Prim.Native.Nat.{ℕ}
use mathlib.Core.Path.{sym, ap, ◌∙◌}
use native.Mathlib.Omega.{arith}
use lib.ListN.{get_or}
use Rattle.groups.specs.View.{no_entry, no_stop}
use Rattle.groups.proofs.View.{sound_counts}
use Rattle.group_takes.specs.Takes.{top_by}
use Rattle.group_takes.proofs.Taking.{pops_broken, pops_growth, pops_conflicts}
use Rattle.group_takes.proofs.pop.Goals as goal

pub returns-then-not-group_is_sound : goal.returns-then-not-group_is_sound
returns-then-not-group_is_sound c = let whole = pops_broken c.args.g (sym c.group_is_sound.ensures ∙ c.if-not-group_is_sound.true) in record { says = whole.0; leaves = whole.1 }

pub offset_bounds-list-n : goal.offset_bounds-list-n
offset_bounds-list-n c =
    let n = sound_counts c.args.g c.in-Conflicts.is (sym c.group_is_sound.ensures ∙ c.if-not-group_is_sound.false) in
    omega (arith, n.0, c.less-n.ensures)

pub bounds-list-n : goal.bounds-list-n
bounds-list-n c =
    let n = sound_counts c.args.g c.in-Conflicts.is (sym c.group_is_sound.ensures ∙ c.if-not-group_is_sound.false) in
    omega (arith, n.0, c.less-n.ensures)

pub moved_down-requires : goal.moved_down-requires
moved_down-requires c =
    let n = sound_counts c.args.g c.in-Conflicts.is (sym c.group_is_sound.ensures ∙ c.if-not-group_is_sound.false) in
    omega (arith, n.1, c.less-m.ensures)

pub returns-in-Growth : goal.returns-in-Growth
returns-in-Growth c = let whole = pops_growth c.args.g (sym c.group_is_sound.ensures ∙ c.if-not-group_is_sound.false) _ _ c.in-Growth.is in record { says = whole.0; leaves = whole.1 }

pub returns-in-Conflicts : goal.returns-in-Conflicts
returns-in-Conflicts c =
    let n = sound_counts c.args.g c.in-Conflicts.is (sym c.group_is_sound.ensures ∙ c.if-not-group_is_sound.false) in
    let g = c.args.g in
    let l = (c.well_formed.0.1.1.1.0.1.0.1) in
    let w = (c.well_formed.0.1.1.1.1.0.1.0.1) in let whole = pops_conflicts g (sym c.group_is_sound.ensures ∙ c.if-not-group_is_sound.false) c.in-Conflicts.is (omega (arith, n.0)) (omega (arith, n.1)) no_entry no_stop c.top_of-obstacle.result c.moved_down.result c.less-n.result c.less-m.result
    (c.top_of-obstacle.ensures ∙ ap (λ (k : ℕ). top_by g.listed (get_or g.list k no_entry) g.stopped (get_or g.stops 0 no_stop)) c.less-n.ensures)
    c.moved_down.ensures c.less-n.ensures c.less-m.ensures in record { says = whole.0; leaves = whole.1 }
