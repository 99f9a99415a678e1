-- `peek` tests the group, asks its kind, and reads the last entry and the first stop. Assumes nothing.
use Prim.Native.Nat.{ℕ}
use mathlib.Core.Path.{sym, ap, ◌∙◌}
use native.Mathlib.Omega.{arith}
use lib.ListN.{get_or}
use Rattle.groups.specs.View.{no_entry, no_stop}
use Rattle.groups.proofs.View.{sound_counts}
use Rattle.group_takes.specs.Takes.{top_by}
use Rattle.group_takes.proofs.Taking.{peek_broken, peek_growth, peek_conflicts}
use Rattle.group_takes.proofs.peek.Goals as goal

pub returns-then-not-group_is_sound : goal.returns-then-not-group_is_sound
returns-then-not-group_is_sound c = peek_broken c.args.g (sym c.group_is_sound.ensures ∙ c.if-not-group_is_sound.true)

pub offset_bounds-g-n : goal.offset_bounds-g-n
offset_bounds-g-n c =
    let n = sound_counts c.args.g c.in-Conflicts.is (sym c.group_is_sound.ensures ∙ c.if-not-group_is_sound.false) in
    omega (arith, n.0, c.less-n.ensures)

pub bounds-g-n : goal.bounds-g-n
bounds-g-n c =
    let n = sound_counts c.args.g c.in-Conflicts.is (sym c.group_is_sound.ensures ∙ c.if-not-group_is_sound.false) in
    omega (arith, n.0, c.less-n.ensures)

pub returns-in-Growth : goal.returns-in-Growth
returns-in-Growth c =
    peek_growth c.args.g (sym c.group_is_sound.ensures ∙ c.if-not-group_is_sound.false) _ _ c.in-Growth.is

pub returns-in-Conflicts : goal.returns-in-Conflicts
returns-in-Conflicts c =
    let n = sound_counts c.args.g c.in-Conflicts.is (sym c.group_is_sound.ensures ∙ c.if-not-group_is_sound.false) in
    let g = c.args.g in
    let l = (c.well_formed.0.1.1.1.0.1.0.1) in
    let w = (c.well_formed.0.1.1.1.1.0.1.0.1) in
    peek_conflicts g (sym c.group_is_sound.ensures ∙ c.if-not-group_is_sound.false) c.in-Conflicts.is (omega (arith, n.0)) (omega (arith, n.1)) no_entry no_stop c.top_of-obstacle.result
    (c.top_of-obstacle.ensures ∙ ap (λ (k : ℕ). top_by g.listed (get_or g.list k no_entry) g.stopped (get_or g.stops 0 no_stop)) c.less-n.ensures)
