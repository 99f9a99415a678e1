-- `extend_conflicts` lays the other's list after the own one, and then adds the stops in one pass. Assumes nothing.
use mathlib.Core.Path.{sym, ap, ◌∙◌}
use native.Mathlib.Omega.{arith}
use Rattle.ledger_spec.specs.Groups.{rising_from}
use Rattle.groups.proofs.View.{stops_is}
use Rattle.group_extends.proofs.Appends.{past_both, too_long, goes_on}
use Rattle.group_extends.proofs.extend_conflicts.Goals as goal

pub overflow_sub-free : goal.overflow_sub-free
overflow_sub-free c = omega (arith, c.requires.listed_bound.0)

pub returns-then-free-h : goal.returns-then-free-h
returns-then-free-h c =
    let l = (c.well_formed.0.1.1.1.0.1.0.1) in
    let l' = (c.well_formed.1.0.1.1.1.0.1.0.1) in
    let w' = (c.well_formed.1.0.1.1.1.1.0.1.0.1) in
    too_long c.args.g c.args.h (omega (arith, l, c.requires.listed_bound.0)) (omega (arith, l', c.requires.listed_bound_2.0)) (omega (arith, c.requires.listed_bound.0, c.if-free-h.true))

pub entries_laid-list-requires : goal.entries_laid-list-requires
entries_laid-list-requires c =
    (omega arith, (c.requires.listed_bound_2.0, omega (arith, c.requires.listed_bound.0, c.if-free-h.false)))

pub overflow_add-g : goal.overflow_add-g
overflow_add-g c =
    omega (arith, c.requires.listed_bound.0, c.requires.listed_bound_2.0, c.if-free-h.false)

pub merged-requires : goal.merged-requires
merged-requires c =
    let l = (c.well_formed.0.1.1.1.0.1.0.1) in
    let l' = (c.well_formed.1.0.1.1.1.0.1.0.1) in
    let w' = (c.well_formed.1.0.1.1.1.1.0.1.0.1) in record { stopped_bound = c.requires.listed_bound.1; listed_bound = (omega (arith, c.requires.listed_bound.0, c.if-free-h.false), past_both c.args.g c.args.h (omega (arith, l, c.requires.listed_bound.0)) (omega (arith, l', c.requires.listed_bound_2.0)) c.entries_laid-list.result c.entries_laid-list.ensures); m_bound = (c.requires.listed_bound_2.1.0, sym (ap (rising_from 0) (stops_is c.args.h (omega (arith, w', c.requires.listed_bound_2.1.0)))) ∙ c.requires.listed_bound_2.1.1) }

pub returns : goal.returns
returns c =
    let l = (c.well_formed.0.1.1.1.0.1.0.1) in
    let l' = (c.well_formed.1.0.1.1.1.0.1.0.1) in
    let w' = (c.well_formed.1.0.1.1.1.1.0.1.0.1) in
    goes_on c.args.g c.args.h (omega (arith, l, c.requires.listed_bound.0)) (omega (arith, l', c.requires.listed_bound_2.0)) c.entries_laid-list.result c.merged.result c.entries_laid-list.ensures (omega (arith, c.requires.listed_bound.0, c.if-free-h.false)) c.requires.listed_bound.1 (omega (arith, w', c.requires.listed_bound_2.1.0)) c.merged.ensures
