-- `is_active` tests the group, then asks its kind, and the flag of a largest growth. Assumes nothing.
use mathlib.Core.Path.{refl, sym, ap, ◌∙◌}
use mathlib.Core.Bool.{Bool, true, cond}
use borrow.Author.Rules.{rules}
use borrow.Author.Tests.{eq-eqb, ne_eqb}
use mir.Syntax.{w64}
use mir.Val.{SFits}
use Rattle.ledger_spec.specs.Groups.{growth, conflicts}
use Rattle.groups.specs.View.{group_of, list_of, stops_of}
use Rattle.groups.specs.Shown.{shown_told}
use Rattle.groups.proofs.View.{view_growth, view_conflicts}
use Rattle.groups.proofs.Asking.{same_bits, active_broken, active_is}
use Rattle.groups.proofs.is_active.Goals as goal

pub returns-then-not-group_is_sound : goal.returns-then-not-group_is_sound
returns-then-not-group_is_sound c =
    ap shown_told c.no.ensures ∙ active_broken (group_of c.args.g) (sym c.group_is_sound.ensures ∙ c.if-not-group_is_sound.true)

pub returns-then-length-eq-LARGEST : goal.returns-then-length-eq-LARGEST
returns-then-length-eq-LARGEST c =
    let g = c.args.g in
    let l = c.in-Growth.length in
    let f = c.in-Growth.flag in
    let fits : SFits w64 l = search rules in
    active_is (group_of g) (growth l f) (sym c.group_is_sound.ensures ∙ c.if-not-group_is_sound.false) (view_growth g l f c.in-Growth.is) _
    (sym (ap (λ (b : Bool). cond b f true) (same_bits l fits ∙ eq-eqb _ _ c.if-length-eq-LARGEST.true)))

pub returns-else-length-eq-LARGEST : goal.returns-else-length-eq-LARGEST
returns-else-length-eq-LARGEST c =
    let g = c.args.g in
    let l = c.in-Growth.length in
    let f = c.in-Growth.flag in
    let fits : SFits w64 l = search rules in
    active_is (group_of g) (growth l f) (sym c.group_is_sound.ensures ∙ c.if-not-group_is_sound.false) (view_growth g l f c.in-Growth.is) _
    (sym (ap (λ (b : Bool). cond b f true) (same_bits l fits ∙ ne_eqb _ _ c.if-length-eq-LARGEST.false)))

pub returns-in-Conflicts : goal.returns-in-Conflicts
returns-in-Conflicts c =
    let g = c.args.g in
    active_is (group_of g) (conflicts (list_of g) (stops_of g)) (sym c.group_is_sound.ensures ∙ c.if-not-group_is_sound.false) (view_conflicts g c.in-Conflicts.is) _ refl
