-- `is_empty` tests the group, then asks its kind. Assumes nothing.
use mathlib.Core.Path.{refl, sym, ap, ◌∙◌}
use borrow.Author.Rules.{rules}
use mir.Syntax.{w64}
use mir.Val.{SFits}
use Rattle.ledger_spec.specs.Groups.{growth, conflicts}
use Rattle.groups.specs.View.{group_of, list_of, stops_of}
use Rattle.groups.specs.Shown.{shown_told}
use Rattle.groups.proofs.View.{view_growth, view_conflicts}
use Rattle.groups.proofs.Asking.{same_bits, empty_broken, empty_is}
use Rattle.groups.proofs.is_empty.Goals as goal

pub returns-then-not-group_is_sound : goal.returns-then-not-group_is_sound
returns-then-not-group_is_sound c =
    ap shown_told c.no.ensures ∙ empty_broken (group_of c.args.g) (sym c.group_is_sound.ensures ∙ c.if-not-group_is_sound.true)

pub returns-in-Growth : goal.returns-in-Growth
returns-in-Growth c =
    let g = c.args.g in
    let l = c.in-Growth.length in
    let f = c.in-Growth.field-1 in
    let fits : SFits w64 l = search rules in
    empty_is (group_of g) (growth l f) (sym c.group_is_sound.ensures ∙ c.if-not-group_is_sound.false) (view_growth g l f c.in-Growth.is) _ (sym (same_bits l fits))

pub returns-in-Conflicts : goal.returns-in-Conflicts
returns-in-Conflicts c =
    let g = c.args.g in
    ap shown_told c.no-in-Conflicts.ensures ∙ empty_is (group_of g) (conflicts (list_of g) (stops_of g)) (sym c.group_is_sound.ensures ∙ c.if-not-group_is_sound.false) (view_conflicts g c.in-Conflicts.is) _ refl
