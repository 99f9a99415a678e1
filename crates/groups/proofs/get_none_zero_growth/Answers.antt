-- `get_none_zero_growth` tests the group, then asks its kind and whether its length is the largest. Assumes nothing.
use Rattle.std.specs.Prelude.{Some}
use mathlib.Core.Path.{refl, sym, ap, ◌∙◌}
use borrow.Author.Rules.{rules}
use borrow.Author.Tests.{eq-eqb, ne_eqb}
use mir.Syntax.{w64}
use mir.Facts.{to_z-of_z}
use mir.Val.{SFits}
use Rattle.ledger_spec.specs.Groups.{growth, conflicts}
use Rattle.groups.specs.View.{group_of, list_of, stops_of}
use Rattle.groups.proofs.View.{view_growth, view_conflicts}
use Rattle.groups.proofs.Asking.{same_bits, growth_broken, growth_largest, growth_is}
use Rattle.groups.proofs.get_none_zero_growth.Goals as goal

pub returns-then-not-group_is_sound : goal.returns-then-not-group_is_sound
returns-then-not-group_is_sound c = growth_broken (group_of c.args.g) (sym c.group_is_sound.ensures ∙ c.if-not-group_is_sound.true)

pub returns-then-length-eq-LARGEST : goal.returns-then-length-eq-LARGEST
returns-then-length-eq-LARGEST c =
    let g = c.args.g in
    let l = c.in-Growth.length in
    let f = c.in-Growth.field-1 in
    let fits : SFits w64 l = search rules in
    growth_largest (group_of g) (growth l f) (sym c.group_is_sound.ensures ∙ c.if-not-group_is_sound.false) (view_growth g l f c.in-Growth.is) (same_bits l fits ∙ eq-eqb _ _ c.if-length-eq-LARGEST.true)

pub returns-else-length-eq-LARGEST : goal.returns-else-length-eq-LARGEST
returns-else-length-eq-LARGEST c =
    let g = c.args.g in
    let l = c.in-Growth.length in
    let f = c.in-Growth.field-1 in
    let fits : SFits w64 l = search rules in
    growth_is (group_of g) (growth l f) (sym c.group_is_sound.ensures ∙ c.if-not-group_is_sound.false) (view_growth g l f c.in-Growth.is) (same_bits l fits ∙ ne_eqb _ _ c.if-length-eq-LARGEST.false) _ (ap Some (to_z-of_z {w = w64} fits))

pub returns-in-Conflicts : goal.returns-in-Conflicts
returns-in-Conflicts c =
    let g = c.args.g in
    growth_is (group_of g) (conflicts (list_of g) (stops_of g)) (sym c.group_is_sound.ensures ∙ c.if-not-group_is_sound.false) (view_conflicts g c.in-Conflicts.is) refl _ refl
