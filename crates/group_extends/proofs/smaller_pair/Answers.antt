-- `smaller_pair` makes the tests of the definition, in its order. Assumes nothing.
use mathlib.Core.Path.{◌∙◌}
use borrow.Author.Rules.{rules}
use borrow.Author.Tests.{eq-eqb, ne_eqb}
use mir.Syntax.{w64}
use mir.Val.{SFits}
use mir.Facts.{to_z-of_z}
use Rattle.groups.proofs.Asking.{same_bits}
use Rattle.group_extends.proofs.Pairs.{pair_largest, pair_other, pair_own, pair_both}
use Rattle.group_extends.proofs.smaller_pair.Goals as goal

pub returns-then-b-eq-LARGEST : goal.returns-then-b-eq-LARGEST
returns-then-b-eq-LARGEST c =
    let fa : SFits w64 c.args.a = search rules in
    let fb : SFits w64 c.args.b = search rules in
    pair_largest c.args.a c.args.b _ _ c.args.f c.args.h (to_z-of_z {w = w64} fa) (to_z-of_z {w = w64} fb) (same_bits c.args.b fb ∙ eq-eqb _ _ c.if-b-eq-LARGEST.true)

pub returns-then-b-a : goal.returns-then-b-a
returns-then-b-a c =
    let fa : SFits w64 c.args.a = search rules in
    let fb : SFits w64 c.args.b = search rules in
    pair_other c.args.a c.args.b _ _ c.args.f c.args.h (to_z-of_z {w = w64} fa) (to_z-of_z {w = w64} fb) (same_bits c.args.b fb ∙ ne_eqb _ _ c.if-b-eq-LARGEST.false) c.if-b-a.true

pub returns-then-a-b : goal.returns-then-a-b
returns-then-a-b c =
    let fa : SFits w64 c.args.a = search rules in
    let fb : SFits w64 c.args.b = search rules in
    pair_own c.args.a c.args.b _ _ c.args.f c.args.h (to_z-of_z {w = w64} fa) (to_z-of_z {w = w64} fb) (same_bits c.args.b fb ∙ ne_eqb _ _ c.if-b-eq-LARGEST.false) c.if-b-a.false c.if-a-b.true

pub returns : goal.returns
returns c =
    let fa : SFits w64 c.args.a = search rules in
    let fb : SFits w64 c.args.b = search rules in
    pair_both c.args.a c.args.b _ _ c.args.f c.args.h (to_z-of_z {w = w64} fa) (to_z-of_z {w = w64} fb) (same_bits c.args.b fb ∙ ne_eqb _ _ c.if-b-eq-LARGEST.false) c.both-flag.result c.both-flag.ensures c.if-b-a.false c.if-a-b.false
