-- By the tests of the definition. Assumes nothing.
use mathlib.Core.Path.{◌∙◌}
use mathlib.Core.Bool.{true, false}
use mir.Facts.{to_z-of_z}
use borrow.Author.Tests.{eq-eqb, ne_eqb}
use Rattle.group_lent_extends.specs.Extends.{flag_after}
use Rattle.group_lent_extends.proofs.Pairs.{less_is, more_is}
use mir.Syntax.{w64}
use Rattle.group_lent_extends.proofs.flag_after.Goals as goal

pub returns-then-b-eq-LARGEST : goal.returns-then-b-eq-LARGEST
unfolding flag_after
returns-then-b-eq-LARGEST c = rw (eq-eqb _ _ c.if-b-eq-LARGEST.true)

pub returns-then-y-x : goal.returns-then-y-x
unfolding flag_after
returns-then-y-x c = rw (ne_eqb _ _ c.if-b-eq-LARGEST.false, less_is c.args.a c.args.b _ _ (to_z-of_z {w = w64} (record { sfits = c.length_of-x.type_inv }) ∙ c.length_of-x.ensures) (to_z-of_z {w = w64} (record { sfits = c.length_of-y.type_inv }) ∙ c.length_of-y.ensures) true c.if-y-x.true)

pub returns-then-x-y : goal.returns-then-x-y
unfolding flag_after
returns-then-x-y c = rw (ne_eqb _ _ c.if-b-eq-LARGEST.false, less_is c.args.a c.args.b _ _ (to_z-of_z {w = w64} (record { sfits = c.length_of-x.type_inv }) ∙ c.length_of-x.ensures) (to_z-of_z {w = w64} (record { sfits = c.length_of-y.type_inv }) ∙ c.length_of-y.ensures) false c.if-y-x.false, more_is c.args.a c.args.b _ _ (to_z-of_z {w = w64} (record { sfits = c.length_of-x.type_inv }) ∙ c.length_of-x.ensures) (to_z-of_z {w = w64} (record { sfits = c.length_of-y.type_inv }) ∙ c.length_of-y.ensures) true c.if-x-y.true)

pub returns-then-f-eq1 : goal.returns-then-f-eq1
unfolding flag_after
returns-then-f-eq1 c =
    rw (ne_eqb _ _ c.if-b-eq-LARGEST.false, less_is c.args.a c.args.b _ _ (to_z-of_z {w = w64} (record { sfits = c.length_of-x.type_inv }) ∙ c.length_of-x.ensures) (to_z-of_z {w = w64} (record { sfits = c.length_of-y.type_inv }) ∙ c.length_of-y.ensures) false c.if-y-x.false, more_is c.args.a c.args.b _ _ (to_z-of_z {w = w64} (record { sfits = c.length_of-x.type_inv }) ∙ c.length_of-x.ensures) (to_z-of_z {w = w64} (record { sfits = c.length_of-y.type_inv }) ∙ c.length_of-y.ensures) false c.if-x-y.false, eq-eqb _ _ c.if-f-eq1.true)

pub returns : goal.returns
unfolding flag_after
returns c =
    rw (ne_eqb _ _ c.if-b-eq-LARGEST.false, less_is c.args.a c.args.b _ _ (to_z-of_z {w = w64} (record { sfits = c.length_of-x.type_inv }) ∙ c.length_of-x.ensures) (to_z-of_z {w = w64} (record { sfits = c.length_of-y.type_inv }) ∙ c.length_of-y.ensures) false c.if-y-x.false, more_is c.args.a c.args.b _ _ (to_z-of_z {w = w64} (record { sfits = c.length_of-x.type_inv }) ∙ c.length_of-x.ensures) (to_z-of_z {w = w64} (record { sfits = c.length_of-y.type_inv }) ∙ c.length_of-y.ensures) false c.if-x-y.false, ne_eqb _ _ c.if-f-eq1.false)
