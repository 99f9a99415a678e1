-- `smaller_of` compares the two lengths as the machine reads them back. Assumes nothing.
use borrow.Author.Rules.{rules}
use mir.Syntax.{w64}
use mir.Val.{SFits}
use mir.Facts.{to_z-of_z}
use Rattle.group_adds.proofs.Lengths.{smaller_other, smaller_own}
use Rattle.group_adds.proofs.smaller_of.Goals as goal

pub returns-then-b-a : goal.returns-then-b-a
returns-then-b-a c =
    let fa : SFits w64 c.args.a = search rules in
    let fb : SFits w64 c.args.b = search rules in
    smaller_other c.args.a c.args.b _ _ (to_z-of_z {w = w64} fa) (to_z-of_z {w = w64} fb) c.if-b-a.true

pub returns : goal.returns
returns c =
    let fa : SFits w64 c.args.a = search rules in
    let fb : SFits w64 c.args.b = search rules in
    smaller_own c.args.a c.args.b _ _ (to_z-of_z {w = w64} fa) (to_z-of_z {w = w64} fb) c.if-b-a.false
