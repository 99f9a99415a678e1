-- `least` compares the two lengths as the machine reads them back. Assumes nothing.
use mathlib.Core.Path.{◌∙◌}
use mir.Facts.{to_z-of_z}
use Rattle.group_lent_takes.proofs.Adding.{least_other, least_own}
use borrow.Author.Rules.{rules}
use mir.Syntax.{w64}
use Rattle.group_lent_takes.proofs.least.Goals as goal

pub returns-then-y-x : goal.returns-then-y-x
returns-then-y-x c =
    least_other c.args.a c.args.b _ _ (to_z-of_z {w = w64} (record { sfits = c.length_of-x.type_inv }) ∙ c.length_of-x.ensures) (to_z-of_z {w = w64} (record { sfits = c.length_of-y.type_inv }) ∙ c.length_of-y.ensures) c.if-y-x.true

pub returns : goal.returns
returns c =
    least_own c.args.a c.args.b _ _ (to_z-of_z {w = w64} (record { sfits = c.length_of-x.type_inv }) ∙ c.length_of-x.ensures) (to_z-of_z {w = w64} (record { sfits = c.length_of-y.type_inv }) ∙ c.length_of-y.ensures) c.if-y-x.false
