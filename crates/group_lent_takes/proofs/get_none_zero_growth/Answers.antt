-- `get_none_zero_growth` asks the first two words. Assumes nothing.
use mathlib.Core.Path.{◌∙◌}
use mir.Facts.{to_z-of_z}
use Rattle.group_lent_takes.proofs.Asking.{growth_none, growth_nothing, growth_some}
use borrow.Author.Rules.{rules}
use mir.Syntax.{w64}
use Rattle.group_lent_takes.proofs.get_none_zero_growth.Goals as goal

pub returns-then-w-ne1 : goal.returns-then-w-ne1
returns-then-w-ne1 c = growth_none c.args.w.now c.requires c.if-w-ne1.true

pub returns-then-l-eq-LARGEST : goal.returns-then-l-eq-LARGEST
returns-then-l-eq-LARGEST c = growth_nothing c.args.w.now c.requires c.if-w-ne1.false c.if-l-eq-LARGEST.true

pub returns : goal.returns
returns c =
    growth_some c.args.w.now c.requires c.if-w-ne1.false c.if-l-eq-LARGEST.false _
    (to_z-of_z {w = w64} (record { sfits = c.length_of-length.type_inv }) ∙ c.length_of-length.ensures)
