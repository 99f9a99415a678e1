-- A refusal tells nothing; else the length is told. Assumes nothing.
use borrow.Author.Rules.{rules}
use mathlib.Core.Path.{refl}
use Rattle.ledger_spec.specs.Notices.{tells}
use Rattle.call_told.proofs.Telling.{stops, goes, grow_told}
use Rattle.call_told.proofs.grow.Goals as goal

pub returns-then-made-ne0 : goal.returns-then-made-ne0
returns-then-made-ne0 c = grow_told c.ranges.length (stops c.grow-made.ensures.0 c.if-made-ne0.true c.refused.ensures)

pub returns : goal.returns
unfolding tells
returns c =
    let m = c.grow-made in
    grow_told c.ranges.length (goes m.ensures.0 c.if-made-ne0.false m.ensures.1 refl c.grown-notices.ensures)
