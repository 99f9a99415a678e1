-- The call below answers; its number, its count, the words and the slice are handed on. Assumes nothing.
use mir.Facts.{to_z-of_z}
use borrow.Author.Rules.{rules}
use mir.Syntax.{w64}
use Rattle.dual_ledger.proofs.recorded.dual_ledger_trusted_grow_recorded.Goals as goal

pub returns : goal.returns
returns c =
    rw (to_z-of_z {w = w64} c.ranges.length) at c.grow_recorded-a.ensures
