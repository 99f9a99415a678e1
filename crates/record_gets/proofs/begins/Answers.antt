-- The first record, or a later one. Assumes nothing.
use native.Mathlib.Omega.{arith}
use mathlib.Core.Path.{ap, ◌∙◌}
use mathlib.Core.Bool.{not}
use borrow.Author.Tests.{ne_eqb}
use Rattle.record_gets.proofs.Finding.{begins_first, begins_later}
use Rattle.record_gets.proofs.begins.Goals as goal

pub returns-then-k-ne0 : goal.returns-then-k-ne0
returns-then-k-ne0 c = ap not (ne_eqb c.args.k 0 c.if-k-ne0.true) ∙ begins_later c.args.k c.args.from c.if-k-ne0.true

pub returns-else-k-ne0 : goal.returns-else-k-ne0
returns-else-k-ne0 c = begins_first c.args.k c.args.from (omega arith)
