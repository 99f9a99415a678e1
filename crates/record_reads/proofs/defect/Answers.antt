-- The vertex is the number there. Assumes nothing.
use mathlib.Core.Path.{ap}
use Prim.Native.Nat.{ℕ}
use Rattle.text_lines.specs.declared.Line.TheVariants.{Defect}
use borrow.Author.Rules.{rules}
use Rattle.record_reads.proofs.defect.Goals as goal

pub returns : goal.returns
returns c = ap (λ (n : ℕ). Defect c.args.unit (record { 0 = n })) c.four_at.ensures.0
