-- The serial is the number there. Assumes nothing.
use mathlib.Core.Path.{ap}
use Prim.Native.Nat.{ℕ}
use Rattle.text_lines.specs.declared.Line.TheVariants.{Expand}
use borrow.Author.Rules.{rules}
use Rattle.record_reads.proofs.expand.Goals as goal

pub returns : goal.returns
returns c = ap (λ (n : ℕ). Expand c.args.unit (record { 0 = n })) c.serial_at-serial.ensures
