-- Three bytes. Assumes nothing.
use Rattle.text_lines.specs.declared.Line.TheVariants.{Fuse}
use mathlib.Core.Path.{sym}
use Prim.Native.Nat.{◌+◌}
use Rattle.record_reads.proofs.Reading.{one_byte}
use borrow.Author.Rules.{rules}
use Rattle.record_reads.proofs.fuse.Goals as goal

pub returns : goal.returns
returns c =
    let a = c.args in
    λ i. Fuse a.parent (sym (one_byte a.s.now a.q) i) (sym (one_byte a.s.now (a.q + 1)) i)
