-- As many members as the count says. Assumes nothing.
use mathlib.Core.Path.{◌∙◌, sym, ap}
use Prim.Native.Nat.{◌+◌}
use lib.ListN.{length-map}
use Rattle.text_lines.specs.declared.Line.TheVariants.{Blossom}
use Rattle.record_spec.specs.Places.{at}
use Rattle.record_spec.specs.Operations.{serial_of}
use Rattle.record_measures.specs.Measures.{members_at}
use Rattle.record_measures.proofs.Members.{members_many}
use borrow.Author.Rules.{rules}
use Rattle.record_reads.proofs.blossom.Goals as goal

pub returns : goal.returns
returns c =
    let a = c.args in
    let n = at 2 a.s.now a.q in
    let ms = members_at n a.s.now (a.q + 2) in
    ap (Blossom a.unit) (c.two_at-count.ensures.0 ∙ sym (length-map ms serial_of ∙ members_many n a.s.now (a.q + 2)))
