-- The length is the one of the number there. Assumes nothing.
use mathlib.Core.Path.{◌∙◌, ap}
use mir.Facts.{to_z-of_z}
use Rattle.text_lines.specs.declared.Line.TheVariants.{Grow}
use Rattle.record_spec.specs.Numbers.{length_in}
use Rattle.record_reads.proofs.Reading.{same_length}
use borrow.Author.Rules.{rules}
use mir.Syntax.{w64}
use Rattle.record_reads.proofs.grow.Goals as goal

pub returns : goal.returns
returns c =
    let a = c.args in
    ap (Grow a.unit) (to_z-of_z {w = w64} (record { sfits = c.length_of-length.type_inv }) ∙ c.length_of-length.ensures ∙ same_length c.eight_at.result ∙ ap length_in c.eight_at.ensures.0)
