-- Serial and state are the numbers there. Assumes nothing.
use mathlib.Core.Path.{◌∙◌, ap}
use Rattle.text_lines.specs.declared.Line.TheVariants.{SetState}
use Rattle.record_reads.specs.Reads.{state_of}
use borrow.Author.Rules.{rules}
use Rattle.record_reads.proofs.set_state.Goals as goal

pub returns : goal.returns
returns c =
    let a = c.args in
    λ i. SetState a.unit (record { 0 = c.serial_at-serial.ensures i }) ((c.state_of-state.ensures ∙ ap state_of c.byte_at.ensures.0) i)
