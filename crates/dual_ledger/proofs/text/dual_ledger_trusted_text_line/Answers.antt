-- The line below answers; its numbers as words are handed on. Assumes nothing.
use borrow.Author.Rules.{rules}
use mir.Syntax.{w64}
use mir.Val.{SFits}
use Rattle.dual_ledger.proofs.Texting.{line_by}
use Rattle.dual_ledger.proofs.text.dual_ledger_trusted_text_line.Goals as goal

pub returns : goal.returns
returns c =
    let a = c.args in
    let r = c.line_on_sound-said.result in
    let t = c.struct_told-2-1.given in
    let f : SFits w64 r.speed = record { sfits = t.1.1.0.1 } in
    let g : SFits w64 r.sum = record { sfits = t.1.1.1.0.1 } in
    line_by a.bench.now a.line.now r _ f g c.signed_word.ensures c.signed_word-2.ensures c.line_on_sound-said.ensures
