-- One chunk, and the input's end. Assumes nothing.
use Rattle.text_sessions.proofs.Inputs.{all_done}
use borrow.Author.Rules.{rules}
use Rattle.text_sessions.proofs.answer_all.Goals as goal

pub returns : goal.returns
returns c =
    let a = c.args in
    let t = c.answer_opening-t in
    let f = c.finish in
    all_done a.input.now a.buf.now a.out.now t.new.b t.new.buf t.new.out t.result.held t.result.wrote t.ensures f.new.out f.result f.ensures
