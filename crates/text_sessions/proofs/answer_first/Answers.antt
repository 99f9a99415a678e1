-- It chooses, or it is a line as any other. Assumes nothing.
use Rattle.std.specs.Prelude.{Some}
use Rattle.text_sessions.proofs.Opening.{first_chosen, first_any}
use mathlib.Core.Path.{◌≡◌}
use borrow.Author.Rules.{rules}
use Rattle.text_sessions.proofs.answer_first.Goals as goal

pub returns-in-Some : goal.returns-in-Some
returns-in-Some c =
    let a = c.args in
    let k = c.engine_chosen in
    let q : k.result ≡ Some c.in-Some.plain = cc in
    first_chosen a.line.now k.result k.ensures c.in-Some.plain q c.set_up_in.new.b c.set_up_in.ensures a.out.now c.write_answer.new.out c.write_answer.result c.write_answer.ensures

pub returns-in-None : goal.returns-in-None
returns-in-None c =
    first_any c.args.line.now c.engine_chosen.result c.engine_chosen.ensures c.in-None.is c.args.b.now c.requires.0 c.answer_line.new.b c.args.out.now c.answer_line.new.out c.answer_line.result c.answer_line.ensures
