-- What was read is done, and what was done is written. Assumes nothing.
use Prim.Native.Nat.{◌<◌}
use mathlib.Core.Path.{sym}
use borrow.Author.Rules.{rules}
use mir.Syntax.{w64}
use mir.Val.{SFits}
use mir.Facts.{to_z-of_z}
use Rattle.ledger_spec.specs.Grammar.{line_of}
use Rattle.text_sessions.proofs.Session.{line_done}
use Rattle.text_sessions.proofs.answer_line.Goals as goal

pub returns : goal.returns
returns c =
    let r = c.turn-r.result in
    let v : SFits w64 r.speed = search rules in
    let w : SFits w64 r.sum = search rules in
    let n : r.number < 256 = search rules in
    let k : r.serial < 4294967296 = search rules in
    line_done c.args.b.now c.args.line.now r c.turn-r.new.b
    (c.turn-r.ensures (line_of c.args.line.now) c.args.serials.now (sym c.read_line-said.auto.serials) c.read_line-said.ensures)
    n k v w
    c.args.out.now c.args.at c.write_answer.new.out c.write_answer.result
    (rw (to_z-of_z {w = w64} v, to_z-of_z {w = w64} w) at c.write_answer.ensures)
