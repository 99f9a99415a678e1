-- A blossom by its members, any other record as its line. Assumes nothing.
use native.Mathlib.Omega.{arith}
use Rattle.record_files.proofs.Slices.{bytes_from}
use Rattle.record_reads.proofs.Reading.{two}
use Rattle.record_calls.proofs.Doing.{done_line}
use borrow.Author.Rules.{rules}
use Rattle.record_calls.proofs.perform.Goals as goal

pub bounds-s-p : goal.bounds-s-p
bounds-s-p c = let a = c.args in omega (arith, two a.s.now a.p c.requires.1.0)

pub returns : goal.returns
returns c =
    let a = c.args in
    done_line a.b.now a.s.now a.p c.requires.1.0 (bytes_from a.s.now a.p c.type_inv.s) c.if-s-p-eq66.false c.line_at-line.result c.line_at-line.ensures a.members.now
    c.turn.result _ c.turn.ensures
