-- The first field is one byte, the letter; then a unit; then what the letter says. Assumes nothing.
use Rattle.std.specs.Prelude.{None, Some}
use native.Mathlib.Omega.{arith}
use mathlib.Core.Path.{◌≡◌, ◌∙◌}
use lib.ListN.{get_or}
use Rattle.ledger_spec.specs.Grammar.{rest, line_of}
use Rattle.text_fields.specs.Places.{from}
use Rattle.text_lines.proofs.Follow.{got, got_further, missed}
use Rattle.text_lines.proofs.Serials.{read_as, read_wrong}
use Rattle.text_lines.proofs.Whole.{line_long, line_bad, line_good}
use borrow.Author.Rules.{rules}
use Rattle.text_lines.proofs.read_line.Goals as goal

pub returns-then-s-gt-MOST : goal.returns-then-s-gt-MOST
returns-then-s-gt-MOST c = let a = c.args in read_wrong (line_of a.s.now) a.serials.now (line_long a.s.now c.if-s-gt-MOST.true)

pub returns-in_default : goal.returns-in_default
returns-in_default c =
    let a = c.args in
    let s = a.s.now in
    let n = c.next_number in
    let q : n.result ≡ None = cc in
    read_wrong (line_of s) a.serials.now (line_good s c.part_end.result c.if-s-gt-MOST.false c.part_end.ensures c.if-part_end-eq1.true ∙ missed s 1 0 255 n.result n.ensures (rest (get_or s 0 0)) q)

pub overflow_cast-unit : goal.overflow_cast-unit
overflow_cast-unit c =
    let n = c.next_number in
    let q : n.result ≡ Some (c.in-Some.n, c.in-Some.place) = cc in
    omega (arith, (got_further c.args.s.now 1 0 255 n.result n.ensures _ _ q).2)

pub returns-then-part_end-eq1 : goal.returns-then-part_end-eq1
returns-then-part_end-eq1 c =
    let a = c.args in
    let z = c.part_end in
    let s = a.s.now in
    let n = c.next_number in
    let q : n.result ≡ Some (c.in-Some.n, c.in-Some.place) = cc in
    read_as (rest (get_or s 0 0) c.in-Some.n (from s c.in-Some.place)) (line_of s) a.serials.now _ c.rest_of.result
    (line_good s z.result c.if-s-gt-MOST.false z.ensures c.if-part_end-eq1.true ∙ got s 1 0 255 n.result n.ensures _ _ q (rest (get_or s 0 0)))
    c.rest_of.ensures

pub returns : goal.returns
returns c = let a = c.args in read_wrong (line_of a.s.now) a.serials.now (line_bad a.s.now c.part_end.result c.if-s-gt-MOST.false c.part_end.ensures c.if-part_end-eq1.false)
