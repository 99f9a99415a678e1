-- The field's bytes are read as a number; what comes after it follows from the place. Assumes nothing.
use Rattle.std.specs.Prelude.{None, Some}
use native.Mathlib.Omega.{arith}
use mathlib.Core.Path.{◌≡◌}
use Rattle.text_fields.proofs.Steps.{inside_at, number_none, number_some, number_bad}
use borrow.Author.Rules.{rules}
use Rattle.text_fields.proofs.next_number.Goals as goal

pub slice_bounds-number_in-count : goal.slice_bounds-number_in-count
slice_bounds-number_in-count c =
    let q : c.next_field.result ≡ Some (c.in_ok-a.a, c.in_ok-a.e) = search rules in
    (inside_at c.args.s.now c.args.place c.next_field.result c.next_field.ensures _ _ q).1

pub returns-in_err-a : goal.returns-in_err-a
returns-in_err-a c =
    let q : c.next_field.result ≡ None = search rules in
    let w : c.from_residual.result ≡ None = search rules in
    rw w (number_none c.args.s.now c.args.place c.next_field.result c.next_field.ensures c.args.least c.args.most q)

pub returns-in_err-n : goal.returns-in_err-n
returns-in_err-n c =
    let q : c.next_field.result ≡ Some (c.in_ok-a.a, c.in_ok-a.e) = search rules in
    let v : c.number_in.result ≡ None = search rules in
    let w : c.from_residual-in_err-n.result ≡ None = search rules in
    rw w (number_bad c.args.s.now c.args.place c.next_field.result c.next_field.ensures c.args.least c.args.most _ _ q c.number_in.result c.number_in.ensures v)

pub returns : goal.returns
returns c =
    let q : c.next_field.result ≡ Some (c.in_ok-a.a, c.in_ok-a.e) = search rules in
    let v : c.number_in.result ≡ Some c.in_ok-n.n = search rules in
    number_some c.args.s.now c.args.place c.next_field.result c.next_field.ensures c.args.least c.args.most _ _ q c.number_in.result c.number_in.ensures _ v
