-- The field's bytes are read as a signed number; what comes after it follows from the place. Assumes nothing.
use Rattle.std.specs.Prelude.{None, Some}
use native.Mathlib.Omega.{arith}
use mathlib.Core.Path.{◌≡◌, sym, ◌∙◌, ap}
use mir.Syntax.{w64}
use mir.Val.{SFits}
use mir.Facts.{to_z-of_z}
use Rattle.text_decimals.specs.Read.{integer_of}
use Rattle.ledger_spec.specs.Grammar.{an_amount}
use Rattle.text_fields.proofs.Steps.{inside_at, took, missed, ran_out}
use borrow.Author.Rules.{rules}
use Rattle.text_fields.proofs.next_length.Goals as goal

pub slice_bounds-integer_in-count : goal.slice_bounds-integer_in-count
slice_bounds-integer_in-count c =
    let q : c.next_field.result ≡ Some (c.in_ok-a.a, c.in_ok-a.e) = search rules in
    (inside_at c.args.s.now c.args.place c.next_field.result c.next_field.ensures _ _ q).1

pub returns-in_err-a : goal.returns-in_err-a
returns-in_err-a c =
    let q : c.next_field.result ≡ None = search rules in
    let w : c.from_residual.result ≡ None = search rules in
    rw w (ran_out c.args.s.now c.args.place c.next_field.result c.next_field.ensures an_amount q)

pub returns-in_err-z : goal.returns-in_err-z
returns-in_err-z c =
    let q : c.next_field.result ≡ Some (c.in_ok-a.a, c.in_ok-a.e) = search rules in
    let v : c.integer_in.result ≡ None = search rules in
    let w : c.from_residual-in_err-z.result ≡ None = search rules in
    rw w (missed c.args.s.now c.args.place c.next_field.result c.next_field.ensures an_amount _ _ q (sym c.integer_in.ensures ∙ ap integer_of v))

pub returns : goal.returns
returns c =
    let q : c.next_field.result ≡ Some (c.in_ok-a.a, c.in_ok-a.e) = search rules in
    let v : c.integer_in.result ≡ Some c.in_ok-z.z = search rules in
    let ok : SFits w64 c.in_ok-z.z = search rules in
    rw (to_z-of_z {w = w64} ok) (took c.args.s.now c.args.place c.next_field.result c.next_field.ensures an_amount _ _ c.in_ok-z.z q (sym c.integer_in.ensures ∙ ap integer_of v))
