-- A minus is followed by a number from 1 to 2^63, anything else is a number below 2^63: so both fit. Assumes nothing.
use Rattle.std.specs.Prelude.{None, Some}
use native.Mathlib.Omega.{arith}
use mathlib.Core.Path.{◌≡◌, sym}
use Rattle.text_decimals.proofs.Fields.{integer_empty}
use Rattle.text_decimals.proofs.Integers.{number_range, minus_said, minus_none, plus_said, plus_none}
use borrow.Author.Rules.{rules}
use Rattle.text_decimals.proofs.integer_in.Goals as goal

pub returns-then-f-eq0 : goal.returns-then-f-eq0
returns-then-f-eq0 c = sym (integer_empty c.args.f.now c.if-f-eq0.true)

pub returns-in_err-n : goal.returns-in_err-n
returns-in_err-n c =
    let v = c.number_in in
    let q : v.result ≡ None = search rules in
    let w : c.from_residual.result ≡ None = search rules in
    rw w (minus_none c.args.f.now c.if-f-eq0.false v.result c.if-f-eq45.true v.ensures q)

pub minus-requires : goal.minus-requires
minus-requires c =
    let v = c.number_in in
    let q : v.result ≡ Some c.in_ok-n.n = search rules in
    number_range 1 9223372036854775808 _ v.result _ v.ensures q

pub returns-then-f-eq45 : goal.returns-then-f-eq45
returns-then-f-eq45 c =
    let v = c.number_in in
    let q : v.result ≡ Some c.in_ok-n.n = search rules in
    minus_said c.args.f.now c.if-f-eq0.false v.result c.if-f-eq45.true v.ensures _ q c.minus.result c.minus.ensures

pub returns-in_err-n-2 : goal.returns-in_err-n-2
returns-in_err-n-2 c =
    let v = c.number_in-2 in
    let q : v.result ≡ None = search rules in
    let w : c.from_residual-in_err-n-2.result ≡ None = search rules in
    rw w (plus_none c.args.f.now c.if-f-eq0.false v.result c.if-f-eq45.false v.ensures q)

pub plus-requires : goal.plus-requires
plus-requires c =
    let v = c.number_in-2 in
    let q : v.result ≡ Some c.in_ok-n-2.n = search rules in
    omega (arith, (number_range 0 9223372036854775807 _ v.result _ v.ensures q).1)

pub returns : goal.returns
returns c =
    let v = c.number_in-2 in
    let q : v.result ≡ Some c.in_ok-n-2.n = search rules in
    plus_said c.args.f.now c.if-f-eq0.false v.result c.if-f-eq45.false v.ensures _ q c.plus.result c.plus.ensures
