-- Three numbers, none of which may be 0; then the pair, the second where the first is the member. Assumes nothing.
use native.Mathlib.Omega.{arith}
use mathlib.Core.Path.{◌≡◌, ◌∙◌, sym, ap}
use mathlib.Core.Bool.{Bool, ◌&&◌, true, false}
use lib.Dec.{eqb}
use lib.ListN.{length}
use Prim.Native.Nat.{ℕ}
use borrow.Author.Tests.{eq-eqb, ne_eqb}
use Rattle.ledger_spec.specs.Decimals.{decimal}
use Rattle.record_measures.specs.Measures.{member_at}
use Rattle.record_measures.proofs.Members.{serials_of, weight_bad, weight_good, serial_zero, first_zero, second_zero, none_zero}
use borrow.Author.Rules.{rules}
use Rattle.record_measures.proofs.blossoms.weigh_member.Goals as goal
use Rattle.record_measures.proofs.blossoms.weigh_member.Goals.{then-serial-eq0-via-then-serial-eq0, then-serial-eq0-via-else-serial-eq0+then-first-eq0}
use Rattle.record_measures.proofs.blossoms.weigh_member.Goals.{then-serial-eq0-via-else-serial-eq0+else-first-eq0+then-second-eq0}

pub returns-then-serial-eq0 : goal.returns-then-serial-eq0
returns-then-serial-eq0 c =
    let m = member_at c.args.t.now c.args.q in
    let z : serials_of m ≡ false = elim c.then-serial-eq0.branch [
      | then-serial-eq0-via-then-serial-eq0 w ↦ serial_zero m (sym c.four_at-serial.ensures.0 ∙ w.if-serial-eq0.true)
      | then-serial-eq0-via-else-serial-eq0+then-first-eq0 w ↦ first_zero m (sym c.four_at-first.ensures.0 ∙ w.if-first-eq0.true)
      | then-serial-eq0-via-else-serial-eq0+else-first-eq0+then-second-eq0 w ↦ second_zero m (sym c.four_at-second.ensures.0 ∙ w.if-second-eq0.true)
    ] in
    (weight_bad m z, omega arith)

pub returns-then-first-serial : goal.returns-then-first-serial
returns-then-first-serial c =
    let m = member_at c.args.t.now c.args.q in
    let s = c.four_at-serial in
    let f = c.four_at-first in
    let z = c.four_at-second in
    let w = none_zero m (omega (arith, s.ensures.0, c.if-serial-eq0.false)) (omega (arith, f.ensures.0, c.if-first-eq0.false))
    (omega (arith, z.ensures.0, c.if-second-eq0.false)) in
    let e : eqb z.result s.result ≡ eqb f.result s.result && eqb z.result s.result =
    ap (λ (b : Bool). b && eqb z.result s.result) (sym (eq-eqb f.result s.result c.if-first-serial.true)) in
    let o = e ∙ (λ i. eqb (f.ensures.0 i) (s.ensures.0 i) && eqb (z.ensures.0 i) (s.ensures.0 i)) in
    (weight_good m _ _ w (omega (arith, c.digits.ensures.0, ap (λ (n : ℕ). length (decimal n)) s.ensures.0)) o, omega (arith, c.digits.ensures.1))

pub returns-else-first-serial : goal.returns-else-first-serial
returns-else-first-serial c =
    let m = member_at c.args.t.now c.args.q in
    let s = c.four_at-serial in
    let f = c.four_at-first in
    let z = c.four_at-second in
    let w = none_zero m (omega (arith, s.ensures.0, c.if-serial-eq0.false)) (omega (arith, f.ensures.0, c.if-first-eq0.false))
    (omega (arith, z.ensures.0, c.if-second-eq0.false)) in
    let n : eqb f.result s.result ≡ false = ne_eqb f.result s.result c.if-first-serial.false in
    let e : eqb f.result s.result ≡ eqb f.result s.result && eqb z.result s.result =
    n ∙ ap (λ (b : Bool). b && eqb z.result s.result) (sym n) in
    let o = e ∙ (λ i. eqb (f.ensures.0 i) (s.ensures.0 i) && eqb (z.ensures.0 i) (s.ensures.0 i)) in
    (weight_good m _ _ w (omega (arith, c.digits.ensures.0, ap (λ (n : ℕ). length (decimal n)) s.ensures.0)) o, omega (arith, c.digits.ensures.1))
