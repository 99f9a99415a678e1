-- What is counted and what is left make the whole (`Counting`); each serial lies further on, so the loop ends. Assumes nothing.
use Rattle.std.specs.Prelude.{None, Some}
use Prim.Native.Nat.{◌-◌}
use native.Mathlib.Omega.{arith}
use mathlib.Core.Path.{◌≡◌}
use lib.ListN.{length}
use borrow.Author.Rules.{rules}
use Rattle.text_lines.proofs.Follow.{got_further}
use Rattle.text_lines.proofs.Serials.{Counting, count_start, count_turn, count_bad, count_end}
use Rattle.text_lines.proofs.blossoms.count_serials.Goals as goal

pub loop-e-init : goal.loop-e-init
loop-e-init c = count_start c.args.s.now c.args.place

pub returns-in_err-z : goal.returns-in_err-z
returns-in_err-z c =
    let l = c.loop-e in
    let n = c.next_number in
    let q : n.result ≡ None = search rules in
    let w : c.from_residual.result ≡ None = search rules in
    rw w (count_bad c.args.s.now c.args.place l.e l.n l.invariant n.result n.ensures c.loop-e-test.true q)

pub overflow_add-n : goal.overflow_add-n
overflow_add-n c = omega arith

pub loop-e-smaller : goal.loop-e-smaller
loop-e-smaller c =
    let l = c.loop-e in
    let n = c.next_number in
    let q : n.result ≡ Some (c.in_ok-z.field-0-0, c.in_ok-z.z) = search rules in
    let i = got_further c.args.s.now l.e 1 4294967295 n.result n.ensures _ _ q in
    omega (arith, i.0, i.1)

pub loop-e-preserved : goal.loop-e-preserved
loop-e-preserved c =
    let l = c.loop-e in
    let n = c.next_number in
    let q : n.result ≡ Some (c.in_ok-z.field-0-0, c.in_ok-z.z) = search rules in
    count_turn c.args.s.now c.args.place l.e l.n l.invariant n.result n.ensures _ _ q

pub returns : goal.returns
returns c = count_end c.args.s.now c.args.place c.loop-e.e c.loop-e.n c.loop-e.invariant c.loop-e-test.false
