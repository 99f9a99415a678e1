-- The next start, or the list. Assumes nothing.
use native.Mathlib.Omega.{arith}
use Prim.Native.Nat.{◌+◌, ◌*◌, suc}
use mathlib.Core.Path.{◌≡◌, sym, ◌∙◌, ap}
use Rattle.record_spec.specs.Places.{at}
use Rattle.record_gets.proofs.Whole.{end_next, end_last}
use borrow.Author.Rules.{rules}
use Rattle.record_gets.proofs.end_of.Goals as goal

pub returns-then-k-count : goal.returns-then-k-count
returns-then-k-count c =
    let a = c.args in
    let e : a.list + 4 * (a.k + 1) ≡ a.list + 4 * suc a.k = omega arith in
    c.four_at.ensures.0 ∙ ap (at 4 a.s.now) e ∙ sym (end_next a.s.now a.list a.count a.k (omega (arith, c.if-k-count.true)))

pub returns : goal.returns
returns c = let a = c.args in sym (end_last a.s.now a.list a.count a.k (omega (arith, c.if-k-count.false)))
