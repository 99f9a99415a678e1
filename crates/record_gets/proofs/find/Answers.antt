-- The trailer fits, or not; then the list. Assumes nothing.
use native.Mathlib.Omega.{arith}
use borrow.Author.Rules.{rules}
use borrow.Author.Tests.{not-true, not-false}
use Rattle.record_gets.proofs.Finding.{unfit, list_room, no_such, found}
use Rattle.record_gets.proofs.find.Goals as goal

pub returns-then-not-t : goal.returns-then-not-t
returns-then-not-t c =
    let a = c.args in
    let t = c.read_trailer-t in
    unfit a.s.now a.k t.result t.ensures (not-true _ c.if-not-t.true)

pub returns-then-t-k : goal.returns-then-t-k
returns-then-t-k c =
    let a = c.args in
    let t = c.read_trailer-t in
    no_such a.s.now a.k t.result t.ensures (not-false _ c.if-not-t.false) c.if-t-k.true

pub stand-requires : goal.stand-requires
stand-requires c =
    let a = c.args in
    let t = c.read_trailer-t in
    (list_room a.s.now a.k t.result t.ensures (not-false _ c.if-not-t.false), omega (arith, c.if-t-k.false))

pub returns : goal.returns
returns c =
    let a = c.args in
    let t = c.read_trailer-t in
    found a.s.now a.k t.result t.ensures (not-false _ c.if-not-t.false) c.stand.result c.stand.ensures
