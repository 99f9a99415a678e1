-- Weighed, filled, closed with the trailer. Assumes nothing.
use native.Mathlib.Omega.{arith}
use borrow.Author.Tests.{not-true, not-false}
use Rattle.record_packs.proofs.Moving.{moves, moves_not, sizes, ready, too_small, moved}
use borrow.Author.Rules.{rules}
use Rattle.record_packs.proofs.to_records.Goals as goal

pub returns-then-not-w : goal.returns-then-not-w
returns-then-not-w c =
    let w = c.weigh-w in
    moves_not c.args.text.now w.result w.ensures c.args.out.now (not-true _ c.if-not-w.true)

pub overflow_mul-end : goal.overflow_mul-end
overflow_mul-end c =
    let t = c.args.text.now in
    let out = c.args.out.now in
    let w = c.weigh-w in
    let m = moves t w.result w.ensures (not-false _ c.if-not-w.false) in
    omega (arith, sizes t w.result m)

pub overflow_add-end : goal.overflow_add-end
overflow_add-end c =
    let t = c.args.text.now in
    let out = c.args.out.now in
    let w = c.weigh-w in
    let m = moves t w.result w.ensures (not-false _ c.if-not-w.false) in
    omega (arith, sizes t w.result m)

pub overflow_add-size : goal.overflow_add-size
overflow_add-size c =
    let t = c.args.text.now in
    let out = c.args.out.now in
    let w = c.weigh-w in
    let m = moves t w.result w.ensures (not-false _ c.if-not-w.false) in
    omega (arith, sizes t w.result m)

pub returns-then-out-size : goal.returns-then-out-size
returns-then-out-size c =
    let t = c.args.text.now in
    let out = c.args.out.now in
    let w = c.weigh-w in
    let m = moves t w.result w.ensures (not-false _ c.if-not-w.false) in
    too_small t w.result m out c.if-out-size.true

pub fill-requires : goal.fill-requires
fill-requires c =
    let t = c.args.text.now in
    let out = c.args.out.now in
    let m = moves t c.weigh-w.result c.weigh-w.ensures (not-false _ c.if-not-w.false) in
    ready t c.weigh-w.result m out (omega (arith, c.if-out-size.false))

pub put_trailer-requires : goal.put_trailer-requires
put_trailer-requires c =
    let t = c.args.text.now in
    let out = c.args.out.now in
    let m = moves t c.weigh-w.result c.weigh-w.ensures (not-false _ c.if-not-w.false) in
    (omega (arith, c.if-out-size.false, c.fill.auto.out), (omega (arith, sizes t c.weigh-w.result m), omega (arith, sizes t c.weigh-w.result m)))

pub returns : goal.returns
returns c =
    let t = c.args.text.now in
    let out = c.args.out.now in
    let m = moves t c.weigh-w.result c.weigh-w.ensures (not-false _ c.if-not-w.false) in
    moved t c.weigh-w.result m out _ _ c.put_trailer.result (omega (arith, c.if-out-size.false)) c.fill.ensures c.put_trailer.ensures
