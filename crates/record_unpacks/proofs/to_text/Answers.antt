-- Scanned, and then filled. Assumes nothing.
use Prim.Native.Nat.{◌≤◌}
use native.Mathlib.Omega.{arith}
use mathlib.Core.Path.{sym}
use lib.ListN.{length}
use lib.Seq.{length-take-le}
use borrow.Author.Tests.{not-true, not-false}
use Rattle.record_files.proofs.Slices.{bytes_all}
use borrow.Author.Rules.{rules}
use Rattle.record_unpacks.proofs.Holding.{holds, no_file, not_own, too_small, start_inside, ready, moved}
use Rattle.record_unpacks.proofs.to_text.Goals as goal

pub returns-then-not-w : goal.returns-then-not-w
returns-then-not-w c =
    let w = c.scan-w in
    no_file c.args.file.now w.result w.ensures c.args.out.now (not-true _ c.if-not-w.true)

pub returns-then-not-w-2 : goal.returns-then-not-w-2
returns-then-not-w-2 c =
    let s = c.args.file.now in
    not_own s c.scan-w.result (holds s c.scan-w.result c.scan-w.ensures (not-false _ c.if-not-w.false)) c.args.out.now (not-true _ c.if-not-w-2.true)

pub returns-then-out-size : goal.returns-then-out-size
returns-then-out-size c =
    let s = c.args.file.now in
    too_small s c.scan-w.result (holds s c.scan-w.result c.scan-w.ensures (not-false _ c.if-not-w.false)) (not-false _ c.if-not-w-2.false) c.args.out.now c.if-out-size.true

pub slice_bounds-fill-end : goal.slice_bounds-fill-end
slice_bounds-fill-end c =
    let s = c.args.file.now in
    let m = holds s c.scan-w.result c.scan-w.ensures (not-false _ c.if-not-w.false) in
    let b = bytes_all s c.type_inv.file in
    let h : c.scan-w.result.start ≤ length s = omega (arith, start_inside s c.scan-w.result m (not-false _ c.if-not-w-2.false) b) in
    sym (length-take-le _ _ h)

pub fill-requires : goal.fill-requires
fill-requires c =
    let s = c.args.file.now in
    let m = holds s c.scan-w.result c.scan-w.ensures (not-false _ c.if-not-w.false) in
    let b = bytes_all s c.type_inv.file in
    let o = not-false _ c.if-not-w-2.false in
    (start_inside s c.scan-w.result m o b, ready s c.scan-w.result m o b c.args.out.now c.if-out-size.false)

pub returns : goal.returns
returns c =
    let s = c.args.file.now in
    let m = holds s c.scan-w.result c.scan-w.ensures (not-false _ c.if-not-w.false) in
    moved s c.scan-w.result m (not-false _ c.if-not-w-2.false) (bytes_all s c.type_inv.file) c.args.out.now _ c.if-out-size.false c.fill.ensures
