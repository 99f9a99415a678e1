-- The trailer fits, or not; then the walk. Assumes nothing.
use native.Mathlib.Omega.{arith}
use Prim.Native.Nat.{◌≤◌}
use mathlib.Core.Path.{◌∙◌, sym}
use lib.ListN.{length}
use lib.Seq.{length-take-le}
use Rattle.record_files.proofs.Trailers.{trailed, no_file, file_there}
use Rattle.record_files.proofs.scan.Goals as goal

pub slice_bounds-walk-end : goal.slice_bounds-walk-end
slice_bounds-walk-end c =
    let s = c.args.s.now in
    let t = c.read_trailer-t in
    let x = trailed s t.result t.ensures c.if-t.true in
    let h : t.result.start ≤ length s = omega (arith, x.room) in
    sym (length-take-le _ _ h)

pub walk-requires : goal.walk-requires
walk-requires c =
    let s = c.args.s.now in
    let t = c.read_trailer-t in
    let x = trailed s t.result t.ensures c.if-t.true in
    (omega (arith, x.room), x.few)

pub returns-then-t : goal.returns-then-t
returns-then-t c =
    let s = c.args.s.now in
    let t = c.read_trailer-t in
    c.walk.ensures ∙ file_there s t.result t.ensures c.if-t.true

pub returns : goal.returns
returns c =
    let s = c.args.s.now in
    let t = c.read_trailer-t in
    c.not_file.ensures ∙ no_file s t.result t.ensures c.if-t.false
