-- The numbers of the last 16 bytes fit, or not. Assumes nothing.
use native.Mathlib.Omega.{arith}
use Prim.Native.Nat.{◌+◌, ◌-◌}
use mathlib.Core.Path.{◌≡◌, ◌∙◌, sym}
use lib.ListN.{length}
use Rattle.record_files.proofs.Trailers.{too_short, unfit, fit}
use Rattle.record_files.proofs.read_trailer.Goals as goal

pub returns-then-size-lt16 : goal.returns-then-size-lt16
returns-then-size-lt16 c = c.no_trailer.ensures ∙ too_short c.args.s.now c.if-size-lt16.true

pub returns-then-is_fitting : goal.returns-then-is_fitting
returns-then-is_fitting c =
    let s = c.args.s.now in
    let n = length s - 16 in
    let long : length s ≡ n + 16 = omega (arith, c.if-size-lt16.false) in
    let y = c.four_at-before in
    let z = c.four_at-letters in
    fit s n long c.four_at-start.result c.four_at-count.result y.result z.result c.four_at-start.ensures.0 c.four_at-count.ensures.0 y.ensures.0 z.ensures.0 (sym c.is_fitting.ensures ∙ c.if-is_fitting.true)

pub returns : goal.returns
returns c =
    let s = c.args.s.now in
    let n = length s - 16 in
    let long : length s ≡ n + 16 = omega (arith, c.if-size-lt16.false) in
    let z = c.four_at-letters in
    c.no_trailer-2.ensures ∙ unfit s n long c.four_at-start.result c.four_at-count.result c.four_at-before.result z.result c.four_at-start.ensures.0 c.four_at-count.ensures.0 c.four_at-before.ensures.0 z.ensures.0 (sym c.is_fitting.ensures ∙ c.if-is_fitting.false)
