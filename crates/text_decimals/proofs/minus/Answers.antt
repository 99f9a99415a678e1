-- -1 - (n - 1) is -n, and fits where n is at most 2^63. Assumes nothing.
use Prim.Native.Nat.{◌-◌}
use native.Mathlib.Omega.{arith}
use mathlib.Core.Path.{◌∙◌, sym}
use mir.Syntax.{w64}
use mir.Facts.{to_z_pos, to_z-of_z}
use Rattle.text_decimals.proofs.Signs.{below, fits_below, negated}
use Rattle.text_decimals.proofs.minus.Goals as goal

pub overflow_sub-result-2 : goal.overflow_sub-result-2
overflow_sub-result-2 c = rw (to_z_pos w64 {n = c.args.n - 1} (omega arith), below) (fits_below _ (omega arith))

pub returns : goal.returns
returns c = rw (to_z_pos w64 {n = c.args.n - 1} (omega arith), below) (to_z-of_z {w = w64} (fits_below _ (omega arith)) ∙ sym (negated c.args.n (omega arith)))
