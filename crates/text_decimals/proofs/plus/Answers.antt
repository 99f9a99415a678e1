-- A number below 2^63 is itself as an i64. Assumes nothing.
use native.Mathlib.Omega.{arith}
use mir.Syntax.{w64}
use mir.Facts.{to_z_pos}
use Rattle.text_decimals.proofs.plus.Goals as goal

pub returns : goal.returns
returns c = to_z_pos w64 {n = c.args.n} (omega arith)
