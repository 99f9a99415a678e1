-- At each return the tests that led there say which number it is. Assumes nothing.
use mathlib.Core.Path.{sym}
use native.Mathlib.Omega.{arith}
use Rattle.recorded_groups.proofs.Positions.{flag_bad, says_nothing, stuck_at_none, stuck_below, goes}
use Rattle.recorded_groups.proofs.growth_number.Goals as goal

pub returns-then-flag-gt1 : goal.returns-then-flag-gt1
returns-then-flag-gt1 c = sym (flag_bad c.args.length c.args.flag c.if-flag-gt1.true)

pub returns-then-length-eq-LARGEST : goal.returns-then-length-eq-LARGEST
returns-then-length-eq-LARGEST c = sym (says_nothing c.args.length c.args.flag (omega arith) c.if-length-eq-LARGEST.true)

pub returns-then-length-eq0 : goal.returns-then-length-eq0
returns-then-length-eq0 c = sym (stuck_at_none c.args.length c.args.flag (omega arith) c.if-length-eq0.true)

pub returns-then-length-gt-LARGEST : goal.returns-then-length-gt-LARGEST
returns-then-length-gt-LARGEST c = sym (stuck_below c.args.length c.args.flag (omega arith) c.if-length-gt-LARGEST.true)

pub returns : goal.returns
returns c = sym (goes c.args.length c.args.flag (omega arith) (omega arith) (omega arith))
