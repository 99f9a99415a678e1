-- The quotient, and one more where something is left. Assumes nothing.
use native.Mathlib.Omega.{arith}
use lib.ListN.{length}
use Rattle.recorded_groups.proofs.Counts.{counted, covers_once}
use borrow.Author.Rules.{rules}
use Rattle.recorded_groups.proofs.count.Goals as goal

pub returns-then-whole-ws : goal.returns-then-whole-ws
returns-then-whole-ws c = covers_once (length c.args.ws.now) _ _ (record { over = omega arith; close = omega arith }) (counted c.args.ws.now)

pub returns : goal.returns
returns c = covers_once (length c.args.ws.now) _ _ (record { over = omega arith; close = omega arith }) (counted c.args.ws.now)
