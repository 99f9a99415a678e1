-- The slots passed do not hold the serial; those past the used ones are empty. Assumes nothing.
use Rattle.std.specs.Prelude.{None}
use Prim.Native.Nat.{ℕ, ◌<◌}
use mathlib.Core.Path.{◌≡◌}
use Rattle.ledger_spec.specs.Look.{node_named}
use Rattle.bench_views.specs.View.{view}
use Rattle.bench_serials.specs.Seek.{handle}
use Rattle.bench_serials.proofs.scan_unit.Given as goal

abbrev pub invariant-loop-s : goal.invariant-loop-s
invariant-loop-s l = (t : ℕ) → t < l.s → node_named (view l.b) (handle l.unit t l.serial.0) ≡ None
