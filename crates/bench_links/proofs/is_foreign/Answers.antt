-- The top is what the climb finds. Assumes nothing.
use Prim.Native.Nat.{ℕ}
use mathlib.Core.Path.{ap}
use mathlib.Core.Bool.{not}
use lib.Dec.{eqb}
use Rattle.bench_links.proofs.is_foreign.Goals as goal

pub returns : goal.returns
returns c = ap (λ (t : ℕ). not (eqb t c.args.unit)) c.top_of.ensures.0
