-- The node that is loaded, as a handle. Assumes nothing.
use Rattle.std.specs.Prelude.{Some}
use Prim.Native.Nat.{◌+◌}
use mathlib.Core.Path.{ap}
use Rattle.bench_words.specs.declared.Node.{Node}
use Rattle.read_present.proofs.reached.Goals as goal

pub returns : goal.returns
returns c =
    let a = c.args in
    ap (λ (n : Node). (0, (a.passed + a.s, Some (record { unit = a.u; slot = a.s; serial = n.serial.0 })))) c.load_node-n.ensures
