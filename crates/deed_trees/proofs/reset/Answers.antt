-- The used slots are emptied, then the map and the interface. Assumes nothing.
use mathlib.Core.Path.{ap}
use native.Mathlib.Omega.{arith}
use Rattle.bench_words.specs.declared.Interface.{Interface}
use Rattle.deed_trees.proofs.Emptying.{reset_by}
use Rattle.deed_trees.proofs.reset.Goals as goal

pub empty_slots-requires : goal.empty_slots-requires
empty_slots-requires c =
    let p = c.requires in
    (p.0, omega (arith, p.1.slots c.args.unit p.0, ap (λ (x : Interface). x.used) c.load_interface-f.ensures), p.1, p.2)

pub returns : goal.returns
returns c =
    reset_by c.args.b.now c.args.unit c.load_interface-f.result c.requires.0 c.load_interface-f.ensures c.empty_slots.ensures c.store_map.ensures c.no_interface.ensures c.store_interface.ensures
