-- The word that stands for a sound speed is near 1024. Asspeedes nothing.
use mathlib.Core.Path.{◌∙◌}
use mir.Facts.{to_z-of_z}
use native.Mathlib.Omega.{arith}
use Rattle.bench_links.proofs.Weighing.{speed_seen, speed_small}
use mir.Syntax.{w64}
use Rattle.bench_links.proofs.speed.Goals as goal

pub lowered-requires : goal.lowered-requires
lowered-requires c = (speed_small c.args.b.now c.requires.fit c.args.unit c.requires.unit_bound c.requires.unit_value c.load_interface-f.result c.load_interface-f.ensures, omega arith)

pub returns : goal.returns
returns c = to_z-of_z {w = w64} (record { sfits = c.lowered.type_inv }) ∙ c.lowered.ensures ∙ speed_seen c.args.b.now c.requires.fit c.args.unit c.requires.unit_bound c.requires.unit_value c.load_interface-f.result c.load_interface-f.ensures
