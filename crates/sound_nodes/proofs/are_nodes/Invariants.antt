-- Those before u pass, and the first that does not ends it. Assumes nothing.
use mathlib.Core.Path.{◌≡◌}
use mathlib.Core.Bool.{true}
use Rattle.sound_trees.specs.Below.{all_to}
use Rattle.sound_nodes.specs.Nodes.{slots_test}
use Rattle.sound_nodes.proofs.are_nodes.Given as goal

abbrev pub invariant-loop-u : goal.invariant-loop-u
invariant-loop-u l = all_to (slots_test l.b) l.u ≡ true
