-- `empty_group` makes the empty group out of a handle that is nobody's. Assumes nothing.
use Rattle.std.specs.Prelude.{None}
use mathlib.Core.Path.{ap}
use mathlib.Core.Bool.{false}
use lib.ListN.{replicate}
use Rattle.kinds.specs.declared.Handle.{Handle}
use Rattle.kinds.specs.declared.Obstacle.TheVariants.{BlossomNeedExpand, VertexShrinkStop}
use Rattle.ledger_spec.specs.Groups.{largest}
use Rattle.groups.specs.declared.Kind.TheVariants.{Growth}
use Rattle.groups.specs.declared.Group.{Group as Code}
use Rattle.groups.proofs.empty_group.Goals as goal

abbrev empty_by : Handle → Code
empty_by h = record {
  kind = Growth largest false;
  list = replicate 128 (record { obstacle = BlossomNeedExpand h });
  stops = replicate 128 (record { vertex = record { 0 = 0 }; obstacle = VertexShrinkStop h None });
  listed = 0;
  stopped = 0;
}

pub returns : goal.returns
returns c = ap empty_by c.nobody-h.ensures
