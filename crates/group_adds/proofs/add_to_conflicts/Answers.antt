-- `add_to_conflicts` goes by the obstacle: a growth has no effect, a stop goes to the stops, any other to the list. Assumes nothing.
use Rattle.std.specs.Prelude.{Option}
use mathlib.Core.Path.{◌≡◌, ap, ◌∙◌}
use native.Mathlib.Omega.{arith}
use borrow.Author.Rules.{rules}
use lib.ListN.{length, length-map}
use Rattle.kinds.specs.Obstacles.{listable, is_stop}
use Rattle.ledger_spec.specs.Groups.{Group}
use Rattle.groups.specs.View.{list_of, stops_of}
use Rattle.group_adds.specs.Adds.{changed}
use Rattle.group_adds.proofs.Bytes.{Fits}
use Rattle.group_adds.proofs.Adding.{conflicts_grow, conflicts_list, conflicts_stop}
use Rattle.group_adds.proofs.add_to_conflicts.Goals as goal

pub add_stop-requires : goal.add_stop-requires
add_stop-requires c = c.requires

pub add_listed-requires : goal.add_listed-requires
add_listed-requires c = c.requires

pub add_listed-requires-in-TouchingVirtual : goal.add_listed-requires-in-TouchingVirtual
add_listed-requires-in-TouchingVirtual c = c.requires

pub add_listed-requires-in-BlossomNeedExpand : goal.add_listed-requires-in-BlossomNeedExpand
add_listed-requires-in-BlossomNeedExpand c = c.requires

pub returns-in-NonZeroGrow : goal.returns-in-NonZeroGrow
returns-in-NonZeroGrow c =
    conflicts_grow c.args.o c.args.first.0 c.args.g _ _ ((let l = (c.well_formed.0.1.1.1.0.1.0.1) in let w = (c.well_formed.0.1.1.1.1.0.1.0.1) in record { kind = c.requires.0; few = c.requires.1.0; short = c.requires.1.1; list = omega (arith, l); stops = omega (arith, w) })) c.in-NonZeroGrow.is

pub returns-in-VertexShrinkStop : goal.returns-in-VertexShrinkStop
returns-in-VertexShrinkStop c =
    c.add_stop.ensures ∙ ap (λ (q : Option Group). changed q c.args.g) (conflicts_stop c.args.o c.args.first.0 (list_of c.args.g) (stops_of c.args.g) (ap is_stop c.in-VertexShrinkStop.is))

pub returns-in-Conflicting : goal.returns-in-Conflicting
returns-in-Conflicting c =
    c.add_listed.ensures ∙ ap (λ (q : Option Group). changed q c.args.g) (conflicts_list c.args.o c.args.first.0 (list_of c.args.g) (stops_of c.args.g) (ap listable c.in-Conflicting.is))

pub returns-in-TouchingVirtual : goal.returns-in-TouchingVirtual
returns-in-TouchingVirtual c =
    c.add_listed-in-TouchingVirtual.ensures ∙ ap (λ (q : Option Group). changed q c.args.g) (conflicts_list c.args.o c.args.first.0 (list_of c.args.g) (stops_of c.args.g) (ap listable c.in-TouchingVirtual.is))

pub returns-in-BlossomNeedExpand : goal.returns-in-BlossomNeedExpand
returns-in-BlossomNeedExpand c =
    c.add_listed-in-BlossomNeedExpand.ensures ∙ ap (λ (q : Option Group). changed q c.args.g) (conflicts_list c.args.o c.args.first.0 (list_of c.args.g) (stops_of c.args.g) (ap listable c.in-BlossomNeedExpand.is))
