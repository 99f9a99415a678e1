-- `add_to_growth` goes by the obstacle: two growths make one, any other stands alone. Assumes nothing.
use mathlib.Core.Path.{ap, ap₂, ◌∙◌}
use borrow.Author.Rules.{rules}
use mir.Syntax.{w64}
use mir.Val.{SFits}
use mir.Facts.{to_z-of_z}
use Rattle.kinds.specs.Obstacles.{listable, is_stop}
use Rattle.ledger_spec.specs.Groups.{smaller}
use Rattle.group_adds.proofs.Adding.{growth_grow, growth_list, growth_stop}
use Rattle.group_adds.proofs.add_to_growth.Goals as goal

pub returns-in-NonZeroGrow : goal.returns-in-NonZeroGrow
returns-in-NonZeroGrow c =
    let fa : SFits w64 c.args.length = search rules in
    let fb : SFits w64 c.in-NonZeroGrow.other = search rules in
    let fr : SFits w64 c.smaller_of-least.result = search rules in
    growth_grow c.args.length c.args.flag c.args.o c.args.first.0 c.args.g c.grown-group.result c.in-NonZeroGrow.other c.in-NonZeroGrow.on _ _ c.in-NonZeroGrow.is (to_z-of_z {w = w64} fr ∙ c.smaller_of-least.ensures ∙ ap₂ smaller (to_z-of_z {w = w64} fa) (to_z-of_z {w = w64} fb)) c.either-joined.ensures c.grown-group.ensures

pub returns-in-VertexShrinkStop : goal.returns-in-VertexShrinkStop
returns-in-VertexShrinkStop c =
    growth_stop c.args.length c.args.flag c.args.o c.args.first.0 c.args.g c.one_stop-group.result (ap is_stop c.in-VertexShrinkStop.is) c.one_stop-group.ensures

pub returns-in-Conflicting : goal.returns-in-Conflicting
returns-in-Conflicting c =
    growth_list c.args.length c.args.flag c.args.o c.args.first.0 c.args.g c.one_listed-group.result (ap listable c.in-Conflicting.is) c.one_listed-group.ensures

pub returns-in-TouchingVirtual : goal.returns-in-TouchingVirtual
returns-in-TouchingVirtual c =
    growth_list c.args.length c.args.flag c.args.o c.args.first.0 c.args.g c.one_listed-group-in-TouchingVirtual.result (ap listable c.in-TouchingVirtual.is) c.one_listed-group-in-TouchingVirtual.ensures

pub returns-in-BlossomNeedExpand : goal.returns-in-BlossomNeedExpand
returns-in-BlossomNeedExpand c =
    growth_list c.args.length c.args.flag c.args.o c.args.first.0 c.args.g c.one_listed-group-in-BlossomNeedExpand.result (ap listable c.in-BlossomNeedExpand.is) c.one_listed-group-in-BlossomNeedExpand.ensures
