-- `add` goes by the group's kind. Assumes nothing.
use mathlib.Core.Path.{ap, ◌∙◌}
use borrow.Author.Rules.{rules}
use lib.IntN.{ℤ}
use mir.Syntax.{w64}
use mir.Val.{SFits}
use mir.Facts.{to_z-of_z}
use Rattle.ledger_spec.specs.Groups.{add_to_growth}
use Rattle.group_adds.specs.Adds.{changed}
use Rattle.groups.proofs.View.{sound_counts}
use Rattle.group_adds.proofs.Adding.{add_growth, add_conflicts}
use Rattle.group_adds.proofs.add.Goals as goal

pub add_to_conflicts-requires : goal.add_to_conflicts-requires
add_to_conflicts-requires c = (c.in-Conflicts.is, sound_counts c.args.g c.in-Conflicts.is c.requires)

pub returns-in-Growth : goal.returns-in-Growth
returns-in-Growth c =
    let l = c.in-Growth.length in
    let f = c.in-Growth.flag in
    let fits : SFits w64 c.in-Growth.length = search rules in
    add_growth c.args.g c.args.o c.args.first.0 c.add_to_growth.result l f c.in-Growth.is
    (c.add_to_growth.ensures ∙ ap (λ (z : ℤ). changed (add_to_growth z f c.args.o c.args.first.0) c.args.g) (to_z-of_z {w = w64} fits))

pub returns-in-Conflicts : goal.returns-in-Conflicts
returns-in-Conflicts c =
    add_conflicts c.args.g c.args.o c.args.first.0 c.add_to_conflicts.result c.in-Conflicts.is c.add_to_conflicts.ensures
