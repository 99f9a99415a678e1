-- `grown` tells one notice; a weight that fits comes back from its bits. Assumes nothing.
use mathlib.Core.Path.{ap, ◌∙◌}
use borrow.Author.Rules.{rules}
use lib.IntN.{ℤ}
use mir.Syntax.{w64}
use mir.Facts.{to_z-of_z}
use mir.Val.{SFits}
use Rattle.kinds.specs.declared.Notice.TheVariants.{Grown}
use Rattle.outcome_notices.specs.Laid.{circle_in, only, laid}
use Rattle.outcome_notices.proofs.grown.Goals as goal

pub returns : goal.returns
unfolding laid circle_in
returns c =
    let l = c.args.l in
    let fits : SFits w64 l = search rules in
    c.one.ensures ∙ ap (λ (z : ℤ). only (record { notice = Grown z })) (to_z-of_z {w = w64} fits)
