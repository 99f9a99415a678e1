-- The words move as std's `copy_within` says. Assumes nothing.
use Rattle.std.proofs.Common.{◌∙◌, arith}
use Rattle.group_lent.proofs.Slides.{slid_copied}
use Rattle.group_lent.proofs.slide.Goals as goal

pub returns : goal.returns
returns c = c.copy_within.ensures.after ∙ slid_copied c.args.w.now c.args.at c.args.k (omega arith)
