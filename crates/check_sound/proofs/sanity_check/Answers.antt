-- The flag is down. Assumes nothing.
use mathlib.Core.Path.{◌∙◌}
use borrow.Author.Rules.{rules}
use Rattle.bench_views.specs.View.{view}
use Rattle.check_sound.proofs.Judging.{plain_is}
use Rattle.check_sound.proofs.sanity_check.Goals as goal

pub returns : goal.returns
returns c = c.check.ensures ∙ plain_is (view c.args.b.now) c.args.unit
