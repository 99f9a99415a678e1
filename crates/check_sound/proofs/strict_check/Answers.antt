-- The flag is up. Assumes nothing.
use mathlib.Core.Path.{◌∙◌}
use borrow.Author.Rules.{rules}
use Rattle.bench_views.specs.View.{view}
use Rattle.check_sound.proofs.Judging.{strict_is}
use Rattle.check_sound.proofs.strict_check.Goals as goal

pub returns : goal.returns
returns c = c.check.ensures ∙ strict_is (view c.args.b.now) c.args.unit
