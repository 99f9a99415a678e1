-- `state` tells one notice. Assumes nothing.
use mathlib.Core.Path.{sym, ap, ◌∙◌}
use Rattle.kinds.specs.declared.GrowState.{GrowState}
use Rattle.kinds.specs.declared.Notice.TheVariants.{StateSet}
use Rattle.outcome_notices.specs.Laid.{circle_in, only, laid}
use Rattle.outcome_notices.proofs.Back.{state_back}
use Rattle.outcome_notices.proofs.state.Goals as goal

pub returns : goal.returns
unfolding laid circle_in
returns c = c.one.ensures ∙ ap (λ (s : GrowState). only (record { notice = StateSet c.args.h s })) (sym (state_back c.args.s))
