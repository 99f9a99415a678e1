-- The first decides where it is gone, else the second does. Assumes nothing.
use mathlib.Core.Path.{◌∙◌}
use Rattle.group_calls.proofs.Turns.{one_has, first_has, rest_has}
use Rattle.group_calls.proofs.presence.either_gone.Goals as goal

pub returns-then-is_gone : goal.returns-then-is_gone
returns-then-is_gone c = first_has _ _ _ c.is_gone.ensures c.if-is_gone.true

pub returns-else-is_gone : goal.returns-else-is_gone
returns-else-is_gone c = rest_has _ _ _ c.is_gone.ensures c.if-is_gone.false (c.is_gone-else-is_gone.ensures ∙ one_has _ _)
