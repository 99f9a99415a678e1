-- Nothing is left after the unit. Assumes nothing.
use Rattle.std.specs.Prelude.{Some}
use mathlib.Core.Path.{sym, ap}
use Rattle.ledger_spec.specs.Operations.{C}
use Rattle.text_lines.specs.Shown.{line_shown}
use Rattle.text_lines.proofs.Follow.{ended, goes_on}
use Rattle.text_lines.proofs.letters.clear.Goals as goal

pub returns-then-place-s : goal.returns-then-place-s
returns-then-place-s c = sym (ap line_shown (goes_on c.args.s.now c.args.place (Some (C c.args.unit)) c.if-place-s.true))

pub returns : goal.returns
returns c = sym (ap line_shown (ended c.args.s.now c.args.place (Some (C c.args.unit)) c.if-place-s.false))
