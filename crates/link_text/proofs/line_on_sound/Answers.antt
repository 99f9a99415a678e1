-- What was read is done. Assumes nothing.
use mathlib.Core.Path.{sym}
use borrow.Author.Rules.{rules}
use Rattle.ledger_spec.specs.Grammar.{line_of}
use Rattle.link_text.proofs.line_on_sound.Goals as goal

pub returns : goal.returns
returns c =
    c.turn.ensures (line_of c.args.line.now) _ (sym c.read_line-said.auto.serials) c.read_line-said.ensures
