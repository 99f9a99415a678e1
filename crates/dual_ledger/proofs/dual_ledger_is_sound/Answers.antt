-- The sound test decides. Assumes nothing.
use borrow.Author.Rules.{rules}
use mathlib.Core.Path.{sym, ap, ◌∙◌}
use Rattle.link_answers.specs.Forms.{flag_word}
use Rattle.dual_ledger.proofs.dual_ledger_is_sound.Goals as goal

pub returns-then-is_bench : goal.returns-then-is_bench
returns-then-is_bench c = ap flag_word (sym c.if-is_bench.true ∙ c.is_bench.ensures.is)

pub returns : goal.returns
returns c = ap flag_word (sym c.if-is_bench.false ∙ c.is_bench.ensures.is)
