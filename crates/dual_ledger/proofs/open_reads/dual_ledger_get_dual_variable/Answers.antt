-- The read below answers; its number and its values as words are handed on. Assumes nothing.
use borrow.Author.Rules.{rules}
use mathlib.Core.Path.{ap, ◌∙◌}
use Rattle.bench_views.specs.View.{view}
use Rattle.ledger_spec.specs.Bench.{Handle}
use Rattle.dual_ledger.proofs.Handing.{weighed}
use Rattle.sound_lent.specs.Verdict.{read_words}
use Rattle.ledger_spec.specs.Answers.{value_read}
use Rattle.dual_ledger.proofs.open_reads.dual_ledger_get_dual_variable.Goals as goal

pub returns : goal.returns
returns c = weighed c.get_dual_variable-a.result (search (rules, c.struct_told-1.given)) (c.get_dual_variable-a.ensures ∙ ap (λ (h : Handle). read_words c.args.bench.now (value_read (view c.args.bench.now) h)) c.hand-h.ensures) c.signed_word.ensures
