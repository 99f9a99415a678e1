-- The read below answers; its number and its values as words are handed on. Assumes nothing.
use borrow.Author.Rules.{rules}
use mathlib.Core.Path.{ap, ◌∙◌}
use Rattle.bench_views.specs.View.{view}
use Rattle.ledger_spec.specs.Bench.{Handle}
use Rattle.dual_ledger.proofs.Handing.{outer_by}
use Rattle.sound_lent.specs.Verdict.{read_words}
use Rattle.ledger_spec.specs.Answers.{outer_read}
use Rattle.dual_ledger.proofs.open_reads.dual_ledger_get_ancestor_blossom.Goals as goal

pub returns : goal.returns
returns c = outer_by (c.get_ancestor_blossom-a.ensures ∙ ap (λ (h : Handle). read_words c.args.bench.now (outer_read (view c.args.bench.now) h)) c.hand-h.ensures) c.node_word.ensures
