-- The read below answers; its number and its values as words are handed on. Assumes nothing.
use borrow.Author.Rules.{rules}
use mathlib.Core.Path.{ap, ◌∙◌}
use Rattle.bench_views.specs.View.{view}
use Rattle.ledger_spec.specs.Bench.{Handle}
use Rattle.sound_lent.specs.Verdict.{read_words}
use Rattle.ledger_spec.specs.Answers.{first_read}
use Rattle.dual_ledger.proofs.open_reads.dual_ledger_get_representative_vertex.Goals as goal

pub returns : goal.returns
returns c = c.get_representative_vertex-a.ensures ∙ ap (λ (h : Handle). read_words c.args.bench.now (first_read (view c.args.bench.now) h)) c.hand-h.ensures
