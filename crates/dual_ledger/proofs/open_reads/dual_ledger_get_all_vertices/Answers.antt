-- The read below answers; its number and its values as words are handed on. Assumes nothing.
use borrow.Author.Rules.{rules}
use mathlib.Core.Path.{ap, ◌∙◌}
use Rattle.bench_views.specs.View.{view}
use Rattle.ledger_spec.specs.Bench.{Handle}
use Rattle.sound_lent.specs.Verdict.{read_words}
use Rattle.ledger_spec.specs.Answers.{vertices_read}
use Rattle.dual_ledger.proofs.open_reads.dual_ledger_get_all_vertices.Goals as goal

pub returns : goal.returns
returns c = c.get_all_vertices-a.ensures ∙ ap (λ (h : Handle). read_words c.args.bench.now (vertices_read (view c.args.bench.now) h c.args.out.now)) c.hand-h.ensures
