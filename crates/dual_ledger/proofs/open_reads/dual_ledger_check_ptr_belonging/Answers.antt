-- The read below answers; its number and its values as words are handed on. Assumes nothing.
use borrow.Author.Rules.{rules}
use mathlib.Core.Path.{ap, ◌∙◌}
use Rattle.bench_views.specs.View.{view}
use Rattle.ledger_spec.specs.Bench.{Handle}
use Rattle.dual_ledger.proofs.Handing.{worded_by}
use Rattle.link_answers.specs.Forms.{flag_word}
use Rattle.sound_lent.specs.Verdict.{read_words}
use Rattle.ledger_spec.specs.Answers.{belongs_read}
use Rattle.dual_ledger.proofs.open_reads.dual_ledger_check_ptr_belonging.Goals as goal

pub returns : goal.returns
returns c = worded_by flag_word (c.check_ptr_belonging-a.ensures ∙ ap (λ (h : Handle). read_words c.args.bench.now (belongs_read (view c.args.bench.now) c.args.unit h)) c.hand-h.ensures) c.flag_word.ensures
