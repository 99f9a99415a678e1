-- The read below answers; its number and its values as words are handed on. Assumes nothing.
use borrow.Author.Rules.{rules}
use mathlib.Core.Path.{ap, ◌∙◌}
use Rattle.bench_views.proofs.Fits.{fit_of}
use Rattle.bench_views.specs.View.{view}
use Rattle.ledger_spec.specs.Reads.{belongs}
use Rattle.dual_ledger.proofs.Handing.{worded_by}
use Rattle.link_answers.specs.Forms.{flag_word}
use Rattle.dual_ledger.proofs.trusted_reads.dual_ledger_trusted_check_ptr_belonging.Goals as goal

pub check_ptr_belonging-a-requires : goal.check_ptr_belonging-a-requires
check_ptr_belonging-a-requires c = fit_of _ c.requires

pub returns : goal.returns
returns c = worded_by flag_word (c.check_ptr_belonging-a.ensures ∙ ap (belongs (view c.args.bench.now) c.args.unit) c.hand-h.ensures) c.flag_word.ensures
