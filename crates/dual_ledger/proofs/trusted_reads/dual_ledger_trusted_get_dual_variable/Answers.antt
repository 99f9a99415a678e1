-- The read below answers; its number and its values as words are handed on. Assumes nothing.
use borrow.Author.Rules.{rules}
use mathlib.Core.Path.{ap, ◌∙◌}
use Rattle.bench_views.proofs.Fits.{fit_of}
use Rattle.bench_views.specs.View.{view}
use Rattle.ledger_spec.specs.Reads.{value_of}
use Rattle.dual_ledger.proofs.Handing.{weighed}
use Rattle.dual_ledger.proofs.trusted_reads.dual_ledger_trusted_get_dual_variable.Goals as goal

pub get_dual_variable-a-requires : goal.get_dual_variable-a-requires
get_dual_variable-a-requires c = fit_of _ c.requires

pub returns : goal.returns
returns c = weighed c.get_dual_variable-a.result (search (rules, c.struct_told-1.given)) (c.get_dual_variable-a.ensures ∙ ap (value_of (view c.args.bench.now)) c.hand-h.ensures) c.signed_word.ensures
