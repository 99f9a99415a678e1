-- The read below answers; its number and its values as words are handed on. Assumes nothing.
use borrow.Author.Rules.{rules}
use Rattle.bench_views.proofs.Fits.{fit_of}
use Rattle.dual_ledger.proofs.Handing.{weighed}
use Rattle.dual_ledger.proofs.trusted_reads.dual_ledger_trusted_sum_dual_variables.Goals as goal

pub sum_dual_variables-a-requires : goal.sum_dual_variables-a-requires
sum_dual_variables-a-requires c = fit_of _ c.requires

pub returns : goal.returns
returns c = weighed c.sum_dual_variables-a.result (search (rules, c.struct_told-1.given)) c.sum_dual_variables-a.ensures c.signed_word.ensures
