-- The read below answers; its number and its values as words are handed on. Assumes nothing.
use borrow.Author.Rules.{rules}
use Rattle.bench_views.proofs.Fits.{fit_of}
use Rattle.dual_ledger.proofs.Handing.{weighed}
use Rattle.dual_ledger.proofs.trusted_reads.dual_ledger_trusted_sum_grow_speed.Goals as goal

pub sum_grow_speed-a-requires : goal.sum_grow_speed-a-requires
sum_grow_speed-a-requires c = fit_of _ c.requires

pub returns : goal.returns
returns c = weighed c.sum_grow_speed-a.result (search (rules, c.struct_told-1.given)) c.sum_grow_speed-a.ensures c.signed_word.ensures
