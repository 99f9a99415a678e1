-- The read below answers; its number and its values as words are handed on. Assumes nothing.
use borrow.Author.Rules.{rules}
use Rattle.bench_views.proofs.Fits.{fit_of}
use Rattle.dual_ledger.proofs.trusted_reads.dual_ledger_trusted_sanity_check.Goals as goal

pub sanity_check-a-requires : goal.sanity_check-a-requires
sanity_check-a-requires c = fit_of _ c.requires
