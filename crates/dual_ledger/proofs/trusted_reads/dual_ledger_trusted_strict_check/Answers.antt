-- The read below answers; its number and its values as words are handed on. Assumes nothing.
use borrow.Author.Rules.{rules}
use Rattle.bench_views.proofs.Fits.{fit_of}
use Rattle.dual_ledger.proofs.trusted_reads.dual_ledger_trusted_strict_check.Goals as goal

pub strict_check-a-requires : goal.strict_check-a-requires
strict_check-a-requires c = fit_of _ c.requires
