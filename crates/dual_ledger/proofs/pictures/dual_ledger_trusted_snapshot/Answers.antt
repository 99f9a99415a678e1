-- The picture below answers; its number and its length are handed on. Assumes nothing.
use borrow.Author.Rules.{rules}
use Rattle.bench_views.proofs.Fits.{fit_of}
use Rattle.dual_ledger.proofs.pictures.dual_ledger_trusted_snapshot.Goals as goal

pub snapshot-a-requires : goal.snapshot-a-requires
snapshot-a-requires c = fit_of _ c.requires

pub returns : goal.returns
returns c = c.snapshot-a.ensures
