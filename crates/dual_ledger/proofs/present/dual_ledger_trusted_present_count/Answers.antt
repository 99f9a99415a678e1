-- The read below answers; its number and its values as words are handed on. Assumes nothing.
use Rattle.bench_views.proofs.Fits.{fit_of}
use Rattle.dual_ledger.proofs.present.dual_ledger_trusted_present_count.Goals as goal

pub present_count-a-requires : goal.present_count-a-requires
present_count-a-requires c = fit_of _ c.requires

pub returns : goal.returns
returns c = c.present_count-a.ensures
