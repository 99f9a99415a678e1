-- The read below answers; its number and its values as words are handed on. Assumes nothing.
use Rattle.bench_views.proofs.Fits.{fit_of}
use Rattle.dual_ledger.proofs.trusted_reads.dual_ledger_trusted_nodes_count.Goals as goal

pub nodes_count-a-requires : goal.nodes_count-a-requires
nodes_count-a-requires c = fit_of _ c.requires

pub returns : goal.returns
returns c = c.nodes_count-a.ensures
