-- The read below answers; its number and its values as words are handed on. Assumes nothing.
use borrow.Author.Rules.{rules}
use Rattle.bench_views.proofs.Fits.{fit_of}
use Rattle.dual_ledger.proofs.Handing.{indexed_by}
use Rattle.dual_ledger.proofs.trusted_reads.dual_ledger_trusted_get_node.Goals as goal

pub get_node-a-requires : goal.get_node-a-requires
get_node-a-requires c = fit_of _ c.requires

pub returns : goal.returns
returns c = indexed_by c.get_node-a.ensures c.indexed_word.ensures
