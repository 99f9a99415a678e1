-- The words are written one after the other, as the definition has it. Assumes nothing.
use Rattle.bench_words.specs.Store.{store_node}
use borrow.Author.Rules.{rules}
use Rattle.bench_words.proofs.store_node.Goals as goal

pub returns : goal.returns
unfolding store_node
returns c = cc
