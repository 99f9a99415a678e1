-- The word is read where the definition has it. Assumes nothing.
use Rattle.bench_words.specs.Store.{node_at}
use borrow.Author.Rules.{rules}
use Rattle.bench_words.proofs.biases.load_bias.Goals as goal

pub returns : goal.returns
unfolding node_at
returns c = search rules
