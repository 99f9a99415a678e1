-- The word is written where the definition has it. Assumes nothing.
use Rattle.bench_words.specs.Store.{store_bias}
use borrow.Author.Rules.{rules}
use Rattle.bench_words.proofs.biases.store_bias.Goals as goal

pub returns : goal.returns
unfolding store_bias
returns c = search rules
