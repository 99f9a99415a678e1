-- The word is written where the definition has it. Assumes nothing.
use Rattle.bench_words.specs.Store.{store_map}
use borrow.Author.Rules.{rules}
use Rattle.bench_words.proofs.store_map.Goals as goal

pub returns : goal.returns
unfolding store_map
returns c = search rules
