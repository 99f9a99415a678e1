-- The word is read where the definition has it. Assumes nothing.
use Rattle.bench_words.specs.Store.{map_at}
use borrow.Author.Rules.{rules}
use Rattle.bench_words.proofs.load_map.Goals as goal

pub returns : goal.returns
unfolding map_at
returns c = search rules
