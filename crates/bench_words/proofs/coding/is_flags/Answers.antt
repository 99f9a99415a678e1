-- Both words are read and tested. Assumes nothing.
use Rattle.bench_words.specs.Coding.{flags_at}
use borrow.Author.Rules.{rules}
use Rattle.bench_words.proofs.coding.is_flags.Goals as goal

pub returns : goal.returns
unfolding flags_at
returns c = search rules
