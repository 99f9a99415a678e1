-- Each word is read and tested, in the definition's order. Assumes nothing.
use Rattle.bench_words.specs.Coding.{coded_at}
use borrow.Author.Rules.{rules}
use Rattle.bench_words.proofs.coding.is_coded.Goals as goal

pub returns : goal.returns
unfolding coded_at
returns c = search rules
