-- Each word is read and tested, in the definition's order. Assumes nothing.
use Rattle.bench_words.specs.Coding.{link_at}
use borrow.Author.Rules.{rules}
use Rattle.bench_words.proofs.coding.is_link.Goals as goal

pub returns : goal.returns
unfolding link_at
returns c = search rules
