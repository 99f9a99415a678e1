-- Read or written by cases of the word or the value. Assumes nothing.
use borrow.Author.Rules.{rules}
use Rattle.bench_words.proofs.interfaces.up_word.Goals as goal

pub returns-in-Some : goal.returns-in-Some
returns-in-Some c = cc
