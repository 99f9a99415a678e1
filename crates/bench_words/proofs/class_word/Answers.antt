-- Read or written by cases of the word or the value. Assumes nothing.
use borrow.Author.Rules.{rules}
use Rattle.bench_words.proofs.class_word.Goals as goal

pub returns-in-Defect : goal.returns-in-Defect
returns-in-Defect c = cc
