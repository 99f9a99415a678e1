-- Each field is its word, read by its codec. Assumes nothing.
use Rattle.bench_words.specs.Store.{interface_at}
use borrow.Author.Rules.{rules}
use Rattle.bench_words.proofs.load_interface.Goals as goal

pub returns : goal.returns
unfolding interface_at
returns c =
    simp (c.up_of-parent.ensures, c.marks_of-marks.ensures)
