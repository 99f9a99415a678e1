-- Each field is its word, read by its codec. Assumes nothing.
use Rattle.bench_words.specs.Store.{node_at}
use borrow.Author.Rules.{rules}
use Rattle.bench_words.proofs.load_node.Goals as goal

pub returns : goal.returns
unfolding node_at
returns c =
    simp (c.class_of-class.ensures, c.state_of-state.ensures, c.parent_of-parent.ensures, c.handle_of-left.ensures, c.handle_of-right.ensures)
