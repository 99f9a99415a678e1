-- What an answer's fields say, in the ledger's terms: the number, and the answer or no. Assumes nothing.
use Rattle.std.specs.Prelude.{ℕ, Bool}
use Rattle.read_marks.specs.declared.Marked.{Marked}

abbrev pub shown_mark : Marked → ℕ × Bool
shown_mark r = (r.number, r.marked)
