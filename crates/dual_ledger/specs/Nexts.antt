-- The next present node as words: its index and its handle, no node as 2^41, both 0 where the read is refused. Assumes nothing.
use Rattle.std.specs.Prelude.{ℕ, Option}
use Rattle.ledger_spec.specs.Bench.{Handle}
use Rattle.link_answers.specs.Forms.{indexed_word}

abbrev pub next_words : ℕ × (ℕ × Option Handle) → ℕ × (ℕ × ℕ)
next_words r = (r.0, (r.1.0, indexed_word r.0 r.1.1))
