-- Everything that words can be asked and that leaves them as they are: every question of a bench, and the present nodes of a tree. Assumes nothing.
use Rattle.std.specs.Prelude.{ℕ, List, Option}
use Rattle.ledger_spec.specs.Bench.{Handle, Bench}
use Rattle.ledger_spec.specs.Answers.{Read}
use Rattle.bench_views.specs.View.{view}
use Rattle.sound_lent.specs.Verdict.{read_words}
use Rattle.read_present.specs.Present.{present_read, next_read}
use Rattle.engine_laws.specs.Questions as plain

pub data Question : Type 0 where
  plainly : plain.Question → Question
  Present : (unit : ℕ) → Question
  Next : (unit index : ℕ) → Question

abbrev pub Given : Question → Type 0
Given (plainly q) = plain.Given q
Given (Present u) = ℕ
Given (Next u k) = ℕ × Option Handle

abbrev pub asking : Bench → (q : Question) → Read (Given q)
asking b (plainly q) = plain.asking b q
asking b (Present u) = present_read b u
asking b (Next u k) = next_read b u k

-- the answer by contract, of any words: BROKEN where they hold no sound bench
abbrev pub asked : List ℕ → (q : Question) → ℕ × Given q
asked b q = read_words b (asking (view b) q)
