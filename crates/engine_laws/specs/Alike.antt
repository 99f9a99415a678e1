-- The same calls from set-up in both engines, and what is said of the two runs. Assumes nothing.
use Rattle.std.specs.Prelude.{ℕ, ◌≡◌, true, false, List, [], ◌∷◌}
use Rattle.ledger_spec.specs.Bench.{Handle, Bench, set_up_in}
use Rattle.ledger_spec.specs.Calls.{Call}
use Rattle.ledger_spec.specs.Notices.{Notice}
use Rattle.ledger_spec.specs.Answers.{answer, read}
use Rattle.engine_laws.specs.Questions.{Question, asking}

-- what a caller is given: the number, the node, the notices in order
pub record Heard : Type 0 where
  pub number : ℕ
  pub node : Handle
  pub notices : List Notice

-- of each call in turn; and the bench after them all
unfoldable pub heard : Bench → List Call → List Heard
heard b [] = []
heard b (c ∷ cs) = record { number = (answer b c).number; node = (answer b c).node; notices = (answer b c).notices } ∷ heard (answer b c).bench cs

unfoldable pub after : Bench → List Call → Bench
after b [] = b
after b (c ∷ cs) = after (answer b c).bench cs

-- a plain and a lazy bench that nobody can tell apart: the same serials, values, sums, speeds, links and marks, and the same answer to every question
pub record Lookalikes (p l : Bench) : Type 0 where
  pub plain : p.plain ≡ true
  pub lazy : l.plain ≡ false
  pub next : p.next ≡ l.next
  pub interfaces : p.interfaces ≡ l.interfaces
  pub asked : (q : Question) → read p (asking p q) ≡ read l (asking l q)

-- any calls from set-up, from any first serial
pub record BothEngines (n : ℕ) (cs : List Call) : Type 0 where
  pub answers : heard (set_up_in true n) cs ≡ heard (set_up_in false n) cs
  pub benches : Lookalikes (after (set_up_in true n) cs) (after (set_up_in false n) cs)
