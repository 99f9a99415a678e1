-- What a call answers and leaves, whole: number, node, notices in order with their arguments, words; refused, every word as it was. On sound words, and
-- on any words with the verdict s on them. Assumes nothing.
use Rattle.std.specs.Prelude.{ℕ, ◌≡◌, Bool, true, List}
use Rattle.ledger_spec.specs.Calls.{Call}
use Rattle.outcomes.specs.Outcome.{answer_on, Outcome}
use Rattle.call_told.specs.declared.Answer.{Answer}
use Rattle.call_told.specs.Shown.{shown}

abbrev pub Called : Bool → List ℕ → Call → Answer → List ℕ → Type 0
Called s b c r b' = Outcome s b c r.number b' × (r ≡ shown (answer_on s b c))

abbrev pub Told : List ℕ → Call → Answer → List ℕ → Type 0
Told b c r b' = Called true b c r b'
