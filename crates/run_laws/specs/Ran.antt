-- A run of public calls: each is lent the words that the one before left, and each answer meets its call's contract. Assumes nothing.
use Rattle.std.specs.Prelude.{ℕ, List, [], ◌∷◌}
use Rattle.ledger_spec.specs.Calls.{Call}
use Rattle.ledger_spec.specs.Answers.{answer}
use Rattle.ledger_spec.specs.Book.{Book, turn}
use Rattle.sound_bench.specs.Sound.{sound_words}
use Rattle.call_told.specs.declared.Answer.{Answer}
use Rattle.call_told.specs.Shown.{shown}
use Rattle.call_told.specs.Told.{Called}

pub data Ran : List ℕ → List Call → List Answer → List ℕ → Type 0 where
  stop : {b : List ℕ} → Ran b [] [] b
  next : {b b' b'' : List ℕ} {c : Call} {r : Answer} {cs : List Call} {rs : List Answer} → Called (sound_words b) b c r b' → Ran b' cs rs b'' → Ran b (c ∷ cs) (r ∷ rs) b''

-- the plain ledger's answers to the same calls
unfoldable pub plainly : Book → List Call → List Answer
plainly k [] = []
plainly k (c ∷ cs) = shown (answer k.bench c) ∷ plainly (turn k c) cs
