-- What a linked call answers and leaves, in the plain ledger's terms: its number, its node as a word, and the words after; refused, every word is as it was.
-- Assumes nothing.
use Rattle.std.specs.Prelude.{ℕ, ◌≡◌, Bool, true, List}
use Rattle.ledger_spec.specs.Calls.{Call}
use Rattle.ledger_spec.specs.Answers.{answer}
use Rattle.bench_views.specs.View.{view}
use Rattle.sound_bench.specs.Sound.{sound_words}
use Rattle.outcomes.specs.Outcome.{answer_on, Outcome}
use Rattle.link_answers.specs.Forms.{node_word}
use Rattle.link_told.specs.Answers.{answer_over}

-- on sound words b, call c answers n and leaves the words b'
abbrev pub Settled : List ℕ → Call → ℕ → List ℕ → Type 0
Settled b c n b' = Outcome true b c n b'

-- the node made or named, as a word; 0 where there is none
abbrev pub node_of : List ℕ → Call → ℕ
node_of b c = node_word (answer (view b) c).node

-- ---- with the notices

-- on words b of verdict s, call c answers n, writes its answer over ws, which makes them ws', and leaves the words b'
abbrev pub Wrote : Bool → List ℕ → Call → ℕ → List ℕ → List ℕ → List ℕ → Type 0
Wrote s b c n ws ws' b' = Outcome s b c n b' × (ws' ≡ answer_over ws (answer_on s b c))

-- on sound words
abbrev pub ToldBy : List ℕ → Call → ℕ → List ℕ → List ℕ → List ℕ → Type 0
ToldBy b c n ws ws' b' = Wrote true b c n ws ws' b'

-- ---- on any words: BROKEN where they hold no sound bench

abbrev pub Left : List ℕ → Call → ℕ → List ℕ → Type 0
Left b c n b' = Outcome (sound_words b) b c n b'

abbrev pub CalledBy : List ℕ → Call → ℕ → List ℕ → List ℕ → List ℕ → Type 0
CalledBy b c n ws ws' b' = Wrote (sound_words b) b c n ws ws' b'
