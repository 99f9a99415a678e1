-- An operation in words, one for its letter and one for each field of its record, in order; and the k-th record's as a call, into a lent slice. Assumes nothing.
use Rattle.std.specs.Prelude.{ℕ, List, [], ◌∷◌, length}
use Rattle.ledger_spec.specs.Bench.{rate}
use Rattle.ledger_spec.specs.Operations.{D, B, E, S, G, F, C, K}
use Rattle.record_spec.specs.Numbers.{complement}
use Rattle.record_spec.specs.Operations.{Member, Op}
use Rattle.record_spec.specs.Moves.{Moved, refused, written}
use Rattle.record_gets.specs.Kth.{Asked, refusal, says, kth_of}

-- each member's serial and pair
unfoldable pub member_words : List Member → List ℕ
member_words [] = []
member_words (m ∷ ms) = m.serial ∷ m.first ∷ m.second ∷ member_words ms

-- a state and a length in two's complement
unfoldable pub words_of : Op → List ℕ
words_of (D u v) = 68 ∷ u ∷ v ∷ []
words_of (B u ms) = 66 ∷ u ∷ length ms ∷ member_words ms
words_of (E u k) = 69 ∷ u ∷ k ∷ []
words_of (S u k g) = 83 ∷ u ∷ k ∷ complement (rate g) ∷ []
words_of (G u l) = 71 ∷ u ∷ complement l ∷ []
words_of (F p l r) = 70 ∷ p ∷ l ∷ r ∷ []
words_of (C u) = 67 ∷ u ∷ []
words_of (K u) = 75 ∷ u ∷ []

-- the words in front of the slice, the rest as before; SMALL, last, if it is too short
abbrev pub words_into : Asked → List ℕ → Moved
words_into (refusal number) out = refused number out
words_into (says op) out = written (words_of op) out

unfoldable pub get_into : List ℕ → ℕ → List ℕ → Moved
get_into file k out = words_into (kth_of file k) out
