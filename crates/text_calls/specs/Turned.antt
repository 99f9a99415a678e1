-- What a line does on sound words: the ledger's own account of it. Assumes nothing.
use Rattle.std.specs.Prelude.{ℕ, ◌≤◌, ◌<◌, ◌≡◌, List, length, take, Some}
use Rattle.ledger_spec.specs.Operations.{B}
use Rattle.ledger_spec.specs.Grammar.{Line}
use Rattle.ledger_spec.specs.Lines.{LineAnswer, says}
use Rattle.bench_views.specs.View.{view}
use Rattle.bench_views.specs.Fit.{SoundWords}
use Rattle.text_numbers.specs.declared.Reply.{Reply}
use Rattle.text_numbers.specs.Numbers.{numbers_of}

-- the four numbers and the bench after it are those of an answer of the ledger's, and the words after it are sound
pub record Gave (a : LineAnswer) (r : Reply) (b' : List ℕ) : Type 0 where
  pub numbers : numbers_of r ≡ a.numbers
  pub words : SoundWords b'
  pub seen : view b' ≡ a.bench

-- what a line says
abbrev pub Turned : List ℕ → Line → Reply → List ℕ → Type 0
Turned b l r b' = Gave (says (view b) l) r b'

-- as many of them as there are, and 65 at most
pub record Few (count n : ℕ) : Type 0 where
  pub most : n ≤ 65
  pub all : count ≤ 64 → n ≡ count
  pub many : 64 < count → n ≡ 65

-- a blossom of the serials ks, of which the front stands in a slice
abbrev pub TurnedBlossom : List ℕ → ℕ → List ℕ → ℕ → Reply → List ℕ → Type 0
TurnedBlossom b u stored count r b' =
    (ks : List ℕ) → length ks ≡ count → ((n : ℕ) → n ≤ 65 → n ≤ count → take n stored ≡ take n ks) → Turned b (Some (B u ks)) r b'
