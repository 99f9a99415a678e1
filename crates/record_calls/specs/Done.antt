-- What an operation does on sound words: the ledger's own account of it. Assumes nothing.
use Rattle.std.specs.Prelude.{ℕ, ◌*◌, ◌≡◌, List, [], ◌∷◌, map, length, take, None, Option, Some}
use Rattle.bench_views.specs.View.{view}
use Rattle.text_numbers.specs.declared.Reply.{Reply}
use Rattle.text_calls.specs.Turned.{Gave}
use Rattle.record_spec.specs.Operations.{Member, Op, serial_of}
use Rattle.record_says.specs.Says.{says_op}

-- what the record that was read says
abbrev pub DoneAt : List ℕ → Option (Op × List ℕ) → Reply → List ℕ → Type 0
DoneAt b None r b' = Unit {0}
DoneAt b (Some x) r b' = Gave (says_op (view b) x.0) r b'

-- ---- members on their way to a call

-- the serials of the pairs, two by two
unfoldable pub touches : List Member → List ℕ
touches [] = []
touches (m ∷ ms) = m.first ∷ m.second ∷ touches ms

-- the serials of n members stand in front of one slice, those of their pairs in front of the other
pub record Laid (ms : List Member) (n : ℕ) (members touching members' touching' : List ℕ) : Type 0 where
  pub long : length members' ≡ length members
  pub wide : length touching' ≡ length touching
  pub serials : take n members' ≡ map serial_of ms
  pub pairs : take (2 * n) touching' ≡ touches ms
