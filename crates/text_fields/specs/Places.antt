-- Places in a line, and what the functions' answers stand for. Assumes nothing.
use Rattle.std.specs.Prelude.{None, Option, Some, ℕ, suc, ◌-◌, ◌≤◌, ◌<◌, true, false, ◌≡◌, List, [], ◌∷◌, ltb, length, take, drop, ℤ}
use Rattle.kinds.specs.declared.GrowState.{GrowState}
use Rattle.kinds.specs.declared.GrowState.TheVariants.{Grow, Stay, Shrink}
use Rattle.ledger_spec.specs.Bench.{State, grows, stays, shrinks}
use Rattle.ledger_spec.specs.Named.{state_named}
use Rattle.ledger_spec.specs.Decimals.{number_within}
use Rattle.ledger_spec.specs.Fields.{upto, parts_after, cut}
use Rattle.ledger_spec.specs.Grammar.{Fields, step}

-- the parts after a place, where a mark ends each
unfoldable pub parts_from : ℕ → List ℕ → ℕ → List (List ℕ)
parts_from mark s e = elim (ltb e (length s)) [ true ↦ cut mark (drop (suc e) s) | false ↦ [] ]

-- the fields after a place
abbrev pub from : List ℕ → ℕ → Fields
from = parts_from 32

-- the part that starts at a ends at e
pub record Ends (mark : ℕ) (s : List ℕ) (a e : ℕ) : Type 0 where
  pub low : a ≤ e
  pub high : e ≤ length s
  pub part : upto mark (drop a s) ≡ take (e - a) (drop a s)
  pub others : parts_after mark (drop a s) ≡ parts_from mark s e

-- the next field, and where it stands: after the place e, and in the line
abbrev pub fields_of : List ℕ → Option (ℕ × ℕ) → Fields
fields_of s (Some (a, e)) = take (e - a) (drop a s) ∷ from s e
fields_of s None = []

abbrev pub Inside : List ℕ → ℕ → Option (ℕ × ℕ) → Type 0
Inside s e (Some (a, z)) = (e < a) × (a ≤ z) × (z ≤ length s)
Inside s e None = Unit {0}

pub record FieldIs (s : List ℕ) (e : ℕ) (r : Option (ℕ × ℕ)) : Type 0 where
  pub fields : fields_of s r ≡ from s e
  pub inside : Inside s e r

-- the next number, and that it lies further on, so that a loop over numbers ends
abbrev pub next_of : List ℕ → Option (ℕ × ℕ) → Option (ℕ × Fields)
next_of s (Some (n, e)) = Some (n, from s e)
next_of s None = None

abbrev pub Further : List ℕ → ℕ → ℕ → Option (ℕ × ℕ) → Type 0
Further s e most (Some (n, z)) = (e < z) × (z ≤ length s) × (n ≤ most)
Further s e most None = Unit {0}

pub record NumberIs (s : List ℕ) (e least most : ℕ) (r : Option (ℕ × ℕ)) : Type 0 where
  pub read : next_of s r ≡ step (number_within least most) (from s e)
  pub further : Further s e most r

abbrev pub length_of : List ℕ → Option (ℤ × ℕ) → Option (ℤ × Fields)
length_of s (Some (l, e)) = Some (l, from s e)
length_of s None = None

abbrev pub state_of : List ℕ → Option (GrowState × ℕ) → Option (State × Fields)
state_of s (Some (g, e)) = Some (state_named g, from s e)
state_of s None = None

abbrev pub to_state : ℕ → Option State → Option (GrowState × ℕ)
to_state e None = None
to_state e (Some grows) = Some (Grow, e)
to_state e (Some stays) = Some (Stay, e)
to_state e (Some shrinks) = Some (Shrink, e)
