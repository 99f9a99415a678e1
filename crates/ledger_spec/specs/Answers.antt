-- The whole answer of each call and read, on any bench, sound or not: BROKEN (2) first, then the call's own number. A refused call has no node
-- and no notices and leaves the bench as it was; a refused read has no value. Assumes nothing.
use Rattle.std.specs.Prelude.{ℕ, zero, suc, Bool, true, false, List, [], ℤ, pos, None, Option}
use Rattle.ledger_spec.specs.Numbers.{BROKEN}
use Rattle.ledger_spec.specs.Bench.{Handle, Bench}
use Rattle.ledger_spec.specs.Calls.{Reply, nobody, Call, perform}
use Rattle.ledger_spec.specs.Notices.{Notice, tells}
use Rattle.ledger_spec.specs.Reads.{sum_of, speed_of, count_of, fills_of, floored_of, handle_at_index, belongs, value_of}
use Rattle.ledger_spec.specs.Walk.{outer_of, below_of, first_vertex, vertices_into}
use Rattle.ledger_spec.specs.Check.{check_of, strict_of}
use Rattle.ledger_spec.specs.Sound.{sound}

pub record Answer : Type 0 where
  pub number : ℕ
  pub node : Handle
  pub notices : List Notice
  pub bench : Bench

-- what is told where the number is 0
unfoldable pub told : ℕ → List Notice → List Notice
told zero ns = ns
told (suc k) ns = []

unfoldable pub whole : Reply → List Notice → Answer
whole r ns = record { number = r.number; node = r.node; notices = told r.number ns; bench = r.bench }

unfoldable pub broken : Bench → Answer
broken b = record { number = BROKEN; node = nobody; notices = []; bench = b }

unfoldable pub answer : Bench → Call → Answer
answer b c = elim (sound b) [ true ↦ whole (perform b c) (tells b c) | false ↦ broken b ]

-- a read r of a bench, where z is its answer's value if refused
unfoldable pub ask : {A : Type 0} → Bench → A → ℕ × A → ℕ × A
ask b z r = elim (sound b) [ true ↦ r | false ↦ (BROKEN, z) ]

-- ---- each read, whole: what it answers of a sound bench, and the value that its refusals have, BROKEN among them

pub record Read (A : Type 0) : Type 0 where
  pub own : ℕ × A
  pub zero : A

-- a read of any bench (of lent words: `read_words` of crate sound_lent)
abbrev pub read : {A : Type 0} → Bench → Read A → ℕ × A
read b r = ask b r.zero r.own

abbrev pub sum_read : Bench → ℕ → Read ℤ
sum_read b u = record { own = sum_of b u; zero = pos 0 }

abbrev pub speed_read : Bench → ℕ → Read ℤ
speed_read b u = record { own = speed_of b u; zero = pos 0 }

abbrev pub count_read : Bench → ℕ → Read ℕ
count_read b u = record { own = count_of b u; zero = 0 }

abbrev pub fills_read : Bench → ℕ → Read Bool
fills_read b u = record { own = fills_of b u; zero = false }

abbrev pub floored_read : Bench → ℕ → Read Bool
floored_read b u = record { own = floored_of b u; zero = false }

abbrev pub index_read : Bench → ℕ → ℕ → Read (Option Handle)
index_read b u k = record { own = handle_at_index b u k; zero = None }

abbrev pub belongs_read : Bench → ℕ → Handle → Read Bool
belongs_read b u h = record { own = belongs b u h; zero = false }

abbrev pub value_read : Bench → Handle → Read ℤ
value_read b h = record { own = value_of b h; zero = pos 0 }

abbrev pub outer_read : Bench → Handle → Read (Handle × ℕ)
outer_read b h = record { own = outer_of b h; zero = (nobody, 0) }

abbrev pub below_read : Bench → Handle → Read Handle
below_read b h = record { own = below_of b h; zero = nobody }

abbrev pub first_read : Bench → Handle → Read ℕ
first_read b h = record { own = first_vertex b h; zero = 0 }

abbrev pub vertices_read : Bench → Handle → List ℕ → Read (ℕ × List ℕ)
vertices_read b h out = record { own = vertices_into b h out; zero = (0, out) }

abbrev pub check_read : Bench → ℕ → Read (ℕ × ℕ)
check_read b u = record { own = check_of b u; zero = (0, 0) }

abbrev pub strict_read : Bench → ℕ → Read (ℕ × ℕ)
strict_read b u = record { own = strict_of b u; zero = (0, 0) }
