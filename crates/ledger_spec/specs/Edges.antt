-- The edges P1 to P10 as one table about the definitions, and after them some rows that tempting and wrong definitions break. Each row has
-- what is computed and what is to come out. Assumes nothing.
use Rattle.std.specs.Prelude.{None, Option, Some, ℕ, zero, suc, ◌≡◌, refl, true, false, List, [], ◌∷◌, map, ℤ, pos}
use Prim.Native.String.{String, ◌++◌}
use Rattle.kinds.specs.Names.{no_code}
use Rattle.kinds.specs.declared.Stop.{Stop}
use Rattle.kinds.specs.declared.Obstacle.{Obstacle}
use Rattle.kinds.specs.declared.Obstacle.TheVariants.{TouchingVirtual, BlossomNeedExpand, VertexShrinkStop}
use Rattle.ledger_spec.specs.Numbers.{BROKEN}
use Rattle.ledger_spec.specs.Bench.{Handle, grows, defect, Bench, fresh, set_up, with_slots, with_speed}
use Rattle.ledger_spec.specs.Change.{with_interface}
use Rattle.ledger_spec.specs.Calls.{Call, Defect, Blossom, Expand, Grow, Fuse}
use Rattle.ledger_spec.specs.Reads.{handle_at_index, value_of}
use Rattle.ledger_spec.specs.Answers.{answer}
use Rattle.ledger_spec.specs.Book.{turns, new_book}
use Rattle.ledger_spec.specs.Groups.{Group, growth, conflicts, largest}
use Rattle.ledger_spec.specs.GroupCalls.{extend}
use Rattle.ledger_spec.specs.Bytes.{bytes}
use Rattle.ledger_spec.specs.Opened.{run, ran, pops}

-- what a row shows: a text, a node's value, the handle of an index, what went from an interface, a number, what extending a group answers and leaves, what pops took
pub data Cell : Type 0 where
  text : List ℕ → Cell
  a_value : ℕ × ℤ → Cell
  handle : ℕ × Option Handle → Cell
  went : List ℤ → Cell
  a_number : ℕ → Cell
  group : ℕ × Group → Cell
  taken : List (ℕ × Option Obstacle) → Cell

-- what lines answer after others
pub after : String → String → Cell
unfolding run
after before lines = text (run (ran (set_up 1) before) lines)

pub wants : String → Cell
unfolding run
wants s = text (bytes s)

pub valued : String → ℕ → Cell
unfolding run
valued before u = a_value (value_of (ran (set_up 1) before) (record { unit = u; slot = 0; serial = suc u }))

pub indexed : String → ℕ → ℕ → Cell
unfolding run
indexed before u k = handle (handle_at_index (ran (set_up 1) before) u k)

pub lost : List Call → ℕ → Cell
unfolding run
lost cs u = went ((turns (new_book 1) cs).gone u)

pub refused : Bench → Call → Cell
unfolding run
refused b c = a_number (answer b c).number

pub joined : Group → Group → Cell
unfolding run
joined g h = group (extend (set_up 1) g h)

abbrev pub many : ℕ → String → String
many zero s = ""
many (suc n) s = s ++ many n s

abbrev pub fused : String
fused = "D 0 3\nD 1 7\nG 0 4\nG 1 6\nF 2 0 1\n"

-- the whole case
abbrev pub whole_case : String
whole_case = "D 0 3\nD 0 8\nD 0 9\nG 0 5\nB 0 1 2 3\nG 0 2\nS 0 4 -1\nG 0 1\nE 0 4\nK 0\n"

-- a blossom of value 4 in interface 0, expanded by its fused parent's number
abbrev pub expanded : List Call
expanded = Defect 0 3 ∷ Blossom 0 (record { unit = 0; slot = 0; serial = 1 } ∷ []) [] ∷ Grow 0 (pos 4) ∷ Fuse 2 0 1 ∷ Expand 2 (record { unit = 0; slot = 1; serial = 2 }) ∷ []

-- a bench made by hand: a defect of this value where nothing has grown yet
abbrev pub worth_at_once : ℤ → Bench
worth_at_once v = with_interface (set_up 2) 0 (with_speed (with_slots fresh (Some (record { serial = 1; class = defect 3; state = grows; parent = None; value = v; size = 1 }) ∷ [])) (pos 1))

-- two obstacles for a list, and stops at 4 and 9
abbrev pub c1 : Obstacle
c1 = BlossomNeedExpand no_code

abbrev pub c2 : Obstacle
c2 = TouchingVirtual (record { node = no_code; touching = no_code }) (record { 0 = 7 }) false

abbrev pub stop_at : ℕ → Stop
stop_at v = record { vertex = record { 0 = v }; obstacle = VertexShrinkStop no_code None }

abbrev pub pending : Group
pending = conflicts (record { obstacle = c1 } ∷ record { obstacle = c2 } ∷ []) (stop_at 4 ∷ stop_at 9 ∷ [])

abbrev pub table : List (Cell × Cell)
table =
    -- P1, with both values
    (after fused "G 2 5\n", wants "0 0 2 20\n")
    ∷ (valued (fused ++ "G 2 5\n") 0, a_value (0, pos 9))
    ∷ (valued (fused ++ "G 2 5\n") 1, a_value (0, pos 11))
    -- P2
    ∷ (after (fused ++ "G 2 5\n") "D 0 5\n", wants "4 0 0 0\n")
    -- P3
    ∷ (after "" "G 0 1099511627776\nG 0 1\n", wants "0 0 0 0\n5 0 0 0\n")
    -- P4
    ∷ (after (many 63 "D 0 3\n") "D 0 3\nD 0 3\n", wants "0 64 64 0\n14 0 64 0\n")
    -- P5
    ∷ (after "" "D 0 3\nB 0 1 1\n", wants "0 1 1 0\n13 0 1 0\n")
    -- P6
    ∷ (after "D 0 3\nC 0\n" "S 0 1 0\n", wants "8 0 0 0\n")
    -- P7
    ∷ (joined (growth (pos 5) true) (growth (pos 5) false), group (0, growth (pos 5) false))
    -- P8
    ∷ (joined (growth (pos 5) false) (growth largest true), group (0, growth (pos 5) false))
    -- P9
    ∷ (taken (pops 3 pending), taken ((0, Some c2) ∷ (0, Some c1) ∷ (0, None) ∷ []))
    -- P10, the whole case
    ∷ (after "" whole_case, wants "0 1 1 0\n0 2 2 0\n0 3 3 0\n0 0 3 15\n0 4 1 15\n0 0 1 17\n0 4 -1 17\n0 0 -1 16\n0 4 3 16\n0 5 3 16\n")
    -- a fuse that names no interface shows zeros (READING T1)
    ∷ (after "D 2 5\n" "F 2 9 0\n", wants "3 0 0 0\n")
    -- of several refusals the lowest: gone before of another tree (READING T16), a child before all that a handle can be
    ∷ (after "D 1 4\n" "B 0 1 9\n", wants "8 0 0 0\n")
    ∷ (after fused "E 0 1\n", wants "4 0 0 0\n")
    -- the index counts the left half's slots, then the right half's
    ∷ (indexed fused 2 0, handle (0, Some (record { unit = 0; slot = 0; serial = 1 })))
    ∷ (indexed fused 2 1, handle (0, Some (record { unit = 1; slot = 0; serial = 2 })))
    -- a clear empties and unfuses the halves too; the next serial stays
    ∷ (after (fused ++ "C 2\n") "D 0 5\nK 1\n", wants "0 3 1 0\n0 0 0 0\n")
    -- what went is booked by the interface whose slot it held
    ∷ (lost expanded 0, went (pos 4 ∷ []))
    ∷ (lost expanded 2, went [])
    -- a value outside W is BROKEN
    ∷ (refused (worth_at_once (pos 0)) (Grow 0 (pos 1)), a_number 0)
    ∷ (refused (worth_at_once (pos 1)) (Grow 0 (pos 1)), a_number BROKEN)
    ∷ []

pub edges : map (λ (e : Cell × Cell). e.0) table ≡ map (λ (e : Cell × Cell). e.1) table
unfolding run ran after wants valued indexed lost refused joined pops
edges = refl
