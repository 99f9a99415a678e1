-- Ask 8's edges as one table about the definitions: when a growth is refused by a floor, what fuses, when a mark comes too late. Assumes nothing.
use Rattle.std.specs.Prelude.{ℕ, ◌^◌, ◌≡◌, refl, false, List, [], ◌∷◌, ◌++◌, map, pos, negsuc}
use Rattle.ledger_spec.specs.Bench.{shrinks, floor, Bench, with_marks}
use Rattle.ledger_spec.specs.Look.{interface}
use Rattle.ledger_spec.specs.Change.{with_interface}
use Rattle.ledger_spec.specs.Calls.{Call, Defect, SetState, Grow, Fuse, Clear, Mark}
use Rattle.ledger_spec.specs.Answers.{answer}
use Rattle.ledger_spec.specs.Book.{turns, new_book}
use Rattle.ledger_spec.specs.Opened.{run}

-- the number that a call answers after others, from set-up; and on a bench
pub after : List Call → Call → ℕ
unfolding run
after cs c = (answer (turns (new_book 1) cs).bench c).number

pub of : Bench → Call → ℕ
unfolding run
of b c = (answer b c).number

-- a defect of value 5 that shrinks, in interface 0
abbrev pub shrinking : List Call
shrinking = Defect 0 3 ∷ Grow 0 (pos 5) ∷ SetState 0 (record { unit = 0; slot = 0; serial = 1 }) shrinks ∷ []

abbrev pub marked : List Call
marked = Mark 0 floor ∷ shrinking

-- fused under 2 with a floored right half
abbrev pub joined : List Call
joined = marked ++ (Mark 1 floor ∷ Fuse 2 0 1 ∷ [])

abbrev pub table : List (ℕ × ℕ)
table =
    -- as far as 0, and no further; without a floor, further
    (after marked (Grow 0 (pos 5)), 0)
    ∷ (after marked (Grow 0 (pos 6)), 25)
    ∷ (after shrinking (Grow 0 (pos 6)), 0)
    -- at 0, by nothing
    ∷ (after (marked ++ (Grow 0 (pos 5) ∷ [])) (Grow 0 (pos 0)), 0)
    -- LENGTH first
    ∷ (after marked (Grow 0 (negsuc 0)), 5)
    ∷ (after marked (Grow 0 (pos (2 ^ 40))), 5)
    -- the halves' floor is the parent's, in place of its own
    ∷ (after joined (Grow 2 (pos 5)), 0)
    ∷ (after joined (Grow 2 (pos 6)), 25)
    ∷ (after (shrinking ++ (Mark 2 floor ∷ Fuse 2 0 1 ∷ [])) (Grow 2 (pos 6)), 0)
    -- one half floored; USED first
    ∷ (after marked (Fuse 2 0 1), 26)
    ∷ (after marked (Fuse 2 1 0), 26)
    ∷ (after (marked ++ (Defect 2 4 ∷ [])) (Fuse 2 0 1), 17)
    -- too late; a child; not too late for progress; a clear ends it
    ∷ (after shrinking (Mark 0 floor), 26)
    ∷ (after joined (Mark 2 floor), 26)
    ∷ (after joined (Mark 0 floor), 4)
    ∷ (after (Grow 0 (pos 5) ∷ []) (Mark 0 floor), 0)
    ∷ (after (Mark 0 floor ∷ Clear 0 ∷ shrinking) (Grow 0 (pos 6)), 0)
    -- a bench made by hand: a floored half under a parent that is not
    ∷ (of (turns (new_book 1) joined).bench (Grow 2 (pos 1)), 0)
    ∷ (of (with_interface (turns (new_book 1) joined).bench 1 (with_marks (interface (turns (new_book 1) joined).bench 1) (record { floored = false; fills = false }))) (Grow 2 (pos 1)), 2)
    ∷ []

pub floors : map (λ (e : ℕ × ℕ). e.0) table ≡ map (λ (e : ℕ × ℕ). e.1) table
unfolding run after of
floors = refl
