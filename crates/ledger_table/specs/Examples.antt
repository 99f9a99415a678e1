-- What the Rust was seen to answer, and what the definitions answer: verdicts 0 to 5 with their index, each on calls that only just lead there, and the
-- strict check's 6. Shown by computing. Assumes nothing.
use Rattle.std.specs.Prelude.{ℕ, ◌≡◌, refl, true, List, [], ◌∷◌, ◌++◌, map, pos, None, Some}
use Rattle.ledger_spec.specs.Bench.{Handle, grows, shrinks, blossom, Bench}
use Rattle.ledger_spec.specs.Change.{place}
use Rattle.ledger_spec.specs.Sound.{sound}
use Rattle.ledger_spec.specs.Calls.{Call, Defect, Blossom, Expand, SetState, Grow, Fuse}
use Rattle.ledger_spec.specs.Check.{check_of, strict_of}
use Rattle.ledger_spec.specs.Book.{turns, new_book}
use Rattle.ledger_spec.specs.Opened.{run}

-- the node of serial k in a slot of interface 0, and of interface 1
abbrev pub at : ℕ → ℕ → Handle
at s k = record { unit = 0; slot = s; serial = k }

abbrev pub beside : ℕ → ℕ → Handle
beside s k = record { unit = 1; slot = s; serial = k }

-- a circle of one member, touching by itself or twice by t
abbrev pub ring : Handle → Call
ring m = Blossom 0 (m ∷ []) []

abbrev pub touch : Handle → Handle → Call
touch m t = Blossom 0 (m ∷ []) ((t, t) ∷ [])

abbrev pub nested : List Call
nested = Defect 0 1 ∷ Defect 0 2 ∷ ring (at 0 1) ∷ touch (at 2 3) (at 1 2) ∷ []

abbrev pub cousins : List Call
cousins = Defect 0 1 ∷ Defect 0 2 ∷ ring (at 0 1) ∷ ring (at 1 2) ∷ Blossom 0 (at 2 3 ∷ at 3 4 ∷ []) ((at 3 4, at 3 4) ∷ (at 2 3, at 2 3) ∷ []) ∷ []

abbrev pub elders : List Call
elders = Defect 0 1 ∷ ring (at 0 1) ∷ Defect 0 2 ∷ ring (at 2 3) ∷ Defect 0 3 ∷ Defect 0 4 ∷ ring (at 5 6)
    ∷ Blossom 0 (at 1 2 ∷ at 3 4 ∷ []) ((at 4 5, at 4 5) ∷ (at 6 7, at 6 7) ∷ []) ∷ Expand 0 (at 6 7) ∷ []

abbrev pub left : List Call
left = Defect 0 1 ∷ ring (at 0 1) ∷ Grow 0 (pos 3) ∷ Expand 0 (at 1 2) ∷ []

-- a nephew: a node in the member next to the right one
abbrev pub nephew : List Call
nephew = Defect 0 1 ∷ Defect 0 2 ∷ ring (at 0 1) ∷ ring (at 1 2) ∷ Blossom 0 (at 2 3 ∷ at 3 4 ∷ []) ((at 0 1, at 2 3) ∷ (at 0 1, at 3 4) ∷ []) ∷ []

-- a node two levels down, and the member itself
abbrev pub below : List Call
below = Defect 0 1 ∷ ring (at 0 1) ∷ ring (at 1 2) ∷ Defect 0 2 ∷ ring (at 3 4) ∷ Blossom 0 (at 2 3 ∷ at 4 5 ∷ []) ((at 0 1, at 1 2) ∷ (at 4 5, at 3 4) ∷ []) ∷ []

-- a newer cousin, and before it a nephew
abbrev pub both : List Call
both = Defect 0 1 ∷ Defect 0 2 ∷ Defect 0 3 ∷ ring (at 0 1) ∷ ring (at 1 2) ∷ ring (at 2 3)
    ∷ Blossom 0 (at 3 4 ∷ at 4 5 ∷ at 5 6 ∷ []) ((at 1 2, at 1 2) ∷ (at 5 6, at 5 6) ∷ (at 5 6, at 5 6) ∷ []) ∷ []

-- by hand, since no call can do it: a member's own parent as what it touches by
abbrev pub around : Bench
around = place (turns (new_book 1) (Defect 0 1 ∷ ring (at 0 1) ∷ ring (at 1 2) ∷ [])).bench 0 2
    (Some (record { serial = 3; class = blossom (record { node = at 1 2; touch = (at 2 3, at 1 2) } ∷ []); state = grows; parent = None; value = pos 0; size = 1 }))

-- calls, the interface checked, number, verdict and index
abbrev pub table : List (List Call × ℕ × (ℕ × (ℕ × ℕ)))
table =
    -- the later by index, not by making
    (Defect 1 7 ∷ Defect 0 7 ∷ Fuse 2 0 1 ∷ [], 2, (0, (1, 1)))
    -- by index over the whole tree: a circle of the left half before a vertex of the right, and the other way round
    ∷ (Defect 0 1 ∷ Defect 0 2 ∷ touch (at 0 1) (at 1 2) ∷ Defect 1 2 ∷ Fuse 2 0 1 ∷ [], 2, (0, (2, 0)))
    ∷ (Defect 1 1 ∷ Defect 1 2 ∷ Blossom 1 (beside 0 1 ∷ []) ((beside 1 2, beside 1 2) ∷ []) ∷ Defect 0 2 ∷ Fuse 2 0 1 ∷ [], 2, (0, (1, 2)))
    -- a defect member's node that is gone is 2; a blossom member's is 4, and 3 while it is there
    ∷ (Defect 0 1 ∷ ring (at 0 1) ∷ Defect 0 2 ∷ touch (at 2 3) (at 1 2) ∷ Expand 0 (at 1 2) ∷ [], 0, (0, (2, 2)))
    ∷ (Defect 0 1 ∷ ring (at 0 1) ∷ Defect 0 2 ∷ ring (at 2 3) ∷ touch (at 1 2) (at 3 4) ∷ [], 0, (0, (3, 1)))
    ∷ (Defect 0 1 ∷ ring (at 0 1) ∷ Defect 0 2 ∷ ring (at 2 3) ∷ touch (at 1 2) (at 3 4) ∷ Expand 0 (at 3 4) ∷ [], 0, (0, (4, 1)))
    -- of one member's two handles one is gone and the other elsewhere: 4
    ∷ (Defect 0 1 ∷ ring (at 0 1) ∷ Defect 0 2 ∷ ring (at 2 3) ∷ Blossom 0 (at 1 2 ∷ []) ((at 2 3, at 3 4) ∷ []) ∷ Expand 0 (at 3 4) ∷ [], 0, (0, (4, 1)))
    -- an earlier member's 3 is before a later member's 4
    ∷ (elders, 0, (0, (3, 1)))
    -- 3 comes and goes with the outer blossoms
    ∷ (nested, 0, (0, (3, 2)))
    ∷ (nested ++ (Blossom 0 (at 3 4 ∷ at 1 2 ∷ []) [] ∷ []), 0, (0, (0, 0)))
    ∷ (nested ++ (Blossom 0 (at 3 4 ∷ at 1 2 ∷ []) [] ∷ Expand 0 (at 4 5) ∷ []), 0, (0, (3, 2)))
    ∷ (cousins, 0, (0, (0, 0)))
    -- 5 can heal: what two expansions leave behind may cancel
    ∷ (left, 0, (0, (5, 0)))
    ∷ (left ++ (ring (at 0 1) ∷ SetState 0 (at 2 3) shrinks ∷ Grow 0 (pos 3) ∷ Expand 0 (at 2 3) ∷ []), 0, (0, (0, 0)))
    -- refused
    ∷ ([], 8, (3, (0, 0)))
    ∷ (Fuse 2 0 1 ∷ [], 0, (4, (0, 0)))
    ∷ []

abbrev pub strict_table : List (List Call × ℕ × (ℕ × (ℕ × ℕ)))
strict_table =
    (cousins, 0, (0, (6, 2)))
    ∷ (nested, 0, (0, (3, 2)))
    ∷ (nested ++ (Blossom 0 (at 3 4 ∷ at 1 2 ∷ []) [] ∷ []), 0, (0, (6, 2)))
    ∷ (nephew, 0, (0, (6, 3)))
    ∷ (below, 0, (0, (0, 0)))
    ∷ (both, 0, (0, (6, 3)))
    ∷ (left, 0, (0, (5, 0)))
    ∷ ([], 8, (3, (0, 0)))
    ∷ []

pub examples : map (λ (e : List Call × ℕ × (ℕ × (ℕ × ℕ))). check_of (turns (new_book 1) e.0).bench e.1) table ≡ map (λ (e : List Call × ℕ × (ℕ × (ℕ × ℕ))). e.2) table
unfolding run
examples = refl

pub strict_examples : map (λ (e : List Call × ℕ × (ℕ × (ℕ × ℕ))). strict_of (turns (new_book 1) e.0).bench e.1) strict_table ≡ map (λ (e : List Call × ℕ × (ℕ × (ℕ × ℕ))). e.2) strict_table
unfolding run
strict_examples = refl

pub around_sound : sound around ≡ true
unfolding run
around_sound = refl

pub around_plain : check_of around 0 ≡ (0, (0, 0))
unfolding run
around_plain = refl

pub around_strict : strict_of around 0 ≡ (0, (6, 1))
unfolding run
around_strict = refl
