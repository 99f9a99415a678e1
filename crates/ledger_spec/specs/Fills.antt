-- Ask 9's edges as one table about the definitions: where an interface that fills puts a new node, when it is full, when a mark comes too late.
-- Assumes nothing.
use Rattle.std.specs.Prelude.{ℕ, zero, suc, ◌≡◌, refl, List, [], ◌∷◌, ◌++◌, map}
use Rattle.ledger_spec.specs.Bench.{Handle, grows, filling}
use Rattle.ledger_spec.specs.Calls.{Call, Defect, Blossom, Expand, SetState, Fuse, Clear, Mark}
use Rattle.ledger_spec.specs.Answers.{Answer, answer}
use Rattle.ledger_spec.specs.Book.{turns, new_book}
use Rattle.ledger_spec.specs.Opened.{run}

-- the number and the handle that a call answers after others, from set-up
pub after : List Call → Call → ℕ × Handle
unfolding run
after cs c = let a : Answer = answer (turns (new_book 1) cs).bench c in (a.number, a.node)

abbrev pub at : ℕ → ℕ → Handle
at s k = record { unit = 0; slot = s; serial = k }

abbrev pub no : ℕ → ℕ × Handle
no k = (k, record { unit = 0; slot = 0; serial = 0 })

-- a defect, a blossom of it, a defect; the blossom expanded
abbrev pub plain : List Call
plain = Defect 0 3 ∷ Blossom 0 (at 0 1 ∷ []) [] ∷ Defect 0 4 ∷ Expand 0 (at 1 2) ∷ []

abbrev pub gapped : List Call
gapped = Mark 0 filling ∷ plain

abbrev pub defects : ℕ → List Call
defects zero = []
defects (suc n) = Defect 0 n ∷ defects n

abbrev pub table : List ((ℕ × Handle) × (ℕ × Handle))
table =
    -- the lowest empty slot, then the one after the last; without the mode, that one at once
    (after gapped (Defect 0 5), (0, at 1 4))
    ∷ (after (gapped ++ (Defect 0 5 ∷ [])) (Defect 0 6), (0, at 3 5))
    ∷ (after plain (Defect 0 5), (0, at 3 4))
    -- a blossom fills too, below its members
    ∷ (after gapped (Blossom 0 (at 0 1 ∷ at 2 3 ∷ []) []), (0, at 1 4))
    -- the old handle of a filled slot is STALE
    ∷ (after (gapped ++ (Defect 0 5 ∷ [])) (SetState 0 (at 1 2) grows), no 8)
    -- FULL at 64 present nodes; without the mode, at 64 used slots
    ∷ (after (gapped ++ defects 61) (Defect 0 5), (0, at 63 65))
    ∷ (after (gapped ++ defects 62) (Defect 0 5), no 14)
    ∷ (after (plain ++ defects 61) (Defect 0 5), no 14)
    -- too late: a slot used, a fuse; a child; no such interface
    ∷ (after gapped (Mark 0 filling), no 26)
    ∷ (after (Fuse 2 0 1 ∷ []) (Mark 2 filling), no 26)
    ∷ (after (Fuse 2 0 1 ∷ []) (Mark 1 filling), no 4)
    ∷ (after [] (Mark 8 filling), no 3)
    -- twice is no harm, and a clear ends it
    ∷ (after (Mark 0 filling ∷ gapped) (Defect 0 5), (0, at 1 4))
    ∷ (after (Mark 0 filling ∷ Clear 0 ∷ plain) (Defect 0 5), (0, at 3 4))
    ∷ []

pub fills : map (λ (e : (ℕ × Handle) × (ℕ × Handle)). e.0) table ≡ map (λ (e : (ℕ × Handle) × (ℕ × Handle)). e.1) table
unfolding run after
fills = refl
