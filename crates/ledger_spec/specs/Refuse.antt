-- The numbers of the manual's table (docs/MANUAL.md, Refusals), for each call: its tests in the order of that table (BELOW after LENGTH, MARK after USED), of which the first that holds gives
-- the number (`first`). 0 is accepted. BROKEN (2) comes before all of these and is put there by Answers.antt (`answer`, `ask`). Assumes nothing.
use Rattle.std.specs.Prelude.{ℕ, Bool, ◌&&◌, ◌||◌, not, List, [], ◌∷◌, ◌++◌, length, eqb, leb, ltb, ℤ, pos, ◌+ℤ◌}
use Rattle.std.specs.Int.Signed.{lt_z}
use Rattle.ledger_spec.specs.Numbers.{progress_limit, circle_limit, UNIT, CHILD, LENGTH, CIRCLE, TOUCH, STALE, FOREIGN, KIND, INSIDE, TWICE, FULL, WORN, PAIR, USED, BELOW, MARK}
use Rattle.ledger_spec.specs.Bench.{Handle, Bench}
use Rattle.ledger_spec.specs.Look.{interface, node_named}
use Rattle.ledger_spec.specs.Tests.{first, any, empty, outside, child, stale, foreign, is_defect, has_parent, twice, full, worn, used, floored, below, same, late, both}

abbrev pub set_up_no : ℕ → ℕ
set_up_no n = first ((eqb n 0, WORN) ∷ [])

-- a call that names one interface, and every read of one
unfoldable pub unit_tests : Bench → ℕ → List (Bool × ℕ)
unit_tests b u = (outside u, UNIT) ∷ (child b u, CHILD) ∷ []

unfoldable pub defect_tests : Bench → ℕ → List (Bool × ℕ)
defect_tests b u = (outside u, UNIT) ∷ (child b u, CHILD) ∷ (full b u, FULL) ∷ (worn b, WORN) ∷ []

unfoldable pub blossom_tests : Bench → ℕ → List Handle → List (Handle × Handle) → List (Bool × ℕ)
blossom_tests b u hs ts =
    (outside u, UNIT)
    ∷ (child b u, CHILD)
    ∷ (empty hs || ltb circle_limit (length hs), CIRCLE)
    ∷ (not (empty ts) && not (eqb (length ts) (length hs)), TOUCH)
    ∷ (any (stale b) (hs ++ both ts), STALE)
    ∷ (any (foreign b u) (hs ++ both ts), FOREIGN)
    ∷ (any (λ h. has_parent (node_named b h)) hs, INSIDE)
    ∷ (twice hs, TWICE)
    ∷ (full b u, FULL)
    ∷ (worn b, WORN)
    ∷ []

unfoldable pub expand_tests : Bench → ℕ → Handle → List (Bool × ℕ)
expand_tests b u h =
    (outside u, UNIT) ∷ (child b u, CHILD) ∷ (stale b h, STALE) ∷ (foreign b u h, FOREIGN) ∷ (is_defect (node_named b h), KIND) ∷ (has_parent (node_named b h), INSIDE) ∷ []

unfoldable pub state_tests : Bench → ℕ → Handle → List (Bool × ℕ)
state_tests b u h = (outside u, UNIT) ∷ (child b u, CHILD) ∷ (stale b h, STALE) ∷ (foreign b u h, FOREIGN) ∷ (has_parent (node_named b h), INSIDE) ∷ []

unfoldable pub grow_tests : Bench → ℕ → ℤ → List (Bool × ℕ)
grow_tests b u l = (outside u, UNIT) ∷ (child b u, CHILD) ∷ (lt_z l (pos 0) || lt_z (pos progress_limit) ((interface b u).progress +ℤ l), LENGTH) ∷ (below b u l, BELOW) ∷ []

unfoldable pub mark_tests : Bench → ℕ → List (Bool × ℕ)
mark_tests b u = (outside u, UNIT) ∷ (child b u, CHILD) ∷ (late (interface b u), MARK) ∷ []

unfoldable pub fuse_tests : Bench → ℕ → ℕ → ℕ → List (Bool × ℕ)
fuse_tests b p l r =
    (outside p || (outside l || outside r), UNIT)
    ∷ (child b p || (child b l || child b r), CHILD)
    ∷ (eqb l r || (leb p l || leb p r), PAIR)
    ∷ (used (interface b p), USED)
    ∷ (not (same (floored b l) (floored b r)), MARK)
    ∷ []
