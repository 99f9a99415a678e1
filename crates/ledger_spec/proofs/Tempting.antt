-- A row for each definition that is tempting to get wrong: what the right one computes and the wrong one does not. The crate's must-fail edit makes all of
-- them wrong at once, and each must be refused at its own row; so calls are made by `perform`, where no test of the bench hides one behind another.
-- Assumes nothing.
use Rattle.std.specs.Prelude.{None, Some}
use Prim.Native.Nat.{ℕ, ◌^◌}
use mathlib.Core.Path.{◌≡◌, refl}
use mathlib.Core.Bool.{true, false}
use mathlib.Core.List.{List, [], ◌∷◌}
use lib.ListN.{replicate}
use lib.IntN.{pos}
use Rattle.ledger_spec.specs.Bench.{Handle, Bench, fresh, set_up, with_slots}
use Rattle.ledger_spec.specs.Look.{interface}
use Rattle.ledger_spec.specs.Change.{with_interface}
use Rattle.ledger_spec.specs.Calls.{Call, Defect, Blossom, Expand, Grow, Fuse, Clear, perform}
use Rattle.ledger_spec.specs.Reads.{handle_at_index, value_of}
use Rattle.ledger_spec.specs.Sound.{sound}
use Rattle.ledger_spec.specs.Book.{wrote}
use Rattle.ledger_spec.specs.Groups.{growth, conflicts, extended}
use Rattle.ledger_spec.specs.GroupCalls.{pop}
use Rattle.ledger_spec.specs.Opened.{run}
use Rattle.ledger_spec.specs.Edges.{worth_at_once, c1, stop_at}

-- the bench after calls
pub after : Bench → List Call → Bench
after b [] = b
after b (c ∷ cs) = after (perform b c).bench cs

abbrev pub at : ℕ → ℕ → ℕ → Handle
at u s k = record { unit = u; slot = s; serial = k }

-- blossom 2 around defect 1, in interface 0; and grown by 4
abbrev pub ringed : List Call
ringed = Defect 0 3 ∷ Blossom 0 (at 0 0 1 ∷ []) [] ∷ []

abbrev pub aged : List Call
aged = Defect 0 3 ∷ Blossom 0 (at 0 0 1 ∷ []) [] ∷ Grow 0 (pos 4) ∷ []

-- ---- what calls do

-- a growth grows the nodes of the fused halves
pub halves_grow : value_of (after (set_up 1) (Defect 0 3 ∷ Fuse 2 0 1 ∷ Grow 2 (pos 5) ∷ [])) (at 0 0 1) ≡ (0, pos 5)
unfolding run after
halves_grow = refl

-- a blossom's members stay, so that the speed is the blossom's
pub members_stay : (interface (after (set_up 1) ringed) 0).speed ≡ pos 1
unfolding run after
members_stay = refl

-- an expanded blossom's members grow
pub expanded_grow : (interface (after (after (set_up 1) ringed) (Expand 0 (at 0 1 2) ∷ [])) 0).speed ≡ pos 1
unfolding run after
expanded_grow = refl

-- the sum stays as it was when a blossom of value 4 is expanded
pub sum_stays : (interface (after (after (set_up 1) aged) (Expand 0 (at 0 1 2) ∷ [])) 0).sum ≡ (interface (after (set_up 1) aged) 0).sum
unfolding run after
sum_stays = refl

-- what went is booked by the interface whose slot it held, not by the one that was named
pub went_there : wrote (λ w. []) (after (after (set_up 1) aged) (Fuse 2 0 1 ∷ [])) (Expand 2 (at 0 1 2)) 0 ≡ pos 4 ∷ []
unfolding run after
went_there = refl

-- a clear empties the fused halves too
pub halves_cleared : interface (after (set_up 1) (Defect 0 3 ∷ Fuse 2 0 1 ∷ Clear 2 ∷ [])) 0 ≡ fresh
unfolding run after
halves_cleared = refl

-- the index counts the left half's slots first
pub left_first : handle_at_index (after (set_up 1) (Defect 0 3 ∷ Defect 1 7 ∷ Fuse 2 0 1 ∷ [])) 2 0 ≡ (0, Some (at 0 0 1))
unfolding run after
left_first = refl

-- ---- what calls are refused by

-- of several numbers the lowest: a handle of another tree and one that names nothing
pub lowest : (perform (after (set_up 1) (Defect 1 4 ∷ [])) (Blossom 0 (at 1 0 1 ∷ at 8 0 9 ∷ []) [])).number ≡ 8
unfolding run after
lowest = refl

-- 64 slots, though all of them emptied
pub slots_full : (perform (with_interface (set_up 1) 0 (with_slots fresh (replicate 64 None))) (Defect 0 3)).number ≡ 14
unfolding run
slots_full = refl

-- a progress of 2^40
pub progress_full : (perform (after (set_up 1) (Grow 0 (pos (2 ^ 40)) ∷ [])) (Grow 0 (pos 1))).number ≡ 5
unfolding run after
progress_full = refl

-- a value outside W
pub values_bound : sound (worth_at_once (pos 1)) ≡ false
unfolding run
values_bound = refl

-- ---- groups

-- of two growths by one length the flag that is no
pub flags_met : extended (growth (pos 5) true) (growth (pos 5) false) ≡ Some (growth (pos 5) false)
unfolding run
flags_met = refl

-- a pop takes the last of the list, and the stop of smallest vertex goes with it
pub stop_gone : pop (conflicts (record { obstacle = c1 } ∷ []) (stop_at 4 ∷ [])) ≡ (0, (Some c1, conflicts [] []))
unfolding run
stop_gone = refl
