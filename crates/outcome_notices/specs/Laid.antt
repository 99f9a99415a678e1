-- A list of the ledger's notices as the value that stands for it, blank past the counts; and the list that a value stands for. Assumes nothing.
use Rattle.std.specs.Prelude.{ℕ, ◌-◌, List, [], ◌∷◌, ◌++◌, map, length, take, replicate, pos}
use Rattle.kinds.specs.Names.{no_code}
use Rattle.kinds.specs.declared.Handle.{Handle as Packed}
use Rattle.kinds.specs.declared.GrowState.{GrowState}
use Rattle.kinds.specs.declared.GrowState.TheVariants.{Grow, Stay, Shrink}
use Rattle.kinds.specs.declared.Notice.{Notice as Code}
use Rattle.kinds.specs.declared.Notice.TheVariants.{DefectAdded, StateSet, ShrinkPrepared, BlossomAdded, BlossomRemoved, Grown}
use Rattle.ledger_spec.specs.Bench.{Handle, State, grows, stays, shrinks}
use Rattle.ledger_spec.specs.Named.{handle_named, state_named}
use Rattle.ledger_spec.specs.Notices.{Notice, defect_added, state_set, shrink_prepared, blossom_added, blossom_removed, grown}
use Rattle.outcome_notices.specs.declared.Told.{Told}
use Rattle.outcome_notices.specs.declared.Notices.{Notices}

abbrev pub packed : Handle → Packed
packed h = record { unit = h.unit; slot = h.slot; serial = record { 0 = h.serial } }

abbrev pub state_code : State → GrowState
state_code grows = Grow
state_code stays = Stay
state_code shrinks = Shrink

abbrev pub code : Notice → Code
code (defect_added h) = DefectAdded (packed h)
code (state_set h s) = StateSet (packed h) (state_code s)
code (shrink_prepared hs) = ShrinkPrepared
code (blossom_added h) = BlossomAdded (packed h)
code (blossom_removed h) = BlossomRemoved (packed h)
code (grown l) = Grown l

abbrev pub entry : Notice → Told
entry n = record { notice = code n }

-- a growth by 0: what tells nothing
abbrev pub blank : Told
blank = record { notice = Grown (pos 0) }

-- the circle of the first "shrink prepared"
abbrev pub circle_or : Notice → List Handle → List Handle
circle_or (defect_added h) r = r
circle_or (state_set h s) r = r
circle_or (shrink_prepared hs) r = hs
circle_or (blossom_added h) r = r
circle_or (blossom_removed h) r = r
circle_or (grown l) r = r

unfoldable pub circle_in : List Notice → List Handle
circle_in [] = []
circle_in (n ∷ ns) = circle_or n (circle_in ns)

-- xs, and d up to n of them
abbrev pub pad : {A : Type 0} → A → ℕ → List A → List A
pad d n xs = xs ++ replicate (n - length xs) d

-- the value of a list of entries and a circle
abbrev pub filled : List Told → List Packed → Notices
filled ts hs = record { told = pad blank 66 ts; count = length ts; circle = pad no_code 64 hs; members = length hs }

abbrev pub only : Told → Notices
only e = filled (e ∷ []) []

unfoldable pub laid : List Notice → Notices
laid ns = filled (map entry ns) (map packed (circle_in ns))

-- ---- the way back
abbrev pub meant : List Handle → Code → Notice
meant hs (DefectAdded h) = defect_added (handle_named h)
meant hs (StateSet h s) = state_set (handle_named h) (state_named s)
meant hs ShrinkPrepared = shrink_prepared hs
meant hs (BlossomAdded h) = blossom_added (handle_named h)
meant hs (BlossomRemoved h) = blossom_removed (handle_named h)
meant hs (Grown l) = grown l

abbrev pub circle_of : Notices → List Handle
circle_of n = map handle_named (take n.members n.circle)

unfoldable pub notices_of : Notices → List Notice
notices_of n = map (λ (t : Told). meant (circle_of n) t.notice) (take n.count n.told)
