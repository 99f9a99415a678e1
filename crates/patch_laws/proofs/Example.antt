-- The theorem is not empty: two runs from set-up with serials 1 and 1000, in which the other patch makes quite different calls, and the watched one makes
-- defects, blossoms with touching pairs, fuses, grows, expands, clears and marks its own, adds to a group and pops one, asks for present nodes, names nodes that went and a number that it was
-- not given, and interfaces that have a parent or do not exist. Assumes nothing.
use Rattle.std.specs.Prelude.{None, Some}
use Prim.Native.Nat.{ℕ}
use mathlib.Core.Path.{◌≡◌, refl, sym, ◌∙◌, ap}
use mathlib.Core.Bool.{Bool, true, ◌&&◌, not, true≢false}
use mathlib.Core.List.{List, [], ◌∷◌, ◌++◌, map}
use native.Mathlib.Omega.{arith}
use lib.Dec.{eqb, ltb}
use lib.ListN.{get_or}
use lib.IntN.{pos}
use borrow.Author.Tests.{ltb-true, eq-eqb}
use Rattle.kinds.specs.declared.Obstacle.TheVariants.{BlossomNeedExpand, VertexShrinkStop}
use Rattle.ledger_sparing.specs.Sparing.{spared, pop_sparing}
use Rattle.read_present.specs.Present.{present_in, next_from, present_of, next_of}
use Rattle.ledger_spec.specs.Groups.{empty_group, conflicts}
use Rattle.ledger_spec.specs.Bench.{Handle, grows, shrinks, filling, floor}
use Rattle.ledger_spec.specs.SoundTree.{all}
use Rattle.ledger_spec.specs.Calls.{Call}
use Rattle.ledger_spec.specs.Opened.{run}
use Rattle.ledger_spec.proofs.Lists.{and_true}
use Rattle.patch_laws.specs.Patch.{Name, Patch, Apart, mine, units_named, units_of, Defect, Blossom, Expand, SetState, Grow, Fuse, Clear, Mark, written, number_from}
use Rattle.patch_laws.specs.Obstacles.{numbered}
use Rattle.patch_laws.specs.Runs.{defect_added, Side, Value, Outer, Vertices, At, Next, Present, Fills, Floored, Check, Strict, Spare, Add, Seen, answered, counted, judged, linked, found, listed, number_of, after, seen, read_by, Step, theirs, ours, asked, sees, reached, opened, own}
use Rattle.patch_laws.specs.Statement.{read_of, Fits, AllFit, Unworn}
use Rattle.patch_laws.proofs.Patches.{two_patches}

-- ---- the patches: interfaces 0 to 2, and 3 to 5
pub other : Patch
other u = ltb u 3

pub watched : Patch
watched u = ltb 2 u && ltb u 6

disjoint : Apart other watched
unfolding other watched
disjoint u x y = omega (arith, ltb-true u 3 x, ltb-true 2 u (and_true (ltb 2 u) (ltb u 6) y).0)

-- ---- the runs: the same steps of the watched patch, each after some calls of the other
pub steps : List Step
steps = ours (Defect 3 10)
    ∷ ours (Defect 3 11)
    ∷ ours (Defect 3 12)
    ∷ ours (Blossom 3 (0 ∷ 1 ∷ 2 ∷ []) [])
    ∷ ours (Grow 3 (pos 5))
    ∷ ours (Defect 4 20)
    ∷ ours (Fuse 5 3 4)
    ∷ ours (Blossom 5 (3 ∷ 4 ∷ []) ((0, 1) ∷ (4, 4) ∷ []))
    ∷ asked (Check 5)
    ∷ asked (Strict 5)
    ∷ asked (Outer 0)
    ∷ asked (Vertices 5 (0 ∷ 0 ∷ 0 ∷ 0 ∷ []))
    ∷ asked (Add empty_group (VertexShrinkStop (numbered 0 0 (Some 5)) None))
    ∷ ours (SetState 5 5 shrinks)
    ∷ ours (Grow 5 (pos 1))
    ∷ asked (Value 5)
    ∷ ours (Expand 5 5)
    ∷ asked (Value 5)
    ∷ asked (Add empty_group (BlossomNeedExpand (numbered 0 0 (Some 5))))
    ∷ asked (Check 5)
    ∷ asked (Present 5)
    ∷ asked (Next 5 3)
    ∷ asked (Spare (conflicts (record { obstacle = BlossomNeedExpand (numbered 0 0 (Some 3)) } ∷ []) []))
    ∷ ours (Defect 3 1)
    ∷ ours (SetState 5 9 grows)
    ∷ ours (Clear 5)
    ∷ ours (SetState 3 0 grows)
    ∷ ours (Mark 3 filling)
    ∷ ours (Mark 4 floor)
    ∷ asked (Fills 3)
    ∷ asked (Floored 4)
    ∷ ours (Defect 3 10)
    ∷ ours (Mark 3 filling)
    ∷ ours (Fuse 5 3 4)
    ∷ ours (Defect 9 10)
    ∷ asked (At 3 0)
    ∷ []

pub woven : List Call → List Step → List Step
woven cs [] = []
woven cs (x ∷ xs) = map theirs cs ++ (x ∷ woven cs xs)

pub first_run : List Step
first_run = woven (Call.Defect 0 7 ∷ Call.Grow 0 (pos 3) ∷ []) steps

pub second_run : List Step
second_run = woven (Call.Clear 2 ∷ Call.Defect 1 8 ∷ Call.Defect 1 9 ∷ Call.Blossom 1 (record { unit = 1; slot = 0; serial = 1000 } ∷ []) [] ∷ Call.Fuse 2 0 1 ∷ []) steps

-- ---- the numbers that the watched patch is answered
pub numbers : map number_of (sees (opened 1) first_run) ≡ 0 ∷ 0 ∷ 0 ∷ 0 ∷ 0 ∷ 0 ∷ 0 ∷ 0 ∷ 0 ∷ 0 ∷ 0 ∷ 0 ∷ 0 ∷ 0 ∷ 0 ∷ 0 ∷ 0 ∷ 8 ∷ 8 ∷ 0 ∷ 0 ∷ 0 ∷ 0 ∷ 4 ∷ 8 ∷ 0 ∷ 8 ∷ 0 ∷ 0 ∷ 0 ∷ 0 ∷ 0 ∷ 26 ∷ 26 ∷ 3 ∷ 0 ∷ []
unfolding run written number_from numbered after seen present_in next_from present_of next_of spared pop_sparing read_by sees steps woven first_run
numbers = refl

-- ---- what the theorem asks of a run, as tests
fits : Patch → Patch → Step → Bool
fits a p (theirs c) = all (mine a) (units_named c)
fits a p (ours c) = all (mine p) (units_of c)
fits a p (asked r) = all (mine p) (read_of r)

one_fits : (a p : Patch) (x : Step) → fits a p x ≡ true → Fits a p x
unfolding fits
one_fits a p (theirs c) e = e
one_fits a p (ours c) e = e
one_fits a p (asked r) e = e

all_fit : (a p : Patch) (xs : List Step) → all (fits a p) xs ≡ true → AllFit a p xs
unfolding all
all_fit a p [] e = tt
all_fit a p (x ∷ xs) e = let t = and_true (fits a p x) (all (fits a p) xs) e in (one_fits a p x t.0, all_fit a p xs t.1)

unspent : Seen → Bool
unspent x = not (eqb (number_of x) 15)

all_fresh : (xs : List Seen) → all unspent xs ≡ true → Unworn xs
unfolding all unspent
all_fresh [] e = tt
all_fresh (x ∷ xs) e = let t = and_true (unspent x) (all unspent xs) e in (λ z. true≢false (sym t.0 ∙ ap not (eq-eqb (number_of x) 15 z)), all_fresh xs t.1)

-- ---- and the two runs show the same
first_fits : all (fits other watched) first_run ≡ true
unfolding all mine fits other watched steps woven first_run
first_fits = refl

second_fits : all (fits other watched) second_run ≡ true
unfolding all mine fits other watched steps woven second_run
second_fits = refl

first_fresh : all unspent (sees (opened 1) first_run) ≡ true
unfolding run written number_from numbered after seen present_in next_from present_of next_of spared pop_sparing read_by sees steps woven first_run unspent
first_fresh = refl

second_fresh : all unspent (sees (opened 1000) second_run) ≡ true
unfolding run written number_from numbered after seen present_in next_from present_of next_of spared pop_sparing read_by sees steps woven second_run unspent
second_fresh = refl

same_steps : own first_run ≡ own second_run
unfolding own steps woven first_run second_run
same_steps = refl

pub example : sees (opened 1) first_run ≡ sees (opened 1000) second_run
example = two_patches other watched disjoint 1 1000 (omega arith) (omega arith) first_run second_run (all_fit other watched first_run first_fits) (all_fit other watched second_run second_fits) same_steps
    (all_fresh (sees (opened 1) first_run) first_fresh) (all_fresh (sees (opened 1000) second_run) second_fresh)

-- ---- serials themselves differ: those of the handles that the patch was given
pub serials : Side → List Step → List ℕ
serials k xs = map (λ (h : Handle). h.serial) (reached k xs).table

pub first_serials : serials (opened 1) first_run ≡ 2 ∷ 4 ∷ 6 ∷ 8 ∷ 11 ∷ 14 ∷ 39 ∷ []
unfolding run written numbered after steps woven first_run reached serials
first_serials = refl

pub second_serials : serials (opened 1000) second_run ≡ 1003 ∷ 1006 ∷ 1009 ∷ 1012 ∷ 1017 ∷ 1022 ∷ 1071 ∷ []
unfolding run written numbered after steps woven second_run reached serials
second_serials = refl

-- ---- what the theorem leaves out, and why: a fuse that joins the patches, and serials that the other patch uses up
abbrev refused : Name
refused = record { unit = 0; slot = 0; number = None }

abbrev made_first : Name
made_first = record { unit = 3; slot = 0; number = Some 0 }

pub joined : sees (opened 1) (theirs (Call.Fuse 5 0 3) ∷ ours (Defect 3 1) ∷ []) ≡ answered 4 refused [] ∷ []
unfolding run written number_from after seen sees
joined = refl

pub used_up : sees (opened 4294967295) (theirs (Call.Defect 0 1) ∷ ours (Defect 3 1) ∷ []) ≡ answered 15 refused [] ∷ []
unfolding run written number_from after seen sees
used_up = refl

pub alone_here : sees (opened 1) (ours (Defect 3 1) ∷ []) ≡ answered 0 made_first (defect_added made_first ∷ []) ∷ []
unfolding run written number_from after seen sees
alone_here = refl

-- some of what is seen: both checks pass, the outermost blossom of the first defect with two links, the vertices of a blossom; then, expanded, the sum
-- is not the total, five nodes are present, and the one at or after index 3 is the first blossom
abbrev seen_at : ℕ → Seen
seen_at k = get_or (sees (opened 1) first_run) k (counted (0, 0))

pub looks : (seen_at 9 ≡ judged (0, (0, 0))) × (seen_at 10 ≡ linked (0, (record { unit = 5; slot = 0; number = Some 5 }, 2))) × (seen_at 11 ≡ listed (0, (4, 10 ∷ 11 ∷ 12 ∷ 20 ∷ []))) × (seen_at 19 ≡ judged (0, (5, 0)))
    × (seen_at 20 ≡ counted (0, 5)) × (seen_at 21 ≡ found (0, (3, Some (record { unit = 3; slot = 3; number = Some 3 }))))
unfolding run written number_from numbered after seen present_in next_from present_of next_of spared pop_sparing read_by sees steps woven first_run
looks = (refl, refl, refl, refl, refl, refl)
