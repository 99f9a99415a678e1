-- Ask 13: two patches share a bench, and neither disturbs what the other sees. Assumes nothing.
use Rattle.std.specs.Prelude.{ℕ, ◌<◌, ◌^◌, ◌≡◌, ◌≢◌, List, [], ◌∷◌, length, Some}
use Rattle.ledger_spec.specs.Numbers.{WORN}
use Rattle.patch_laws.specs.Patch.{Patch, Apart, Within, units_named, units_of, Table, given, name_of}
use Rattle.patch_laws.specs.Runs.{Read, Value, Outer, Below, First, Vertices, Belongs, At, Next, Sum, Speed, Count, Present, Fills, Floored, Check, Strict, Picture, Empty, Active, Growth, Peek, Pop, Spare, Add, Extend, Seen, number_of, Step, theirs, ours, asked, sees, reached, opened, own}

-- the interfaces that a read names; a node's handle is the patch's by its number
abbrev pub read_of : Read → List ℕ
read_of (Value n) = []
read_of (Outer n) = []
read_of (Below n) = []
read_of (First n) = []
read_of (Vertices n out) = []
read_of (Belongs u n) = u ∷ []
read_of (At u k) = u ∷ []
read_of (Next u k) = u ∷ []
read_of (Sum u) = u ∷ []
read_of (Speed u) = u ∷ []
read_of (Count u) = u ∷ []
read_of (Present u) = u ∷ []
read_of (Fills u) = u ∷ []
read_of (Floored u) = u ∷ []
read_of (Check u) = u ∷ []
read_of (Strict u) = u ∷ []
read_of (Picture u a out) = u ∷ []
read_of (Empty g) = []
read_of (Active g) = []
read_of (Growth g) = []
read_of (Peek g) = []
read_of (Pop g) = []
read_of (Spare g) = []
read_of (Add g o) = []
read_of (Extend g h) = []

-- A step names interfaces of its own patch only, a being the other patch and p the watched one: so no fuse joins them. The other's handles may be any,
-- and its calls may be refused or not.
abbrev pub Fits : Patch → Patch → Step → Type 0
Fits a p (theirs c) = Within a (units_named c)
Fits a p (ours c) = Within p (units_of c)
Fits a p (asked r) = Within p (read_of r)

abbrev pub AllFit : Patch → Patch → List Step → Type 0
AllFit a p [] = Unit {0}
AllFit a p (x ∷ xs) = Fits a p x × AllFit a p xs

-- no answer to the watched patch is WORN; whether the other patch meets it does not matter
abbrev pub Unworn : List Seen → Type 0
Unworn [] = Unit {0}
Unworn (x ∷ xs) = (number_of x ≢ WORN) × Unworn xs

-- Two runs from set-up, with any first serials, whose watched patch makes the same calls and reads, show it the same: numbers, names, notices, values,
-- verdicts and groups. The other patch's calls, how many and between which steps, are any in each. A bench has no settings of its own; one that is
-- added must be the same in both.
abbrev pub TwoPatches : Type 0
TwoPatches =
    (a p : Patch) → Apart a p → (m n : ℕ) → m < 2 ^ 32 → n < 2 ^ 32 → (xs ys : List Step) → AllFit a p xs → AllFit a p ys
    → own xs ≡ own ys → Unworn (sees (opened m) xs) → Unworn (sees (opened n) ys) → sees (opened m) xs ≡ sees (opened n) ys

-- and numbers lose nothing: after any run, the handle that the patch was given as the j-th is written j
abbrev pub RightNumbers : Type 0
RightNumbers = (n : ℕ) (xs : List Step) (j : ℕ) → let t : Table = (reached (opened n) xs).table in j < length t → (name_of t (given t j)).number ≡ Some j
