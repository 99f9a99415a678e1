-- A run of two patches on one bench, and what the watched one sees of it. Assumes nothing.
use Rattle.std.specs.Prelude.{ℕ, zero, suc, Bool, List, [], ◌∷◌, ◌++◌, map, ℤ, None, Option, Some}
use Rattle.kinds.specs.declared.Obstacle.{Obstacle}
use Rattle.ledger_spec.specs.Bench.{Handle, State, Bench}
use Rattle.ledger_spec.specs.Calls.{Call, set_up_call}
use Rattle.ledger_spec.specs.Notices.{Notice}
use Rattle.ledger_spec.specs.Groups.{Group}
use Rattle.ledger_spec.specs.GroupCalls.{is_empty, is_active, growth_of, peek, pop, add, extend}
use Rattle.ledger_spec.specs.Answers.{Answer, answer, Read as Asking, read, sum_read, speed_read, count_read, index_read, belongs_read, value_read, outer_read, below_read, first_read, vertices_read, fills_read, floored_read, check_read, strict_read}
use Rattle.ledger_sparing.specs.Sparing.{pop_sparing}
use Rattle.picture_spec.specs.Picture.{picture_read}
use Rattle.read_present.specs.Present.{present_read, next_read}
use Rattle.patch_laws.specs.Obstacles.{map_obstacle, map_taken, map_group, given_code, number_code}
use Rattle.patch_laws.specs.Patch.{Script, Defect, Blossom, Expand, SetState, Grow, Fuse, Clear, Mark, Table, given, written, Name, name_of}

-- ---- what the patch can ask of a node that it made, and of an interface: every read of the ledger. The calls on groups change no bench, and those
-- that are lent one only read it; groups are the patch's own, written by numbers.
pub data Read : Type 0 where
  Value Outer Below First : (node : ℕ) → Read
  Vertices : (node : ℕ) (room : List ℕ) → Read
  Belongs : (unit node : ℕ) → Read
  At Next : (unit index : ℕ) → Read
  Sum Speed Count Present Fills Floored Check Strict : (unit : ℕ) → Read
  Picture : (unit : ℕ) (abbreviated : Bool) (room : List ℕ) → Read
  Empty Active Growth Peek Pop Spare : Group → Read
  Add : Group → Obstacle → Read
  Extend : Group → Group → Read

-- ---- what it sees: a notice, an answer, a read's answer, with names in place of handles
pub data Heard : Type 0 where
  defect_added blossom_added blossom_removed : Name → Heard
  state_set : Name → State → Heard
  shrink_prepared : List Name → Heard
  grown : ℤ → Heard

abbrev pub heard : Table → Notice → Heard
heard t (Notice.defect_added h) = defect_added (name_of t h)
heard t (Notice.state_set h s) = state_set (name_of t h) s
heard t (Notice.shrink_prepared hs) = shrink_prepared (map (name_of t) hs)
heard t (Notice.blossom_added h) = blossom_added (name_of t h)
heard t (Notice.blossom_removed h) = blossom_removed (name_of t h)
heard t (Notice.grown l) = grown l

pub data Seen : Type 0 where
  answered : (number : ℕ) (node : Name) (notices : List Heard) → Seen
  amount : ℕ × ℤ → Seen
  counted : ℕ × ℕ → Seen
  truth : ℕ × Bool → Seen
  named : ℕ × Name → Seen
  linked : ℕ × (Name × ℕ) → Seen
  indexed : ℕ × Option Name → Seen
  found : ℕ × (ℕ × Option Name) → Seen
  listed : ℕ × (ℕ × List ℕ) → Seen
  judged : ℕ × (ℕ × ℕ) → Seen
  measured : ℕ × Option ℤ → Seen
  peeked : ℕ × Option Obstacle → Seen
  taken : ℕ × (Option Obstacle × Group) → Seen
  kept : ℕ × Group → Seen

abbrev pub number_of : Seen → ℕ
number_of (answered n h ns) = n
number_of (amount r) = r.0
number_of (counted r) = r.0
number_of (truth r) = r.0
number_of (named r) = r.0
number_of (linked r) = r.0
number_of (indexed r) = r.0
number_of (found r) = r.0
number_of (listed r) = r.0
number_of (judged r) = r.0
number_of (measured r) = r.0
number_of (peeked r) = r.0
number_of (taken r) = r.0
number_of (kept r) = r.0

-- a slot's handle; nothing where the slot was emptied
abbrev pub name_in : Table → Option Handle → Option Name
name_in t None = None
name_in t (Some h) = Some (name_of t h)

-- the patch's group as the ledger has it, and back
abbrev pub lent : Table → Group → Group
lent t g = map_group (given_code t) g

abbrev pub back : Table → Group → Group
back t g = map_group (number_code t) g

-- ---- one side of the comparison: the bench, and the handles that the patch was given on it
pub record Side : Type 0 where
  pub bench : Bench
  pub table : Table

-- an accepted creating call hands out its node
abbrev pub made : Script → ℕ → Handle → Table
made (Defect u v) zero h = h ∷ []
made (Defect u v) (suc n) h = []
made (Blossom u ks ts) zero h = h ∷ []
made (Blossom u ks ts) (suc n) h = []
made (Expand u k) n h = []
made (SetState u k s) n h = []
made (Grow u l) n h = []
made (Fuse p l r) n h = []
made (Clear u) n h = []
made (Mark u k) n h = []

abbrev pub answer_to : Side → Script → Answer
answer_to k c = answer k.bench (written k.table c)

unfoldable pub after : Side → Script → Side
after k c = record { bench = (answer_to k c).bench; table = k.table ++ made c (answer_to k c).number (answer_to k c).node }

unfoldable pub seen : Side → Script → Seen
seen k c = answered (answer_to k c).number (name_of (after k c).table (answer_to k c).node) (map (heard (after k c).table) (answer_to k c).notices)

-- What a read of a bench shows, the patch's nodes being those of a table. `asks` says what a read answers, of the bench as it is here, or of the words
-- that hold it: its own answer, or BROKEN and its zero.
unfoldable pub read_by : ((A : Type 0) → Asking A → ℕ × A) → Bench → Table → Read → Seen
read_by asks b t (Value n) = amount (asks ℤ (value_read b (given t n)))
read_by asks b t (Outer n) = let r : ℕ × (Handle × ℕ) = asks (Handle × ℕ) (outer_read b (given t n)) in linked (r.0, (name_of t r.1.0, r.1.1))
read_by asks b t (Below n) = let r : ℕ × Handle = asks Handle (below_read b (given t n)) in named (r.0, name_of t r.1)
read_by asks b t (First n) = counted (asks ℕ (first_read b (given t n)))
read_by asks b t (Vertices n out) = listed (asks (ℕ × List ℕ) (vertices_read b (given t n) out))
read_by asks b t (Belongs u n) = truth (asks Bool (belongs_read b u (given t n)))
read_by asks b t (At u k) = let r : ℕ × Option Handle = asks (Option Handle) (index_read b u k) in indexed (r.0, name_in t r.1)
read_by asks b t (Next u k) = let r : ℕ × (ℕ × Option Handle) = asks (ℕ × Option Handle) (next_read b u k) in found (r.0, (r.1.0, name_in t r.1.1))
read_by asks b t (Sum u) = amount (asks ℤ (sum_read b u))
read_by asks b t (Speed u) = amount (asks ℤ (speed_read b u))
read_by asks b t (Count u) = counted (asks ℕ (count_read b u))
read_by asks b t (Present u) = counted (asks ℕ (present_read b u))
read_by asks b t (Fills u) = truth (asks Bool (fills_read b u))
read_by asks b t (Floored u) = truth (asks Bool (floored_read b u))
read_by asks b t (Check u) = judged (asks (ℕ × ℕ) (check_read b u))
read_by asks b t (Strict u) = judged (asks (ℕ × ℕ) (strict_read b u))
read_by asks b t (Picture u a out) = listed (asks (ℕ × List ℕ) (picture_read b u a out))
read_by asks b t (Empty g) = truth (is_empty (lent t g))
read_by asks b t (Active g) = truth (is_active (lent t g))
read_by asks b t (Growth g) = measured (growth_of (lent t g))
read_by asks b t (Peek g) = let r : ℕ × Option Obstacle = peek (lent t g) in peeked (r.0, map_taken (number_code t) r.1)
read_by asks b t (Pop g) = let r : ℕ × (Option Obstacle × Group) = pop (lent t g) in taken (r.0, (map_taken (number_code t) r.1.0, back t r.1.1))
read_by asks b t (Spare g) = let r : ℕ × (Option Obstacle × Group) = pop_sparing (lent t g) in taken (r.0, (map_taken (number_code t) r.1.0, back t r.1.1))
read_by asks b t (Add g o) = let r : ℕ × Group = asks Group (record { own = add b (lent t g) (map_obstacle (given_code t) o); zero = lent t g }) in kept (r.0, back t r.1)
read_by asks b t (Extend g h) = let r : ℕ × Group = asks Group (record { own = extend b (lent t g) (lent t h); zero = lent t g }) in kept (r.0, back t r.1)

abbrev pub read_at : Bench → Table → Read → Seen
read_at b t r = read_by (λ A q. read b q) b t r

abbrev pub told : Side → Read → Seen
told k r = read_at k.bench k.table r

-- ---- a run: calls of the other patch, calls and reads of the watched one
pub data Step : Type 0 where
  theirs : Call → Step
  ours : Script → Step
  asked : Read → Step

unfoldable pub sees : Side → List Step → List Seen
sees k [] = []
sees k (theirs c ∷ xs) = sees (record { bench = (answer k.bench c).bench; table = k.table }) xs
sees k (ours c ∷ xs) = seen k c ∷ sees (after k c) xs
sees k (asked r ∷ xs) = told k r ∷ sees k xs

-- where it ends
unfoldable pub reached : Side → List Step → Side
reached k [] = k
reached k (theirs c ∷ xs) = reached (record { bench = (answer k.bench c).bench; table = k.table }) xs
reached k (ours c ∷ xs) = reached (after k c) xs
reached k (asked r ∷ xs) = reached k xs

-- from set-up with its first serial, and no handles
abbrev pub opened : ℕ → Side
opened n = record { bench = (set_up_call n).bench; table = [] }

-- the watched patch's own steps
unfoldable pub own : List Step → List Step
own [] = []
own (theirs c ∷ xs) = own xs
own (ours c ∷ xs) = ours c ∷ own xs
own (asked r ∷ xs) = asked r ∷ own xs
