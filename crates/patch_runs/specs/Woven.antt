-- A run of two patches over stored words: each public call is lent the words that the one before left and meets its contract, each read answers by its
-- contract of the words as they are; and what the watched patch sees of it. Assumes nothing.
use Rattle.std.specs.Prelude.{ℕ, ◌<◌, ◌^◌, ◌≡◌, List, [], ◌∷◌, ◌++◌, map}
use Rattle.ledger_spec.specs.Calls.{Call}
use Rattle.ledger_spec.specs.Named.{handle_named}
use Rattle.bench_views.specs.View.{view}
use Rattle.sound_bench.specs.Sound.{sound_words}
use Rattle.sound_lent.specs.Verdict.{read_words}
use Rattle.outcome_notices.specs.Laid.{notices_of}
use Rattle.call_set_up.specs.Opened.{Opened}
use Rattle.call_told.specs.declared.Answer.{Answer}
use Rattle.call_told.specs.Told.{Called}
use Rattle.patch_laws.specs.Patch.{Patch, Apart, Script, Table, written, name_of}
use Rattle.patch_laws.specs.Runs.{Read, Seen, answered, heard, made, read_by, Step, theirs, ours, asked, own}
use Rattle.patch_laws.specs.Statement.{AllFit, Unworn}

-- the handles that the patch was given, after a call of its own was answered r; and what it sees of that answer
abbrev pub table_after : Table → Script → Answer → Table
table_after t c r = t ++ made c r.number (handle_named r.node)

abbrev pub seen_of : Table → Answer → Seen
seen_of t r = answered r.number (name_of t (handle_named r.node)) (map (heard t) (notices_of r.notices))

-- what it sees of a read: the contract of every public read, and of add and extend, is `read_words` of what they ask
abbrev pub read_seen : List ℕ → Table → Read → Seen
read_seen b t q = read_by (λ A x. read_words b x) (view b) t q

-- from words b and the patch's handles t: the steps, and what the patch sees
pub data Woven : List ℕ → Table → List Step → List Seen → Type 0 where
  stop : {b : List ℕ} {t : Table} → Woven b t [] []
  other : {b b' : List ℕ} {t : Table} {c : Call} {r : Answer} {xs : List Step} {ys : List Seen} → Called (sound_words b) b c r b' → Woven b' t xs ys → Woven b t (theirs c ∷ xs) ys
  call : {b b' : List ℕ} {t : Table} {c : Script} {r : Answer} {xs : List Step} {ys : List Seen}
      → Called (sound_words b) b (written t c) r b' → Woven b' (table_after t c r) xs ys → Woven b t (ours c ∷ xs) (seen_of (table_after t c r) r ∷ ys)
  read : {b : List ℕ} {t : Table} {q : Read} {xs : List Step} {ys : List Seen} → Woven b t xs ys → Woven b t (asked q ∷ xs) (read_seen b t q ∷ ys)

-- Two runs of the public calls and reads from set-up's own words, with any first serials, whose watched patch makes the same calls and reads and is never
-- answered WORN, show it the same; whatever the other patch does on interfaces of its own.
abbrev pub TwoRuns : Type 0
TwoRuns =
    (a p : Patch) → Apart a p → (m n : ℕ) → m < 2 ^ 32 → n < 2 ^ 32 → (b d : List ℕ) → Opened m b → Opened n d → (xs ys : List Step) (zs ws : List Seen)
    → Woven b [] xs zs → Woven d [] ys ws → AllFit a p xs → AllFit a p ys → own xs ≡ own ys → Unworn zs → Unworn ws → zs ≡ ws
