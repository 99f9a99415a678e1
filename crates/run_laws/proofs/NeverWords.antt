-- A serial is never used again, of the stored words: in any run of public calls on words that hold a sound bench, as set-up's do, the next serial never
-- falls, the handles that calls answered as made are all different, and one that names no node any more never names one again. Assumes nothing.
use Rattle.std.specs.Prelude.{None, Some}
use Prim.Native.Nat.{ℕ, ◌≤◌, ◌<◌}
use mathlib.Core.Path.{◌≡◌, refl, sym, ◌∙◌, ap, subst}
use mathlib.Core.List.{List, [], ◌∷◌, ◌++◌}
use native.Mathlib.Omega.{arith}
use lib.ListN.{get_or}
use Rattle.ledger_spec.specs.Bench.{Handle, Node, Bench}
use Rattle.ledger_spec.specs.Look.{slot_of, node_named}
use Rattle.ledger_spec.specs.Calls.{Call}
use Rattle.ledger_spec.specs.Answers.{answer}
use Rattle.ledger_spec.specs.Book.{Book, turn}
use Rattle.ledger_spec.specs.Named.{handle_named}
use Rattle.ledger_spec.specs.Knit.{Has}
use Rattle.ledger_spec.proofs.Says.{says}
use Rattle.ledger_spec.proofs.Passed.{node_has}
use Rattle.bench_words.specs.Store.{node_at as row_at, interface_at}
use Rattle.bench_views.specs.View.{view}
use Rattle.bench_views.specs.Fit.{SoundWords}
use Rattle.bench_views.proofs.Views.{view_next}
use Rattle.call_told.specs.declared.Answer.{Answer}
use Rattle.run_laws.specs.Ran.{Ran, plainly}
use Rattle.ledger_laws.proofs.Made.{made_of, made, Different}
use Rattle.ledger_laws.proofs.Never.{next_never_falls, never_again, made_different}
use Rattle.ledger_laws.proofs.Stale.{Nameless, nameless}
use Rattle.run_laws.proofs.Running.{Followed, follows}

-- the handles that the code's answers to calls give as made
unfoldable pub made_in : List Call → List Answer → List Handle
made_in [] rs = []
made_in (c ∷ cs) [] = []
made_in (c ∷ cs) (r ∷ rs) = made_of c r.number (handle_named r.node) ++ made_in cs rs

-- the code's answers name the handles that the plain ledger's do
made_same : (k : Book) (cs : List Call) → made_in cs (plainly k cs) ≡ made k cs
unfolding made_in made plainly
made_same k [] = refl
made_same k (c ∷ cs) = ap (λ (l : List Handle). made_of c (answer k.bench c).number (answer k.bench c).node ++ l) (made_same (turn k c) cs)

-- the bench's next serial is word 0
next_is : (b : List ℕ) → (view b).next ≡ get_or b 0 0
next_is b = view_next (get_or b 0 0) (interface_at b) (row_at b)

module _ {b : List ℕ} (W : SoundWords b) {cs : List Call} {rs : List Answer} {b' : List ℕ} (R : Ran b cs rs b') where
  abbrev book : Book
  book = record { bench = view b; gone = λ w. [] }

  followed : Followed book cs rs b'
  followed = follows R W book refl

  -- word 0
  pub next_word : get_or b 0 0 ≤ get_or b' 0 0
  next_word = omega (arith, next_never_falls book cs, ap (λ (d : Bench). d.next) followed.seen, next_is b, next_is b')

  -- the handles that this run's calls answered as made
  pub made_words : Different (made_in cs rs)
  made_words = subst Different (sym (ap (made_in cs) followed.answers ∙ made_same book cs)) (made_different book cs)

  -- a handle of a serial given out before, naming no node of the words, names none of the words after
  pub never_words : (h : Handle) → h.serial < get_or b 0 0 → node_named (view b) h ≡ None → node_named (view b') h ≡ None
  never_words h l e = ap (λ (d : Bench). node_named d h) followed.seen ∙ never_again book cs h (omega (arith, l, next_is b)) e

  -- so every read of a node answers 8 there, belonging no, and every call that names it is refused
  pub stale_words : (h : Handle) → h.serial < get_or b 0 0 → node_named (view b) h ≡ None → Nameless (view b') h
  stale_words h l e = nameless (view b') h (never_words h l e)

-- a handle that named a node of the words once, and later none, names none ever after
pub gone_words : {b b₁ b₂ : List ℕ} (W : SoundWords b) {cs ds : List Call} {rs qs : List Answer} → Ran b cs rs b₁ → Ran b₁ ds qs b₂
    → (h : Handle) (n : Node) → node_named (view b) h ≡ Some n → node_named (view b₁) h ≡ None → Nameless (view b₂) h
gone_words {b} {b₁} W R Q h n e f = stale_words (followed W R).words Q h (omega (arith, next_word W R, low)) f
  where
    H : Has (slot_of (view b)) h n
    H = node_has (view b) h n e

    low : h.serial < get_or b 0 0
    low = omega (arith, (says (view b) W.sound).sewn.knit.low h.unit h.slot n H.stands, H.serial, next_is b)
