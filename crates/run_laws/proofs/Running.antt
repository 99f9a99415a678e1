-- Any run of public calls from set-up answers as the plain ledger does, never meets BROKEN, and leaves words whose stored sums and speeds are right;
-- growing in two steps leaves the words that one step leaves. Assumes nothing.
use Rattle.std.specs.Prelude.{None}
use Prim.Native.Nat.{ℕ, ◌<◌}
use mathlib.Core.Path.{◌≡◌, refl, sym, ◌∙◌, ap, ap₂, subst}
use mathlib.Core.Logic.{◌≢◌}
use mathlib.Core.Bool.{true≢false}
use mathlib.Core.List.{List, [], ◌∷◌}
use lib.ListN.{get_or}
use lib.IntN.{ℤ, ◌+ℤ◌}
use Rattle.bench_words.specs.Codec.{sum_offset, speed_offset}
use Rattle.bench_words.specs.Store.{node_at, interface_at}
use Rattle.ledger_spec.specs.Bench.{Bench}
use Rattle.ledger_spec.specs.Bench as plain
use Rattle.ledger_spec.specs.Look.{interface, top}
use Rattle.ledger_spec.specs.Calls.{Call, Grow}
use Rattle.ledger_spec.specs.Answers.{answer}
use Rattle.ledger_spec.specs.Book.{Book, turn, turns, new_book}
use Rattle.ledger_spec.specs.Account.{tree_sum, values_at, rates_at, Right}
use Rattle.ledger_laws.proofs.Always.{broken_only}
use Rattle.ledger_laws.proofs.Turns.{right}
use Rattle.ledger_laws.proofs.Demand.{grow_called}
use Rattle.bench_views.specs.View.{view, off, up_seen}
use Rattle.bench_views.specs.Fit.{SoundWords}
use Rattle.bench_views.proofs.Views.{interface_in_lem, view_parent}
use Rattle.sound_bench.specs.Sound.{sound_words}
use Rattle.sound_bench.proofs.Theorem.{sound_holds}
use Rattle.call_set_up.specs.Opened.{Opened}
use Rattle.outcomes.proofs.Outcomes.{sound_words_same, sound_after, seen_after, judged_with}
use Rattle.call_told.specs.declared.Answer.{Answer}
use Rattle.call_told.specs.Shown.{shown}
use Rattle.call_told.specs.Told.{Told, Called}
use Rattle.run_laws.specs.Ran.{Ran, stop, next, plainly}

-- ---- one call on sound words
module _ {b : List ℕ} (W : SoundWords b) {c : Call} {r : Answer} {b' : List ℕ} (x : Called (sound_words b) b c r b') where
  on_sound : Told b c r b'
  on_sound = judged_with shown (sound_holds b W) x

  pub says : r ≡ shown (answer (view b) c)
  says = on_sound.1

  pub number_is : (answer (view b) c).number ≡ r.number
  number_is = sym on_sound.0.number

  pub shows : view b' ≡ (answer (view b) c).bench
  shows = seen_after on_sound.0

  pub stays_sound : SoundWords b'
  stays_sound = sound_after W x.0

  pub not_broken : r.number ≢ 2
  not_broken e = true≢false (sym W.sound ∙ broken_only (view b) c (number_is ∙ e))

-- ---- any calls
abbrev pub Unbroken : List Answer → Type 0
Unbroken [] = Unit {0}
Unbroken (r ∷ rs) = (r.number ≢ 2) × Unbroken rs

pub record Followed (k : Book) (cs : List Call) (rs : List Answer) (b : List ℕ) : Type 0 where
  pub answers : rs ≡ plainly k cs
  pub words : SoundWords b
  pub seen : view b ≡ (turns k cs).bench
  pub unbroken : Unbroken rs

pub follows : {b : List ℕ} {cs : List Call} {rs : List Answer} {b' : List ℕ} → Ran b cs rs b' → SoundWords b → (k : Book) → view b ≡ k.bench → Followed k cs rs b'
unfolding plainly turns turn
follows stop W k e = record { answers = refl; words = W; seen = e; unbroken = tt }
follows (next {c = c} x R) W k e =
    let F = follows R (stays_sound W x) (turn k c) (shows W x ∙ ap (λ (d : Bench). (answer d c).bench) e) in
    record {
      answers = ap₂ ◌∷◌ (says W x ∙ ap (λ (d : Bench). shown (answer d c)) e) F.answers;
      words = F.words;
      seen = F.seen;
      unbroken = (not_broken W x, F.unbroken);
    }

-- ---- from set-up
module _ {n : ℕ} {b : List ℕ} (O : Opened n b) {cs : List Call} {rs : List Answer} {b' : List ℕ} (R : Ran b cs rs b') where
  pub from_set_up : Followed (new_book n) cs rs b'
  from_set_up = follows R O.words (new_book n) O.seen

  -- the book on the words that are left
  abbrev pub book : Book
  book = record { bench = view b'; gone = (turns (new_book n) cs).gone }

  -- demand 3, of the stored words: sum and speed of each interface without a parent
  pub record RightWords (i : ℕ) : Type 0 where
    pub sum : off sum_offset (interface_at b' i).sum ≡ tree_sum (top (view b')) (values_at book) i
    pub speed : off speed_offset (interface_at b' i).speed ≡ tree_sum (top (view b')) (rates_at book) i

  pub right_words : (i : ℕ) → i < 8 → (interface_at b' i).parent ≡ None → RightWords i
  right_words i l t =
      let e : (turns (new_book n) cs).bench ≡ view b' = sym from_set_up.seen in
      let f : turns (new_book n) cs ≡ book = λ j. record { bench = e j; gone = (turns (new_book n) cs).gone } in
      let free : (interface (turns (new_book n) cs).bench i).parent ≡ None
      = ap (λ (d : Bench). (interface d i).parent) e ∙ view_parent (get_or b' 0 0) (interface_at b') (node_at b') i l ∙ ap up_seen t in
      let Q : Right book i = subst (λ (k : Book). Right k i) f (right n cs i l free) in
      let at = interface_in_lem (get_or b' 0 0) (interface_at b') (node_at b') i l in
      record { sum = sym (ap (λ (g : plain.Interface). g.sum) at) ∙ Q.sum; speed = sym (ap (λ (g : plain.Interface). g.speed) at) ∙ Q.speed }

-- ---- growing by a and then by c, both accepted: growing by a + c is accepted and leaves the same words
module _ {b : List ℕ} (W : SoundWords b) {u : ℕ} {a c : ℤ} {r q p : Answer} {b₁ b₂ b₃ : List ℕ}
    (x : Called (sound_words b) b (Grow u a) r b₁) (y : Called (sound_words b₁) b₁ (Grow u c) q b₂) (z : Called (sound_words b) b (Grow u (a +ℤ c)) p b₃) where
  pub grown_once : r.number ≡ 0 → q.number ≡ 0 → (p.number ≡ 0) × (b₂ ≡ b₃)
  grown_once e f =
      let W₁ = stays_sound W x in
      let W₂ = stays_sound W₁ y in
      let W₃ = stays_sound W z in
      let g : (answer (view b) (Grow u a)).number ≡ 0 = number_is W x ∙ e in
      let h : (answer (answer (view b) (Grow u a)).bench (Grow u c)).number ≡ 0 = subst (λ (d : Bench). (answer d (Grow u c)).number ≡ 0) (shows W x) (number_is W₁ y ∙ f) in
      let G = grow_called (view b) u a c g h in (
        sym (number_is W z) ∙ G.0,
        sound_words_same W₂ W₃ (shows W₁ y ∙ ap (λ (d : Bench). (answer d (Grow u c)).bench) (shows W x) ∙ G.1 ∙ sym (shows W z)),
      )
