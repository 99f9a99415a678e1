-- No second answer: two results that meet a contract have one number, one bench, one written slice, and hold the same bytes. Only the bytes of the lent line
-- past those held are left open. Assumes nothing.
use Prim.Native.Nat.{ℕ, ◌≤◌}
use mathlib.Core.Path.{◌≡◌, refl, sym, ap, ◌∙◌}
use mathlib.Core.Logic.{by_cases}
use mathlib.Core.Bool.{Bool, true, false}
use mathlib.Core.List.{List}
use native.Mathlib.Decide.{ℕ_discrete}
use native.Mathlib.Omega.{arith}
use lib.ListN.{length, take, replicate, length-replicate}
use lib.Seq.{length-take-le}
use Rattle.bench_views.specs.View.{view}
use Rattle.bench_views.specs.Fit.{SoundWords}
use Rattle.bench_views.proofs.Unique.{words_same}
use Rattle.bench_views.proofs.Fits.{fit_of}
use Rattle.text_chunks.specs.Chunks.{left}
use Rattle.text_numbers.specs.declared.Reply.{Reply}
use Rattle.text_numbers.specs.Numbers.{numbers_of}
use Rattle.text_calls.specs.Turned.{Turned}
use Rattle.ledger_spec.specs.Bench.{set_up}
use Rattle.ledger_spec.specs.Grammar.{Line, line_of}
use Rattle.text_sessions.specs.Session.{ChunkDone, OpeningDone, Finished}
use Rattle.sound_bench.specs.Sound.{sound_words}
use Rattle.link_text.specs.Text.{ChunkBy, ChunkOn, OpeningBy, LineOn, EndBy}

same_bench : {b' b'' : List ℕ} → SoundWords b' → SoundWords b'' → view b' ≡ view b'' → b' ≡ b''
same_bench {b'} {b''} x y e = words_same b' b'' x.canon y.canon (fit_of b' x).within e

-- so many bytes are held as there are of the line
held_once : (p buf buf' : List ℕ) (h k : ℕ) → length buf ≡ 1024 → length buf' ≡ 1024 → h ≤ 1024 → k ≤ 1024 → take h buf ≡ p → take k buf' ≡ p → h ≡ k
held_once p buf buf' h k l m i j e f =
    sym (length-take-le h buf (omega (arith, l, i))) ∙ (ap length (e ∙ sym f) ∙ length-take-le k buf' (omega (arith, m, j)))

-- the bench, what was written and what is held
pub record Same (b' buf' out' b'' buf'' out'' : List ℕ) (n held' wrote m held'' wrote'' : ℕ) : Type 0 where
  pub number : n ≡ m
  pub bench : b' ≡ b''
  pub written : out' ≡ out''
  pub count : wrote ≡ wrote''
  pub held : held' ≡ held''
  pub bytes : take held' buf' ≡ take held'' buf''

module _ {b chunk p out b' buf' out' b'' buf'' out'' : List ℕ} {n held' wrote m held'' wrote'' : ℕ} where
  done_once : ChunkDone b chunk p out b' buf' out' held' wrote → ChunkDone b chunk p out b'' buf'' out'' held'' wrote'' → n ≡ m
      → Same b' buf' out' b'' buf'' out'' n held' wrote m held'' wrote''
  done_once x y e =
      let a = x.answered in
      let c = y.answered in
      record {
        number = e;
        bench = same_bench x.words y.words (a.bench ∙ sym c.bench);
        written = a.text.stands ∙ sym c.text.stands;
        count = a.text.next ∙ sym c.text.next;
        held = held_once (left p chunk) buf' buf'' held' held'' a.long c.long a.short c.short a.kept c.kept;
        bytes = a.kept ∙ sym c.kept;
      }

module _ {chunk p out b' buf' out' b'' buf'' out'' : List ℕ} {n held' wrote m held'' wrote'' : ℕ} where
  opened_once : OpeningDone chunk p out b' buf' out' held' wrote → OpeningDone chunk p out b'' buf'' out'' held'' wrote'' → n ≡ m
      → Same b' buf' out' b'' buf'' out'' n held' wrote m held'' wrote''
  opened_once x y e =
      let a = x.answered in
      let c = y.answered in
      record {
        number = e;
        bench = same_bench x.words y.words (a.bench ∙ sym c.bench);
        written = a.text.stands ∙ sym c.text.stands;
        count = a.text.next ∙ sym c.text.next;
        held = held_once (left p chunk) buf' buf'' held' held'' a.long c.long a.short c.short a.kept c.kept;
        bytes = a.kept ∙ sym c.kept;
      }

module _ {b chunk buf : List ℕ} {held : ℕ} {out b' buf' out' b'' buf'' out'' : List ℕ} {n held' wrote m held'' wrote'' : ℕ} where
  pub chunk_once : ChunkBy b chunk buf held out b' buf' out' n held' wrote → ChunkBy b chunk buf held out b'' buf'' out'' m held'' wrote''
      → Same b' buf' out' b'' buf'' out'' n held' wrote m held'' wrote''
  chunk_once x y = by_cases (ℕ_discrete n 0)
      (λ (z : n ≡ 0). done_once (x.done z) (y.done (sym one ∙ z)) one)
      (λ (z : n ≡ 0 → ⊥).
      let r = x.refused z in
      let s = y.refused (λ w. z (one ∙ w)) in
      let same-held = r.3 ∙ sym s.3 in
      record {
        number = one;
        bench = r.0 ∙ sym s.0;
        written = r.2 ∙ sym s.2;
        count = r.4 ∙ sym s.4;
        held = same-held;
        bytes = λ i. take (same-held i) ((r.1 ∙ sym s.1) i);
      })
    where
      one : n ≡ m
      one = x.number ∙ sym y.number

  pub opening_once : OpeningBy b chunk buf held out b' buf' out' n held' wrote → OpeningBy b chunk buf held out b'' buf'' out'' m held'' wrote''
      → Same b' buf' out' b'' buf'' out'' n held' wrote m held'' wrote''
  opening_once x y = by_cases (ℕ_discrete n 0)
      (λ (z : n ≡ 0). opened_once (x.done z) (y.done (sym one ∙ z)) one)
      (λ (z : n ≡ 0 → ⊥).
      let r = x.refused z in
      let s = y.refused (λ w. z (one ∙ w)) in
      let same-held = r.3 ∙ sym s.3 in
      record {
        number = one;
        bench = r.0 ∙ sym s.0;
        written = r.2 ∙ sym s.2;
        count = r.4 ∙ sym s.4;
        held = same-held;
        bytes = λ i. take (same-held i) ((r.1 ∙ sym s.1) i);
      })
    where
      one : n ≡ m
      one = x.number ∙ sym y.number

  pub chunk_on_once : ChunkOn b chunk buf held out b' buf' out' n held' wrote → ChunkOn b chunk buf held out b'' buf'' out'' m held'' wrote''
      → Same b' buf' out' b'' buf'' out'' n held' wrote m held'' wrote''
  chunk_on_once x y = go (sound_words b) refl
    where
      go : (s : Bool) → sound_words b ≡ s → Same b' buf' out' b'' buf'' out'' n held' wrote m held'' wrote''
      go true e = chunk_once (x.sound e) (y.sound e)
      go false e =
          let r = x.broken e in
          let s = y.broken e in
          let same-held = r.4 ∙ sym s.4 in
          record {
            number = r.0 ∙ sym s.0;
            bench = r.1 ∙ sym s.1;
            written = r.3 ∙ sym s.3;
            count = r.5 ∙ sym s.5;
            held = same-held;
            bytes = λ i. take (same-held i) ((r.2 ∙ sym s.2) i);
          }

-- ---- a line's four numbers, and the bench after it

one_reply : (x y : Reply) → numbers_of x ≡ numbers_of y → x ≡ y
one_reply x y e = λ i. record { number = (e i).0; serial = (e i).1; speed = (e i).2; sum = (e i).3 }

turned_once : (b : List ℕ) (l : Line) (r s : Reply) (b' b'' : List ℕ) → Turned b l r b' → Turned b l s b'' → (r ≡ s) × (b' ≡ b'')
turned_once b l r s b' b'' x y = (one_reply r s (x.numbers ∙ sym y.numbers), same_bench x.words y.words (x.seen ∙ sym y.seen))

pub line_once : (b line : List ℕ) (r s : Reply) (b' b'' : List ℕ) → LineOn b line r b' → LineOn b line s b'' → (r ≡ s) × (b' ≡ b'')
line_once b line r s b' b'' x y = go (sound_words b) refl
  where
    go : (t : Bool) → sound_words b ≡ t → (r ≡ s) × (b' ≡ b'')
    go true e = turned_once b (line_of line) r s b' b'' (x.sound e) (y.sound e)
    go false e = let p = x.broken e in let q = y.broken e in (one_reply r s (p.0 ∙ sym q.0), p.1 ∙ sym q.1)

-- ---- the input's end

-- any bench, and any bytes of that length, say what is written
finished_once : {held : ℕ} {out : List ℕ} {at : ℕ} {out' out'' : List ℕ} {r s : ℕ} → Finished held out at out' r → Finished held out at out'' s → (out' ≡ out'') × (r ≡ s)
finished_once {held} x y =
    let p = x.text (set_up 1) (replicate held 0) (length-replicate held 0) in
    let q = y.text (set_up 1) (replicate held 0) (length-replicate held 0) in
    (p.stands ∙ sym q.stands, p.next ∙ sym q.next)

pub end_once : {held : ℕ} {out out' out'' : List ℕ} {n m wrote wrote₂ : ℕ} → EndBy held out out' n wrote → EndBy held out out'' m wrote₂
    → (n ≡ m) × ((out' ≡ out'') × (wrote ≡ wrote₂))
end_once {n = n} {m = m} x y =
    let one : n ≡ m = x.number ∙ sym y.number in
    by_cases (ℕ_discrete n 0)
    (λ (z : n ≡ 0). (one, finished_once (x.done z) (y.done (sym one ∙ z))))
    (λ (z : n ≡ 0 → ⊥).
    let r = x.refused z in
    let s = y.refused (λ e. z (one ∙ e)) in
    (one, (r.0 ∙ sym s.0, r.1 ∙ sym s.1)))
