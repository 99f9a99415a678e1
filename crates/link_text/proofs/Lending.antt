-- By the lengths lent and the verdict on the words: refused with everything as it was, or done. Assumes nothing.
use Prim.Native.Nat.{ℕ, ◌/◌, ◌<◌, ◌≤◌}
use mathlib.Core.Path.{◌≡◌, refl, sym, ◌∙◌}
use mathlib.Core.Logic.{by_cases}
use mathlib.Core.Bool.{Bool, not, true, false, true≢false}
use mathlib.Core.List.{List, [], ◌∷◌}
use native.Mathlib.Decide.{dec_le}
use native.Mathlib.Omega.{arith}
use borrow.Author.Tests.{lt-ltb, le-ltb, not-true, not-false}
use lib.Dec.{ltb}
use lib.ListN.{length, take}
use lib.IntN.{pos}
use Rattle.ledger_spec.specs.Tests.{first}
use Rattle.ledger_spec.specs.Grammar.{line_of}
use Rattle.bench_views.specs.Fit.{SoundWords}
use Rattle.text_numbers.specs.declared.Reply.{Reply}
use Rattle.text_numbers.specs.Numbers.{numbers_of}
use Rattle.text_calls.specs.Turned.{Turned}
use Rattle.text_sessions.specs.Session.{ChunkDone, OpeningDone, Finished}
use Rattle.sound_bench.specs.Sound.{sound_words}
use Rattle.sound_lent.specs.Verdict.{Verdict}
use Rattle.link_text.specs.declared.Chunked.{Chunked}
use Rattle.link_text.specs.Text.{chunk_no, ChunkBy, ChunkOn, OpeningBy, LineOn, EndBy}

-- ---- a chunk, by the lengths

pub much_held : (h c r : ℕ) → 1024 < h → 2 ≡ chunk_no h c r
unfolding chunk_no first
much_held h c r l = rw (lt-ltb 1024 h l)

pub small : (h c r : ℕ) → h ≤ 1024 → r / 57 < c → 19 ≡ chunk_no h c r
unfolding chunk_no first
small h c r l m = rw (le-ltb 1024 h l, lt-ltb (r / 57) c m)

pub enough : (h c r : ℕ) → h ≤ 1024 → c ≤ r / 57 → 0 ≡ chunk_no h c r
unfolding chunk_no first
enough h c r l m = rw (le-ltb 1024 h l, le-ltb (r / 57) c m)

-- and only then
pub fits : (h c r : ℕ) → chunk_no h c r ≡ 0 → (h ≤ 1024) × (c ≤ r / 57)
fits h c r e = by_cases (dec_le h 1024)
    (λ (l : h ≤ 1024). by_cases (dec_le c (r / 57)) (λ (m : c ≤ r / 57). (l, m)) (λ (m : c ≤ r / 57 → ⊥). absurd (omega (arith, e, small h c r l (omega arith)))))
    (λ (l : h ≤ 1024 → ⊥). absurd (omega (arith, e, much_held h c r (omega arith))))

module _ (b chunk buf : List ℕ) (held : ℕ) (out : List ℕ) where
  module _ (n : ℕ) (is : n ≡ chunk_no held (length chunk) (length out)) where
    module _ (q : n ≡ 0 → ⊥) (r : Chunked) (e : r ≡ record { number = n; held = held; wrote = 0 }) where
      pub chunk_refused : ChunkBy b chunk buf held out b buf out r.number r.held r.wrote
      chunk_refused = rw e (record { number = is; done = λ z. absurd (q z); refused = λ _. (refl, refl, refl, refl, refl) })

      pub opening_refused : OpeningBy b chunk buf held out b buf out r.number r.held r.wrote
      opening_refused = rw e (record { number = is; done = λ z. absurd (q z); refused = λ _. (refl, refl, refl, refl, refl) })

    module _ (z : n ≡ 0) {b' buf' out' : List ℕ} {held' wrote : ℕ} where
      pub chunk_done : ChunkDone b chunk (take held buf) out b' buf' out' held' wrote → ChunkBy b chunk buf held out b' buf' out' 0 held' wrote
      chunk_done d = record { number = sym z ∙ is; done = λ _. d; refused = λ q. absurd (q refl) }

      pub opening_done : OpeningDone chunk (take held buf) out b' buf' out' held' wrote → OpeningBy b chunk buf held out b' buf' out' 0 held' wrote
      opening_done d = record { number = sym z ∙ is; done = λ _. d; refused = λ q. absurd (q refl) }

-- ---- by the verdict on the words

module _ (b : List ℕ) (s : Bool) (v : Verdict b s) where
  unsound : {A : Type 0} → not s ≡ true → sound_words b ≡ true → A
  unsound t e = absurd (true≢false (sym e ∙ (sym v.is ∙ not-true s t)))

  sounds : {A : Type 0} → not s ≡ false → sound_words b ≡ false → A
  sounds t e = absurd (true≢false (sym (sym v.is ∙ not-false s t) ∙ e))

  pub sound_bench : not s ≡ false → SoundWords b
  sound_bench t = v.says (not-false s t)

  pub line_broken : (line : List ℕ) (r : Reply) → not s ≡ true → numbers_of r ≡ (2, 0, pos 0, pos 0) → LineOn b line r b
  line_broken line r t e = record { sound = λ y. unsound t y; broken = λ _. (e, refl) }

  pub line_sound : (line : List ℕ) (r : Reply) (b' : List ℕ) → not s ≡ false → Turned b (line_of line) r b' → LineOn b line r b'
  line_sound line r b' t T = record { sound = λ _. T; broken = λ y. sounds t y }

  module _ (chunk buf : List ℕ) (held : ℕ) (out : List ℕ) where
    pub chunk_broken : not s ≡ true → (r : Chunked) → r ≡ record { number = 2; held = held; wrote = 0 } → ChunkOn b chunk buf held out b buf out r.number r.held r.wrote
    chunk_broken t r e = rw e (record { sound = λ y. unsound t y; broken = λ _. (refl, refl, refl, refl, refl, refl) })

    pub chunk_sound : {b' buf' out' : List ℕ} {n held' wrote : ℕ} → not s ≡ false → ChunkBy b chunk buf held out b' buf' out' n held' wrote → ChunkOn b chunk buf held out b' buf' out' n held' wrote
    chunk_sound t C = record { sound = λ _. C; broken = λ y. sounds t y }

-- ---- the input's end

end_no : (n : ℕ) → n < 57 → 19 ≡ first ((ltb n 57, 19) ∷ [])
unfolding first
end_no n l = rw (lt-ltb n 57 l)

end_yes : (n : ℕ) → 57 ≤ n → 0 ≡ first ((ltb n 57, 19) ∷ [])
unfolding first
end_yes n l = rw (le-ltb n 57 l)

nonzero : (n : ℕ) → 0 < n → n ≡ 0 → ⊥
nonzero n l z = omega arith

module _ (held : ℕ) (out : List ℕ) where
  pub end_small : length out < 57 → (r : Chunked) → r ≡ record { number = 19; held = held; wrote = 0 } → EndBy held out out r.number r.wrote
  end_small l r e = rw e (record { number = end_no (length out) l; done = λ z. absurd (nonzero 19 (omega arith) z); refused = λ _. (refl, refl) })

  pub end_done : {out' : List ℕ} {wrote : ℕ} → 57 ≤ length out → Finished held out 0 out' wrote → EndBy held out out' 0 wrote
  end_done l f = record { number = end_yes (length out) l; done = λ _. f; refused = λ q. absurd (q refl) }
