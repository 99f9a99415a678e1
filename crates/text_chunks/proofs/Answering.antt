-- A line answered moves its text from what is to come to what was written, so a chunk's answers are those of its lines; and the chunks' answers,
-- one after the other, are those of the input's lines. Assumes nothing.
use Prim.Native.Nat.{ℕ, ◌<◌}
use native.Mathlib.Omega.{arith}
use mathlib.Core.Path.{◌≡◌, refl, sym, ◌∙◌, ap}
use mathlib.Core.List.{List, [], ◌∷◌, ◌++◌, append_assoc, append-nil}
use lib.ListN.{length}
use lib.IntN.{ℤ, pos}
use Rattle.ledger_spec.specs.Bench.{Bench}
use Rattle.ledger_spec.specs.Grammar.{Line, wrong}
use Rattle.ledger_spec.specs.Lines.{says}
use Rattle.ledger_spec.specs.Program.{lines_of, answers, after_lines, text_of, texts}
use Rattle.text_chunks.specs.Chunks.{lines, left, last, joined, lines_in}
use Rattle.text_chunks.specs.Answering.{Answering, Answered, replies}
use Rattle.text_chunks.proofs.Chunks.{lines_none, left_none, cut_anyhow}

-- ---- lines one after the other

answers_none : (b : Bench) → answers b [] ≡ []
unfolding answers
answers_none b = refl

answers_more : (b : Bench) (l : Line) (ls : List Line) → answers b (l ∷ ls) ≡ (says b l).numbers ∷ answers (says b l).bench ls
unfolding answers
answers_more b l ls = refl

after_none : (b : Bench) → after_lines b [] ≡ b
unfolding after_lines
after_none b = refl

after_more : (b : Bench) (l : Line) (ls : List Line) → after_lines b (l ∷ ls) ≡ after_lines (says b l).bench ls
unfolding after_lines
after_more b l ls = refl

pub texts_none : texts [] ≡ []
unfolding texts
texts_none = refl

pub texts_more : (x : ℕ × ℕ × ℤ × ℤ) (xs : List (ℕ × ℕ × ℤ × ℤ)) → texts (x ∷ xs) ≡ text_of x ++ texts xs
unfolding texts
texts_more x xs = refl

pub answers_append : (ls ms : List Line) (b : Bench) → answers b (ls ++ ms) ≡ answers b ls ++ answers (after_lines b ls) ms
answers_append [] ms b = sym (λ i. answers_none b i ++ answers (after_none b i) ms)
answers_append (l ∷ ls) ms b =
    answers_more b l (ls ++ ms)
    ∙ ap (λ (r : List (ℕ × ℕ × ℤ × ℤ)). (says b l).numbers ∷ r) (answers_append ls ms (says b l).bench)
    ∙ sym (λ i. answers_more b l ls i ++ answers (after_more b l ls i) ms)

pub after_append : (ls ms : List Line) (b : Bench) → after_lines b (ls ++ ms) ≡ after_lines (after_lines b ls) ms
after_append [] ms b = ap (λ (x : Bench). after_lines x ms) (sym (after_none b))
after_append (l ∷ ls) ms b =
    after_more b l (ls ++ ms) ∙ after_append ls ms (says b l).bench ∙ ap (λ (x : Bench). after_lines x ms) (sym (after_more b l ls))

pub texts_append : (xs ys : List (ℕ × ℕ × ℤ × ℤ)) → texts (xs ++ ys) ≡ texts xs ++ texts ys
texts_append [] ys = ap (λ (r : List ℕ). r ++ texts ys) (sym texts_none)
texts_append (x ∷ xs) ys =
    texts_more x (xs ++ ys) ∙ ap (λ (r : List ℕ). text_of x ++ r) (texts_append xs ys) ∙ sym (append_assoc (text_of x) (texts xs) (texts ys))
    ∙ ap (λ (r : List ℕ). r ++ texts ys) (sym (texts_more x xs))

-- ---- a chunk

pub begin : (b : Bench) (p t : List ℕ) → Answering b p t b p t []
begin b p t = record { said = refl; bench = refl; held = refl }

module _ (b₀ : Bench) (p₀ t₀ : List ℕ) (b : Bench) (p t text : List ℕ) (g : Answering b₀ p₀ t₀ b p t text) where
  -- `feed` ended a line, and it was answered
  pub one_line : (l : Line) (t' : List ℕ) → (lines p t ≡ l ∷ lines [] t') × (left p t ≡ left [] t') → Answering b₀ p₀ t₀ (says b l).bench [] t' (text ++ text_of (says b l).numbers)
  one_line l t' f =
      let k = says b l in
      record {
        said = g.said
            ∙ ap (λ (r : List ℕ). text ++ r) (ap (λ (x : List Line). texts (answers b x)) f.0 ∙ ap texts (answers_more b l (lines [] t')) ∙ texts_more k.numbers (answers k.bench (lines [] t')))
            ∙ sym (append_assoc text (text_of k.numbers) (texts (answers k.bench (lines [] t'))));
        bench = g.bench ∙ ap (after_lines b) f.0 ∙ after_more b l (lines [] t');
        held = g.held ∙ f.1;
      }

  -- `feed` took the whole rest of the chunk, and no line ended
  pub no_line : (p' : List ℕ) → (lines p t ≡ []) × (left p t ≡ p') → Answering b₀ p₀ t₀ b p' [] text
  no_line p' f = record {
    said = g.said ∙ ap (λ (x : List Line). text ++ texts (answers b x)) (f.0 ∙ sym (lines_none p'));
    bench = g.bench ∙ ap (after_lines b) (f.0 ∙ sym (lines_none p'));
    held = g.held ∙ f.1 ∙ sym (left_none p');
  }

pub used_up : (b₀ : Bench) (p₀ t₀ : List ℕ) (b : Bench) (p text : List ℕ) → Answering b₀ p₀ t₀ b p [] text → Answered b₀ p₀ t₀ b p text
used_up b₀ p₀ t₀ b p text g = record {
  said = sym (g.said ∙ ap (λ (r : List ℕ). text ++ r) (ap (λ (x : List Line). texts (answers b x)) (lines_none p) ∙ ap texts (answers_none b) ∙ texts_none) ∙ append-nil text);
  bench = sym (g.bench ∙ ap (after_lines b) (lines_none p) ∙ after_none b);
  held = sym (g.held ∙ left_none p);
}

-- ---- the input's end

-- nothing is held: nothing is said
pub end_none : (b : Bench) (p : List ℕ) → length p ≡ 0 → texts (answers b (last p)) ≡ []
end_none b [] h = ap texts (answers_none b) ∙ texts_none
end_none b (c ∷ p) h = absurd (omega arith)

-- a last line without newline is LINE
pub end_some : (b : Bench) (p : List ℕ) → 0 < length p → texts (answers b (last p)) ≡ text_of (1, 0, pos 0, pos 0)
unfolding says
end_some b [] h = absurd (omega arith)
end_some b (c ∷ p) h =
    ap texts (answers_more b wrong []) ∙ texts_more (1, 0, pos 0, pos 0) (answers b [])
    ∙ ap (λ (r : List ℕ). text_of (1, 0, pos 0, pos 0) ++ r) (ap texts (answers_none b) ∙ texts_none)
    ∙ append-nil (text_of (1, 0, pos 0, pos 0))

-- ---- chunks one after the other

pub replies_are : (cs : List (List ℕ)) (b : Bench) (p : List ℕ) → replies b p cs ≡ texts (answers b (lines_in p cs))
unfolding replies lines_in
replies_are [] b p = refl
replies_are (c ∷ cs) b p =
    ap (λ (r : List ℕ). texts (answers b (lines p c)) ++ r) (replies_are cs (after_lines b (lines p c)) (left p c))
    ∙ sym (texts_append (answers b (lines p c)) (answers (after_lines b (lines p c)) (lines_in (left p c) cs)))
    ∙ ap texts (sym (answers_append (lines p c) (lines_in (left p c) cs) b))

-- from any bench, however the input is cut
pub replies_lines : (cs : List (List ℕ)) (b : Bench) → replies b [] cs ≡ texts (answers b (lines_of (joined cs)))
replies_lines cs b = replies_are cs b [] ∙ ap (λ (x : List Line). texts (answers b x)) (cut_anyhow cs)
