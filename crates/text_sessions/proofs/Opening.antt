-- An input's first line, chosen by or answered as any; the chunk in which it ends, or does not. Assumes nothing.
use Rattle.std.specs.Prelude.{None, Option, Some}
use Prim.Native.Nat.{ℕ, ◌*◌, ◌≤◌}
use mathlib.Core.Bool.{Bool, true, false, not, true≢false}
use mathlib.Core.Path.{◌≡◌, refl, sym, ◌∙◌, ap, subst}
use mathlib.Core.List.{List}
use native.Mathlib.Omega.{arith}
use borrow.Author.Tests.{not-true, not-false}
use lib.Dec.{lit<}
use lib.IntN.{pos}
use lib.ListN.{length, take}
use mir.Syntax.{w64}
use mir.Val.{SFits}
use Rattle.text_decimals.specs.Wrote.{Wrote}
use Rattle.text_decimals.proofs.Writes.{same_text}
use Rattle.text_answers.proofs.Answers.{answer-short}
use Rattle.ledger_spec.specs.Bench.{Bench, set_up_in}
use Rattle.ledger_spec.specs.Sound.{sound}
use Rattle.ledger_spec.specs.Grammar.{line_of}
use Rattle.ledger_spec.specs.Lines.{LineAnswer, says}
use Rattle.ledger_spec.specs.Opening.{chosen, opening}
use Rattle.ledger_spec.specs.Opened.{run}
use Rattle.ledger_spec.specs.Program.{text_of}
use Rattle.ledger_spec.proofs.Openings.{opening_none, opening_some}
use Rattle.text_chunks.specs.Chunks.{Feeds}
use Rattle.text_chunks.specs.Choices.{choice_of}
use Rattle.text_chunks.proofs.Opened.{opened_part, opened_line}
use Rattle.bench_views.specs.View.{view}
use Rattle.bench_views.specs.Fit.{Done}
use Rattle.text_sessions.specs.Session.{Started, LineDone, FirstDone, RestDone, ChunkDone, OpeningDone, NextDone}

-- ---- the first line

-- the empty bench of either engine is sound
set_up_sound : (m : Bool) → sound (set_up_in m 1) ≡ true
unfolding run
set_up_sound true = refl
set_up_sound false = refl

no_amount : SFits w64 (pos 0)
no_amount = record { sfits = lit< tt }

module _ (line : List ℕ) (r : Option Bool) (h : choice_of r ≡ chosen line) where
  -- it chooses
  pub first_chosen : (m : Bool) → r ≡ Some m → (b : List ℕ) → Done b (set_up_in m 1) → (out out' : List ℕ) (e : ℕ) → Wrote out 0 (text_of (0, 0, pos 0, pos 0)) out' e → FirstDone line b out out' e
  first_chosen m q b d out out' e w =
      let o : opening line ≡ record { numbers = (0, 0, pos 0, pos 0); bench = set_up_in m 1 } = opening_some line m (sym h ∙ ap choice_of q) in
      record {
        words = record { canon = d.canon; sound = ap sound d.seen ∙ set_up_sound m };
        answered = record {
          bench = d.seen ∙ ap (λ (x : LineAnswer). x.bench) (sym o);
          text = same_text out 0 _ _ out' e (ap (λ (x : LineAnswer). text_of x.numbers) (sym o)) w;
          few = subst (λ (x : LineAnswer). length (text_of x.numbers) ≤ 57) (sym o) (answer-short 0 0 (pos 0) (pos 0) (omega arith) (omega arith) no_amount no_amount);
        };
      }

  -- it is a line as any other
  pub first_any : r ≡ None → (b : List ℕ) → Started b → (b' out out' : List ℕ) (e : ℕ) → LineDone b line b' out 0 out' e → FirstDone line b' out out' e
  first_any q b s b' out out' e l =
      let a = l.answered in
      let o : says (view b) (line_of line) ≡ opening line = ap (λ (x : Bench). says x (line_of line)) s.seen ∙ sym (opening_none line (sym h ∙ ap choice_of q)) in
      record {
        words = l.words;
        answered = record {
          bench = a.bench ∙ ap (λ (x : LineAnswer). x.bench) o;
          text = same_text out 0 _ _ out' e (ap (λ (x : LineAnswer). text_of x.numbers) o) a.text;
          few = subst (λ (x : LineAnswer). length (text_of x.numbers) ≤ 57) o a.few;
        };
      }

-- ---- a chunk of an input's beginning, which `feed` took up to the end of the first line, or all of

module _ (chunk p buf : List ℕ) (ended : Bool) (n at : ℕ) (f : Feeds 0 chunk p chunk buf ended n at) (out : List ℕ) where
  fed : (x : Bool) → ended ≡ x → Feeds 0 chunk p chunk buf x n at
  fed x e = subst (λ (y : Bool). Feeds 0 chunk p chunk buf y n at) e f

  pub opening_part : not ended ≡ true → (b : List ℕ) → Started b → OpeningDone chunk p out b buf out n 0
  opening_part e b s = record {
    words = s.words;
    answered = opened_part chunk p buf n at out (fed false (not-true ended e)) (view b) s.seen;
    few = omega arith;
  }

  -- the first line's answer has its room
  pub opening_room : (b out₁ : List ℕ) (w : ℕ) → not ended ≡ false → FirstDone (take n buf) b out out₁ w → w ≤ 57 * at
  opening_room b out₁ w e F = omega (arith, F.answered.text.next, F.answered.few, f.on (not-false ended e))

  pub opening_line : not ended ≡ false → (b out₁ : List ℕ) (w : ℕ) → FirstDone (take n buf) b out out₁ w
      → (b₂ buf₂ out₂ : List ℕ) (held wrote : ℕ) → RestDone b chunk at (take 0 buf) out₁ w b₂ buf₂ out₂ held wrote → OpeningDone chunk p out b₂ buf₂ out₂ held wrote
  opening_line e b out₁ w F b₂ buf₂ out₂ held wrote R = record {
    words = R.words;
    answered = opened_line chunk p buf n at out (fed true (not-false ended e)) (view b) out₁ w F.answered (view b₂) buf₂ out₂ held wrote R.answered;
    few = R.few;
  }

-- ---- a chunk in turn

module _ (opens : Bool) (b chunk p out b' buf' out' : List ℕ) (held wrote : ℕ) where
  pub next_first : opens ≡ true → OpeningDone chunk p out b' buf' out' held wrote → NextDone opens b chunk p out b' buf' out' held wrote
  next_first e d = record { first = λ _. d; later = λ q. absurd (true≢false (sym e ∙ q)) }

  pub next_later : opens ≡ false → ChunkDone b chunk p out b' buf' out' held wrote → NextDone opens b chunk p out b' buf' out' held wrote
  next_later e d = record { first = λ q. absurd (true≢false (sym q ∙ e)); later = λ _. d }
