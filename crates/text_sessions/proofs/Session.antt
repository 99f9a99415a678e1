-- A line read, done and written is the line answered; the empty bench is sound. Assumes nothing.
use Prim.Native.Nat.{ℕ, ◌≤◌, ◌<◌}
use mathlib.Core.Path.{◌≡◌, refl, sym, ◌∙◌, ap, subst}
use mathlib.Core.List.{List, []}
use native.Mathlib.Omega.{arith}
use lib.Dec.{lit<}
use lib.ListN.{length}
use lib.IntN.{ℤ, pos}
use mir.Syntax.{w64}
use mir.Val.{SFits}
use Rattle.text_decimals.specs.Wrote.{Wrote}
use Rattle.text_decimals.proofs.Writes.{same_text}
use Rattle.text_answers.proofs.Answers.{answer-short}
use Rattle.ledger_spec.specs.Bench.{set_up}
use Rattle.ledger_spec.specs.Sound.{sound}
use Rattle.ledger_spec.specs.Grammar.{line_of}
use Rattle.ledger_spec.specs.Program.{text_of}
use Rattle.ledger_spec.proofs.Holds.{holds}
use Rattle.ledger_laws.proofs.SoundCalls.{opened_sound}
use Rattle.text_chunks.proofs.Answering.{end_none, end_some}
use Rattle.text_chunks.proofs.Going.{Going}
use Rattle.bench_views.specs.View.{view}
use Rattle.bench_views.specs.Fit.{SoundWords, Done}
use Rattle.text_numbers.specs.declared.Reply.{Reply}
use Rattle.text_calls.specs.Turned.{Turned}
use Rattle.text_sessions.specs.Session.{Started, LineDone, Finished}

pub started : (b : List ℕ) → Done b (set_up 1) → Started b
started b d = record { words = record { canon = d.canon; sound = ap sound d.seen ∙ holds (set_up 1) (opened_sound 1 (omega arith) (omega arith)) }; seen = d.seen }

pub line_done : (b line : List ℕ) (r : Reply) (b' : List ℕ) → Turned b (line_of line) r b'
    → r.number < 256 → r.serial < 4294967296 → SFits w64 r.speed → SFits w64 r.sum
    → (out : List ℕ) (at : ℕ) (out' : List ℕ) (e : ℕ) → Wrote out at (text_of (r.number, r.serial, r.speed, r.sum)) out' e → LineDone b line b' out at out' e
line_done b line r b' t n k v w out at out' e x = record {
  words = t.words;
  answered = record {
    bench = t.seen;
    text = same_text out at _ _ out' e (ap text_of t.numbers) x;
    few = subst (λ (q : ℕ × ℕ × ℤ × ℤ). length (text_of q) ≤ 57) t.numbers (answer-short r.number r.serial r.speed r.sum (omega arith) k v w);
  };
}

-- where the loop over a chunk stands, on words
pub record Working (b₀ chunk t₀ p₀ out₀ : List ℕ) (w₀ : ℕ) (serials₀ b buf out serials : List ℕ) (held wrote at : ℕ) : Type 0 where
  pub words : SoundWords b
  pub same : length serials ≡ length serials₀
  pub going : Going (view b₀) chunk t₀ p₀ out₀ w₀ (view b) buf out held wrote at

-- ---- the input's end

pub finished_none : (held : ℕ) (out : List ℕ) (at : ℕ) → held ≡ 0 → Finished held out at out at
finished_none held out at z = record {
  text = λ b p e. same_text out at [] _ out at (sym (end_none b p (e ∙ z))) (record { next = omega arith; stands = refl });
  few = omega arith;
}

pub finished_some : (held : ℕ) (out : List ℕ) (at : ℕ) → (held ≡ 0 → ⊥) → (out' : List ℕ) (r : ℕ) → Wrote out at (text_of (1, 0, pos 0, pos 0)) out' r → Finished held out at out' r
finished_some held out at z out' r w = record {
  text = λ b p e. same_text out at _ _ out' r (sym (end_some b p (omega arith))) w;
  few = omega (arith, w.next, answer-short 1 0 (pos 0) (pos 0) (omega arith) (omega arith) none none);
}
  where
    none : SFits w64 (pos 0)
    none = record { sfits = lit< tt }
