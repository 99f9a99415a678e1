-- Of the stored words: what an accepted growth over a recording leaves is, word for word, what one growth by the whole length leaves, and that one is accepted.
-- Assumes nothing.
use Prim.Native.Nat.{ℕ}
use mathlib.Core.Path.{◌≡◌, sym, ◌∙◌}
use mathlib.Core.List.{List}
use lib.ListN.{length}
use lib.IntN.{ℤ}
use Rattle.kinds.specs.declared.Handle.{Handle}
use Rattle.ledger_spec.specs.Calls.{Grow}
use Rattle.ledger_spec.specs.Answers.{answer}
use Rattle.ledger_spec.specs.Account.{total}
use Rattle.bench_views.specs.View.{view}
use Rattle.bench_views.specs.Fit.{SoundWords}
use Rattle.outcomes.specs.Answered.{Answered}
use Rattle.outcomes.proofs.Outcomes.{sound_words_same}
use Rattle.recorded_spec.proofs.Whole.{one_growth}
use Rattle.recorded_groups.specs.Recording.{recording_of}
use Rattle.recorded_steps.specs.declared.Passed.{Passed}
use Rattle.recorded_sound.specs.Answers.{recorded_on, RecordedAs}
use Rattle.recorded_any.specs.Any.{RecordedAny}
use Rattle.recorded_any.proofs.Verdicts.{any_sound}

module _ (b : List ℕ) (W : SoundWords b) (u : ℕ) (l : ℤ) (ws out : List ℕ) (r : Passed) (b' out' : List ℕ) where
  pub one_growth_words : RecordedAny b u l ws out r b' out' → r.number ≡ 0 → (n : ℕ) (h : Handle) (b'' : List ℕ) → Answered b (Grow u l) n h b'' → (n ≡ 0) × (b' ≡ b'')
  one_growth_words A z n h b'' G = let k : n ≡ 0 = G.0.number ∙ one.0 in (k, sound_words_same x.words (G.0.words k) (x.seen ∙ one.1 ∙ sym (G.0.seen k)))
    where
      x : RecordedAs b u l ws out r b' out'
      x = any_sound b u l ws out W A

      one : ((answer (view b) (Grow u l)).number ≡ 0) × ((recorded_on b u l ws (length out)).bench ≡ (answer (view b) (Grow u l)).bench) × (total (recorded_on b u l ws (length out)).lengths ≡ l)
      one = one_growth (view b) u l (recording_of ws) (length out) (sym x.number ∙ z)
