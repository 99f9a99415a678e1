-- The call's contract by the verdict on the words. Assumes nothing.
use Prim.Native.Nat.{ℕ}
use mathlib.Core.Path.{◌≡◌, refl, sym, ◌∙◌}
use mathlib.Core.Bool.{Bool, not, true, false}
use mathlib.Core.List.{List}
use lib.IntN.{ℤ}
use borrow.Author.Tests.{not-true, not-false}
use Rattle.bench_views.specs.Fit.{SoundWords}
use Rattle.sound_bench.specs.Sound.{sound_words}
use Rattle.sound_bench.proofs.Theorem.{sound_holds}
use Rattle.sound_lent.specs.Verdict.{Verdict}
use Rattle.recorded_steps.specs.declared.Passed.{Passed}
use Rattle.recorded_sound.specs.Answers.{RecordedAs}
use Rattle.recorded_any.specs.Any.{RecordedAny}

module _ (b : List ℕ) (u : ℕ) (l : ℤ) (ws out : List ℕ) where
  module _ {s : Bool} (v : Verdict b s) where
    pub no_bench : not s ≡ true → RecordedAny b u l ws out (record { number = 2; taken = 0 }) b out
    no_bench t =
        let none : sound_words b ≡ false = sym v.is ∙ not-true s t in
        rw none (record { is = refl; words = refl; slice = refl })

    pub a_bench : not s ≡ false → {r : Passed} {b' out' : List ℕ} → RecordedAs b u l ws out r b' out' → RecordedAny b u l ws out r b' out'
    a_bench t A =
        let one : sound_words b ≡ true = sym v.is ∙ not-false s t in
        rw one A

  -- on the words of a sound bench, what meets the public contract meets the one on sound words
  pub any_sound : SoundWords b → {r : Passed} {b' out' : List ℕ} → RecordedAny b u l ws out r b' out' → RecordedAs b u l ws out r b' out'
  any_sound W A = rw (sound_holds b W) at A

pub sounds : {b : List ℕ} {s : Bool} → Verdict b s → not s ≡ false → SoundWords b
sounds {b} {s} v t = v.says (not-false s t)
