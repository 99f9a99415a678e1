-- On the words of a sound bench a read is the plain ledger's `ask`, on any other words BROKEN. Assumes nothing.
use Prim.Native.Nat.{ℕ}
use mathlib.Core.Path.{◌≡◌, refl, sym, ap, ◌∙◌}
use mathlib.Core.Bool.{Bool, true, false}
use mathlib.Core.List.{List}
use lib.ListN.{length}
use Rattle.ledger_spec.specs.Answers.{ask}
use Rattle.bench_views.specs.View.{view}
use Rattle.bench_views.specs.Fit.{SoundWords}
use Rattle.sound_bench.specs.Sound.{sound_words}
use Rattle.sound_bench.proofs.Theorem.{sound_says, sound_holds}
use Rattle.sound_lent.specs.Verdict.{asked}
use Rattle.sound_lent.proofs.Asking.{asked_by}

module _ {A : Type 0} (b : List ℕ) (z : A) (r : ℕ × A) where
  pub asked_ask : SoundWords b → asked b z r ≡ ask (view b) z r
  unfolding ask
  asked_ask W = asked_by b z r true (sound_holds b W) ∙ sym (ap (λ (t : Bool). elim t [ true ↦ r | false ↦ (2, z) ]) W.sound)

  pub asked_broken : length b ≡ 6273 → (SoundWords b → ⊥) → asked b z r ≡ (2, z)
  asked_broken len not = go (sound_words b) refl
    where
      go : (s : Bool) → sound_words b ≡ s → asked b z r ≡ (2, z)
      go true e = absurd (not (sound_says b len e))
      go false e = asked_by b z r false e
