-- A read by the verdict on the words. Assumes nothing.
use Prim.Native.Nat.{ℕ}
use mathlib.Core.Path.{◌≡◌, sym, ap, ◌∙◌}
use mathlib.Core.Bool.{Bool, not, true, false}
use mathlib.Core.List.{List}
use borrow.Author.Tests.{not-true, not-false}
use Rattle.bench_words.specs.Codec.{pick}
use Rattle.bench_views.specs.Fit.{Fit}
use Rattle.bench_views.proofs.Fits.{fit_of}
use Rattle.sound_bench.specs.Sound.{sound_words}
use Rattle.sound_lent.specs.Verdict.{Verdict, asked}

module _ {A : Type 0} (b : List ℕ) (z : A) (r : ℕ × A) where
  pub asked_by : (s : Bool) → sound_words b ≡ s → asked b z r ≡ pick s r (2, z)
  unfolding asked
  asked_by s e = ap (λ (t : Bool). pick t r (2, z)) e

  module _ {s : Bool} (v : Verdict b s) where
    pub no_bench : not s ≡ true → (2, z) ≡ asked b z r
    no_bench t = sym (asked_by false (sym v.is ∙ not-true s t))

    pub a_bench : not s ≡ false → {x : ℕ × A} → x ≡ r → x ≡ asked b z r
    a_bench t e = e ∙ sym (asked_by true (sym v.is ∙ not-false s t))

pub fits : {b : List ℕ} {s : Bool} → Verdict b s → not s ≡ false → Fit b
fits {b} {s} v t = fit_of b (v.says (not-false s t))
