-- A public call by the verdict on the words. Assumes nothing.
use Prim.Native.Nat.{ℕ}
use mathlib.Core.Path.{◌≡◌, sym, ◌∙◌}
use mathlib.Core.Bool.{Bool, not, true, false}
use mathlib.Core.List.{List}
use borrow.Author.Tests.{not-true, not-false}
use Rattle.ledger_spec.specs.Calls.{Call}
use Rattle.bench_views.specs.Fit.{SoundWords}
use Rattle.sound_bench.specs.Sound.{sound_words}
use Rattle.call_told.specs.declared.Answer.{Answer}
use Rattle.call_told.specs.Shown.{refused_by}
use Rattle.call_told.specs.Told.{Told, Called}
use Rattle.call_told.proofs.Calling.{called, broke}
use Rattle.sound_lent.specs.Verdict.{Verdict}

module _ {b : List ℕ} {s : Bool} (v : Verdict b s) where
  pub no_bench : not s ≡ true → {c : Call} {r : Answer} {b' : List ℕ} → r ≡ refused_by 2 → b' ≡ b → Called (sound_words b) b c r b'
  no_bench t = broke (sym v.is ∙ not-true s t)

  module _ (t : not s ≡ false) where
    pub sound_bench : SoundWords b
    sound_bench = v.says (not-false s t)

    pub answers : {c : Call} {r : Answer} {b' : List ℕ} → Told b c r b' → Called (sound_words b) b c r b'
    answers = called (sym v.is ∙ not-false s t)
