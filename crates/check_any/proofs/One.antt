-- The contracts leave no second answer, and 2 is answered exactly where the words hold no sound bench. Assumes nothing.
use Prim.Native.Nat.{ℕ, zero, suc}
use mathlib.Core.Path.{◌≡◌, refl, sym, ◌∙◌, ap}
use mathlib.Core.Bool.{Bool, true, false}
use mathlib.Core.List.{List, [], ◌∷◌}
use native.Mathlib.Omega.{arith}
use lib.ListN.{length}
use Rattle.ledger_spec.specs.Bench.{Bench}
use Rattle.ledger_spec.specs.Tests.{first, outside, child}
use Rattle.ledger_spec.specs.Refuse.{unit_tests}
use Rattle.ledger_spec.specs.Reads.{said}
use Rattle.ledger_spec.specs.Check.{check_of, strict_of}
use Rattle.bench_views.specs.View.{view}
use Rattle.bench_views.specs.Fit.{SoundWords}
use Rattle.sound_bench.specs.Sound.{sound_words}
use Rattle.sound_bench.proofs.Theorem.{sound_says, sound_holds}
use Rattle.check_sound.specs.declared.Checked.{Checked}
use Rattle.check_sound.specs.Judged.{shown_check}
use Rattle.sound_lent.specs.Verdict.{asked, read_words}
use Rattle.sound_lent.proofs.Asking.{asked_by}
use Rattle.ledger_spec.specs.Answers.{check_read, strict_read}

-- an answer is what it shows
pub one_answer : (r s : Checked) → shown_check r ≡ shown_check s → r ≡ s
one_answer r s e = λ i. record { number = (e i).0; verdict = (e i).1.0; index = record { 0 = (e i).1.1 } }

module _ {A : Type 0} (b : List ℕ) (z : A) (r : ℕ × A) where
  pub two_broken : (r.0 ≡ 2 → ⊥) → (asked b z r).0 ≡ 2 → SoundWords b → ⊥
  two_broken q e S = q (sym (ap (λ (x : ℕ × A). x.0) (asked_by b z r true (sound_holds b S))) ∙ e)

  pub broken_two : length b ≡ 6273 → (SoundWords b → ⊥) → (asked b z r).0 ≡ 2
  broken_two len q = go (sound_words b) refl
    where
      go : (t : Bool) → t ≡ sound_words b → (asked b z r).0 ≡ 2
      go true e = absurd (q (sound_says b len (sym e)))
      go false e = ap (λ (x : ℕ × A). x.0) (asked_by b z r false (sym e))

-- ---- of the checks, whose own numbers are 0, 3 and 4
said_number : {A : Type 0} (k : ℕ) (v z : A) → (said k v z).0 ≡ k
unfolding said
said_number zero v z = refl
said_number (suc k) v z = refl

not_two : (b : Bench) (u : ℕ) → first (unit_tests b u) ≡ 2 → ⊥
unfolding first unit_tests
not_two b u = go (outside u) (child b u)
  where
    go : (o c : Bool) → first ((o, 3) ∷ (c, 4) ∷ []) ≡ 2 → ⊥
    go true c e = omega arith
    go false true e = omega arith
    go false false e = omega arith

module _ (b : List ℕ) (u : ℕ) where
  pub check_broken : (read_words b (check_read (view b) u)).0 ≡ 2 → SoundWords b → ⊥
  unfolding check_of
  check_broken = two_broken b (0, 0) (check_of (view b) u) (λ e. not_two (view b) u (sym (said_number (first (unit_tests (view b) u)) _ (0, 0)) ∙ e))

  pub strict_broken : (read_words b (strict_read (view b) u)).0 ≡ 2 → SoundWords b → ⊥
  unfolding strict_of
  strict_broken = two_broken b (0, 0) (strict_of (view b) u) (λ e. not_two (view b) u (sym (said_number (first (unit_tests (view b) u)) _ (0, 0)) ∙ e))
