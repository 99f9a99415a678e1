-- Words whose benches differ in the engine alone answer every question the same. Assumes nothing.
use Rattle.std.specs.Prelude.{None, Option}
use Prim.Native.Nat.{ℕ}
use mathlib.Core.Path.{◌≡◌, sym, ap, ◌∙◌}
use mathlib.Core.Bool.{Bool}
use mathlib.Core.List.{List}
use Rattle.bench_words.specs.Codec.{pick}
use Rattle.ledger_spec.specs.Bench.{Handle, Bench}
use Rattle.ledger_spec.specs.Tests.{first}
use Rattle.ledger_spec.specs.Reads.{said}
use Rattle.bench_views.specs.View.{view}
use Rattle.sound_bench.specs.Sound.{sound_words}
use Rattle.sound_bench.proofs.Theorem.{sound_holds}
use Rattle.sound_lent.specs.Verdict as lent
use Rattle.read_present.specs.Present.{present_in, next_from, present_of, next_of}
use Rattle.engine_laws.specs.Engines.{in_engine}
use Rattle.engine_laws.proofs.Looks.{slots_in}
use Rattle.engine_laws.proofs.Tests.{unit_tests_lem}
use Rattle.engine_laws.proofs.Asked.{index_tests_lem, asking_engine}
use Rattle.engine_runs.specs.Asked.{Question, plainly, Present, Next, asking, asked}
use Rattle.engine_runs.specs.Alike.{Twins}

module _ (m : Bool) (b : Bench) where
  present_in_lem : (u : ℕ) → present_of (in_engine m b) u ≡ present_of b u
  unfolding present_of
  present_in_lem u = λ i. said (first (unit_tests_lem m b u i)) (present_in (slots_in m b u i)) 0

  next_in : (u k : ℕ) → next_of (in_engine m b) u k ≡ next_of b u k
  unfolding next_of
  next_in u k = λ i. said (first (index_tests_lem m b u k i)) (next_from 0 k (slots_in m b u i)) (0, None)

  pub asking_in : (q : Question) → asking (in_engine m b) q ≡ asking b q
  asking_in (plainly q) = asking_engine m b q
  asking_in (Present u) = ap (λ (r : ℕ × ℕ). record { own = r; zero = 0 }) (present_in_lem u)
  asking_in (Next u k) = ap (λ (r : ℕ × (ℕ × Option Handle)). record { own = r; zero = (0, None) }) (next_in u k)

pub asked_alike : {m : Bool} {p l : List ℕ} → Twins m p l → (q : Question) → asked p q ≡ asked l q
unfolding lent.asked
asked_alike {m} {p} {l} T q = λ i. pick (verdicts i) (reads i).own (2, (reads i).zero)
  where
    verdicts : sound_words p ≡ sound_words l
    verdicts = sound_holds p T.one ∙ sym (sound_holds l T.other)

    reads : asking (view p) q ≡ asking (view l) q
    reads = ap (λ (d : Bench). asking d q) T.seen ∙ asking_in m (view l) q
