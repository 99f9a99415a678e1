-- THEOREM. A growth over a recording, on words whose benches differ in the engine alone: the same number and lengths, and such words again. Assumes nothing.
use Prim.Native.Nat.{ℕ}
use mathlib.Core.Path.{◌≡◌, sym, ap, ◌∙◌}
use mathlib.Core.Bool.{Bool}
use mathlib.Core.List.{List, map}
use lib.Seq.{sets}
use lib.ListN.{length}
use lib.IntN.{ℤ, nat_abs}
use Rattle.ledger_spec.specs.Bench.{Bench}
use Rattle.bench_views.specs.View.{view}
use Rattle.recorded_spec.specs.Recorded.{Steps, grow_recorded}
use Rattle.recorded_groups.specs.Recording.{recording_of}
use Rattle.recorded_steps.specs.declared.Passed.{Passed}
use Rattle.recorded_sound.specs.Answers.{recorded_on, RecordedAs}
use Rattle.engine_laws.specs.Engines.{in_engine, steps_in}
use Rattle.engine_laws.proofs.Recorded.{recorded_engine}
use Rattle.engine_runs.specs.Alike.{Twins}

module _ {m : Bool} {p l : List ℕ} (T : Twins m p l) {u : ℕ} {by : ℤ} {ws out : List ℕ} {r s : Passed} {p' o l' o' : List ℕ}
    (x : RecordedAs p u by ws out r p' o) (y : RecordedAs l u by ws out s l' o') where
  abbrev lazy : Steps
  lazy = recorded_on l u by ws (length out)

  steps_alike : recorded_on p u by ws (length out) ≡ steps_in m lazy
  steps_alike = ap (λ (d : Bench). grow_recorded d u by (recording_of ws) (length out)) T.seen ∙ recorded_engine m u (view l) by (recording_of ws) (length out)

  numbers : r.number ≡ s.number
  numbers = x.number ∙ ap (λ (a : Steps). a.number) steps_alike ∙ sym y.number

  counts : r.taken ≡ s.taken
  counts = x.taken ∙ ap (λ (a : Steps). length a.lengths) steps_alike ∙ sym y.taken

  pub recorded_alike : (r ≡ s) × (o ≡ o')
  recorded_alike = ((λ i. record { number = numbers i; taken = counts i }), x.lengths ∙ ap (λ (a : Steps). sets out 0 (map nat_abs a.lengths)) steps_alike ∙ sym y.lengths)

  pub recorded_twins : Twins m p' l'
  recorded_twins = record { one = x.words; other = y.words; seen = x.seen ∙ ap (λ (a : Steps). a.bench) steps_alike ∙ sym (ap (in_engine m) y.seen) }
