-- THEOREM. Two runs of the same public calls, from words whose benches differ in the engine alone: all numbers, nodes and notices are equal, the benches left
-- differ in the engine alone, and every question is answered the same. Assumes nothing.
use Prim.Native.Nat.{ℕ}
use mathlib.Core.Path.{◌≡◌, refl, sym, ap, ap₂, ◌∙◌}
use mathlib.Core.Bool.{Bool, true, false}
use mathlib.Core.List.{List, ◌∷◌}
use Rattle.ledger_spec.specs.Bench.{Bench}
use Rattle.ledger_spec.specs.Calls.{Call}
use Rattle.ledger_spec.specs.Answers.{Answer as Plain, answer}
use Rattle.bench_views.specs.View.{view}
use Rattle.sound_bench.specs.Sound.{sound_words}
use Rattle.call_told.specs.declared.Answer.{Answer}
use Rattle.call_told.specs.Shown.{shown}
use Rattle.call_told.specs.Told.{Called}
use Rattle.run_laws.specs.Ran.{Ran, stop, next}
use Rattle.run_laws.proofs.Running.{says, shows, stays_sound}
use Rattle.engine_laws.specs.Engines.{in_engine, answer_in}
use Rattle.engine_laws.proofs.Answered.{answer_engine}
use Rattle.call_set_up.specs.Opened.{OpenedIn}
use Rattle.call_set_up.proofs.Opening.{opened_in}
use Rattle.engine_runs.specs.Alike.{Twins, Alike}
use Rattle.engine_runs.proofs.Asks.{asked_alike}

-- ---- one call
module _ {m : Bool} {p l : List ℕ} (T : Twins m p l) {c : Call} {r s : Answer} {p' l' : List ℕ} (x : Called (sound_words p) p c r p') (y : Called (sound_words l) l c s l') where
  whole : answer (view p) c ≡ answer_in m (answer (view l) c)
  whole = ap (λ (d : Bench). answer d c) T.seen ∙ answer_engine m (view l) c

  pub called_alike : r ≡ s
  called_alike = says T.one x ∙ ap shown whole ∙ sym (says T.other y)

  pub called_twins : Twins m p' l'
  called_twins = record {
    one = stays_sound T.one x;
    other = stays_sound T.other y;
    seen = shows T.one x ∙ ap (λ (a : Plain). a.bench) whole ∙ sym (ap (in_engine m) (shows T.other y));
  }

-- ---- any calls
pub engines_run : {m : Bool} {p l p' l' : List ℕ} {cs : List Call} {rs ss : List Answer} → Twins m p l → Ran p cs rs p' → Ran l cs ss l' → Alike m rs ss p' l'
engines_run T stop stop = record { answers = refl; words = T; asking = asked_alike T }
engines_run T (next x R) (next y S) =
    let F = engines_run (called_twins T x y) R S in record { answers = ap₂ ◌∷◌ (called_alike T x y) F.answers; words = F.words; asking = F.asking }

-- ---- from set-up, with any first serial
pub opened_twins : {n : ℕ} {p l : List ℕ} → OpenedIn true n p → OpenedIn false n l → Twins true p l
opened_twins {n} P L = record { one = P.words; other = L.words; seen = P.seen ∙ opened_in true n ∙ sym (ap (in_engine true) L.seen) }

module _ {n : ℕ} {p l : List ℕ} (P : OpenedIn true n p) (L : OpenedIn false n l) {cs : List Call} {rs ss : List Answer} {p' l' : List ℕ} (R : Ran p cs rs p') (S : Ran l cs ss l') where
  pub runs_alike : Alike true rs ss p' l'
  runs_alike = engines_run (opened_twins P L) R S
