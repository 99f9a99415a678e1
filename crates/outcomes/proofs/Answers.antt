-- An answer by the call's tests: where none holds, 0 and words that show the deed; else the number of the first that holds, no node, and the words as
-- they were. The words after are sound, since every call keeps a sound bench sound. Assumes nothing.
use Prim.Native.Nat.{ℕ}
use mathlib.Core.Path.{◌≡◌, refl, sym, ◌∙◌, ap}
use mathlib.Core.Logic.{◌≢◌}
use mathlib.Core.List.{List}
use Rattle.kinds.specs.Names.{no_code}
use Rattle.kinds.specs.declared.Handle.{Handle}
use Rattle.ledger_spec.specs.Tests.{first}
use Rattle.ledger_spec.specs.Calls.{Call}
use Rattle.ledger_spec.specs.Answers.{answer}
use Rattle.ledger_spec.specs.Sound.{sound}
use Rattle.ledger_spec.specs.Named.{handle_named}
use Rattle.ledger_laws.proofs.Answered.{tests_of, deed_of, node_of, answer_number, zero_bench, zero_node, refused_node}
use Rattle.ledger_laws.proofs.Always.{answer_sound}
use Rattle.bench_views.specs.View.{view}
use Rattle.bench_views.specs.Fit.{SoundWords, Done}
use Rattle.outcomes.specs.Answered.{Answered}
use Rattle.outcomes.proofs.Outcomes.{stays}

module _ (b : List ℕ) (c : Call) (W : SoundWords b) (b' : List ℕ) where
  pub did : (h : Handle) → first (tests_of (view b) c) ≡ 0 → Done b' (deed_of (view b) c) → handle_named h ≡ node_of (view b) c → Answered b c 0 h b'
  did h z D e =
      let zero : (answer (view b) c).number ≡ 0 = answer_number (view b) c W.sound ∙ z in
      let seen : view b' ≡ (answer (view b) c).bench = D.seen ∙ sym (zero_bench (view b) c zero) in (
        record {
          number = sym zero;
          words = λ _. record { canon = D.canon; sound = ap sound seen ∙ answer_sound (view b) c W.sound };
          seen = λ _. seen;
          refused = λ q. absurd (q refl);
        },
        e ∙ sym (zero_node (view b) c zero),
      )

  pub refused : (n : ℕ) → n ≢ 0 → n ≡ first (tests_of (view b) c) → b' ≡ b → Answered b c n no_code b'
  refused n q e same = let k : n ≡ (answer (view b) c).number = e ∙ sym (answer_number (view b) c W.sound) in
      (stays q k same, sym (refused_node (view b) c (λ z. q (k ∙ z))))
