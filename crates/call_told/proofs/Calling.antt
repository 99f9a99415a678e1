-- A public call, from the call on sound words and the verdict on the words. (No second answer: `once_with` of crate outcomes.) Assumes nothing.
use Prim.Native.Nat.{ℕ}
use mathlib.Core.Path.{◌≡◌, sym, ◌∙◌, ap}
use mathlib.Core.Bool.{Bool, true, false}
use mathlib.Core.List.{List}
use Rattle.ledger_spec.specs.Calls.{Call}
use Rattle.ledger_spec.specs.Answers.{broken}
use Rattle.outcomes.specs.Outcome.{answer_on}
use Rattle.outcomes.proofs.Outcomes.{judged_with}
use Rattle.outcomes.proofs.Outcomes as outcomes
use Rattle.call_told.specs.declared.Answer.{Answer}
use Rattle.call_told.specs.Shown.{shown, refused_by}
use Rattle.call_told.specs.Told.{Told, Called}

module _ {s : Bool} {b : List ℕ} {c : Call} {r : Answer} {b' : List ℕ} where
  pub called : s ≡ true → Told b c r b' → Called s b c r b'
  called e T = judged_with shown (sym e) T

  pub broke : s ≡ false → r ≡ refused_by 2 → b' ≡ b → Called s b c r b'
  unfolding broken
  broke e f same = (outcomes.broke e (ap (λ (x : Answer). x.number) f) same, f ∙ sym (ap (λ (t : Bool). shown (answer_on t b c)) e))
