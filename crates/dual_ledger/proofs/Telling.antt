-- A call's answer written over words, from the call on sound words and from the verdict on any. Assumes nothing.
use Prim.Native.Nat.{ℕ}
use mathlib.Core.Path.{◌≡◌, sym, ap, ◌∙◌, subst}
use mathlib.Core.Bool.{Bool, not, true, false}
use mathlib.Core.Logic.{◌≢◌}
use mathlib.Core.List.{List, []}
use borrow.Author.Tests.{not-true, not-false}
use Rattle.ledger_spec.specs.Bench as plain
use Rattle.ledger_spec.specs.Calls.{Call, nobody}
use Rattle.ledger_spec.specs.Notices.{Notice, tells}
use Rattle.ledger_spec.specs.Answers.{broken}
use Rattle.ledger_laws.proofs.Answered.{node_of, zero_node, zero_notices}
use Rattle.ledger_laws.proofs.Answered as laws
use Rattle.bench_views.specs.View.{view}
use Rattle.bench_views.specs.Fit.{SoundWords}
use Rattle.sound_bench.specs.Sound.{sound_words}
use Rattle.sound_lent.specs.Verdict.{Verdict}
use Rattle.outcomes.specs.Outcome.{answer_on, Outcome}
use Rattle.outcomes.proofs.Outcomes.{numbered, judged, broke, zero_is, judged_with}
use Rattle.link_told.specs.Answers.{said_over, answer_over}
use Rattle.dual_ledger.specs.Linked.{Settled, ToldBy, Left, CalledBy}

-- ---- on sound words
module _ {b : List ℕ} {c : Call} {n : ℕ} {b' : List ℕ} (O : Outcome true b c n b') where
  -- refused: no node, no notice
  pub told_stops : n ≢ 0 → {m : ℕ} (ws : List ℕ) {ws' : List ℕ} → (m ≡ n) × (ws' ≡ said_over ws nobody []) → ToldBy b c m ws ws' b'
  told_stops q ws e = (numbered e.0 O, e.1 ∙ sym (ap (answer_over ws) (laws.refused (view b) c (λ z. q (O.number ∙ z)))))

  -- accepted: the node, and what the ledger tells
  pub told_goes : n ≡ 0 → {g : plain.Handle} {ns : List Notice} → g ≡ node_of (view b) c → ns ≡ tells (view b) c → (ws : List ℕ) {ws' : List ℕ} → ws' ≡ said_over ws g ns → ToldBy b c 0 ws ws' b'
  told_goes z x y ws e = let k = zero_is O z in
      (numbered (sym z) O, e ∙ λ i. said_over ws ((x ∙ sym (zero_node (view b) c k)) i) ((y ∙ sym (zero_notices (view b) c k)) i))

-- the same call, said otherwise
pub told_as : {b : List ℕ} {c d : Call} {n : ℕ} (ws : List ℕ) {ws' b' : List ℕ} → c ≡ d → ToldBy b c n ws ws' b' → ToldBy b d n ws ws' b'
told_as {b} {n = n} ws {ws'} {b'} e T = subst (λ (x : Call). ToldBy b x n ws ws' b') e T

-- ---- on any words, by the verdict on them
module _ {b : List ℕ} {s : Bool} (v : Verdict b s) where
  pub sound_so : not s ≡ false → SoundWords b
  sound_so t = v.says (not-false s t)

  no_bench : not s ≡ true → sound_words b ≡ false
  no_bench t = sym v.is ∙ not-true s t

  a_bench : not s ≡ false → true ≡ sound_words b
  a_bench t = sym (not-false s t) ∙ v.is

  module _ {c : Call} {n : ℕ} {b' : List ℕ} where
    pub left_broken : not s ≡ true → n ≡ 2 → b' ≡ b → Left b c n b'
    left_broken t e same = broke (no_bench t) e same

    pub called_broken : not s ≡ true → (ws : List ℕ) {ws' : List ℕ} → (n ≡ 2) × (ws' ≡ said_over ws nobody []) → b' ≡ b → CalledBy b c n ws ws' b'
    unfolding broken
    called_broken t ws e same = (left_broken t e.0 same, e.1 ∙ sym (ap (λ (x : Bool). answer_over ws (answer_on x b c)) (no_bench t)))

    pub left_settled : not s ≡ false → Settled b c n b' → Left b c n b'
    left_settled t S = judged (a_bench t) S

    pub called_sound : not s ≡ false → (ws : List ℕ) {ws' : List ℕ} → ToldBy b c n ws ws' b' → CalledBy b c n ws ws' b'
    called_sound t ws T = judged_with (answer_over ws) (a_bench t) T
