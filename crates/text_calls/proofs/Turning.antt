-- A call's answer on sound words is the line's: BROKEN does not come up, and what the line shows is read off the words after the call. Assumes nothing.
use Rattle.std.specs.Prelude.{Some}
use Prim.Native.Nat.{ℕ}
use mathlib.Core.Path.{◌≡◌, refl, sym, ◌∙◌, ap}
use mathlib.Core.Bool.{true}
use mathlib.Core.List.{List}
use lib.IntN.{pos}
use Rattle.kinds.specs.declared.Handle.{Handle}
use Rattle.ledger_spec.specs.Bench.{Bench}
use Rattle.ledger_spec.specs.Calls.{Reply as Done, Call, perform}
use Rattle.ledger_spec.specs.Answers.{Answer, whole, ask}
use Rattle.ledger_spec.specs.Sound.{sound}
use Rattle.ledger_spec.specs.Check.{check_of}
use Rattle.ledger_spec.specs.Operations.{K}
use Rattle.ledger_spec.specs.Grammar.{Line, wrong}
use Rattle.ledger_spec.specs.Lines.{LineAnswer, shown, calls, checks, says}
use Rattle.ledger_laws.proofs.Answered.{answer_true}
use Rattle.ledger_laws.proofs.Asked.{ask_true}
use Rattle.bench_views.specs.View.{view}
use Rattle.bench_views.specs.Fit.{SoundWords}
use Rattle.outcomes.specs.Answered.{Answered}
use Rattle.outcomes.proofs.Outcomes.{sound_after, seen_after}
use Rattle.text_numbers.specs.declared.Reply.{Reply}
use Rattle.text_numbers.specs.Numbers.{numbers_of}
use Rattle.text_calls.specs.Turned.{Gave, Turned}

-- what a line says, of a reply
abbrev told_of : ℕ → Done → LineAnswer
told_of u d = record { numbers = shown d.number d.node.serial d.bench u; bench = d.bench }

sound_calls : (b : Bench) → sound b ≡ true → (u : ℕ) (c : Call) → calls b u c ≡ told_of u (perform b c)
unfolding calls whole
sound_calls b s u c = ap (λ (a : Answer). record { numbers = shown a.number a.node.serial a.bench u; bench = a.bench }) (answer_true b c s)

module _ (b : List ℕ) (W : SoundWords b) where
  -- a call's answer, by the code's call of the same reply
  pub gave : (a : LineAnswer) (u : ℕ) (c : Call) → a ≡ calls (view b) u c → (d : Call) → perform (view b) d ≡ perform (view b) c
      → (n : ℕ) (h : Handle) (b' : List ℕ) → Answered b d n h b' → (r : Reply) → numbers_of r ≡ shown n h.serial.0 (view b') u → Gave a r b'
  unfolding calls
  gave a u c e d q n h b' A r t =
      let done = sound_calls (view b) W.sound u in
      let p : a ≡ calls (view b) u d = e ∙ done c ∙ ap (told_of u) (sym q) ∙ sym (done d) in
      record {
        numbers = t
            ∙ (λ i. shown (A.0.number i) (A.1 i).serial (seen_after A.0 i) u)
            ∙ sym (ap (λ (s : LineAnswer). s.numbers) p);
        words = sound_after W A.0;
        seen = seen_after A.0 ∙ sym (ap (λ (s : LineAnswer). s.bench) p);
      }

  -- a line's
  pub turned : (l : Line) (u : ℕ) (c : Call) → says (view b) l ≡ calls (view b) u c → (d : Call) → perform (view b) d ≡ perform (view b) c
      → (n : ℕ) (h : Handle) (b' : List ℕ) → Answered b d n h b' → (r : Reply) → numbers_of r ≡ shown n h.serial.0 (view b') u → Turned b l r b'
  turned l = gave (says (view b) l)

  -- a check
  pub turned_check : (u n v : ℕ) (i : ℕ) → (n, (v, i)) ≡ check_of (view b) u → (r : Reply) → numbers_of r ≡ shown n v (view b) u → Turned b (Some (K u)) r b
  unfolding says checks
  turned_check u n v i e r t =
      let p : (n, (v, i)) ≡ ask (view b) (0, 0) (check_of (view b) u) = e ∙ sym (ask_true (view b) (0, 0) (check_of (view b) u) W.sound) in
      record { numbers = t ∙ ap (λ (x : ℕ × (ℕ × ℕ)). shown x.0 x.1.0 (view b) u) p; words = W; seen = refl }

  -- a line that is not of the grammar
  pub turned_wrong : (r : Reply) → numbers_of r ≡ (1, 0, pos 0, pos 0) → Turned b wrong r b
  unfolding says
  turned_wrong r t = record { numbers = t; words = W; seen = refl }
