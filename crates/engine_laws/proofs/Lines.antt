-- THEOREM. Lines of the text program have the same answers, byte for byte, in either engine. Assumes nothing.
use Rattle.std.specs.Prelude.{None, Some}
use Prim.Native.Nat.{ℕ}
use mathlib.Core.Path.{◌≡◌, refl, ap, ◌∙◌}
use mathlib.Core.Bool.{Bool}
use mathlib.Core.List.{List, [], ◌∷◌, map}
use Rattle.ledger_spec.specs.Bench.{Bench}
use Rattle.ledger_spec.specs.Calls.{Call, Defect, Blossom, Expand, SetState, Grow, Fuse, Clear}
use Rattle.ledger_spec.specs.SoundTree.{units}
use Rattle.ledger_spec.specs.Answers.{Answer, answer}
use Rattle.ledger_spec.specs.Operations.{D, B, E, S, G, F, C, K}
use Rattle.ledger_spec.specs.Grammar.{Line}
use Rattle.ledger_spec.specs.Lines.{LineAnswer, seek, named, shown, calls, checks, says}
use Rattle.ledger_spec.specs.Program.{answers, after_lines, texts}
use Rattle.engine_laws.specs.Engines.{in_engine, line_in}
use Rattle.engine_laws.proofs.Looks.{gather_in}
use Rattle.engine_laws.specs.Questions.{Check}
use Rattle.engine_laws.proofs.Answered.{answer_engine}
use Rattle.engine_laws.proofs.Asked.{read_engine}

module _ (m : Bool) where
  pub shown_in : (n k : ℕ) (b : Bench) (u : ℕ) → shown n k (in_engine m b) u ≡ shown n k b u
  unfolding shown
  shown_in n k b u = refl

  module _ (b : Bench) where
    pub named_in : (k : ℕ) → named (in_engine m b) k ≡ named b k
    unfolding named
    named_in k = λ i. seek k (gather_in m b units i)

    pub calls_in : (u : ℕ) (c c' : Call) → c ≡ c' → calls (in_engine m b) u c ≡ line_in m (calls b u c')
    unfolding calls shown
    calls_in u c c' e = (λ i. wrote (answer (in_engine m b) (e i))) ∙ ap wrote (answer_engine m b c')
      where
        wrote : Answer → LineAnswer
        wrote a = record { numbers = shown a.number a.node.serial a.bench u; bench = a.bench }

    pub checks_in : (u : ℕ) → checks (in_engine m b) u ≡ line_in m (checks b u)
    unfolding checks shown
    checks_in u = λ i. record { numbers = shown (read_engine m b (Check u) i).0 (read_engine m b (Check u) i).1.0 b u; bench = in_engine m b }

    pub says_engine : (l : Line) → says (in_engine m b) l ≡ line_in m (says b l)
    unfolding says
    says_engine (Some (D u v)) = calls_in u (Defect u v) (Defect u v) refl
    says_engine (Some (B u ks)) = calls_in u (Blossom u (map (named (in_engine m b)) ks) []) (Blossom u (map (named b) ks) []) (λ i. Blossom u (map (λ k. named_in k i) ks) [])
    says_engine (Some (E u k)) = calls_in u (Expand u (named (in_engine m b) k)) (Expand u (named b k)) (λ i. Expand u (named_in k i))
    says_engine (Some (S u k s)) = calls_in u (SetState u (named (in_engine m b) k) s) (SetState u (named b k) s) (λ i. SetState u (named_in k i) s)
    says_engine (Some (G u l)) = calls_in u (Grow u l) (Grow u l) refl
    says_engine (Some (F p l r)) = calls_in p (Fuse p l r) (Fuse p l r) refl
    says_engine (Some (C u)) = calls_in u (Clear u) (Clear u) refl
    says_engine (Some (K u)) = checks_in u
    says_engine None = refl

  -- the four numbers of each line, and the bench after all
  pub lines_engine : (b : Bench) (ls : List Line) → answers (in_engine m b) ls ≡ answers b ls
  unfolding answers
  lines_engine b [] = refl
  lines_engine b (l ∷ ls) = (λ i. (says_engine b l i).numbers ∷ answers (says_engine b l i).bench ls) ∙ ap (◌∷◌ (says b l).numbers) (lines_engine (says b l).bench ls)

  pub after_lines_lem : (b : Bench) (ls : List Line) → after_lines (in_engine m b) ls ≡ in_engine m (after_lines b ls)
  unfolding after_lines
  after_lines_lem b [] = refl
  after_lines_lem b (l ∷ ls) = (λ i. after_lines (says_engine b l i).bench ls) ∙ after_lines_lem (says b l).bench ls

  -- the bytes
  pub texts_engine : (b : Bench) (ls : List Line) → texts (answers (in_engine m b) ls) ≡ texts (answers b ls)
  texts_engine b ls = ap texts (lines_engine b ls)
