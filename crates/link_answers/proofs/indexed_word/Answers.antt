-- Refused it is 0. Assumes nothing.
use Rattle.std.specs.Prelude.{Option}
use Prim.Native.Nat.{ℕ, zero, suc}
use mathlib.Core.Path.{◌≡◌, refl, sym, ap, ◌∙◌}
use Rattle.ledger_spec.specs.Bench.{Handle}
use Rattle.link_answers.specs.Forms.{maybe_word, indexed_word}
use Rattle.link_answers.proofs.indexed_word.Goals as goal

zero-else : (n : ℕ) (m : Option Handle) → (n ≡ 0 → ⊥) → 0 ≡ indexed_word n m
zero-else zero m k = absurd (k refl)
zero-else (suc n) m k = refl

plain-else : (n : ℕ) (m : Option Handle) (r : ℕ) → n ≡ 0 → r ≡ maybe_word m → r ≡ indexed_word n m
plain-else n m r k e = e ∙ sym (ap (λ (i : ℕ). indexed_word i m) k)

pub returns-then-number-eq0 : goal.returns-then-number-eq0
returns-then-number-eq0 c = plain-else _ _ _ c.if-number-eq0.true c.maybe_word.ensures

pub returns : goal.returns
returns c = zero-else _ _ c.if-number-eq0.false
