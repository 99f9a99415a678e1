-- In a floored tree of a sound bench no value is negative, so that the lowest stands at 2^60 or higher. Assumes nothing.
use Rattle.std.specs.Prelude.{None, Option, Some}
use Prim.Native.Nat.{ℕ, ◌+◌, ◌-◌, ◌<◌, ◌≤◌}
use mathlib.Core.Path.{◌≡◌, refl, sym, ◌∙◌, ap}
use mathlib.Core.Logic.{by_cases}
use mathlib.Core.Bool.{Bool, true, false, ◌&&◌, true≢false}
use mathlib.Core.List.{List}
use native.Mathlib.Decide.{dec_lt}
use native.Mathlib.Omega.{arith}
use borrow.Author.Tests.{lt-ltb, le-ltb, ltb-false}
use lib.IntN.{ℤ, pos, negsuc}
use lib.Signed.{lt_z, le_z}
use Rattle.ledger_spec.specs.Bench.{Node, Bench}
use Rattle.ledger_spec.specs.Look.{slot_of}
use Rattle.ledger_spec.specs.Tests.{is_shrink, sinks, floored, below}
use Rattle.ledger_spec.specs.Sound.{afloat}
use Rattle.ledger_spec.specs.Facts.{Floors}
use Rattle.ledger_spec.proofs.Accepted.{unsunk_tests}
use Rattle.ledger_laws.proofs.Floors.{level_top}
use Rattle.bench_views.specs.View.{view}
use Rattle.bench_views.specs.Fit.{Fit}
use Rattle.bench_floors.specs.Least.{Lowest, Least}

and_none : (c : Bool) → (c && false) ≡ false
and_none true = refl
and_none false = refl

not_sunk : (o : Option Node) → afloat o ≡ true → sinks (pos 0) o ≡ false
not_sunk None e = refl
not_sunk (Some n) e = go n.value e
  where
    go : (z : ℤ) → le_z (pos 0) z ≡ true → (is_shrink n.state && lt_z z (pos 0)) ≡ false
    go (pos m) k = ap (λ (c : Bool). is_shrink n.state && c) (le-ltb m 0 (omega arith)) ∙ and_none (is_shrink n.state)
    go (negsuc m) k = absurd (true≢false (sym k))

-- a growth by nothing is never BELOW
none_below : (b : Bench) → Floors b → (u : ℕ) → below b u (pos 0) ≡ false
none_below b L u = unsunk_tests b u (pos 0) (λ f w s h t. not_sunk (slot_of b w s) (L.values w s (level_top b L w ∙ ap (floored b) t ∙ f)))

module _ (b : List ℕ) (F : Fit b) (unit low : ℕ) (L : Lowest b unit low) where
  pub high : 1152921504606846976 ≤ low
  high = omega (arith, ltb-false low (1152921504606846976 + 0) (sym (L.is 0 (omega arith)) ∙ none_below (view b) F.facts.floors unit))

  pub least : Least b unit (low - 1152921504606846976)
  least = record {
    is = λ l k. L.is l k ∙ by_cases (dec_lt low (1152921504606846976 + l))
        (λ (h : low < 1152921504606846976 + l). lt-ltb low (1152921504606846976 + l) h ∙ sym (lt-ltb (low - 1152921504606846976) l (omega (arith, h, high))))
        (λ (h : low < 1152921504606846976 + l → ⊥). le-ltb low (1152921504606846976 + l) (omega (arith, h)) ∙ sym (le-ltb (low - 1152921504606846976) l (omega (arith, h, high))));
  }
