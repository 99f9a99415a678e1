-- Which interface a line shows: none where UNIT was answered, where it is outside or where it has a parent. Assumes nothing.
use Prim.Native.Nat.{ℕ}
use mathlib.Core.Path.{◌≡◌, refl, sym, ◌∙◌}
use mathlib.Core.Logic.{◌≢◌}
use mathlib.Core.Bool.{Bool, true, false, ◌||◌}
use mathlib.Core.List.{[], ◌∷◌}
use native.Mathlib.Omega.{arith}
use lib.Dec.{eqb}
use lib.IntN.{ℤ, pos}
use borrow.Author.Tests.{eq-eqb, ne_eqb}
use Rattle.ledger_spec.specs.Bench.{Bench}
use Rattle.ledger_spec.specs.Look.{interface}
use Rattle.ledger_spec.specs.Tests.{first, outside, child}
use Rattle.ledger_spec.specs.Refuse.{unit_tests}
use Rattle.ledger_spec.specs.Lines.{shown}

closed_test : (o c : Bool) → first ((o, 3) ∷ (c, 4) ∷ []) ≢ 0 → o || c ≡ true
unfolding first
closed_test true c q = refl
closed_test false true q = refl
closed_test false false q = absurd (q refl)

open_test : (o c : Bool) → first ((o, 3) ∷ (c, 4) ∷ []) ≡ 0 → o || c ≡ false
unfolding first
open_test true c q = absurd (omega arith)
open_test false true q = absurd (omega arith)
open_test false false q = refl

either : (a c : Bool) → c ≡ true → a || c ≡ true
either true c e = refl
either false c e = e

module _ (number serial : ℕ) (b : Bench) (u : ℕ) where
  none_shown : eqb number 3 || (outside u || child b u) ≡ true → (number, serial, pos 0, pos 0) ≡ shown number serial b u
  unfolding shown
  none_shown e = sym (rw (e, shown))

  pub shown_outside : number ≡ 3 → (number, serial, pos 0, pos 0) ≡ shown number serial b u
  shown_outside e = none_shown (rw (eq-eqb number 3 e))

  pub shown_closed : first (unit_tests b u) ≢ 0 → (number, serial, pos 0, pos 0) ≡ shown number serial b u
  unfolding unit_tests
  shown_closed q = none_shown (either (eqb number 3) (outside u || child b u) (closed_test (outside u) (child b u) q))

  pub shown_open : number ≢ 3 → first (unit_tests b u) ≡ 0 → (v w : ℤ) → v ≡ (interface b u).speed → w ≡ (interface b u).sum → (number, serial, v, w) ≡ shown number serial b u
  unfolding unit_tests shown
  shown_open n e v w p q =
      let t : eqb number 3 || (outside u || child b u) ≡ false = rw (ne_eqb number 3 n) (open_test (outside u) (child b u) e) in
      (λ i. (number, serial, p i, q i)) ∙ sym (rw (t, shown))
