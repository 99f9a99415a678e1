-- What both reads say: a refused one its number and no value, an accepted one 0 and the value. Assumes nothing.
use Rattle.std.specs.Prelude.{None}
use Prim.Native.Nat.{ℕ}
use mathlib.Core.Path.{◌≡◌, refl, ap, sym, ◌∙◌}
use mathlib.Core.Bool.{Bool, true, false}
use mathlib.Core.List.{[], ◌∷◌}
use native.Mathlib.Omega.{arith}
use lib.Dec.{leb}
use lib.ListN.{length}
use Rattle.ledger_spec.specs.Bench.{Bench}
use Rattle.ledger_spec.specs.Tests.{first, outside, child}
use Rattle.ledger_spec.specs.Refuse.{unit_tests}
use Rattle.ledger_spec.specs.Reads.{said, slots_of, index_tests}
use Rattle.read_sound.proofs.Saying.{refused, accepted}
use Rattle.read_present.specs.Present.{present_in, next_from, present_of, next_of}
use Rattle.read_present.specs.Shown.{walk_of}

-- a test after those of the interface counts only where they pass
after : (c d t : Bool) (n : ℕ) → (first ((c, 3) ∷ (d, 4) ∷ []) ≡ 0 → ⊥) → first ((c, 3) ∷ (d, 4) ∷ (t, n) ∷ []) ≡ first ((c, 3) ∷ (d, 4) ∷ [])
unfolding first
after true d t n q = refl
after false true t n q = refl
after false false t n q = absurd (q refl)

passed_on : (c d t : Bool) (n : ℕ) → first ((c, 3) ∷ (d, 4) ∷ []) ≡ 0 → first ((c, 3) ∷ (d, 4) ∷ (t, n) ∷ []) ≡ first ((t, n) ∷ [])
unfolding first
passed_on true d t n q = absurd (omega arith)
passed_on false true t n q = absurd (omega arith)
passed_on false false t n q = refl

module _ (b : Bench) (u n : ℕ) (e : n ≡ first (unit_tests b u)) where
  pub present_no : (n ≡ 0 → ⊥) → (n, 0) ≡ present_of b u
  unfolding present_of
  present_no q = refused (present_in (slots_of b u)) 0 n (first (unit_tests b u)) e q

  pub present_yes : n ≡ 0 → (w : ℕ) → w ≡ present_in (slots_of b u) → (0, w) ≡ present_of b u
  unfolding present_of
  present_yes q = accepted (present_in (slots_of b u)) 0 n (first (unit_tests b u)) e q

  pub next_no : (k : ℕ) → (n ≡ 0 → ⊥) → (n, (0, None)) ≡ next_of b u k
  unfolding next_of index_tests unit_tests
  next_no k q = refused (next_from 0 k (slots_of b u)) (0, None) n (first (index_tests b u k))
      (e ∙ sym (after (outside u) (child b u) (leb (length (slots_of b u)) k) 18 (λ z. q (e ∙ z)))) q

  pub next_yes : (k : ℕ) → n ≡ 0 → walk_of b u k ≡ next_of b u k
  unfolding next_of walk_of index_tests unit_tests
  next_yes k q = ap (λ (m : ℕ). said m (next_from 0 k (slots_of b u)) (0, None)) (sym (passed_on (outside u) (child b u) (leb (length (slots_of b u)) k) 18 (sym e ∙ q)))
