-- The number of a list of tests, part by part: a refusal by the first part is one by the whole; else the rest decides. Assumes nothing.
use Prim.Native.Nat.{ℕ}
use mathlib.Core.Path.{◌≡◌, refl, sym, ◌∙◌}
use mathlib.Core.Logic.{◌≢◌}
use mathlib.Core.Bool.{Bool, true, false}
use mathlib.Core.List.{List, [], ◌∷◌, ◌++◌}
use Rattle.ledger_spec.specs.Tests.{first}
use Rattle.ledger_spec.proofs.Passed.{Failed}

refused_on : (ts rest : List (Bool × ℕ)) → first ts ≢ 0 → first (ts ++ rest) ≡ first ts
unfolding first
refused_on [] rest q = absurd (q refl)
refused_on (t ∷ ts) rest q = go t.0 q (refused_on ts rest)
  where
    won : Bool → List (Bool × ℕ) → ℕ
    won c l = elim c [ true ↦ t.1 | false ↦ first l ]

    go : (c : Bool) → won c ts ≢ 0 → (first ts ≢ 0 → first (ts ++ rest) ≡ first ts) → won c (ts ++ rest) ≡ won c ts
    go true q ih = refl
    go false q ih = ih q

passed_on : (ts rest : List (Bool × ℕ)) → Failed ts → first (ts ++ rest) ≡ first rest
unfolding first
passed_on [] rest f = refl
passed_on (t ∷ ts) rest f = rw (f.0, first) (passed_on ts rest f.1)

module _ (ts rest : List (Bool × ℕ)) where
  pub refused_by : (n : ℕ) → n ≡ first ts → n ≢ 0 → n ≡ first (ts ++ rest)
  refused_by n e q = e ∙ sym (refused_on ts rest (λ z. q (e ∙ z)))

  pub decided_by : Failed ts → (n : ℕ) → n ≡ first rest → n ≡ first (ts ++ rest)
  decided_by f n e = e ∙ sym (passed_on ts rest f)
