-- The steps' sums by another test that says the same; and by none at all where all were accepted. Assumes nothing.
use Rattle.std.specs.Prelude.{Option}
use Prim.Native.Nat.{ℕ, zero, suc, ◌+◌, ◌≤◌}
use mathlib.Core.Path.{◌≡◌, refl, sym, ◌∙◌, ap, ap₂}
use mathlib.Core.Bool.{Bool, true, false}
use mathlib.Core.List.{List, [], ◌∷◌}
use native.Mathlib.Omega.{arith}
use lib.ListN.{length}
use lib.IntN.{ℤ, pos, ◌+ℤ◌, ◌-ℤ◌}
use lib.Signed.{lt_z}
use Rattle.ledger_spec.specs.Numbers.{SHORT}
use Rattle.ledger_spec.specs.Tests.{first}
use Rattle.ledger_spec.specs.Groups.{Group}
use Rattle.recorded_spec.specs.Recorded.{group_tests, growth_in, step_by, or_else}
use Rattle.recorded_spec.specs.Sums.{Sums, refused, further, sums}
use Rattle.recorded_spec.proofs.Lengths.{group_grows, Stepped, stepped}

-- a step if there is length left
abbrev if_left : Bool → Sums → Sums
if_left t s = elim t [ true ↦ s | false ↦ refused 0 ]

module _ (f g : ℤ → ℕ) where
  -- one step, by the number of its group's own tests
  onward : (k : ℕ) (l : ℤ) (d : ℕ) (s t : Sums) → (k ≡ 0 → (by : ℕ) × (l ≡ pos by)) → ((n : ℕ) → f (pos n) ≡ g (pos n)) → (k ≡ 0 → s ≡ t)
      → further (or_else k (f (pos d +ℤ l))) l s ≡ further (or_else k (g (pos d +ℤ l))) l t
  onward (suc k) l d s t p e q = refl
  onward zero l d s t p e q = go (p refl)
    where
      go : ((by : ℕ) × (l ≡ pos by)) → further (f (pos d +ℤ l)) l s ≡ further (g (pos d +ℤ l)) l t
      go (by, h) = ap₂ (λ (n : ℕ) (x : Sums). further n l x) (ap (λ (z : ℤ). f (pos d +ℤ z)) h ∙ e (d + by) ∙ ap (λ (z : ℤ). g (pos d +ℤ z)) (sym h)) (q refl)

  pub sums_ext : ((n : ℕ) → f (pos n) ≡ g (pos n)) → (gs : List (Option Group)) (d : ℕ) (left : ℤ) → sums f (pos d) left gs ≡ sums g (pos d) left gs
  unfolding sums
  sums_ext e [] d left = refl
  sums_ext e (x ∷ gs) d left = go (lt_z (pos 0) left) refl (λ n z. sums_ext e gs n z)
    where
      l : ℤ
      l = step_by left x

      go : (t : Bool) → lt_z (pos 0) left ≡ t → ((n : ℕ) (z : ℤ) → sums f (pos n) z gs ≡ sums g (pos n) z gs)
          → if_left t (further (or_else (first (group_tests x)) (f (pos d +ℤ l))) l (sums f (pos d +ℤ l) (left -ℤ l) gs))
          ≡ if_left t (further (or_else (first (group_tests x)) (g (pos d +ℤ l))) l (sums g (pos d +ℤ l) (left -ℤ l) gs))
      go false k ih = refl
      go true k ih = onward (first (group_tests x)) l d (sums f (pos d +ℤ l) (left -ℤ l) gs) (sums g (pos d +ℤ l) (left -ℤ l) gs) (λ z. ((s z).by, (s z).is)) e same
        where
          s : first (group_tests x) ≡ 0 → Stepped left (growth_in x)
          s z = stepped left (growth_in x) k (group_grows x z)

          same : first (group_tests x) ≡ 0 → sums f (pos d +ℤ l) (left -ℤ l) gs ≡ sums g (pos d +ℤ l) (left -ℤ l) gs
          same z = ap (λ (y : ℤ). sums f (pos d +ℤ y) (left -ℤ l) gs) (s z).is ∙ ih (d + (s z).by) (left -ℤ l) ∙ ap (λ (y : ℤ). sums g (pos d +ℤ y) (left -ℤ l) gs) (sym (s z).is)

-- ---- where all were accepted, no test is needed
module _ (f : ℤ → ℕ) where
  taken : (k n : ℕ) (l : ℤ) (s t : Sums) → (s.number ≡ 0 → t ≡ s) → (further (or_else k n) l s).number ≡ 0 → further (or_else k 0) l t ≡ further (or_else k n) l s
  taken zero zero l s t q e = ap (λ (x : Sums). further 0 l x) (q e)
  taken zero (suc n) l s t q e = absurd (omega (arith, e))
  taken (suc k) n l s t q e = refl

  pub sums_any : (gs : List (Option Group)) (d left : ℤ) → (sums f d left gs).number ≡ 0 → sums (λ t. 0) d left gs ≡ sums f d left gs
  unfolding sums
  sums_any [] d left e = refl
  sums_any (x ∷ gs) d left e = go (lt_z (pos 0) left) (λ c y q. sums_any gs c y q) e
    where
      l : ℤ
      l = step_by left x

      go : (t : Bool) → ((c y : ℤ) → (sums f c y gs).number ≡ 0 → sums (λ t. 0) c y gs ≡ sums f c y gs)
          → (if_left t (further (or_else (first (group_tests x)) (f (d +ℤ l))) l (sums f (d +ℤ l) (left -ℤ l) gs))).number ≡ 0
          → if_left t (further (or_else (first (group_tests x)) 0) l (sums (λ t. 0) (d +ℤ l) (left -ℤ l) gs))
          ≡ if_left t (further (or_else (first (group_tests x)) (f (d +ℤ l))) l (sums f (d +ℤ l) (left -ℤ l) gs))
      go false ih q = refl
      go true ih q = taken (first (group_tests x)) (f (d +ℤ l)) l (sums f (d +ℤ l) (left -ℤ l) gs) (sums (λ t. 0) (d +ℤ l) (left -ℤ l) gs) (ih (d +ℤ l) (left -ℤ l)) q

-- ---- no more steps than groups
module _ (f : ℤ → ℕ) where
  few_on : (n : ℕ) (l : ℤ) (s : Sums) (k : ℕ) → length s.lengths ≤ k → length (further n l s).lengths ≤ suc k
  few_on zero l s k h = omega arith
  few_on (suc n) l s k h = omega arith

  pub sums_few : (gs : List (Option Group)) (d left : ℤ) → length (sums f d left gs).lengths ≤ length gs
  unfolding sums
  sums_few [] d left = go (lt_z (pos 0) left)
    where
      none_yet : Bool → Sums
      none_yet t = elim t [ true ↦ refused SHORT | false ↦ refused 0 ]

      go : (t : Bool) → length (none_yet t).lengths ≤ 0
      go true = omega arith
      go false = omega arith
  sums_few (x ∷ gs) d left = go (lt_z (pos 0) left) (sums_few gs (d +ℤ step_by left x) (left -ℤ step_by left x))
    where
      l : ℤ
      l = step_by left x

      go : (t : Bool) → length (sums f (d +ℤ l) (left -ℤ l) gs).lengths ≤ length gs
          → length (if_left t (further (or_else (first (group_tests x)) (f (d +ℤ l))) l (sums f (d +ℤ l) (left -ℤ l) gs))).lengths ≤ suc (length gs)
      go false h = omega arith
      go true h = few_on (or_else (first (group_tests x)) (f (d +ℤ l))) l (sums f (d +ℤ l) (left -ℤ l) gs) (length gs) h
