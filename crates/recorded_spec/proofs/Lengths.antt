-- A step's length: neither it nor what it leaves is negative. Assumes nothing.
use Rattle.std.specs.Prelude.{None, Option, Some}
use Prim.Native.Nat.{ℕ, zero, suc, ◌+◌, ◌-◌, ◌≤◌, ◌<◌}
use mathlib.Core.Path.{◌≡◌, refl, sym, ◌∙◌, ap}
use mathlib.Core.Bool.{Bool, true, false, not, cond, true≢false}
use mathlib.Core.List.{◌∷◌, []}
use native.Mathlib.Omega.{arith}
use lib.Dec.{ltb}
use borrow.Author.Tests.{ltb-true, ltb-false, le-ltb}
use lib.IntN.{ℤ, pos, negsuc, ◌-ℤ◌}
use lib.Signed.{lt_z}
use Rattle.ledger_spec.specs.Numbers.{NOTHING, STUCK}
use Rattle.ledger_spec.specs.Tests.{first}
use Rattle.ledger_spec.specs.Groups.{Group, growth, conflicts, largest, eq_z, smaller}
use Rattle.recorded_spec.specs.Recorded.{group_tests, growth_in, step_by}

pub pos_minus : (a c : ℕ) → c ≤ a → pos a -ℤ pos c ≡ pos (a - c)
pos_minus a zero h = ap pos (omega arith)
pos_minus a (suc c) h = ap (λ (t : Bool). cond t (negsuc (suc c - suc a)) (pos (a - suc c))) (le-ltb a (suc c) h)

-- the smaller of two numbers
abbrev pub least : ℕ → ℕ → ℕ
least a c = cond (ltb c a) c a

pub smaller_pos : (a c : ℕ) → smaller (pos a) (pos c) ≡ pos (least a c)
smaller_pos a c = go (ltb c a)
  where
    go : (t : Bool) → cond t (pos c) (pos a) ≡ pos (cond t c a)
    go true = refl
    go false = refl

pub least_low : (a c : ℕ) → (least a c ≤ a) × (least a c ≤ c)
least_low a c = go (ltb c a) refl
  where
    go : (t : Bool) → ltb c a ≡ t → (cond t c a ≤ a) × (cond t c a ≤ c)
    go true e = (omega (arith, ltb-true c a e), omega arith)
    go false e = (omega arith, ltb-false c a e)

pub least_some : (a c : ℕ) → 0 < a → 0 < c → 0 < least a c
least_some a c h k = go (ltb c a)
  where
    go : (t : Bool) → 0 < cond t c a
    go true = k
    go false = h

-- ---- where a group lets a step go on, its growth is above 0
pub group_grows : (g : Option Group) → first (group_tests g) ≡ 0 → lt_z (pos 0) (growth_in g) ≡ true
unfolding first group_tests
group_grows None e = absurd (omega (arith, e))
group_grows (Some (conflicts es ss)) e = absurd (omega (arith, e))
group_grows (Some (growth n f)) e = go (eq_z n largest) (lt_z (pos 0) n) e
  where
    go : (x y : Bool) → first ((x, NOTHING) ∷ (not y, STUCK) ∷ []) ≡ 0 → y ≡ true
    go true y d = absurd (omega (arith, d))
    go false true d = refl
    go false false d = absurd (omega (arith, d))

-- ---- a number above 0 is one
pub above : (z : ℤ) → lt_z (pos 0) z ≡ true → (n : ℕ) × (z ≡ pos n) × (0 < n)
above (pos n) e = (n, refl, ltb-true 0 n e)
above (negsuc n) e = absurd (true≢false (sym e))

-- the step and what it leaves, as numbers
pub record Stepped (left : ℤ) (x : ℤ) : Type 0 where
  pub by : ℕ
  pub rest : ℕ
  pub some_way : 0 < by
  pub is : smaller left x ≡ pos by
  pub leaves : left -ℤ smaller left x ≡ pos rest
  pub adds : left ≡ pos (by + rest)

pub stepped : (left x : ℤ) → lt_z (pos 0) left ≡ true → lt_z (pos 0) x ≡ true → Stepped left x
stepped left x h k = go (above left h) (above x k)
  where
    go : ((n : ℕ) × (left ≡ pos n) × (0 < n)) → ((n : ℕ) × (x ≡ pos n) × (0 < n)) → Stepped left x
    go (a, p, h') (c, q, k') = record {
      by = least a c;
      rest = a - least a c;
      some_way = least_some a c h' k';
      is = e;
      leaves = ap (λ (z : ℤ). left -ℤ z) e ∙ ap (λ (z : ℤ). z -ℤ pos (least a c)) p ∙ pos_minus a (least a c) (least_low a c).0;
      adds = p ∙ ap pos (omega (arith, (least_low a c).0));
    }
      where
        e : smaller left x ≡ pos (least a c)
        e = ap (λ (z : ℤ). smaller z x) p ∙ ap (smaller (pos a)) q ∙ smaller_pos a c
