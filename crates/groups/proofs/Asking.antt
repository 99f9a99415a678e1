-- What each question is answered, once it is known whether the group is sound and of which kind it is; and the largest weight's test on a machine's
-- bits. Assumes nothing.
use Rattle.std.specs.Prelude.{None, Option}
use Prim.Native.Nat.{ℕ}
use mathlib.Core.Path.{◌≡◌, refl, sym, ap, ◌∙◌}
use mathlib.Core.Bool.{Bool, true, false, not}
use mathlib.Core.List.{List, [], ◌∷◌}
use native.Mathlib.Omega.{arith}
use borrow.Author.Tests.{ne_eqb}
use lib.Dec.{eqb}
use lib.IntN.{ℤ, pos, negsuc}
use mir.Syntax.{w64}
use mir.Val.{SFits, of_z}
use Rattle.ledger_spec.specs.Tests.{first}
use Rattle.ledger_spec.specs.Reads.{said}
use Rattle.ledger_spec.specs.Groups.{Group, largest, eq_z, sound_group}
use Rattle.ledger_spec.specs.GroupCalls.{is_largest, active, length_in, group_tests, is_empty, is_active, growth_of}

-- a weight is the largest where its bits are the largest's
pub same_bits : (z : ℤ) → SFits w64 z → eq_z z largest ≡ eqb (of_z w64 z) 9223372036854775807
same_bits (pos n) f = refl
same_bits (negsuc n) f = sym (ne_eqb (of_z w64 (negsuc n)) 9223372036854775807 (λ e. omega (arith, f.sfits, e)))

-- ---- BROKEN comes first
module _ {A : Type 0} (q : Group) (ts : List (Bool × ℕ)) (v z : A) where
  pub broken : sound_group q ≡ false → (2, z) ≡ said (first ((not (sound_group q), 2) ∷ ts)) v z
  unfolding said first
  broken e = sym (ap (λ (b : Bool). said (first ((not b, 2) ∷ ts)) v z) e)

  pub unbroken : sound_group q ≡ true → said (first ts) v z ≡ said (first ((not (sound_group q), 2) ∷ ts)) v z
  unfolding first
  unbroken e = sym (ap (λ (b : Bool). said (first ((not b, 2) ∷ ts)) v z) e)

-- ---- the three questions
module _ (q : Group) where
  pub empty_broken : sound_group q ≡ false → (2, false) ≡ is_empty q
  unfolding is_empty group_tests
  empty_broken e = broken q [] (is_largest q) false e

  pub active_broken : sound_group q ≡ false → (2, false) ≡ is_active q
  unfolding is_active group_tests
  active_broken e = broken q [] (active q) false e

  pub growth_broken : sound_group q ≡ false → (2, None) ≡ growth_of q
  unfolding growth_of
  growth_broken e = broken q ((is_largest q, 21) ∷ []) (length_in q) None e

  module _ (p : Group) (s : sound_group q ≡ true) (k : q ≡ p) where
    pub empty_is : (w : Bool) → w ≡ is_largest p → (0, w) ≡ is_empty q
    unfolding is_empty group_tests said first
    empty_is w e = ap (λ (b : Bool). (0, b)) (e ∙ sym (ap is_largest k)) ∙ unbroken q [] (is_largest q) false s

    pub active_is : (w : Bool) → w ≡ active p → (0, w) ≡ is_active q
    unfolding is_active group_tests said first
    active_is w e = ap (λ (b : Bool). (0, b)) (e ∙ sym (ap active k)) ∙ unbroken q [] (active q) false s

    growth_at : said (first ((is_largest p, 21) ∷ [])) (length_in p) None ≡ growth_of q
    unfolding growth_of
    growth_at = ap (λ (r : Group). said (first ((is_largest r, 21) ∷ [])) (length_in r) None) (sym k) ∙ unbroken q ((is_largest q, 21) ∷ []) (length_in q) None s

    pub growth_largest : is_largest p ≡ true → (21, None) ≡ growth_of q
    unfolding said first
    growth_largest e = sym (ap (λ (b : Bool). said (first ((b, 21) ∷ [])) (length_in p) None) e) ∙ growth_at

    pub growth_is : is_largest p ≡ false → (w : Option ℤ) → w ≡ length_in p → (0, w) ≡ growth_of q
    unfolding said first
    growth_is e w f = ap (λ (o : Option ℤ). (0, o)) f ∙ sym (ap (λ (b : Bool). said (first ((b, 21) ∷ [])) (length_in p) None) e) ∙ growth_at
