-- No second answer: two results that meet a function's contract are one, since each contract is an equation whose one side shows every field of the
-- result. Assumes nothing.
use Rattle.std.specs.Prelude.{None, Option, Some}
use Prim.Native.Nat.{ℕ}
use mathlib.Core.Path.{◌≡◌, refl, sym, ap, ◌∙◌}
use mathlib.Core.Bool.{Bool}
use lib.IntN.{ℤ}
use Rattle.ledger_spec.specs.Groups.{sound_group}
use Rattle.ledger_spec.specs.GroupCalls.{is_empty, is_active, growth_of}
use Rattle.groups.specs.View.{group_of}
use Rattle.groups.specs.Shown.{empty_of, shown_told, maybe_length, shown_asked}
use Rattle.groups.specs.declared.Group.{Group as Code}
use Rattle.groups.specs.declared.Told.{Told}
use Rattle.groups.specs.declared.Asked.{Asked}

told_same : (r s : Told) → shown_told r ≡ shown_told s → r ≡ s
told_same r s e = λ i. record { number = (e i).0; yes = (e i).1 }

abbrev length_back : Option ℤ → Option ℤ
length_back None = None
length_back (Some l) = Some l

length_back_lem : (m : Option ℤ) → length_back (maybe_length m) ≡ m
length_back_lem None = refl
length_back_lem (Some l) = refl

asked_same : (r s : Asked) → shown_asked r ≡ shown_asked s → r ≡ s
asked_same r s e = λ i. record { number = (e i).0; length = same i }
  where
    same : r.length ≡ s.length
    same = sym (length_back_lem r.length) ∙ ap (λ (p : ℕ × Option ℤ). length_back p.1) e ∙ length_back_lem s.length

pub only_empty_group : (r s : Code) → r ≡ empty_of → s ≡ empty_of → r ≡ s
only_empty_group r s p q = p ∙ sym q

module _ (g : Code) where
  pub only_group_is_sound : (r s : Bool) → r ≡ sound_group (group_of g) → s ≡ sound_group (group_of g) → r ≡ s
  only_group_is_sound r s p q = p ∙ sym q

  pub only_is_empty : (r s : Told) → shown_told r ≡ is_empty (group_of g) → shown_told s ≡ is_empty (group_of g) → r ≡ s
  only_is_empty r s p q = told_same r s (p ∙ sym q)

  pub only_is_active : (r s : Told) → shown_told r ≡ is_active (group_of g) → shown_told s ≡ is_active (group_of g) → r ≡ s
  only_is_active r s p q = told_same r s (p ∙ sym q)

  pub only_get_none_zero_growth : (r s : Asked) → shown_asked r ≡ growth_of (group_of g) → shown_asked s ≡ growth_of (group_of g) → r ≡ s
  only_get_none_zero_growth r s p q = asked_same r s (p ∙ sym q)
