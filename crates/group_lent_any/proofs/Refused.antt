-- A refused call on a group leaves every word of it, on any words and for whatever reason. Assumes nothing.
use Prim.Native.Nat.{ℕ}
use mathlib.Core.Path.{◌≡◌}
use mathlib.Core.Bool.{Bool, true, false, ◌&&◌}
use mathlib.Core.List.{List}
use Rattle.bench_words.specs.Codec.{pick}
use Rattle.sound_bench.specs.Sound.{sound_words}
use Rattle.group_lent.specs.Forms.{is_form, five_at}
use Rattle.group_lent_sound.specs.Test.{sound_in}
use Rattle.group_lent_any.specs.Any.{PoppedAny, SparedAny, AddedAny, ExtendedAny}

either_way : (t : Bool) (X Y Z : Type 0) → (X → Z) → (Y → Z) → pick t X Y → Z
either_way true X Y Z f g = f
either_way false X Y Z f g = g

module _ (ws : List ℕ) (n : ℕ) (after : List ℕ) where
  pub popped_refused : (os : List ℕ) → PoppedAny ws n os after → (n ≡ 0 → ⊥) → after ≡ ws
  popped_refused os = either_way (sound_in ws) _ _ _ (λ x. x.refused) (λ x r. x.1.1)

  pub spared_refused : (os : List ℕ) → SparedAny ws n os after → (n ≡ 0 → ⊥) → after ≡ ws
  spared_refused os = either_way (sound_in ws) _ _ _ (λ x. x.refused) (λ x r. x.1.1)

  pub added_refused : (b os : List ℕ) → AddedAny b ws os n after → (n ≡ 0 → ⊥) → after ≡ ws
  added_refused b os = either_way (sound_words b && (sound_in ws && is_form (five_at os 0))) _ _ _ (λ x. x.refused) (λ x r. x.1)

  pub extended_refused : (b vs : List ℕ) → ExtendedAny b ws vs n after → (n ≡ 0 → ⊥) → after ≡ ws
  extended_refused b vs = either_way (sound_words b && (sound_in ws && sound_in vs)) _ _ _ (λ x. x.refused) (λ x r. x.1)
