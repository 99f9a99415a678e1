-- No second answer: two results that meet the contract of a call on groups are one, and so are the words after them; on sound words and on any. (A read's
-- contract is an equation with a definition.) Assumes nothing.
use Rattle.std.specs.Prelude.{Option}
use Prim.Native.Nat.{ℕ}
use mathlib.Core.Path.{◌≡◌, sym, ap, ◌∙◌}
use mathlib.Core.Bool.{Bool, true, false, ◌&&◌}
use mathlib.Core.List.{List}
use Rattle.kinds.specs.declared.Obstacle.{Obstacle}
use Rattle.bench_words.specs.Codec.{pick}
use Rattle.ledger_spec.specs.Groups.{Group}
use Rattle.sound_bench.specs.Sound.{sound_words}
use Rattle.group_lent.specs.Forms.{is_form, five_at}
use Rattle.group_lent.specs.declared.Five.{Five}
use Rattle.group_lent_sound.specs.Test.{sound_in}
use Rattle.group_lent_calls.specs.Calls.{Peeked, Popped, Spared, Added, Extended}
use Rattle.group_lent_any.specs.Any.{PeekedAny, PoppedAny, SparedAny, AddedAny, ExtendedAny}

by_verdict : (t : Bool) (X Y X' Y' Z : Type 0) → (X → X' → Z) → (Y → Y' → Z) → pick t X Y → pick t X' Y' → Z
by_verdict true X Y X' Y' Z f g = f
by_verdict false X Y X' Y' Z f g = g

-- ---- on sound words
module _ {ws : List ℕ} {n m : ℕ} {os ps : List ℕ} where
  pub peeked_once : Peeked ws n os → Peeked ws m ps → (n ≡ m) × (os ≡ ps)
  peeked_once x y = (ap (λ (r : ℕ × Option Obstacle). r.0) (x.seen ∙ sym y.seen), x.obstacle ∙ sym y.obstacle)

  module _ {after later : List ℕ} where
    pub popped_once : Popped ws n os after → Popped ws m ps later → (n ≡ m) × ((os ≡ ps) × (after ≡ later))
    popped_once x y = (ap (λ (r : ℕ × (Option Obstacle × Group)). r.0) (x.seen ∙ sym y.seen), (x.obstacle ∙ sym y.obstacle, x.words ∙ sym y.words))

    pub spared_once : Spared ws n os after → Spared ws m ps later → (n ≡ m) × ((os ≡ ps) × (after ≡ later))
    spared_once x y = (ap (λ (r : ℕ × (Option Obstacle × Group)). r.0) (x.seen ∙ sym y.seen), (x.obstacle ∙ sym y.obstacle, x.words ∙ sym y.words))

module _ {b ws : List ℕ} {n m : ℕ} {after later : List ℕ} where
  pub added_once : {f : Five} → Added b ws f n after → Added b ws f m later → (n ≡ m) × (after ≡ later)
  added_once x y = (x.number ∙ sym y.number, x.words ∙ sym y.words)

  pub extended_once : {vs : List ℕ} → Extended b ws vs n after → Extended b ws vs m later → (n ≡ m) × (after ≡ later)
  extended_once x y = (x.number ∙ sym y.number, x.words ∙ sym y.words)

-- ---- on any words
module _ (ws : List ℕ) (n m : ℕ) (os ps : List ℕ) where
  pub peeked_any_once : PeekedAny ws n os → PeekedAny ws m ps → (n ≡ m) × (os ≡ ps)
  peeked_any_once = by_verdict (sound_in ws) _ _ _ _ _ (λ x y. peeked_once x y) (λ x y. (x.0 ∙ sym y.0, x.1 ∙ sym y.1))

  pub popped_any_once : (after later : List ℕ) → PoppedAny ws n os after → PoppedAny ws m ps later → (n ≡ m) × ((os ≡ ps) × (after ≡ later))
  popped_any_once after later = by_verdict (sound_in ws) _ _ _ _ _ (λ x y. popped_once x y) (λ x y. (x.0 ∙ sym y.0, (x.1.0 ∙ sym y.1.0, x.1.1 ∙ sym y.1.1)))

  pub spared_any_once : (after later : List ℕ) → SparedAny ws n os after → SparedAny ws m ps later → (n ≡ m) × ((os ≡ ps) × (after ≡ later))
  spared_any_once after later = by_verdict (sound_in ws) _ _ _ _ _ (λ x y. spared_once x y) (λ x y. (x.0 ∙ sym y.0, (x.1.0 ∙ sym y.1.0, x.1.1 ∙ sym y.1.1)))

module _ (b ws : List ℕ) (n m : ℕ) (after later : List ℕ) where
  pub added_any_once : (os : List ℕ) → AddedAny b ws os n after → AddedAny b ws os m later → (n ≡ m) × (after ≡ later)
  added_any_once os = by_verdict (sound_words b && (sound_in ws && is_form (five_at os 0))) _ _ _ _ _ (λ x y. added_once x y) (λ x y. (x.0 ∙ sym y.0, x.1 ∙ sym y.1))

  pub extended_any_once : (vs : List ℕ) → ExtendedAny b ws vs n after → ExtendedAny b ws vs m later → (n ≡ m) × (after ≡ later)
  extended_any_once vs = by_verdict (sound_words b && (sound_in ws && sound_in vs)) _ _ _ _ _ (λ x y. extended_once x y) (λ x y. (x.0 ∙ sym y.0, x.1 ∙ sym y.1))
