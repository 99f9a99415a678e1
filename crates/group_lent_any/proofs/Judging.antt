-- The verdict of the tests picks the promise. Assumes nothing.
use Prim.Native.Nat.{ℕ}
use mathlib.Core.Path.{◌≡◌, refl, sym, ap, ◌∙◌}
use mathlib.Core.Bool.{Bool, true, false, false≢true, true≢false, not, ◌&&◌}
use mathlib.Core.List.{List}
use borrow.Author.Tests.{not-true, not-false}
use Rattle.bench_words.specs.Codec.{pick}
use Rattle.ledger_spec.specs.Groups.{Group}
use Rattle.sound_bench.specs.Sound.{sound_words}
use Rattle.group_lent.specs.Place.{group_in, SoundGroup}
use Rattle.group_lent_sound.specs.Test.{sound_in}
use Rattle.group_lent_any.specs.Any.{Judged, Ready, asked_of}

pub picks : (b : Bool) (X Y : Type 0) → b ≡ true → X → pick b X Y
picks true X Y e x = x
picks false X Y e x = absurd (false≢true e)

pub skips : (b : Bool) (X Y : Type 0) → b ≡ false → Y → pick b X Y
skips true X Y e y = absurd (true≢false e)
skips false X Y e y = y

two_fail : (a b c : Bool) → (a && b) ≡ false → (a && (b && c)) ≡ false
two_fail false b c e = refl
two_fail true b c e = rw e

third_fails : (a b c : Bool) → (a && b) ≡ true → c ≡ false → (a && (b && c)) ≡ false
third_fails false b c e f = refl
third_fails true b c e f = rw (e, f)

all_pass : (a b c : Bool) → (a && b) ≡ true → c ≡ true → (a && (b && c)) ≡ true
all_pass false b c e f = e
all_pass true b c e f = rw (e, f)

-- of a call that also asks for t
module _ (b ws : List ℕ) (s : Bool) (R : Ready b ws s) (t : Bool) (X Y : Type 0) where
  pub not_ready : not s ≡ true → Y → pick (sound_words b && (sound_in ws && t)) X Y
  not_ready n y = skips _ X Y (two_fail (sound_words b) (sound_in ws) t (sym R.is ∙ not-true s n)) y

  pub not_fit : not s ≡ false → t ≡ false → Y → pick (sound_words b && (sound_in ws && t)) X Y
  not_fit n e y = skips _ X Y (third_fails (sound_words b) (sound_in ws) t (sym R.is ∙ not-false s n) e) y

  pub all_fit : not s ≡ false → t ≡ true → X → pick (sound_words b && (sound_in ws && t)) X Y
  all_fit n e x = picks _ X Y (all_pass (sound_words b) (sound_in ws) t (sym R.is ∙ not-false s n) e) x

module _ (ws : List ℕ) (s : Bool) (J : Judged ws s) where
  pub is_not : not s ≡ true → sound_in ws ≡ false
  is_not t = sym J.is ∙ not-true s t

  module _ (t : not s ≡ false) where
    pub is_yes : sound_in ws ≡ true
    is_yes = sym J.is ∙ not-false s t

    pub says_sound : SoundGroup ws
    says_sound = J.says (not-false s t)

  module _ {A : Type 0} (z : A) (f : Group → ℕ × A) where
    pub asked_no : not s ≡ true → (2, z) ≡ asked_of ws z f
    asked_no t = sym (ap (λ (b : Bool). pick b (f (group_in ws)) (2, z)) (is_not t))

    pub asked_yes : not s ≡ false → (r : ℕ × A) → r ≡ f (group_in ws) → r ≡ asked_of ws z f
    asked_yes t r e = e ∙ sym (ap (λ (b : Bool). pick b (f (group_in ws)) (2, z)) (is_yes t))
