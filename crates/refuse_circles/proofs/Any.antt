-- Laws of tests of two parts, and of a test over a list. Assumes nothing.
use mathlib.Core.Path.{◌≡◌, refl, sym, ◌∙◌, ap, ap₂}
use mathlib.Core.Bool.{Bool, true, false, ◌||◌}
use mathlib.Core.List.{List, [], ◌∷◌, ◌++◌}
use Rattle.ledger_spec.specs.Tests.{any}
use Rattle.ledger_spec.specs.Knit.{In, here, there}

-- ---- two parts
pub or_true : (a b : Bool) → a ≡ true → (a || b) ≡ true
or_true a b e = ap (λ (x : Bool). x || b) e

pub or_rest : (a b : Bool) → a ≡ false → (a || b) ≡ b
or_rest a b e = ap (λ (x : Bool). x || b) e

pub or_any : (a b : Bool) → b ≡ true → (a || b) ≡ true
or_any true b e = refl
or_any false b e = e

pub or_none : (a : Bool) → (a || false) ≡ a
or_none true = refl
or_none false = refl

pub or_of : (a b c : Bool) → ((a || b) || c) ≡ (a || (b || c))
or_of true b c = refl
or_of false b c = refl

or_swap : (a b c d : Bool) → ((a || b) || (c || d)) ≡ ((a || c) || (b || d))
or_swap true b c d = refl
or_swap false true c d = sym (or_any c true refl)
or_swap false false c d = refl

-- ---- over a list
pub any_append : {A : Type 0} (p : A → Bool) (xs ys : List A) → any p (xs ++ ys) ≡ (any p xs || any p ys)
unfolding any
any_append p [] ys = refl
any_append p (x ∷ xs) ys = ap (λ (c : Bool). p x || c) (any_append p xs ys) ∙ sym (or_of (p x) (any p xs) (any p ys))

pub any_or : {A : Type 0} (p q r : A → Bool) (xs : List A) → ((x : A) → In x xs → p x ≡ (q x || r x)) → any p xs ≡ (any q xs || any r xs)
unfolding any
any_or p q r [] h = refl
any_or p q r (x ∷ xs) h = ap₂ ◌||◌ (h x (here refl)) (any_or p q r xs (λ y i. h y (there i))) ∙ or_swap (q x) (r x) (any q xs) (any r xs)

pub any_none : {A : Type 0} (p : A → Bool) (xs : List A) → ((x : A) → p x ≡ false) → any p xs ≡ false
unfolding any
any_none p [] h = refl
any_none p (x ∷ xs) h = ap₂ ◌||◌ (h x) (any_none p xs h)
