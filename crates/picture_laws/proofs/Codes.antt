-- Texts of which the beginning of a longer one says what it is of: decimals before a byte that is no digit, signed numbers, lists. Assumes nothing.
use Rattle.std.specs.Prelude.{Some}
use Prim.Native.Nat.{ℕ, zero, suc, ◌+◌, ◌/◌, ◌%◌, ◌≤◌, ◌<◌}
use native.Mathlib.Omega.{arith}
use native.Mathlib.Decide.{dec_lt}
use mathlib.Core.Path.{◌≡◌, refl, sym, ◌∙◌, ap, ap₂, subst}
use mathlib.Core.Bool.{Bool, true, false, ◌&&◌, true≢false}
use mathlib.Core.List.{List, [], ◌∷◌, ◌++◌, append_assoc, map}
use lib.Dec.{leb}
use lib.IntN.{ℤ, pos, negsuc}
use borrow.Author.Tests.{le-leb}
use Rattle.ledger_spec.specs.Decimals.{decimal, signed, natural}
use Rattle.text_decimals.proofs.Digits.{decimal_small, decimal_more}
use Rattle.text_decimals.proofs.Back.{read_back}
use Rattle.picture_spec.specs.Text.{comma, items, array}

abbrev pub is_digit : ℕ → Bool
is_digit c = leb 48 c && leb c 57

-- a rest of a text that does not go on with a digit
abbrev pub Stop : List ℕ → Type 0
Stop [] = Unit
Stop (c ∷ s) = is_digit c ≡ false

-- a text f x and a stop after it say what g is of x, and what is left
abbrev pub Tells : {A B : Type 0} → (A → List ℕ) → (A → B) → Type 0
Tells {A} {B} f g = (x y : A) (s t : List ℕ) → Stop s → Stop t → f x ++ s ≡ f y ++ t → (g x ≡ g y) × (s ≡ t)

-- ---- heads and tails
abbrev head : List ℕ → ℕ
head [] = 0
head (c ∷ s) = c

abbrev tail : List ℕ → List ℕ
tail [] = []
tail (c ∷ s) = s

pub heads : {a b : ℕ} {s t : List ℕ} → ◌≡◌ {A = List ℕ} (a ∷ s) (b ∷ t) → a ≡ b
heads e = ap head e

pub tails : {a b : ℕ} {s t : List ℕ} → ◌≡◌ {A = List ℕ} (a ∷ s) (b ∷ t) → s ≡ t
tails e = ap tail e

pub cancel : (a : List ℕ) {s t : List ℕ} → a ++ s ≡ a ++ t → s ≡ t
cancel [] e = e
cancel (c ∷ a) e = cancel a (tails e)

-- ---- decimals
pub data Digits : List ℕ → Type 0 where
  last : {c : ℕ} → is_digit c ≡ true → Digits (c ∷ [])
  more : {c : ℕ} {s : List ℕ} → is_digit c ≡ true → Digits s → Digits (c ∷ s)

a_digit : (d : ℕ) → d < 10 → is_digit (48 + d) ≡ true
a_digit d h = rw (le-leb 48 (48 + d) (omega arith), le-leb (48 + d) 57 (omega arith))

digits_on : {s : List ℕ} → Digits s → (c : ℕ) → is_digit c ≡ true → Digits (s ++ (c ∷ []))
digits_on (last d) c e = more d (last e)
digits_on (more d r) c e = more d (digits_on r c e)

digits_of : (k n : ℕ) → n ≤ k → Digits (decimal n)
digits_of zero n h = rw (decimal_small n (omega arith)) (last (a_digit n (omega arith)))
digits_of (suc k) n h = go (dec_lt n 10) (digits_of k (n / 10))
  where
    go : Dec (n < 10) → (n / 10 ≤ k → Digits (decimal (n / 10))) → Digits (decimal n)
    go (yes l) i = rw (decimal_small n l) (last (a_digit n l))
    go (no l) i = rw (decimal_more n (omega arith)) (digits_on (i (omega arith)) (48 + n % 10) (a_digit (n % 10) (omega arith)))

pub digits : (n : ℕ) → Digits (decimal n)
digits n = digits_of n n (omega arith)

no_stop : (c : ℕ) (s t : List ℕ) → is_digit c ≡ true → Stop s → s ≡ c ∷ t → ⊥
no_stop c s t d p e = true≢false (sym d ∙ subst Stop e p)

spans : {a b : List ℕ} → Digits a → Digits b → (s t : List ℕ) → Stop s → Stop t → a ++ s ≡ b ++ t → (a ≡ b) × (s ≡ t)
spans (last d) (last d₂) s t p q e = (ap (λ (x : ℕ). x ∷ []) (heads e), tails e)
spans (last d) (more d₂ (last d₃)) s t p q e = absurd (no_stop _ s _ d₃ p (tails e))
spans (last d) (more d₂ (more d₃ r)) s t p q e = absurd (no_stop _ s _ d₃ p (tails e))
spans (more d (last d₃)) (last d₂) s t p q e = absurd (no_stop _ t _ d₃ q (sym (tails e)))
spans (more d (more d₃ r)) (last d₂) s t p q e = absurd (no_stop _ t _ d₃ q (sym (tails e)))
spans (more d r) (more d₂ r₂) s t p q e =
    let i = spans r r₂ s t p q (tails e) in (ap₂ (λ (x : ℕ) (y : List ℕ). x ∷ y) (heads e) i.0, i.1)

pub one_number : (m n : ℕ) → decimal m ≡ decimal n → m ≡ n
one_number m n e = let r : Some m ≡ Some n = sym (read_back m) ∙ ap natural e ∙ read_back n in cc

pub decimal_tells : Tells decimal (λ (n : ℕ). n)
decimal_tells m n s t p q e = let r = spans (digits m) (digits n) s t p q e in (one_number m n r.0, r.1)

-- what begins with a digit does not begin with another byte
pub not_digit : {a : List ℕ} → Digits a → (c : ℕ) (s t : List ℕ) → is_digit c ≡ false → a ++ s ≡ c ∷ t → ⊥
not_digit (last d) c s t f e = true≢false (sym d ∙ ap is_digit (heads e) ∙ f)
not_digit (more d r) c s t f e = true≢false (sym d ∙ ap is_digit (heads e) ∙ f)

pub signed_tells : Tells signed (λ (z : ℤ). z)
unfolding signed
signed_tells (pos m) (pos n) s t p q e = let r = decimal_tells m n s t p q e in (ap pos r.0, r.1)
signed_tells (pos m) (negsuc n) s t p q e = absurd (not_digit (digits m) 45 s (decimal (suc n) ++ t) refl e)
signed_tells (negsuc m) (pos n) s t p q e = absurd (not_digit (digits n) 45 t (decimal (suc m) ++ s) refl (sym e))
signed_tells (negsuc m) (negsuc n) s t p q e =
    let r = decimal_tells (suc m) (suc n) s t p q (tails e) in
    let x : suc m ≡ suc n = r.0 in
    let y : m ≡ n = omega arith in
    (ap negsuc y, r.1)

-- ---- lists: no item begins with the closing bracket
abbrev pub Opens : {A : Type 0} → (A → List ℕ) → Type 0
Opens {A} f = (x : A) (s t : List ℕ) → f x ++ s ≡ 93 ∷ t → ⊥

module _ {A B : Type 0} (f : A → List ℕ) (g : A → B) (T : Tells f g) (O : Opens f) where
  stops : (xs : List A) (s : List ℕ) → Stop (items f 1 xs ++ (93 ∷ s))
  unfolding items
  stops [] s = refl
  stops (x ∷ xs) s = refl

  apart : (x : A) (i : ℕ) (xs : List A) (s t : List ℕ) → items f i (x ∷ xs) ++ (93 ∷ s) ≡ 93 ∷ t → ⊥
  unfolding items
  apart x zero xs s t e = O x (items f 1 xs ++ (93 ∷ s)) t (sym (append_assoc (f x) (items f 1 xs) (93 ∷ s)) ∙ e)
  apart x (suc i) xs s t e = let h : ◌≡◌ {A = ℕ} 44 93 = heads e in omega arith

  items_tell : (i : ℕ) (xs ys : List A) (s t : List ℕ) → items f i xs ++ (93 ∷ s) ≡ items f i ys ++ (93 ∷ t) → (map g xs ≡ map g ys) × (s ≡ t)
  unfolding items
  items_tell i [] [] s t e = (refl, tails e)
  items_tell i [] (y ∷ ys) s t e = absurd (apart y i ys t s (sym e))
  items_tell i (x ∷ xs) [] s t e = absurd (apart x i xs s t e)
  items_tell i (x ∷ xs) (y ∷ ys) s t e =
      let u = split x xs s in
      let v = split y ys t in
      let h : f x ++ (items f 1 xs ++ (93 ∷ s)) ≡ f y ++ (items f 1 ys ++ (93 ∷ t)) = cancel (comma i) (sym u ∙ e ∙ v) in
      let r = T x y (items f 1 xs ++ (93 ∷ s)) (items f 1 ys ++ (93 ∷ t)) (stops xs s) (stops ys t) h in
      let k = items_tell 1 xs ys s t r.1 in
      (ap₂ (λ (a : B) (l : List B). a ∷ l) r.0 k.0, k.1)
    where
      split : (z : A) (zs : List A) (w : List ℕ) → (comma i ++ (f z ++ items f 1 zs)) ++ (93 ∷ w) ≡ comma i ++ (f z ++ (items f 1 zs ++ (93 ∷ w)))
      split z zs w = append_assoc (comma i) (f z ++ items f 1 zs) (93 ∷ w) ∙ ap (λ (l : List ℕ). comma i ++ l) (append_assoc (f z) (items f 1 zs) (93 ∷ w))

  pub array_tells : (xs ys : List A) (s t : List ℕ) → array f xs ++ s ≡ array f ys ++ t → (map g xs ≡ map g ys) × (s ≡ t)
  unfolding array
  array_tells xs ys s t e =
      items_tell 0 xs ys s t (sym (append_assoc (items f 0 xs) (93 ∷ []) s) ∙ tails e ∙ append_assoc (items f 0 ys) (93 ∷ []) t)
