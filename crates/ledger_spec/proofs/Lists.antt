-- Laws of tests over lists: a test of two parts, all of a list, how often a test holds, and what stands in a list. Assumes nothing.
use Rattle.std.specs.Prelude.{None, Option}
use Prim.Native.Nat.{ℕ, zero, suc, ◌≤◌}
use mathlib.Core.Path.{◌≡◌, refl, sym, ◌∙◌, ap, ap₂}
use mathlib.Core.Logic.{◌⊎◌, inl, inr}
use mathlib.Core.Bool.{Bool, true, false, ◌&&◌, ◌||◌, true≢false}
use mathlib.Core.List.{List, [], ◌∷◌, ◌++◌, map}
use native.Mathlib.Omega.{arith}
use lib.ListN.{length, get_or}
use Rattle.ledger_spec.specs.Tests.{any, same}
use Rattle.ledger_spec.specs.SoundTree.{all, tally}
use Rattle.ledger_spec.specs.Knit.{In, here, there}

-- ---- a test of two parts
pub and_true : (a b : Bool) → (a && b) ≡ true → (a ≡ true) × (b ≡ true)
and_true true b e = (refl, e)
and_true false b e = absurd (true≢false (sym e))

pub both_true : {a b : Bool} → a ≡ true → b ≡ true → (a && b) ≡ true
both_true p q = ap₂ ◌&&◌ p q

pub or_false : (a b : Bool) → (a || b) ≡ false → (a ≡ false) × (b ≡ false)
or_false true b e = absurd (true≢false e)
or_false false b e = (refl, e)

-- ---- what stands in a list
pub not_in_nil : {A : Type 0} {x : A} → In x [] → ⊥
not_in_nil i = elim i [ ]

pub in_cases : {A : Type 0} {x y : A} {xs : List A} → In x (y ∷ xs) → (x ≡ y) ⊎ In x xs
in_cases (here e) = inl e
in_cases (there i) = inr i

pub in_left : {A : Type 0} {x : A} {xs : List A} (ys : List A) → In x xs → In x (xs ++ ys)
in_left ys (here e) = here e
in_left ys (there i) = there (in_left ys i)

pub in_right : {A : Type 0} {x : A} (xs : List A) {ys : List A} → In x ys → In x (xs ++ ys)
in_right [] i = i
in_right (x ∷ xs) i = there (in_right xs i)

pub in_append : {A : Type 0} {x : A} (xs ys : List A) → In x (xs ++ ys) → In x xs ⊎ In x ys
in_append [] ys i = inr i
in_append {x} (y ∷ xs) ys i = go (in_cases i) (in_append xs ys)
  where
    later : In x xs ⊎ In x ys → In x (y ∷ xs) ⊎ In x ys
    later (inl j) = inl (there j)
    later (inr j) = inr j

    go : (x ≡ y) ⊎ In x (xs ++ ys) → (In x (xs ++ ys) → In x xs ⊎ In x ys) → In x (y ∷ xs) ⊎ In x ys
    go (inl e) ih = inl (here e)
    go (inr j) ih = later (ih j)

pub in_map : {A B : Type 0} (f : A → B) {x : A} {xs : List A} → In x xs → In (f x) (map f xs)
in_map f (here e) = here (ap f e)
in_map f (there i) = there (in_map f i)

pub map_in : {A B : Type 0} (f : A → B) (xs : List A) {y : B} → In y (map f xs) → (x : A) × In x xs × (y ≡ f x)
map_in f [] i = absurd (not_in_nil i)
map_in {A} f (x ∷ xs) {y} i = go (in_cases i) (map_in f xs)
  where
    go : (y ≡ f x) ⊎ In y (map f xs) → (In y (map f xs) → (z : A) × In z xs × (y ≡ f z)) → (z : A) × In z (x ∷ xs) × (y ≡ f z)
    go (inl e) ih = (x, here refl, e)
    go (inr j) ih = let r = ih j in (r.0, there r.1, r.2)

-- ---- all of a list
pub all_in : {A : Type 0} (p : A → Bool) {x : A} (xs : List A) → all p xs ≡ true → In x xs → p x ≡ true
unfolding all
all_in p xs e (here {g} {hs = tl} k) = ap p k ∙ (and_true (p g) (all p tl) e).0
all_in p xs e (there {g} {hs = tl} i) = all_in p tl (and_true (p g) (all p tl) e).1 i

pub all_of : {A : Type 0} (p : A → Bool) (xs : List A) → ((x : A) → In x xs → p x ≡ true) → all p xs ≡ true
unfolding all
all_of p [] h = refl
all_of p (x ∷ xs) h = both_true (h x (here refl)) (all_of p xs (λ y i. h y (there i)))

-- ---- how often a test holds
pub tally_yes : {A : Type 0} (p : A → Bool) (x : A) (xs : List A) → p x ≡ true → tally p (x ∷ xs) ≡ suc (tally p xs)
unfolding tally
tally_yes p x xs e = rw (e, tally)

pub tally_no : {A : Type 0} (p : A → Bool) (x : A) (xs : List A) → p x ≡ false → tally p (x ∷ xs) ≡ tally p xs
unfolding tally
tally_no p x xs e = rw (e, tally)

pub tally_most : {A : Type 0} (p : A → Bool) (xs : List A) → tally p xs ≤ length xs
unfolding tally
tally_most p [] = omega arith
tally_most p (x ∷ xs) = go (p x) refl (tally_most p xs)
  where
    go : (c : Bool) → p x ≡ c → tally p xs ≤ length xs → tally p (x ∷ xs) ≤ suc (length xs)
    go true e h = omega (arith, tally_yes p x xs e, h)
    go false e h = omega (arith, tally_no p x xs e, h)

-- one test that holds less often than another
pub tally_mono : {A : Type 0} (p q : A → Bool) (xs : List A) → ((x : A) → p x ≡ true → q x ≡ true) → tally p xs ≤ tally q xs
unfolding tally
tally_mono p q [] h = omega arith
tally_mono p q (x ∷ xs) h = go (p x) (q x) refl refl (tally_mono p q xs h)
  where
    go : (c d : Bool) → p x ≡ c → q x ≡ d → tally p xs ≤ tally q xs → tally p (x ∷ xs) ≤ tally q (x ∷ xs)
    go true true e f ih = omega (arith, tally_yes p x xs e, tally_yes q x xs f, ih)
    go true false e f ih = absurd (true≢false (sym (h x e) ∙ f))
    go false true e f ih = omega (arith, tally_no p x xs e, tally_yes q x xs f, ih)
    go false false e f ih = omega (arith, tally_no p x xs e, tally_no q x xs f, ih)

pub tally_less : {A : Type 0} (p q : A → Bool) {y : A} (xs : List A) → ((x : A) → p x ≡ true → q x ≡ true) → In y xs → q y ≡ true → p y ≡ false → suc (tally p xs) ≤ tally q xs
unfolding tally
tally_less p q {y} xs h (here {g} {hs = tl} k) f e = omega (arith, tally_no p g tl (ap p (sym k) ∙ e), tally_yes q g tl (ap q (sym k) ∙ f), tally_mono p q tl h)
tally_less p q {y} xs h (there {g} {hs = tl} i) f e = go (p g) (q g) refl refl (tally_less p q tl h i f e)
  where
    go : (c d : Bool) → p g ≡ c → q g ≡ d → suc (tally p tl) ≤ tally q tl → suc (tally p (g ∷ tl)) ≤ tally q (g ∷ tl)
    go true true x z ih = omega (arith, tally_yes p g tl x, tally_yes q g tl z, ih)
    go true false x z ih = absurd (true≢false (sym (h g x) ∙ z))
    go false true x z ih = omega (arith, tally_no p g tl x, tally_yes q g tl z, ih)
    go false false x z ih = omega (arith, tally_no p g tl x, tally_no q g tl z, ih)

-- none of them, or one
pub tally_none : {A : Type 0} (p : A → Bool) {x : A} (xs : List A) → tally p xs ≡ 0 → In x xs → p x ≡ false
unfolding tally
tally_none p {x} xs e (here {g} {hs = tl} k) = ap p k ∙ go (p g) refl
  where
    go : (c : Bool) → p g ≡ c → p g ≡ false
    go true t = absurd (omega (arith, e, tally_yes p g tl t))
    go false t = t
tally_none p {x} xs e (there {g} {hs = tl} i) = tally_none p tl (go (p g) refl) i
  where
    go : (c : Bool) → p g ≡ c → tally p tl ≡ 0
    go true t = absurd (omega (arith, e, tally_yes p g tl t))
    go false t = sym (tally_no p g tl t) ∙ e

pub none_tally : {A : Type 0} (p : A → Bool) (xs : List A) → ((x : A) → In x xs → p x ≡ false) → tally p xs ≡ 0
unfolding tally
none_tally p [] h = refl
none_tally p (x ∷ xs) h = tally_no p x xs (h x (here refl)) ∙ none_tally p xs (λ y i. h y (there i))

-- ---- a test of every slot
pub all_slots : {A : Type 0} (p : Option A → Bool) → p None ≡ true → (l : List (Option A)) → all p l ≡ true → (s : ℕ) → p (get_or l s None) ≡ true
unfolding all
all_slots p z [] e s = z
all_slots p z (x ∷ xs) e zero = (and_true (p x) (all p xs) e).0
all_slots p z (x ∷ xs) e (suc s) = all_slots p z xs (and_true (p x) (all p xs) e).1 s

pub slots_all : {A : Type 0} (p : Option A → Bool) (l : List (Option A)) → ((s : ℕ) → p (get_or l s None) ≡ true) → all p l ≡ true
unfolding all
slots_all p [] h = refl
slots_all p (x ∷ xs) h = both_true (h zero) (slots_all p xs (λ s. h (suc s)))

pub any_slots : {A : Type 0} (p : Option A → Bool) → p None ≡ false → (l : List (Option A)) → any p l ≡ false → (s : ℕ) → p (get_or l s None) ≡ false
unfolding any
any_slots p z [] e s = z
any_slots p z (x ∷ xs) e zero = (or_false (p x) (any p xs) e).0
any_slots p z (x ∷ xs) e (suc s) = any_slots p z xs (or_false (p x) (any p xs) e).1 s

pub slots_any : {A : Type 0} (p : Option A → Bool) (l : List (Option A)) → ((s : ℕ) → p (get_or l s None) ≡ false) → any p l ≡ false
unfolding any
slots_any p [] h = refl
slots_any p (x ∷ xs) h = ap₂ ◌||◌ (h zero) (slots_any p xs (λ s. h (suc s)))

-- ---- two tests that agree
pub same_eq : (a c : Bool) → same a c ≡ true → a ≡ c
same_eq true c e = sym e
same_eq false true e = absurd (true≢false (sym e))
same_eq false false e = refl

pub eq_same : (a c : Bool) → a ≡ c → same a c ≡ true
eq_same true c e = sym e
eq_same false true e = absurd (true≢false (sym e))
eq_same false false e = refl

-- ---- none of a list
pub any_no : {A : Type 0} (p : A → Bool) {x : A} (xs : List A) → any p xs ≡ false → In x xs → p x ≡ false
unfolding any
any_no p xs e (here {g} {hs = tl} k) = ap p k ∙ (or_false (p g) (any p tl) e).0
any_no p xs e (there {g} {hs = tl} i) = any_no p tl (or_false (p g) (any p tl) e).1 i

pub no_any : {A : Type 0} (p : A → Bool) (xs : List A) → ((x : A) → In x xs → p x ≡ false) → any p xs ≡ false
unfolding any
no_any p [] h = refl
no_any p (x ∷ xs) h = ap₂ ◌||◌ (h x (here refl)) (no_any p xs (λ y i. h y (there i)))
