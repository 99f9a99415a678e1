-- Sums of numbers over positions below n, and how often a position stands in a list. A family in which each child stands once with its parent
-- has, over those without a parent, as much as all have of their own: the children's share is counted once on each side. Assumes nothing.
use Prim.Native.Nat.{ℕ, zero, suc, ◌+◌, ◌*◌, ◌≤◌, ◌<◌}
use mathlib.Core.Path.{◌≡◌, refl, sym, ◌∙◌, ap, ap₂}
use mathlib.Core.Bool.{Bool, true, false}
use mathlib.Core.List.{List, [], ◌∷◌}
use native.Mathlib.Omega.{arith}
use native.Mathlib.Decide.{ℕ_discrete}
use native.Mathlib.Nat.{add-mul}
use lib.Dec.{eqb}
use borrow.Author.Tests.{eq-eqb, ne_eqb}

unfoldable pub sum_to : ℕ → (ℕ → ℕ) → ℕ
sum_to zero f = 0
sum_to (suc n) f = sum_to n f + f n

unfoldable pub sum_of : (ℕ → ℕ) → List ℕ → ℕ
sum_of f [] = 0
sum_of f (k ∷ ks) = f k + sum_of f ks

abbrev pub one : Bool → ℕ
one true = 1
one false = 0

-- how often p stands in a list
unfoldable pub count : ℕ → List ℕ → ℕ
count p [] = 0
count p (k ∷ ks) = one (eqb p k) + count p ks

pub sum_same : (n : ℕ) (f g : ℕ → ℕ) → ((p : ℕ) → p < n → f p ≡ g p) → sum_to n f ≡ sum_to n g
unfolding sum_to
sum_same zero f g h = refl
sum_same (suc n) f g h = ap₂ ◌+◌ (sum_same n f g (λ p l. h p (omega arith))) (h n (omega arith))

pub sum_add : (n : ℕ) (f g : ℕ → ℕ) → sum_to n (λ p. f p + g p) ≡ sum_to n f + sum_to n g
unfolding sum_to
sum_add zero f g = refl
sum_add (suc n) f g = omega (arith, sum_add n f g)

pub sum_zero : (n : ℕ) (f : ℕ → ℕ) → ((p : ℕ) → p < n → f p ≡ 0) → sum_to n f ≡ 0
unfolding sum_to
sum_zero zero f h = refl
sum_zero (suc n) f h = omega (arith, sum_zero n f (λ p l. h p (omega arith)), h n (omega arith))

pub sum_swap : (n m : ℕ) (f : ℕ → ℕ → ℕ) → sum_to n (λ p. sum_to m (λ q. f p q)) ≡ sum_to m (λ q. sum_to n (λ p. f p q))
unfolding sum_to
sum_swap zero m f = sym (sum_zero m (λ q. 0) (λ q l. refl))
sum_swap (suc n) m f = ap (λ (x : ℕ). x + sum_to m (λ q. f n q)) (sum_swap n m f) ∙ sym (sum_add m (λ q. sum_to n (λ p. f p q)) (λ q. f n q))

-- all but one are 0
pub sum_one : (n k : ℕ) (f : ℕ → ℕ) → k < n → ((p : ℕ) → p < n → (p ≡ k → ⊥) → f p ≡ 0) → sum_to n f ≡ f k
unfolding sum_to
sum_one zero k f l h = absurd (omega arith)
sum_one (suc n) k f l h = go (ℕ_discrete k n) (λ m. sum_one n k f m (λ p q. h p (omega arith)))
  where
    go : Dec (k ≡ n) → (k < n → sum_to n f ≡ f k) → sum_to n f + f n ≡ f k
    go (yes e) ih = omega (arith, sum_zero n f (λ p q. h p (omega arith) (λ z. omega arith)), ap f e)
    go (no e) ih = omega (arith, ih (omega arith), h n (omega arith) (λ z. e (sym z)))

pub sum_has : (n k : ℕ) (f : ℕ → ℕ) → k < n → f k ≤ sum_to n f
unfolding sum_to
sum_has zero k f l = absurd (omega arith)
sum_has (suc n) k f l = go (ℕ_discrete k n) (λ m. sum_has n k f m)
  where
    go : Dec (k ≡ n) → (k < n → f k ≤ sum_to n f) → f k ≤ sum_to n f + f n
    go (yes e) ih = omega (arith, ap f e)
    go (no e) ih = omega (arith, ih (omega arith))

pub sum_most : (n : ℕ) (f : ℕ → ℕ) → ((p : ℕ) → p < n → f p ≤ 1) → sum_to n f ≤ n
unfolding sum_to
sum_most zero f h = omega arith
sum_most (suc n) f h = omega (arith, sum_most n f (λ p l. h p (omega arith)), h n (omega arith))

-- each element of a list below n
abbrev pub Below : ℕ → List ℕ → Type 0
Below n [] = Unit {0}
Below n (k ∷ ks) = (k < n) × Below n ks

hit_here : (n k : ℕ) (f : ℕ → ℕ) → k < n → sum_to n (λ p. one (eqb p k) * f p) ≡ f k
hit_here n k f l = sum_one n k (λ p. one (eqb p k) * f p) l (λ p m ne. ap (λ (c : Bool). one c * f p) (ne_eqb p k ne) ∙ omega arith)
    ∙ ap (λ (c : Bool). one c * f k) (eq-eqb k k refl) ∙ omega arith

-- a sum over a list, as one over positions
pub list_sum : (n : ℕ) (f : ℕ → ℕ) (ks : List ℕ) → Below n ks → sum_of f ks ≡ sum_to n (λ p. count p ks * f p)
unfolding sum_of count
list_sum n f [] b = sym (sum_zero n (λ p. 0 * f p) (λ p l. omega arith))
list_sum n f (k ∷ ks) b = ap₂ ◌+◌ (sym (hit_here n k f b.0)) (list_sum n f ks b.1)
    ∙ sym (sum_add n (λ p. one (eqb p k) * f p) (λ p. count p ks * f p))
    ∙ sum_same n (λ p. one (eqb p k) * f p + count p ks * f p) (λ p. (one (eqb p k) + count p ks) * f p) (λ p l. sym (add-mul (one (eqb p k)) (count p ks) (f p)))

pub list_has : (f : ℕ → ℕ) (p : ℕ) (ks : List ℕ) (m : ℕ) → count p ks ≡ suc m → f p ≤ sum_of f ks
unfolding sum_of count
list_has f p [] m e = absurd (omega arith)
list_has f p (k ∷ ks) m e = go (ℕ_discrete p k) (list_has f p ks m)
  where
    go : Dec (p ≡ k) → (count p ks ≡ suc m → f p ≤ sum_of f ks) → f p ≤ f k + sum_of f ks
    go (yes q) ih = omega (arith, ap f q)
    go (no q) ih = omega (arith, ih (omega (arith, e, ap one (ne_eqb p k q))))

-- x of a child, and of one that is none
abbrev pub part : Bool → ℕ → ℕ
part true x = x
part false x = 0

abbrev pub rest : Bool → ℕ → ℕ
rest true x = 0
rest false x = x

-- a family: children of q, whether p has a parent, what each has of its own and with its children
module _ (n : ℕ) (own whole : ℕ → ℕ) (kids : ℕ → List ℕ) (child : ℕ → Bool)
    (below : (q : ℕ) → q < n → Below n (kids q))
    (adds : (q : ℕ) → q < n → whole q ≡ own q + sum_of whole (kids q))
    (once : (p : ℕ) → p < n → child p ≡ true → sum_to n (λ q. count p (kids q)) ≡ 1)
    (never : (p : ℕ) → p < n → child p ≡ false → sum_to n (λ q. count p (kids q)) ≡ 0) where
  abbrev pub free : ℕ → ℕ
  free p = rest (child p) (whole p)

  scale : (m x : ℕ) (c : ℕ → ℕ) → sum_to m (λ q. c q * x) ≡ sum_to m c * x
  unfolding sum_to
  scale zero x c = omega arith
  scale (suc m) x c = ap (λ (y : ℕ). y + c m * x) (scale m x c) ∙ sym (add-mul (sum_to m c) (c m) x)

  held : (p : ℕ) → p < n → (c : Bool) → child p ≡ c → sum_to n (λ q. count p (kids q) * whole p) ≡ part c (whole p)
  held p l true e = scale n (whole p) (λ q. count p (kids q)) ∙ ap (λ (x : ℕ). x * whole p) (once p l e) ∙ omega arith
  held p l false e = scale n (whole p) (λ q. count p (kids q)) ∙ ap (λ (x : ℕ). x * whole p) (never p l e) ∙ omega arith

  both : (p : ℕ) (c : Bool) → child p ≡ c → whole p ≡ free p + part c (whole p)
  both p true e = omega (arith, ap (λ (z : Bool). rest z (whole p)) e)
  both p false e = omega (arith, ap (λ (z : Bool). rest z (whole p)) e)

  children : sum_to n (λ q. sum_of whole (kids q)) ≡ sum_to n (λ p. part (child p) (whole p))
  children = sum_same n (λ q. sum_of whole (kids q)) (λ q. sum_to n (λ p. count p (kids q) * whole p)) (λ q l. list_sum n whole (kids q) (below q l))
      ∙ sum_swap n n (λ q p. count p (kids q) * whole p)
      ∙ sum_same n (λ p. sum_to n (λ q. count p (kids q) * whole p)) (λ p. part (child p) (whole p)) (λ p l. held p l (child p) refl)

  pub family : sum_to n free ≡ sum_to n own
  family =
      let a = sum_same n whole (λ p. free p + part (child p) (whole p)) (λ p l. both p (child p) refl) ∙ sum_add n free (λ p. part (child p) (whole p)) in
      let b = sum_same n whole (λ q. own q + sum_of whole (kids q)) adds ∙ sum_add n own (λ q. sum_of whole (kids q)) in
      omega (arith, a, b, children)
