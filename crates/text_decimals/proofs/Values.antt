-- What digits say, byte by byte, and what is left of it in a range. Assumes nothing.
use Rattle.std.specs.Prelude.{None, Option, Some}
use Rattle.std.proofs.lemmas.Option.{same_Some, none-some}
use Prim.Native.Nat.{ℕ, suc, ◌+◌, ◌-◌, ◌*◌, ◌≤◌, ◌<◌}
use native.Mathlib.Omega.{arith}
use native.Mathlib.Numerals.{add-one}
use mathlib.Core.Path.{◌≡◌, refl, sym, ◌∙◌, ap}
use mathlib.Core.Bool.{Bool, true, false}
use mathlib.Core.List.{List, [], ◌∷◌}
use lib.Dec.{leb}
use lib.ListN.{length, get_or, drop}
use lib.Seq.{drop-cons, drop-length}
use borrow.Author.Tests.{le-leb, lt-leb, leb-true, leb-false}
use Rattle.ledger_spec.specs.Decimals.{after_digits, between}

-- ---- a byte

pub value_none : (n : ℕ) → after_digits n [] ≡ Some n
unfolding after_digits
value_none n = refl

pub value_digit : (n c : ℕ) (f : List ℕ) → 48 ≤ c → c ≤ 57 → after_digits n (c ∷ f) ≡ after_digits (n * 10 + (c - 48)) f
unfolding after_digits
value_digit n c f p q = rw (le-leb 48 c p, le-leb c 57 q, after_digits)

pub value_low : (n c : ℕ) (f : List ℕ) → c < 48 → after_digits n (c ∷ f) ≡ None
unfolding after_digits
value_low n c f p = rw (lt-leb 48 c p, after_digits)

pub value_high : (n c : ℕ) (f : List ℕ) → 57 < c → after_digits n (c ∷ f) ≡ None
unfolding after_digits
value_high n c f p = rw (le-leb 48 c (omega arith), lt-leb c 57 p, after_digits)

-- the three cases of a byte
pub data Byte (c : ℕ) : Type 0 where
  low : c < 48 → Byte c
  digit : 48 ≤ c → c ≤ 57 → Byte c
  high : 57 < c → Byte c

pub byte : (c : ℕ) → Byte c
byte c = go (leb 48 c) (leb c 57) refl refl
  where
    go : (a b : Bool) → leb 48 c ≡ a → leb c 57 ≡ b → Byte c
    go false false p q = low (leb-false 48 c p)
    go false true p q = low (leb-false 48 c p)
    go true false p q = high (leb-false c 57 q)
    go true true p q = digit (leb-true 48 c p) (leb-true c 57 q)

-- ---- a range

pub between_none : (l m : ℕ) → between l m None ≡ None
unfolding between
between_none l m = refl

pub between_some : (l m n : ℕ) → l ≤ n → n ≤ m → between l m (Some n) ≡ Some n
unfolding between
between_some l m n p q = rw (le-leb l n p, le-leb n m q, between)

pub between_low : (l m n : ℕ) → n < l → between l m (Some n) ≡ None
unfolding between
between_low l m n p = rw (lt-leb l n p, between)

pub between_high : (l m n : ℕ) → m < n → between l m (Some n) ≡ None
unfolding between
between_high l m n p = go (leb l n) refl
  where
    go : (b : Bool) → leb l n ≡ b → between l m (Some n) ≡ None
    go true e = rw (e, lt-leb n m p, between)
    go false e = rw (e, between)

-- what is in the range was said, and lies between its ends
pub between_said : (l m n : ℕ) (v : Option ℕ) → between l m v ≡ Some n → (v ≡ Some n) × (l ≤ n) × (n ≤ m)
between_said l m n None e = absurd (none-some n (sym (sym e ∙ between_none l m)))
between_said l m n (Some k) e = go (leb l k) (leb k m) refl refl
  where
    go : (a b : Bool) → leb l k ≡ a → leb k m ≡ b → (Some k ≡ Some n) × (l ≤ n) × (n ≤ m)
    go true true p q =
        let y = sym (between_some l m k (leb-true l k p) (leb-true k m q)) ∙ e in
        let z : k ≡ n = same_Some k n y in
        (y, omega (arith, leb-true l k p), omega (arith, leb-true k m q))
    go true false p q = absurd (none-some n (sym (sym e ∙ between_high l m k (leb-false k m q))))
    go false b p q = absurd (none-some n (sym (sym e ∙ between_low l m k (leb-false l k p))))

-- ---- too much

-- more digits never make it less
value_least : (f : List ℕ) (n m : ℕ) → after_digits n f ≡ Some m → n ≤ m
value_least [] n m e = let y = same_Some n m (sym (value_none n) ∙ e) in omega arith
value_least (c ∷ f) n m e = go (byte c) (value_least f (n * 10 + (c - 48)) m)
  where
    go : Byte c → (after_digits (n * 10 + (c - 48)) f ≡ Some m → n * 10 + (c - 48) ≤ m) → n ≤ m
    go (low p) r = absurd (none-some m (sym (sym e ∙ value_low n c f p)))
    go (high p) r = absurd (none-some m (sym (sym e ∙ value_high n c f p)))
    go (digit p q) r = let h = r (sym (value_digit n c f p q) ∙ e) in omega arith

-- past the range's end it stays
past : (l m n : ℕ) (f : List ℕ) → m < n → between l m (after_digits n f) ≡ None
past l m n f p = go (after_digits n f) refl
  where
    go : (v : Option ℕ) → after_digits n f ≡ v → between l m v ≡ None
    go None e = between_none l m
    go (Some k) e = let h = value_least f n k e in between_high l m k (omega arith)

-- one digit more would pass the end
pub too_much : (l m n c : ℕ) (f : List ℕ) → (48 ≤ c → m < n * 10 + (c - 48)) → between l m (after_digits n (c ∷ f)) ≡ None
too_much l m n c f h = go (byte c)
  where
    go : Byte c → between l m (after_digits n (c ∷ f)) ≡ None
    go (low q) = ap (between l m) (value_low n c f q) ∙ between_none l m
    go (high q) = ap (between l m) (value_high n c f q) ∙ between_none l m
    go (digit q r) = ap (between l m) (value_digit n c f q r) ∙ past l m (n * 10 + (c - 48)) f (h q)

-- ---- a loop over the digits of f stands at i with n, which is at most m: what is left says what all of it says

pub record Going (f : List ℕ) (m n i : ℕ) : Type 0 where
  pub in_range : i ≤ length f
  pub small : n ≤ m
  pub left : after_digits n (drop i f) ≡ after_digits 0 f

pub start : (f : List ℕ) (m : ℕ) → Going f m 0 0
start f m = record { in_range = omega arith; small = omega arith; left = refl }

module _ (f : List ℕ) (m n i : ℕ) (g : Going f m n i) where
  here : i < length f → after_digits n (get_or f i 0 ∷ drop (suc i) f) ≡ after_digits 0 f
  here h = rw (drop-cons f i 0 h) at g.left

  pub turn : (d : ℕ) → i < length f → 48 ≤ get_or f i 0 → get_or f i 0 ≤ 57 → d ≡ get_or f i 0 - 48 → n * 10 + d ≤ m → Going f m (n * 10 + d) (i + 1)
  turn d h p q r s = record {
    in_range = omega arith;
    small = s;
    left = rw (r, add-one) (sym (value_digit n (get_or f i 0) (drop (suc i) f) p q) ∙ here h);
  }

  pub low_byte : (l : ℕ) → i < length f → get_or f i 0 < 48 → None ≡ between l m (after_digits 0 f)
  low_byte l h p = sym (ap (between l m) (sym (here h) ∙ value_low n (get_or f i 0) (drop (suc i) f) p) ∙ between_none l m)

  pub high_byte : (l : ℕ) → i < length f → 57 < get_or f i 0 → None ≡ between l m (after_digits 0 f)
  high_byte l h p = sym (ap (between l m) (sym (here h) ∙ value_high n (get_or f i 0) (drop (suc i) f) p) ∙ between_none l m)

  pub passing : (l : ℕ) → i < length f → (48 ≤ get_or f i 0 → m < n * 10 + (get_or f i 0 - 48)) → None ≡ between l m (after_digits 0 f)
  passing l h p = sym (ap (between l m) (sym (here h)) ∙ too_much l m n (get_or f i 0) (drop (suc i) f) p)

  done : length f ≤ i → after_digits 0 f ≡ Some n
  done h = let e : i ≡ length f = same i (length f) g.in_range h in sym g.left ∙ rw (e, drop-length) (value_none n)
    where
      same : (a b : ℕ) → a ≤ b → b ≤ a → a ≡ b
      same a b p q = omega arith

  pub too_little : (l : ℕ) → length f ≤ i → n < l → None ≡ between l m (after_digits 0 f)
  too_little l h p = sym (ap (between l m) (done h) ∙ between_low l m n p)

  pub enough : (l : ℕ) → length f ≤ i → l ≤ n → Some n ≡ between l m (after_digits 0 f)
  enough l h p = sym (ap (between l m) (done h) ∙ between_some l m n p g.small)
