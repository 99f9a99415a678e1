-- The lower of two numbers takes them in any grouping; so the number of a list is that of its first with that of the rest, case by case. Assumes nothing.
use Prim.Native.Nat.{ℕ, zero, suc, ◌+◌, ◌<◌, ◌≤◌}
use mathlib.Core.Path.{◌≡◌, refl, sym, ◌∙◌, ap}
use mathlib.Core.Bool.{Bool, true, false, ◌||◌}
use mathlib.Core.List.{List}
use native.Mathlib.Numerals.{add-one}
use native.Mathlib.Decide.{dec_lt}
use native.Mathlib.Omega.{arith}
use borrow.Author.Tests.{lt-ltb, le-ltb, ne_eqb}
use lib.Dec.{ltb}
use lib.ListN.{length, get_or, drop, drop_of_length-le}
use lib.Seq.{drop-cons}
use Rattle.bench_words.specs.Codec.{pick}
use Rattle.ledger_spec.specs.Bench.{Bench}
use Rattle.ledger_spec.specs.Tests.{first, any}
use Rattle.bench_views.specs.Given.{hand_given}
use Rattle.deed_circles.specs.Given.{hands_given}
use Rattle.refuse_circles.specs.Marks.{marks, node_mark, list_mark, lower}

-- ---- the lower of two numbers
pub lower_none : (x : ℕ) → lower x 0 ≡ x
unfolding lower
lower_none zero = refl
lower_none (suc x) = rw (ne_eqb (suc x) 0 (λ z. omega arith))

pub none_lower : (x : ℕ) → lower 0 x ≡ x
unfolding lower
none_lower x = refl

pub lower_less : (x y : ℕ) → (x ≡ 0 → ⊥) → (y ≡ 0 → ⊥) → y < x → lower x y ≡ y
unfolding lower
lower_less x y p q l = rw (ne_eqb x 0 p, ne_eqb y 0 q, lt-ltb y x l)

pub lower_more : (x y : ℕ) → (x ≡ 0 → ⊥) → (y ≡ 0 → ⊥) → x ≤ y → lower x y ≡ x
unfolding lower
lower_more x y p q l = rw (ne_eqb x 0 p, ne_eqb y 0 q, le-ltb y x l)

least : ℕ → ℕ → ℕ
least x y = pick (ltb y x) y x

lower_sucs : (x y : ℕ) → lower (suc x) (suc y) ≡ suc (least x y)
unfolding least
lower_sucs x y = go (dec_lt y x)
  where
    go : Dec (y < x) → lower (suc x) (suc y) ≡ suc (least x y)
    go (yes l) = rw (lt-ltb y x l) (lower_less (suc x) (suc y) (λ z. omega arith) (λ z. omega arith) (omega arith))
    go (no l) = rw (le-ltb y x (omega arith)) (lower_more (suc x) (suc y) (λ z. omega arith) (λ z. omega arith) (omega arith))

least_of : (x y z : ℕ) → least x (least y z) ≡ least (least x y) z
unfolding least
least_of x y z = go (dec_lt y x) (dec_lt z y) (dec_lt z x)
  where
    go : Dec (y < x) → Dec (z < y) → Dec (z < x) → least x (least y z) ≡ least (least x y) z
    go (yes a) (yes c) e = rw (lt-ltb y x a, lt-ltb z y c, lt-ltb z x (omega arith))
    go (yes a) (no c) e = rw (lt-ltb y x a, le-ltb z y (omega arith), lt-ltb y x a)
    go (no a) (yes c) (yes e) = rw (le-ltb y x (omega arith), lt-ltb z y c, lt-ltb z x e)
    go (no a) (yes c) (no e) = rw (le-ltb y x (omega arith), lt-ltb z y c, le-ltb z x (omega arith))
    go (no a) (no c) e = rw (le-ltb y x (omega arith), le-ltb z y (omega arith), le-ltb z x (omega arith), le-ltb y x (omega arith))

pub lower_of : (x y z : ℕ) → lower x (lower y z) ≡ lower (lower x y) z
lower_of zero y z = none_lower (lower y z) ∙ sym (ap (λ (n : ℕ). lower n z) (none_lower y))
lower_of (suc x) zero z = ap (lower (suc x)) (none_lower z) ∙ sym (ap (λ (n : ℕ). lower n z) (lower_none (suc x)))
lower_of (suc x) (suc y) zero = ap (lower (suc x)) (lower_none (suc y)) ∙ sym (lower_none (lower (suc x) (suc y)))
lower_of (suc x) (suc y) (suc z) =
    ap (lower (suc x)) (lower_sucs y z) ∙ lower_sucs x (least y z) ∙ ap suc (least_of x y z) ∙ sym (ap (λ (n : ℕ). lower n (suc z)) (lower_sucs x y) ∙ lower_sucs (least x y) z)

-- ---- two lists' tests as one
pub lower_marks : (a c e a' c' e' : Bool) → marks (a || a') (c || c') (e || e') ≡ lower (marks a c e) (marks a' c' e')
unfolding marks first lower
lower_marks true c e true c' e' = refl
lower_marks true c e false true e' = refl
lower_marks true c e false false true = refl
lower_marks true c e false false false = refl
lower_marks false true e true c' e' = refl
lower_marks false true e false true e' = refl
lower_marks false true e false false true = refl
lower_marks false true e false false false = refl
lower_marks false false true true c' e' = refl
lower_marks false false true false true e' = refl
lower_marks false false true false false true = refl
lower_marks false false true false false false = refl
lower_marks false false false true c' e' = refl
lower_marks false false false false true e' = refl
lower_marks false false false false false true = refl
lower_marks false false false false false false = refl

-- ---- along a list of words: what is left of it, turn by turn
abbrev pub rest : Bench → ℕ → List ℕ → ℕ → ℕ
rest b u ws i = list_mark b u (hands_given (drop i ws))

module _ (b : Bench) (u : ℕ) (ws : List ℕ) where
  rest_on : (i : ℕ) → i < length ws → rest b u ws i ≡ lower (node_mark b u (hand_given (get_or ws i 0))) (rest b u ws (i + 1))
  unfolding any
  rest_on i l = rw (add-one, drop-cons ws i 0) (lower_marks _ _ _ _ _ _)

  pub turn : (n m i : ℕ) {k : ℕ} → i < length ws → k ≡ lower n m → m ≡ node_mark b u (hand_given (get_or ws i 0)) → list_mark b u (hands_given ws) ≡ lower n (rest b u ws i) → list_mark b u (hands_given ws) ≡ lower k (rest b u ws (i + 1))
  turn n m i l e f h = h ∙ ap (lower n) (rest_on i l ∙ ap (λ (x : ℕ). lower x (rest b u ws (i + 1))) (sym f)) ∙ lower_of n m (rest b u ws (i + 1)) ∙ ap (λ (x : ℕ). lower x (rest b u ws (i + 1))) (sym e)

  pub ends : (n i : ℕ) → length ws ≤ i → list_mark b u (hands_given ws) ≡ lower n (rest b u ws i) → n ≡ list_mark b u (hands_given ws)
  unfolding any marks first
  ends n i l h = sym (h ∙ ap (λ (xs : List ℕ). lower n (list_mark b u (hands_given xs))) (drop_of_length-le ws l) ∙ lower_none n)
