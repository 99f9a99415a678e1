-- What holds of every number below n passes the test of all, and the other way round. Assumes nothing.
use Prim.Native.Nat.{ℕ, zero, suc, ◌+◌, ◌<◌}
use mathlib.Core.Path.{◌≡◌, refl, sym, ◌∙◌, ap, ap₂}
use mathlib.Core.Bool.{Bool, true, false, true≢false, ◌&&◌}
use native.Mathlib.Decide.{ℕ_discrete}
use native.Mathlib.Numerals.{add-one}
use native.Mathlib.Omega.{arith}
use Rattle.std.proofs.Math.Bool.{and_assoc}
use Rattle.std.proofs.iter.Yields.{nat_range_steps}
use Rattle.std.proofs.lemmas.Iterator.{YieldsList-from_range}
use Rattle.std.proofs.lemmas.Iterator.Search.{all_from_yields_List}
use Rattle.std.specs.Fn.{Called}
use Rattle.std.specs.Iterator.{YieldsThen}
use Rattle.std.specs.List.{list_all, range_with_len, FoldsTo}
use Rattle.std.specs.Option.{MatchOption}
use Rattle.std.specs.Prelude.{Option}
use Rattle.std.specs.declared.ops.Range.{Range}
use denote.Param.Members.{Mut}
use mathlib.Core.List.{List}
use Rattle.ledger_spec.proofs.Lists.{and_true, both_true}
use Rattle.sound_trees.specs.Below.{all_to, sum_to}

pub all_each : (f : ℕ → Bool) (n : ℕ) → all_to f n ≡ true → (i : ℕ) → i < n → f i ≡ true
unfolding all_to
all_each f zero e i l = absurd (omega arith)
all_each f (suc n) e i l = go (ℕ_discrete i n) (λ k. all_each f n (and_true (all_to f n) (f n) e).0 i k)
  where
    go : Dec (i ≡ n) → (i < n → f i ≡ true) → f i ≡ true
    go (yes p) ih = ap f p ∙ (and_true (all_to f n) (f n) e).1
    go (no p) ih = ih (omega arith)

pub all_of : (f : ℕ → Bool) (n : ℕ) → ((i : ℕ) → i < n → f i ≡ true) → all_to f n ≡ true
unfolding all_to
all_of f zero h = refl
all_of f (suc n) h = both_true (all_of f n (λ i l. h i (omega arith))) (h n (omega arith))

-- ---- a loop that tests one after the other
pub all_none : (f : ℕ → Bool) → true ≡ all_to f 0
unfolding all_to
all_none f = refl

pub all_more : (f : ℕ → Bool) (n : ℕ) → all_to f n ≡ true → f n ≡ true → all_to f (n + 1) ≡ true
unfolding all_to
all_more f n e h = ap (all_to f) (add-one n) ∙ both_true e h

pub all_not : (f : ℕ → Bool) (n i : ℕ) → i < n → f i ≡ false → false ≡ all_to f n
all_not f n i l e = go (all_to f n) refl
  where
    go : (c : Bool) → all_to f n ≡ c → false ≡ all_to f n
    go true q = absurd (true≢false (sym (all_each f n q i l) ∙ e))
    go false q = sym q

pub all_done : (f : ℕ → Bool) (n i : ℕ) → all_to f i ≡ true → i ≡ n → true ≡ all_to f n
all_done f n i e q = sym (sym (ap (all_to f) q) ∙ e)

-- ---- `(0..n).all(..)`
all_next : (f : ℕ → Bool) (a n : ℕ) → list_all f (range_with_len a (suc n)) ≡ (list_all f (range_with_len a n) && f (a + n))
all_next f a zero = grind arith
all_next f a (suc n) =
    let e : a + 1 + n ≡ a + suc n = omega arith in
    ap (λ (x : Bool). f a && x) (all_next f (a + 1) n) ∙ sym (and_assoc (f a) (list_all f (range_with_len (a + 1) n)) (f (a + 1 + n)))
    ∙ ap (λ (k : ℕ). (f a && list_all f (range_with_len (a + 1) n)) && f k) e

all_ranged : (f : ℕ → Bool) (n : ℕ) → list_all f (range_with_len 0 n) ≡ all_to f n
unfolding all_to
all_ranged f zero = refl
all_ranged f (suc n) = all_next f 0 n ∙ ap₂ (λ (x y : Bool). x && y) (all_ranged f n) (let e : 0 + n ≡ n = omega arith in ap f e)

-- the second premise is the call's clause `ran`, the third says that the closure computes f
pub all_chained : {F : Type 0} {g : Mut F (ℕ × Unit {0}) Bool} {s : Range ℕ} (f : ℕ → Bool) (n : ℕ) (u : Range ℕ) (h : F) (r : Bool)
    → s ≡ record { start = 0; end = n }
    → (xs : List ℕ) × (o : Option ℕ) × (j : F) × YieldsThen nat_range_steps s xs o u
    × FoldsTo (λ p x q. Called g p (x, tt) true q) h xs j
    × MatchOption o (r ≡ true) (λ x. (r ≡ false) × ((k : F) × Called g j (x, tt) false k))
    → ((x : ℕ) (b : Bool) (q : F) → Called g h (x, tt) b q → (q ≡ h) × (b ≡ f x)) → r ≡ all_to f n
all_chained f n u h r e ran k = all_from_yields_List f u h r ran (YieldsList-from_range 0 n n e (omega arith)) k ∙ all_ranged f n

-- ---- a loop that adds up
pub sum_none : (f : ℕ → ℕ) → sum_to f 0 ≡ 0
unfolding sum_to
sum_none f = refl

pub sum_more : (f : ℕ → ℕ) (n : ℕ) → sum_to f (n + 1) ≡ sum_to f n + f n
unfolding sum_to
sum_more f n = ap (sum_to f) (add-one n)

pub sum_same : (f g : ℕ → ℕ) (n : ℕ) → ((i : ℕ) → i < n → f i ≡ g i) → sum_to f n ≡ sum_to g n
unfolding sum_to
sum_same f g zero h = refl
sum_same f g (suc n) h = ap₂ ◌+◌ (sum_same f g n (λ i l. h i (omega arith))) (h n (omega arith))
