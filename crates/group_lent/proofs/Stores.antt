-- Words read after a run of stores, and elements read one after the other: laws of `sets` and `run` over plain numbers. Assumes nothing.
use Rattle.std.specs.Prelude.{Some}
use Prim.Native.Nat.{ℕ, zero, suc, ◌+◌, ◌<◌, ◌≤◌}
use mathlib.Core.Path.{◌≡◌, refl, ap, ◌∙◌}
use mathlib.Core.Bool.{Bool, true, false, false≢true, ◌&&◌}
use mathlib.Core.List.{List, [], ◌∷◌, ◌++◌, append-nil}
use native.Mathlib.Omega.{arith}
use lib.ListN.{length, get_or, set, length-set, drop_of_length-le}
use lib.Seq.{sets, sets-eq, get_or-set_same, get_or-set_other}
use Rattle.kinds.specs.declared.Entry.{Entry}
use Rattle.kinds.specs.declared.Stop.{Stop}
use Rattle.ledger_spec.specs.Groups.{last_of, all_but_last}
use Rattle.group_lent.specs.Place.{run}

pub and_left : (a b : Bool) → (a && b) ≡ true → a ≡ true
and_left true b e = refl
and_left false b e = absurd (false≢true e)

pub and_right : (a b : Bool) → (a && b) ≡ true → b ≡ true
and_right true b e = e
and_right false b e = absurd (false≢true e)

-- ---- runs of stores

-- all that there is, stored over
pub sets_all : (l vs : List ℕ) → length vs ≡ length l → sets l 0 vs ≡ vs
sets_all l vs e =
    sets-eq vs l 0 (omega arith)
    ∙ ap (λ (r : List ℕ). vs ++ r) (drop_of_length-le l {i = 0 + length vs} (omega arith))
    ∙ append-nil vs

-- ---- a word after a run of stores: outside of it, and in it

pub sets_out : (l : List ℕ) (i : ℕ) (xs : List ℕ) (j : ℕ) → (i ≤ j → i + length xs ≤ j) → get_or (sets l i xs) j 0 ≡ get_or l j 0
sets_out l i [] j h = refl
sets_out l i (x ∷ xs) j h =
    sets_out (set l i x) (suc i) xs j (λ k. omega (arith, h (omega arith)))
    ∙ get_or-set_other l i j x 0 (λ e. omega (arith, h (omega arith)))

pub sets_in : (l : List ℕ) (i : ℕ) (xs : List ℕ) (k j : ℕ) → j ≡ i + k → k < length xs → i + length xs ≤ length l → get_or (sets l i xs) j 0 ≡ get_or xs k 0
sets_in l i [] k j e h r = absurd (omega arith)
sets_in l i (x ∷ xs) zero j e h r =
    let s : j ≡ i = omega arith in
    sets_out (set l i x) (suc i) xs j (λ k. absurd (omega arith)) ∙ rw s (get_or-set_same l i x 0 (omega arith))
sets_in l i (x ∷ xs) (suc k) j e h r = sets_in (set l i x) (suc i) xs k j (omega arith) (omega arith) (rw length-set (omega arith))

-- ---- elements in a row

module _ {A : Type 0} where
  pub run_long : (f : ℕ → A) (a n : ℕ) → length (run f a n) ≡ n
  unfolding run
  run_long f a zero = refl
  run_long f a (suc n) = ap suc (run_long f (suc a) n)

  pub run_same : (f g : ℕ → A) (a n : ℕ) → ((i : ℕ) → a ≤ i → i < a + n → f i ≡ g i) → run f a n ≡ run g a n
  unfolding run
  run_same f g a zero e = refl
  run_same f g a (suc n) e = rw (e a (omega arith) (omega arith), run_same f g (suc a) n (λ i h k. e i (omega arith) (omega arith)))

  -- the first goes
  pub run_next : (f : ℕ → A) (a n : ℕ) → run f (suc a) n ≡ run (λ i. f (suc i)) a n
  unfolding run
  run_next f a zero = refl
  run_next f a (suc n) = ap (λ (r : List A). f (suc a) ∷ r) (run_next f (suc a) n)

  -- one more comes, at place k
  pub run_more : (f : ℕ → A) (a n k : ℕ) → k ≡ a + n → run f a (suc n) ≡ run f a n ++ f k ∷ []
  unfolding run
  run_more f a zero k e = let s : k ≡ a = omega arith in rw s
  run_more f a (suc n) k e = ap (λ (r : List A). f a ∷ r) (run_more f (suc a) n k (omega arith))

  pub run_front : (f : ℕ → A) (a n : ℕ) → all_but_last (run f a (suc n)) ≡ run f a n
  unfolding run all_but_last
  run_front f a zero = refl
  run_front f a (suc n) = ap (λ (r : List A). f a ∷ r) (run_front f (suc a) n)

pub run_top : (f : ℕ → Entry) (s : List Stop) (a n k : ℕ) → k ≡ a + n → last_of (run f a (suc n)) s ≡ Some (f k).obstacle
unfolding run last_of
run_top f s a zero k e = let z : k ≡ a = omega arith in rw z
run_top f s a (suc n) k e = run_top f s (suc a) n k (omega arith)
