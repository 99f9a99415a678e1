-- Where a vertex stands among stops in a row, one stop on; and what stops in a row are. Assumes nothing.
use Prim.Native.Nat.{ℕ, zero, suc, ◌+◌, ◌-◌, ◌*◌, ◌<◌, ◌≤◌}
use mathlib.Core.Path.{◌≡◌, refl, ap, ap₂, ◌∙◌}
use mathlib.Core.Bool.{Bool, true, false, cond, ◌&&◌}
use mathlib.Core.Logic.{by_cases}
use mathlib.Core.List.{List, [], ◌∷◌, ◌++◌}
use native.Mathlib.Decide.{ℕ_discrete}
use native.Mathlib.Nat.{mod-eq_of_lt}
use native.Mathlib.Omega.{arith}
use borrow.Author.Tests.{ltb-true, lt-ltb, le-ltb}
use lib.Dec.{leb, ltb}
use lib.ListN.{length, get_or}
use Rattle.kinds.specs.Obstacles.{is_stop}
use Rattle.kinds.specs.declared.Stop.{Stop}
use Rattle.ledger_spec.specs.Groups.{front_of, back_of, rising_from}
use Rattle.group_lent.specs.Forms.{is_form, five_at}
use Rattle.group_lent.specs.Groups.{stop_read, stop_form, stop_at}
use Rattle.group_lent.proofs.Stores.{and_left, and_right}
use Rattle.group_lent.specs.Place.{run, stopped, stops_in}
use Rattle.group_lent_stops.specs.Stops.{place_in}

pub run_split : {A : Type 0} (f : ℕ → A) (a p n t k : ℕ) → t ≡ p + n → k ≡ a + p → run f a t ≡ run f a p ++ run f k n
unfolding run
run_split f a zero n t k e d = let y : t ≡ n = omega arith in let z : k ≡ a = omega arith in rw (y, z)
run_split {A} f a (suc p) n t k e d =
    let z : t ≡ suc (p + n) = omega arith in
    ap (run f a) z ∙ ap (λ (r : List A). f a ∷ r) (run_split f (suc a) p n (p + n) k refl (omega arith))

-- the vertex's word, where it is one
pub vertex_is : (ws : List ℕ) (i : ℕ) → stop_form ws i ≡ true → (stop_at ws i).vertex.0 ≡ get_or ws (645 + i * 6) 0
unfolding stop_form stop_at stop_read
vertex_is ws i e =
    mod-eq_of_lt (ltb-true (get_or ws (645 + i * 6) 0) 4294967296 (and_left (ltb (get_or ws (645 + i * 6) 0) 4294967296) (is_form (five_at ws (645 + i * 6 + 1))) e))

module _ (S : ℕ → Stop) where
  -- rising stops are stops
  pub rising_stop : (b a n : ℕ) → rising_from b (run S a n) ≡ true → (i : ℕ) → a ≤ i → i < a + n → is_stop (S i).obstacle ≡ true
  unfolding rising_from run
  rising_stop b a zero e i h k = absurd (omega arith)
  rising_stop b a (suc n) e i h k =
      let rest = leb b (S a).vertex.0 && rising_from (suc (S a).vertex.0) (run S (suc a) n) in
      let r = and_right (leb b (S a).vertex.0) (rising_from (suc (S a).vertex.0) (run S (suc a) n)) (and_right (is_stop (S a).obstacle) rest e) in
      let x = and_left (is_stop (S a).obstacle) rest e in
      by_cases (ℕ_discrete i a)
      (λ (z : i ≡ a). rw z x)
      (λ (d : i ≡ a → ⊥). rising_stop (suc (S a).vertex.0) (suc a) n r i (omega (arith, d)) (omega arith))

  module _ (v : ℕ) where
    pub record Split (a n : ℕ) (front back : List Stop) : Type 0 where
      pub low : length front ≤ n
      pub before : front ≡ run S a (length front)
      pub after : back ≡ run S (a + length front) (n - length front)

    pub splits : (a n : ℕ) → Split a n (front_of v (run S a n)) (back_of v (run S a n))
    unfolding run front_of back_of
    splits a zero = record { low = omega arith; before = refl; after = refl }
    splits a (suc n) = go (ltb (S a).vertex.0 v) (splits (suc a) n)
      where
        go : (b : Bool) → Split (suc a) n (front_of v (run S (suc a) n)) (back_of v (run S (suc a) n))
            → Split a (suc n) (cond b (S a ∷ front_of v (run S (suc a) n)) []) (cond b (back_of v (run S (suc a) n)) (S a ∷ run S (suc a) n))
        go true s =
            let p = length (front_of v (run S (suc a) n)) in
            let y : suc a + p ≡ a + suc p = omega arith in
            let z : n - p ≡ suc n - suc p = omega arith in
            record { low = omega (arith, s.low); before = ap (λ (r : List Stop). S a ∷ r) s.before; after = s.after ∙ ap₂ (run S) y z }
        go false s =
            let y : a ≡ a + 0 = omega arith in
            let z : suc n ≡ suc n - 0 = omega arith in
            record { low = omega arith; before = refl; after = ap₂ (run S) y z }

    -- ---- the loop: p stops are passed
    module _ (m p k : ℕ) (e : k ≡ p + length (front_of v (run S p (m - p)))) where
      pub place_end : m ≤ p → p ≡ k
      unfolding run front_of
      place_end h = let z : m - p ≡ 0 = omega arith in let d : length (front_of v (run S p (m - p))) ≡ 0 = rw z in omega arith

      module _ (h : p < m) where
        next : m - p ≡ suc (m - (p + 1))
        next = omega arith

        pub place_stop : v ≤ (S p).vertex.0 → p ≡ k
        unfolding run front_of
        place_stop l =
            let d : length (front_of v (run S p (m - p))) ≡ 0 = rw (next, le-ltb (S p).vertex.0 v l) in
            omega arith

        pub place_turn : (S p).vertex.0 < v → k ≡ p + 1 + length (front_of v (run S (p + 1) (m - (p + 1))))
        unfolding run front_of
        place_turn l =
            let y : suc p ≡ p + 1 = omega arith in
            let t = m - (p + 1) in
            let d : length (front_of v (run S p (m - p))) ≡ suc (length (front_of v (run S (p + 1) t))) =
            rw (next, lt-ltb (S p).vertex.0 v l) (ap (λ (i : ℕ). suc (length (front_of v (run S i t)))) y) in
            omega arith

pub place_begin : (ws : List ℕ) (v : ℕ) → place_in ws v ≡ 0 + length (front_of v (run (stop_at ws) 0 (stopped ws - 0)))
unfolding place_in
place_begin ws v =
    let z : stopped ws ≡ stopped ws - 0 = omega arith in
    let d : length (front_of v (stops_in ws)) ≡ length (front_of v (run (stop_at ws) 0 (stopped ws - 0))) = ap (λ (n : ℕ). length (front_of v (run (stop_at ws) 0 n))) z in
    omega arith
