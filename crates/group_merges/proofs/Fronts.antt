-- Stops added one on, where the pending stops are a front below the new one's vertex and a back that is not: it comes in between, or meets the first of
-- the back. Assumes nothing.
use Rattle.std.specs.Prelude.{None, Option, Some}
use Prim.Native.Nat.{ℕ, suc, ◌≤◌, ◌<◌}
use mathlib.Core.Path.{◌≡◌, refl, sym, ap, ap₂, ◌∙◌}
use mathlib.Core.Bool.{Bool, true, false, ◌&&◌, false≢true}
use mathlib.Core.List.{List, [], ◌∷◌, ◌++◌}
use native.Mathlib.Omega.{arith}
use borrow.Author.Tests.{leb-true, le-leb, lt-ltb, le-ltb, eq-eqb, ne_eqb}
use lib.Dec.{leb}
use lib.ListN.{length}
use lib.Seq.{append_snoc}
use Rattle.kinds.specs.Obstacles.{is_stop, pair_of}
use Rattle.kinds.specs.declared.Entry.{Entry}
use Rattle.kinds.specs.declared.Stop.{Stop}
use Rattle.ledger_spec.specs.Groups.{Lists, rising_from, room_for, front_of, back_of, meet, placed, add_stop, and_then, add_stops}
use Rattle.group_adds.proofs.Rooms.{room_yes, room_list, room_stops}

-- all below v; the first not below v; the first past v
abbrev pub Below : ℕ → List Stop → Type 0
Below v [] = Unit {0}
Below v (y ∷ f) = (y.vertex.0 < v) × Below v f

abbrev pub Ahead : ℕ → List Stop → Type 0
Ahead v [] = Unit {0}
Ahead v (y ∷ b) = v ≤ y.vertex.0

abbrev pub Past : ℕ → List Stop → Type 0
Past v [] = Unit {0}
Past v (y ∷ b) = v < y.vertex.0

-- all below the first of xs
abbrev pub Under : List Stop → List Stop → Type 0
Under f [] = Unit {0}
Under f (x ∷ xs) = Below x.vertex.0 f

past_ahead : (v : ℕ) (b : List Stop) → Past v b → Ahead v b
past_ahead v [] p = tt
past_ahead v (y ∷ b) p = omega (arith, p)

below_up : (v w : ℕ) (f : List Stop) → v ≤ w → Below v f → Below w f
below_up v w [] h p = tt
below_up v w (y ∷ f) h p = (omega (arith, p.0, h), below_up v w f h p.1)

pub below_snoc : (v : ℕ) (f : List Stop) (z : Stop) → Below v f → z.vertex.0 < v → Below v (f ++ z ∷ [])
below_snoc v [] z p h = (h, tt)
below_snoc v (y ∷ f) z p h = (p.0, below_snoc v f z p.1 h)

pub under_none : (xs : List Stop) → Under [] xs
under_none [] = tt
under_none (x ∷ xs) = tt

-- ---- rising
both : (a b : Bool) → (a && b) ≡ true → (a ≡ true) × (b ≡ true)
both true b e = (refl, e)
both false b e = absurd (false≢true e)

rise_down : (v w : ℕ) (xs : List Stop) → w ≤ v → rising_from v xs ≡ true → rising_from w xs ≡ true
unfolding rising_from
rise_down v w [] h e = refl
rise_down v w (x ∷ xs) h e =
    let p = both (is_stop x.obstacle) (leb v x.vertex.0 && rising_from (suc x.vertex.0) xs) e in
    let q = both (leb v x.vertex.0) (rising_from (suc x.vertex.0) xs) p.1 in
    let u : v ≤ x.vertex.0 = leb-true v x.vertex.0 q.0 in
    rw (p.0, le-leb w x.vertex.0 (omega (arith, u, h)), q.1)

pub rise_rest : (x : Stop) (xs : List Stop) → rising_from 0 (x ∷ xs) ≡ true → rising_from (suc x.vertex.0) xs ≡ true
unfolding rising_from
rise_rest x xs e = (both (leb 0 x.vertex.0) (rising_from (suc x.vertex.0) xs) (both (is_stop x.obstacle) (leb 0 x.vertex.0 && rising_from (suc x.vertex.0) xs) e).1).1

pub rise_zero : (x : Stop) (xs : List Stop) → rising_from 0 (x ∷ xs) ≡ true → rising_from 0 xs ≡ true
rise_zero x xs e = rise_down (suc x.vertex.0) 0 xs (omega arith) (rise_rest x xs e)

pub under_next : (v : ℕ) (f : List Stop) (z : Stop) (xs : List Stop) → rising_from (suc v) xs ≡ true → Below v f → z.vertex.0 ≤ v → Under (f ++ z ∷ []) xs
unfolding rising_from
under_next v f z [] e p h = tt
under_next v f z (x ∷ xs) e p h =
    let q = both (leb (suc v) x.vertex.0) (rising_from (suc x.vertex.0) xs) (both (is_stop x.obstacle) (leb (suc v) x.vertex.0 && rising_from (suc x.vertex.0) xs) e).1 in
    let u : suc v ≤ x.vertex.0 = leb-true (suc v) x.vertex.0 q.0 in
    below_snoc x.vertex.0 f z (below_up v x.vertex.0 f (omega (arith, u)) p) (omega (arith, u, h))

pub under_same : (v : ℕ) (f xs : List Stop) → rising_from (suc v) xs ≡ true → Below v f → Under f xs
unfolding rising_from
under_same v f [] e p = tt
under_same v f (x ∷ xs) e p =
    let q = both (leb (suc v) x.vertex.0) (rising_from (suc x.vertex.0) xs) (both (is_stop x.obstacle) (leb (suc v) x.vertex.0 && rising_from (suc x.vertex.0) xs) e).1 in
    let u : suc v ≤ x.vertex.0 = leb-true (suc v) x.vertex.0 q.0 in
    below_up v x.vertex.0 f (omega (arith, u)) p

-- ---- the front and the back
split_front : (v : ℕ) (f b : List Stop) → Below v f → Ahead v b → front_of v (f ++ b) ≡ f
unfolding front_of
split_front v [] [] p a = refl
split_front v [] (y ∷ b) p a = rw (le-ltb y.vertex.0 v a)
split_front v (z ∷ f) b p a = rw (lt-ltb z.vertex.0 v p.0) (ap (λ (r : List Stop). z ∷ r) (split_front v f b p.1 a))

split_back : (v : ℕ) (f b : List Stop) → Below v f → Ahead v b → back_of v (f ++ b) ≡ b
unfolding back_of
split_back v [] [] p a = refl
split_back v [] (y ∷ b) p a = rw (le-ltb y.vertex.0 v a)
split_back v (z ∷ f) b p a = rw (lt-ltb z.vertex.0 v p.0) (split_back v f b p.1 a)

module _ (x : Stop) (l : List Entry) (f b : List Stop) (p : Below x.vertex.0 f) where
  adds_is : Ahead x.vertex.0 b → add_stop x l (f ++ b) ≡ placed x l f b
  unfolding add_stop
  adds_is a = ap₂ (placed x l) (split_front x.vertex.0 f b p a) (split_back x.vertex.0 f b p a)

  module _ (xs : List Stop) where
    on : (o : Option Lists) → add_stop x l (f ++ b) ≡ o → add_stops (x ∷ xs) l (f ++ b) ≡ and_then o (add_stops xs)
    unfolding add_stops
    on o e = ap (λ (i : Option Lists). and_then i (add_stops xs)) e

placed_past : (x : Stop) (l : List Entry) (f b : List Stop) → Past x.vertex.0 b → placed x l f b ≡ room_for l (f ++ x ∷ b)
unfolding placed
placed_past x l f [] p = refl
placed_past x l f (y ∷ b) p = rw (ne_eqb y.vertex.0 x.vertex.0 (λ e. omega (arith, p, e)))

placed_upon : (x y : Stop) (l : List Entry) (f b : List Stop) → y.vertex.0 ≡ x.vertex.0 → placed x l f (y ∷ b) ≡ meet (pair_of x.obstacle) (pair_of y.obstacle) x y l f b
unfolding placed
placed_upon x y l f b e = rw (eq-eqb y.vertex.0 x.vertex.0 e)

-- ---- it comes in
module _ (x : Stop) (xs : List Stop) (l : List Entry) (f b : List Stop) (p : Below x.vertex.0 f) (a : Past x.vertex.0 b) (h : length l ≤ 128) where
  comes_at : add_stop x l (f ++ b) ≡ room_for l (f ++ x ∷ b)
  comes_at = adds_is x l f b p (past_ahead x.vertex.0 b a) ∙ placed_past x l f b a

  pub comes : length (f ++ x ∷ b) ≤ 128 → add_stops (x ∷ xs) l (f ++ b) ≡ add_stops xs l ((f ++ x ∷ []) ++ b)
  comes k = on x l f b p xs (Some (l, f ++ x ∷ b)) (comes_at ∙ room_yes l (f ++ x ∷ b) h k) ∙ ap (add_stops xs l) (sym (append_snoc f x b))

  pub comes_full : 128 < length (f ++ x ∷ b) → add_stops (x ∷ xs) l (f ++ b) ≡ None
  comes_full k = on x l f b p xs None (comes_at ∙ room_stops l (f ++ x ∷ b) h k)

-- ---- it meets the first of the back
module _ (x y : Stop) (xs : List Stop) (l : List Entry) (f b : List Stop) (p : Below x.vertex.0 f) (e : y.vertex.0 ≡ x.vertex.0) where
  meets_at : add_stop x l (f ++ y ∷ b) ≡ meet (pair_of x.obstacle) (pair_of y.obstacle) x y l f b
  meets_at = adds_is x l f (y ∷ b) p (omega (arith, e)) ∙ placed_upon x y l f b e

  -- one stop stays there
  pub meets_one : (z : Stop) → meet (pair_of x.obstacle) (pair_of y.obstacle) x y l f b ≡ room_for l (f ++ z ∷ b) → length l ≤ 128 → length (f ++ z ∷ b) ≤ 128 → add_stops (x ∷ xs) l (f ++ y ∷ b) ≡ add_stops xs l ((f ++ z ∷ []) ++ b)
  meets_one z m h k = on x l f (y ∷ b) p xs (Some (l, f ++ z ∷ b)) (meets_at ∙ m ∙ room_yes l (f ++ z ∷ b) h k) ∙ ap (add_stops xs l) (sym (append_snoc f z b))

  -- both go to the list
  module _ (c : Entry) (m : meet (pair_of x.obstacle) (pair_of y.obstacle) x y l f b ≡ room_for (l ++ c ∷ []) (f ++ b)) where
    pub meets_none : length (l ++ c ∷ []) ≤ 128 → length (f ++ b) ≤ 128 → add_stops (x ∷ xs) l (f ++ y ∷ b) ≡ add_stops xs (l ++ c ∷ []) (f ++ b)
    meets_none h k = on x l f (y ∷ b) p xs (Some (l ++ c ∷ [], f ++ b)) (meets_at ∙ m ∙ room_yes (l ++ c ∷ []) (f ++ b) h k)

    pub meets_full : 128 < length (l ++ c ∷ []) → add_stops (x ∷ xs) l (f ++ y ∷ b) ≡ None
    meets_full h = on x l f (y ∷ b) p xs None (meets_at ∙ m ∙ room_list (l ++ c ∷ []) (f ++ b) h)

pub all_added : (l : List Entry) (s : List Stop) → add_stops [] l s ≡ Some (l, s)
unfolding add_stops
all_added l s = refl
