-- Adding a stop by the place that was found for its vertex: it comes in at a free place, or meets the stop that is pending there. The place is as long
-- as the front of smaller vertices. Assumes nothing.
use Rattle.std.specs.Prelude.{None, Option, Some}
use Prim.Native.Nat.{ℕ, zero, suc, ◌+◌, ◌≤◌, ◌<◌}
use mathlib.Core.Path.{◌≡◌, refl, sym, ap, ap₂, ◌∙◌}
use mathlib.Core.Bool.{Bool, true, false, cond, false≢true}
use mathlib.Core.List.{List, [], ◌∷◌, ◌++◌}
use native.Mathlib.Omega.{arith}
use borrow.Author.Tests.{ltb-true, ltb-false, eqb-true, eqb-false, lt-ltb, le-ltb, eq-eqb, ne_eqb}
use lib.Dec.{ltb, eqb}
use lib.ListN.{length, take, drop, length-append}
use lib.Seq.{take-append_seam, drop-append_seam, drop-drop}
use Rattle.kinds.specs.Names.{same_code}
use Rattle.kinds.specs.Obstacles.{pair_of}
use Rattle.kinds.specs.declared.Pair.{Pair}
use Rattle.kinds.specs.declared.Obstacle.TheVariants.{Conflicting}
use Rattle.kinds.specs.declared.Entry.{Entry}
use Rattle.kinds.specs.declared.Stop.{Stop}
use Rattle.ledger_spec.specs.Groups.{room_for, front_of, back_of, meet, placed, add_stop}
use Rattle.group_stops.specs.Places.{inserted_at, after_at, spot_of, meeting_of}
use Rattle.group_stops.specs.declared.Spot.{Spot}
use Rattle.group_stops.specs.declared.Spot.TheVariants.{Free, Held}
use Rattle.group_stops.specs.declared.Meeting.{Meeting}
use Rattle.group_stops.specs.declared.Meeting.TheVariants.{Keep, Replace, Join}

-- ---- the front and the back by their place
pub front_back : (v : ℕ) (s : List Stop) → front_of v s ++ back_of v s ≡ s
unfolding front_of back_of
front_back v [] = refl
front_back v (y ∷ s) = go (ltb y.vertex.0 v) (front_back v s)
  where
    go : (b : Bool) → front_of v s ++ back_of v s ≡ s → cond b (y ∷ front_of v s) [] ++ cond b (back_of v s) (y ∷ s) ≡ y ∷ s
    go true ih = ap (λ (r : List Stop). y ∷ r) ih
    go false ih = refl

-- the place, from the front and the back
abbrev spot_by : ℕ → ℕ → List Stop → List Stop → Spot
spot_by i v f [] = Free (i + length f)
spot_by i v f (y ∷ b) = cond (eqb y.vertex.0 v) (Held (i + length f) y) (Free (i + length f))

spot_is : (i v : ℕ) (s : List Stop) → spot_of i v s ≡ spot_by i v (front_of v s) (back_of v s)
unfolding spot_of front_of back_of
spot_is i v [] = ap Free (omega arith)
spot_is i v (y ∷ s) = go (ltb v y.vertex.0) (eqb v y.vertex.0) refl refl (spot_is (suc i) v s)
  where
    w : ℕ
    w = y.vertex.0

    later : (f b : List Stop) → spot_by (suc i) v f b ≡ spot_by i v (y ∷ f) b
    later f [] = ap Free (omega arith)
    later f (z ∷ b) = let e : suc i + length f ≡ i + suc (length f) = omega arith in ap (λ (k : ℕ). cond (eqb z.vertex.0 v) (Held k z) (Free k)) e

    here : i ≡ i + zero
    here = omega arith

    go : (a c : Bool) → ltb v y.vertex.0 ≡ a → eqb v y.vertex.0 ≡ c → spot_of (suc i) v s ≡ spot_by (suc i) v (front_of v s) (back_of v s) →
        cond a (Free i) (cond c (Held i y) (spot_of (suc i) v s)) ≡ spot_by i v (cond (ltb y.vertex.0 v) (y ∷ front_of v s) []) (cond (ltb y.vertex.0 v) (back_of v s) (y ∷ s))
    go true c p q ih =
        let u : v < y.vertex.0 = ltb-true v y.vertex.0 p in
        rw (le-ltb y.vertex.0 v (omega arith), ne_eqb y.vertex.0 v (λ e. omega (arith, u, e))) (ap Free here)
    go false true p q ih =
        let u : v ≡ y.vertex.0 = eqb-true v y.vertex.0 q in
        rw (le-ltb y.vertex.0 v (omega arith), eq-eqb y.vertex.0 v (sym u)) (ap (λ (k : ℕ). Held k y) here)
    go false false p q ih =
        let u : y.vertex.0 ≤ v = ltb-false v y.vertex.0 p in
        let t = eqb-false v y.vertex.0 q in
        rw (lt-ltb y.vertex.0 v (omega (arith, u, t))) (ih ∙ later (front_of v s) (back_of v s))

-- ---- what a place is
abbrev place_of : Spot → ℕ
place_of (Free i) = i
place_of (Held i y) = i

abbrev is_free : Spot → Bool
is_free (Free i) = true
is_free (Held i y) = false

abbrev held_at : Stop → Spot → Stop
held_at d (Free i) = d
held_at d (Held i y) = y

module _ (x : Stop) (l : List Entry) where
  free_case : (f b : List Stop) (p : ℕ) → spot_by 0 x.vertex.0 f b ≡ Free p → (p ≡ length f) × (placed x l f b ≡ room_for l (f ++ x ∷ b))
  unfolding placed
  free_case f [] p e = let k : p ≡ 0 + length f = sym (ap place_of e) in (omega (arith, k), refl)
  free_case f (y ∷ b) p e = go (eqb y.vertex.0 x.vertex.0) e
    where
      go : (c : Bool) → cond c (Held (0 + length f) y) (Free (0 + length f)) ≡ Free p →
          (p ≡ length f) × (cond c (meet (pair_of x.obstacle) (pair_of y.obstacle) x y l f b) (room_for l (f ++ x ∷ y ∷ b)) ≡ room_for l (f ++ x ∷ y ∷ b))
      go true k = absurd (false≢true (ap is_free k))
      go false k = let i : p ≡ 0 + length f = sym (ap place_of k) in (omega (arith, i), refl)

  abbrev HeldAt : List Stop → List Stop → ℕ → Stop → Type 0
  HeldAt f b p y = (p ≡ length f) × (b ≡ y ∷ drop 1 b) × (placed x l f b ≡ meet (pair_of x.obstacle) (pair_of y.obstacle) x y l f (drop 1 b))

  held_case : (f b : List Stop) (p : ℕ) (y : Stop) → spot_by 0 x.vertex.0 f b ≡ Held p y → HeldAt f b p y
  unfolding placed
  held_case f [] p y e = absurd (false≢true (sym (ap is_free e)))
  held_case f (z ∷ b) p y e = go (eqb z.vertex.0 x.vertex.0) e
    where
      go : (c : Bool) → cond c (Held (0 + length f) z) (Free (0 + length f)) ≡ Held p y →
          (p ≡ length f) × (z ∷ b ≡ y ∷ b) × (cond c (meet (pair_of x.obstacle) (pair_of z.obstacle) x z l f b) (room_for l (f ++ x ∷ z ∷ b)) ≡ meet (pair_of x.obstacle) (pair_of y.obstacle) x y l f b)
      go true k = let i : p ≡ 0 + length f = sym (ap place_of k) in (omega (arith, i), ap (λ (w : Stop). w ∷ b) (ap (held_at z) k), ap (λ (w : Stop). meet (pair_of x.obstacle) (pair_of w.obstacle) x w l f b) (ap (held_at z) k))
      go false k = absurd (false≢true (sym (ap is_free k)))

  module _ (s : List Stop) (p : ℕ) where
    front_is : p ≡ length (front_of x.vertex.0 s) → front_of x.vertex.0 s ≡ take p s
    front_is e = sym (ap₂ take e (sym (front_back x.vertex.0 s)) ∙ take-append_seam (front_of x.vertex.0 s) (back_of x.vertex.0 s))

    back_is : p ≡ length (front_of x.vertex.0 s) → back_of x.vertex.0 s ≡ drop p s
    back_is e = sym (ap₂ drop e (sym (front_back x.vertex.0 s)) ∙ drop-append_seam (front_of x.vertex.0 s) (back_of x.vertex.0 s))

    -- a free place: the stop comes in there
    pub free_adds : spot_of 0 x.vertex.0 s ≡ Free p → (p ≤ length s) × (add_stop x l s ≡ room_for l (inserted_at p x s))
    unfolding add_stop
    free_adds e = (omega (arith, c.0, length-append f b, ap length (front_back x.vertex.0 s)), c.1 ∙ ap₂ (λ (i j : List Stop). room_for l (i ++ x ∷ j)) (front_is c.0) (back_is c.0))
      where
        f : List Stop
        f = front_of x.vertex.0 s

        b : List Stop
        b = back_of x.vertex.0 s

        c : (p ≡ length f) × (placed x l f b ≡ room_for l (f ++ x ∷ b))
        c = free_case (front_of x.vertex.0 s) (back_of x.vertex.0 s) p (sym (spot_is 0 x.vertex.0 s) ∙ e)

    -- a place that is held: the two stops meet
    pub held_adds : (y : Stop) → spot_of 0 x.vertex.0 s ≡ Held p y → (p < length s) × (s ≡ take p s ++ y ∷ after_at p s) × (add_stop x l s ≡ meet (pair_of x.obstacle) (pair_of y.obstacle) x y l (take p s) (after_at p s))
    unfolding add_stop
    held_adds y e = (
      omega (arith, c.0, length-append f b, ap length (front_back x.vertex.0 s), ap length c.1),
      sym (front_back x.vertex.0 s) ∙ ap₂ ◌++◌ (front_is c.0) (c.1 ∙ ap (λ (r : List Stop). y ∷ r) rest),
      c.2 ∙ ap₂ (λ (i j : List Stop). meet (pair_of x.obstacle) (pair_of y.obstacle) x y l i j) (front_is c.0) rest,
    )
      where
        f : List Stop
        f = front_of x.vertex.0 s

        b : List Stop
        b = back_of x.vertex.0 s

        c : HeldAt (front_of x.vertex.0 s) (back_of x.vertex.0 s) p y
        c = held_case (front_of x.vertex.0 s) (back_of x.vertex.0 s) p y (sym (spot_is 0 x.vertex.0 s) ∙ e)

        rest : drop 1 (back_of x.vertex.0 s) ≡ after_at p s
        rest = let z : p + 1 ≡ suc p = omega arith in ap (drop 1) (back_is c.0) ∙ drop-drop 1 p s ∙ ap (λ (k : ℕ). drop k s) z

-- ---- what two stops come to
abbrev is_keep : Meeting → Bool
is_keep Keep = true
is_keep Replace = false
is_keep (Join a b) = false

abbrev is_replace : Meeting → Bool
is_replace Keep = false
is_replace Replace = true
is_replace (Join a b) = false

abbrev joined : Meeting → Entry → Entry
joined Keep e = e
joined Replace e = e
joined (Join a b) e = record { obstacle = Conflicting a b }

module _ (x y : Stop) (l : List Entry) (f b : List Stop) where
  pub keeps : (p q : Option Pair) → meeting_of p q ≡ Keep → meet p q x y l f b ≡ room_for l (f ++ y ∷ b)
  unfolding meet meeting_of
  keeps None q e = refl
  keeps (Some p) None e = absurd (false≢true (ap is_keep e))
  keeps (Some p) (Some q) e = go (same_code p.node q.node) e
    where
      go : (c : Bool) → cond c Keep (Join p q) ≡ Keep → cond c (room_for l (f ++ y ∷ b)) (room_for (l ++ record { obstacle = Conflicting p q } ∷ []) (f ++ b)) ≡ room_for l (f ++ y ∷ b)
      go true k = refl
      go false k = absurd (false≢true (ap is_keep k))

  pub replaces : (p q : Option Pair) → meeting_of p q ≡ Replace → meet p q x y l f b ≡ room_for l (f ++ x ∷ b)
  unfolding meet meeting_of
  replaces None q e = absurd (false≢true (ap is_replace e))
  replaces (Some p) None e = refl
  replaces (Some p) (Some q) e = go (same_code p.node q.node) e
    where
      go : (c : Bool) → cond c Keep (Join p q) ≡ Replace → cond c (room_for l (f ++ y ∷ b)) (room_for (l ++ record { obstacle = Conflicting p q } ∷ []) (f ++ b)) ≡ room_for l (f ++ x ∷ b)
      go true k = absurd (false≢true (ap is_replace k))
      go false k = absurd (false≢true (ap is_replace k))

  pub joins : (p q : Option Pair) (a c : Pair) → meeting_of p q ≡ Join a c → meet p q x y l f b ≡ room_for (l ++ record { obstacle = Conflicting a c } ∷ []) (f ++ b)
  unfolding meet meeting_of
  joins None q a c e = absurd (false≢true (sym (ap is_keep e)))
  joins (Some p) None a c e = absurd (false≢true (sym (ap is_replace e)))
  joins (Some p) (Some q) a c e = go (same_code p.node q.node) e
    where
      none : Entry
      none = record { obstacle = Conflicting p q }

      go : (t : Bool) → cond t Keep (Join p q) ≡ Join a c → cond t (room_for l (f ++ y ∷ b)) (room_for (l ++ record { obstacle = Conflicting p q } ∷ []) (f ++ b)) ≡ room_for (l ++ record { obstacle = Conflicting a c } ∷ []) (f ++ b)
      go true k = absurd (false≢true (sym (ap is_keep k)))
      go false k = ap (λ (i : Entry). room_for (l ++ i ∷ []) (f ++ b)) (ap (λ (m : Meeting). joined m (record { obstacle = Conflicting p q })) k)
