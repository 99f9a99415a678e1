-- A stop that comes to a list and stops: there is room for it just where the counts that it makes are within 128, and the stops past its vertex stay.
-- Assumes nothing.
use Rattle.std.specs.Prelude.{None, Option, Some}
use Rattle.kinds.specs.declared.Pair.{Pair}
use Prim.Native.Nat.{ℕ, ◌+◌, ◌-◌, ◌≤◌, ◌<◌}
use mathlib.Core.Path.{◌≡◌, refl, sym, ap, ◌∙◌}
use mathlib.Core.Bool.{Bool, true, false, cond}
use mathlib.Core.List.{List, [], ◌∷◌, ◌++◌}
use native.Mathlib.Omega.{arith}
use borrow.Author.Tests.{eqb-true, eq-eqb, ltb-true, lt-ltb}
use lib.Dec.{eqb, ltb}
use lib.ListN.{length, length-append}
use Rattle.kinds.specs.Names.{same_code}
use Rattle.kinds.specs.Obstacles.{pair_of}
use Rattle.kinds.specs.declared.Entry.{Entry}
use Rattle.kinds.specs.declared.Stop.{Stop}
use Rattle.kinds.specs.declared.Obstacle.TheVariants.{Conflicting}
use Rattle.ledger_spec.specs.Groups.{room_for, front_of, back_of, meet, placed, add_stop}
use Rattle.ledger_laws.proofs.GroupSound.{front_back}
use Rattle.group_lent_room.specs.Coming.{meets, comes, listed_by, stopped_by}

-- a front below v is passed on the way to u
front_pass : (v u : ℕ) (s r : List Stop) → v ≤ u → back_of u (front_of v s ++ r) ≡ back_of u r
unfolding front_of back_of
front_pass v u [] r h = refl
front_pass v u (y ∷ s) r h = go (ltb y.vertex.0 v) refl (front_pass v u s r h)
  where
    go : (b : Bool) → ltb y.vertex.0 v ≡ b → back_of u (front_of v s ++ r) ≡ back_of u r → back_of u (cond b (y ∷ front_of v s) [] ++ r) ≡ back_of u r
    go true e p = rw (lt-ltb y.vertex.0 u (omega (arith, ltb-true y.vertex.0 v e))) p
    go false e p = refl

one_pass : (u : ℕ) (y : Stop) (b : List Stop) → y.vertex.0 < u → back_of u (y ∷ b) ≡ back_of u b
unfolding back_of
one_pass u y b h = rw (lt-ltb y.vertex.0 u h)

-- what it leaves to ask for room: a list and stops, their lengths, and the stops past its vertex
pub record Came (x : Stop) (l : List Entry) (s : List Stop) (d : ℕ) : Type 0 where
  pub list : List Entry
  pub stops : List Stop
  pub is : add_stop x l s ≡ room_for list stops
  pub listed : length list ≡ listed_by d (length l)
  pub stopped : length stops ≡ stopped_by d (length s)
  pub later : (u : ℕ) → x.vertex.0 < u → back_of u stops ≡ back_of u s

module _ (x : Stop) (l : List Entry) (s : List Stop) where
  abbrev v : ℕ
  v = x.vertex.0

  abbrev f : List Stop
  f = front_of v s

  front_on : (u : ℕ) (r : List Stop) → v < u → back_of u (f ++ r) ≡ back_of u r
  front_on u r h = front_pass v u s r (omega arith)

  module _ (b : List Stop) (e : back_of v s ≡ b) where
    total : length f + length b ≡ length s
    total = sym (length-append f b) ∙ ap (λ (t : List Stop). length (f ++ t)) (sym e) ∙ ap length (front_back v s)

    past : (u : ℕ) → v < u → back_of u s ≡ back_of u b
    past u h = ap (back_of u) (sym (front_back v s)) ∙ front_on u (back_of v s) h ∙ ap (back_of u) e

    added_at : (r : List Entry) (t : List Stop) → placed x l f b ≡ room_for r t → add_stop x l s ≡ room_for r t
    unfolding add_stop
    added_at r t p = ap (placed x l f) e ∙ p

    -- one comes in
    comes_in_lem : placed x l f b ≡ room_for l (f ++ x ∷ b) → Came x l s 1
    comes_in_lem p = record {
      list = l;
      stops = f ++ x ∷ b;
      is = added_at l (f ++ x ∷ b) p;
      listed = refl;
      stopped = length-append f (x ∷ b) ∙ omega (arith, total);
      later = λ u h. front_on u (x ∷ b) h ∙ one_pass u x b h ∙ sym (past u h);
    }

  -- it meets y
  module _ (y : Stop) (b : List Stop) (e : back_of v s ≡ y ∷ b) (same : y.vertex.0 ≡ v) where
    past_y : (u : ℕ) → v < u → back_of u s ≡ back_of u b
    past_y u h = past (y ∷ b) e u h ∙ one_pass u y b (omega arith)

    stays : (z : Stop) → z.vertex.0 ≡ v → placed x l f (y ∷ b) ≡ room_for l (f ++ z ∷ b) → Came x l s 0
    stays z w p = record {
      list = l;
      stops = f ++ z ∷ b;
      is = added_at (y ∷ b) e l (f ++ z ∷ b) p;
      listed = refl;
      stopped = length-append f (z ∷ b) ∙ omega (arith, total (y ∷ b) e);
      later = λ u h. front_on u (z ∷ b) h ∙ one_pass u z b (omega arith) ∙ sym (past_y u h);
    }

    joins : (c : Entry) → placed x l f (y ∷ b) ≡ room_for (l ++ c ∷ []) (f ++ b) → Came x l s 2
    joins c p = record {
      list = l ++ c ∷ [];
      stops = f ++ b;
      is = added_at (y ∷ b) e (l ++ c ∷ []) (f ++ b) p;
      listed = length-append l (c ∷ []);
      stopped = length-append f b ∙ omega (arith, total (y ∷ b) e);
      later = λ u h. front_on u b h ∙ sym (past_y u h);
    }

    here : (m n : Option Pair) → pair_of x.obstacle ≡ m → pair_of y.obstacle ≡ n → placed x l f (y ∷ b) ≡ meet m n x y l f b
    unfolding placed
    here m n p q = rw (same_test, p, q)
      where
        same_test : eqb y.vertex.0 x.vertex.0 ≡ true
        same_test = eq-eqb y.vertex.0 x.vertex.0 same

    met : (m n : Option Pair) → pair_of x.obstacle ≡ m → pair_of y.obstacle ≡ n → Came x l s (meets m n)
    unfolding meets meet
    met None n p q = stays y same (here None n p q)
    met (Some a) None p q = stays x refl (here (Some a) None p q)
    met (Some a) (Some c) p q = go (same_code a.node c.node) refl
      where
        go : (t : Bool) → same_code a.node c.node ≡ t → Came x l s (cond t 0 2)
        go true r = stays y same (here (Some a) (Some c) p q ∙ rw r)
        go false r = joins (record { obstacle = Conflicting a c }) (here (Some a) (Some c) p q ∙ rw r)

  pub came : Came x l s (comes x (back_of v s))
  unfolding comes placed
  came = go (back_of v s) refl
    where
      go : (b : List Stop) → back_of v s ≡ b → Came x l s (comes x b)
      go [] e = comes_in_lem [] e refl
      go (y ∷ b) e = at (eqb y.vertex.0 v) refl
        where
          at : (t : Bool) → eqb y.vertex.0 v ≡ t → Came x l s (cond t (meets (pair_of x.obstacle) (pair_of y.obstacle)) 1)
          at true w = met y b e (eqb-true y.vertex.0 v w) (pair_of x.obstacle) (pair_of y.obstacle) refl refl
          at false w = comes_in_lem (y ∷ b) e (rw w)
