-- A sound group stays sound under add, extend and pop: what is added to a sound list and to rising stops leaves them so, and room is asked at each
-- step. Assumes nothing.
use Rattle.std.specs.Prelude.{None, Option, Some}
use Rattle.kinds.specs.declared.Pair.{Pair}
use Prim.Native.Nat.{ℕ, suc, ◌≤◌}
use mathlib.Core.Path.{◌≡◌, refl, sym, ◌∙◌, ap, subst}
use mathlib.Core.Bool.{Bool, true, false, cond, ◌&&◌}
use mathlib.Core.List.{List, [], ◌∷◌, ◌++◌}
use native.Mathlib.Omega.{arith}
use borrow.Author.Tests.{leb-true, le-leb, ltb-true, ltb-false, eqb-true, eqb-false}
use lib.Dec.{leb, ltb, eqb}
use lib.ListN.{length, drop, length-drop}
use lib.IntN.{ℤ}
use lib.Signed.{lt_z}
use Rattle.kinds.specs.Names.{same_code}
use Rattle.kinds.specs.Obstacles.{listable, is_stop, pair_of}
use Rattle.kinds.specs.declared.Entry.{Entry}
use Rattle.kinds.specs.declared.Stop.{Stop}
use Rattle.kinds.specs.declared.Obstacle.{Obstacle}
use Rattle.kinds.specs.declared.Obstacle.TheVariants.{NonZeroGrow, Conflicting, TouchingVirtual, BlossomNeedExpand, VertexShrinkStop}
use Rattle.ledger_spec.specs.Groups.{Group, growth, conflicts, largest, eq_z, all_listable, rising_from, sound_group, Lists, room_for, front_of, back_of, meet, placed, add_stop, grouped, add_to_growth, add_to_conflicts, added, smaller_pair, and_then, add_stops, extended, all_but_last, popped}
use Rattle.ledger_spec.proofs.Knit.{some_eq, none_some}
use Rattle.ledger_spec.proofs.Lists.{and_true, both_true}

-- ---- a sound list and sound stops
pub record Fine (l : List Entry) (s : List Stop) : Type 0 where
  pub listed : length l ≤ 128
  pub stopped : length s ≤ 128
  pub listables : all_listable l ≡ true
  pub rises : rising_from 0 s ≡ true

pub fine_of : (l : List Entry) (s : List Stop) → sound_group (conflicts l s) ≡ true → Fine l s
unfolding sound_group
fine_of l s e =
    let a = and_true (leb (length l) 128) (leb (length s) 128 && (all_listable l && rising_from 0 s)) e in
    let b = and_true (leb (length s) 128) (all_listable l && rising_from 0 s) a.1 in
    let c = and_true (all_listable l) (rising_from 0 s) b.1 in
    record { listed = leb-true (length l) 128 a.0; stopped = leb-true (length s) 128 b.0; listables = c.0; rises = c.1 }

pub of_fine : (l : List Entry) (s : List Stop) → Fine l s → sound_group (conflicts l s) ≡ true
unfolding sound_group
of_fine l s F = both_true (le-leb (length l) 128 F.listed) (both_true (le-leb (length s) 128 F.stopped) (both_true F.listables F.rises))

-- ---- the list
front_listable : (l : List Entry) → all_listable l ≡ true → all_listable (all_but_last l) ≡ true
unfolding all_but_last all_listable
front_listable [] e = refl
front_listable (x ∷ []) e = refl
front_listable (x ∷ y ∷ l) e = let a = and_true (listable x.obstacle) (all_listable (y ∷ l)) e in both_true a.0 (front_listable (y ∷ l) a.1)

front_short : (l : List Entry) → length (all_but_last l) ≤ length l
unfolding all_but_last
front_short [] = omega arith
front_short (x ∷ []) = omega arith
front_short (x ∷ y ∷ l) = omega (arith, front_short (y ∷ l))

append_listable : (l m : List Entry) → all_listable l ≡ true → all_listable m ≡ true → all_listable (l ++ m) ≡ true
unfolding all_listable
append_listable [] m p q = q
append_listable (x ∷ l) m p q = let a = and_true (listable x.obstacle) (all_listable l) p in both_true a.0 (append_listable l m a.1 q)

one_listable : (e : Entry) → listable e.obstacle ≡ true → all_listable (e ∷ []) ≡ true
unfolding all_listable
one_listable e h = both_true h refl

-- ---- the stops
record Rises (v : ℕ) (x : Stop) (s : List Stop) : Type 0 where
  stop : is_stop x.obstacle ≡ true
  least : v ≤ x.vertex.0
  rest : rising_from (suc x.vertex.0) s ≡ true

rise_of : (v : ℕ) (x : Stop) (s : List Stop) → rising_from v (x ∷ s) ≡ true → Rises v x s
unfolding rising_from
rise_of v x s e =
    let a = and_true (is_stop x.obstacle) (leb v x.vertex.0 && rising_from (suc x.vertex.0) s) e in
    let b = and_true (leb v x.vertex.0) (rising_from (suc x.vertex.0) s) a.1 in
    record { stop = a.0; least = leb-true v x.vertex.0 b.0; rest = b.1 }

of_rise : (v : ℕ) (x : Stop) (s : List Stop) → Rises v x s → rising_from v (x ∷ s) ≡ true
unfolding rising_from
of_rise v x s R = both_true R.stop (both_true (le-leb v x.vertex.0 R.least) R.rest)

rise_none : (v : ℕ) → rising_from v [] ≡ true
unfolding rising_from
rise_none v = refl

rise_less : (a b : ℕ) (s : List Stop) → a ≤ b → rising_from b s ≡ true → rising_from a s ≡ true
rise_less a b [] h e = rise_none a
rise_less a b (x ∷ s) h e = let R : Rises b x s = rise_of b x s e in of_rise a x s (record { stop = R.stop; least = omega (arith, R.least, h); rest = R.rest })

rise_tail : (v : ℕ) (x : Stop) (s : List Stop) → rising_from v (x ∷ s) ≡ true → rising_from v s ≡ true
rise_tail v x s e = let R : Rises v x s = rise_of v x s e in rise_less v (suc x.vertex.0) s (omega (arith, R.least)) R.rest

rise_drop : (v : ℕ) (s : List Stop) → rising_from v s ≡ true → rising_from v (drop 1 s) ≡ true
rise_drop v [] e = e
rise_drop v (x ∷ s) e = rise_tail v x s e

-- another stop at the same vertex, and one stop less
rise_instead : (x y : Stop) (v : ℕ) (f s : List Stop) → is_stop x.obstacle ≡ true → y.vertex.0 ≡ x.vertex.0 → rising_from v (f ++ y ∷ s) ≡ true → rising_from v (f ++ x ∷ s) ≡ true
rise_instead x y v [] s p w e = let R : Rises v y s = rise_of v y s e in of_rise v x s (record { stop = p; least = omega (arith, R.least, w); rest = subst (λ (k : ℕ). rising_from (suc k) s ≡ true) w R.rest })
rise_instead x y v (z ∷ f) s p w e = let R : Rises v z (f ++ y ∷ s) = rise_of v z (f ++ y ∷ s) e in
    of_rise v z (f ++ x ∷ s) (record { stop = R.stop; least = R.least; rest = rise_instead x y (suc z.vertex.0) f s p w R.rest })

rise_out : (y : Stop) (v : ℕ) (f s : List Stop) → rising_from v (f ++ y ∷ s) ≡ true → rising_from v (f ++ s) ≡ true
rise_out y v [] s e = rise_tail v y s e
rise_out y v (z ∷ f) s e = let R : Rises v z (f ++ y ∷ s) = rise_of v z (f ++ y ∷ s) e in of_rise v z (f ++ s) (record { stop = R.stop; least = R.least; rest = rise_out y (suc z.vertex.0) f s R.rest })

-- a new stop between the lower ones and the others, if none of them is at its vertex
module _ (k : ℕ) (y : Stop) (s : List Stop) where
  front_yes : ltb y.vertex.0 k ≡ true → front_of k (y ∷ s) ≡ y ∷ front_of k s
  unfolding front_of
  front_yes t = ap (λ (c : Bool). cond c (y ∷ front_of k s) []) t

  front_no : ltb y.vertex.0 k ≡ false → front_of k (y ∷ s) ≡ []
  unfolding front_of
  front_no t = ap (λ (c : Bool). cond c (y ∷ front_of k s) []) t

  back_yes : ltb y.vertex.0 k ≡ true → back_of k (y ∷ s) ≡ back_of k s
  unfolding back_of
  back_yes t = ap (λ (c : Bool). cond c (back_of k s) (y ∷ s)) t

  back_no : ltb y.vertex.0 k ≡ false → back_of k (y ∷ s) ≡ y ∷ s
  unfolding back_of
  back_no t = ap (λ (c : Bool). cond c (back_of k s) (y ∷ s)) t

pub front_back : (k : ℕ) (s : List Stop) → front_of k s ++ back_of k s ≡ s
unfolding front_of back_of
front_back k [] = refl
front_back k (y ∷ s) = go (ltb y.vertex.0 k) refl (front_back k s)
  where
    go : (c : Bool) → ltb y.vertex.0 k ≡ c → front_of k s ++ back_of k s ≡ s → front_of k (y ∷ s) ++ back_of k (y ∷ s) ≡ y ∷ s
    go true t ih = ap (λ (l : List Stop). l ++ back_of k (y ∷ s)) (front_yes k y s t) ∙ ap (λ (l : List Stop). y ∷ (front_of k s ++ l)) (back_yes k y s t) ∙ ap (λ (l : List Stop). y ∷ l) ih
    go false t ih = ap (λ (l : List Stop). l ++ back_of k (y ∷ s)) (front_no k y s t) ∙ back_no k y s t

-- no stop of the others stands first at k
abbrev Apart : ℕ → List Stop → Type 0
Apart k [] = Unit {0}
Apart k (y ∷ s) = y.vertex.0 ≡ k → ⊥

rise_in : (x : Stop) (v : ℕ) (s : List Stop) → is_stop x.obstacle ≡ true → v ≤ x.vertex.0 → rising_from v s ≡ true → Apart x.vertex.0 (back_of x.vertex.0 s) → rising_from v (front_of x.vertex.0 s ++ x ∷ back_of x.vertex.0 s) ≡ true
unfolding front_of back_of
rise_in x v [] p q e a = of_rise v x [] (record { stop = p; least = q; rest = rise_none (suc x.vertex.0) })
rise_in x v (y ∷ s) p q e a = go (ltb y.vertex.0 x.vertex.0) refl (λ c h r k. rise_in x c s p h r k)
  where
    R : Rises v y s
    R = rise_of v y s e

    go : (c : Bool) → ltb y.vertex.0 x.vertex.0 ≡ c
        → ((c : ℕ) → c ≤ x.vertex.0 → rising_from c s ≡ true → Apart x.vertex.0 (back_of x.vertex.0 s) → rising_from c (front_of x.vertex.0 s ++ x ∷ back_of x.vertex.0 s) ≡ true)
        → rising_from v (front_of x.vertex.0 (y ∷ s) ++ x ∷ back_of x.vertex.0 (y ∷ s)) ≡ true
    go true t ih = ap (λ (l : List Stop). rising_from v (l ++ x ∷ back_of x.vertex.0 (y ∷ s))) (front_yes x.vertex.0 y s t)
        ∙ ap (λ (l : List Stop). rising_from v (y ∷ (front_of x.vertex.0 s ++ x ∷ l))) (back_yes x.vertex.0 y s t)
        ∙ of_rise v y (front_of x.vertex.0 s ++ x ∷ back_of x.vertex.0 s)
        (record { stop = R.stop; least = R.least; rest = ih (suc y.vertex.0) (ltb-true y.vertex.0 x.vertex.0 t) R.rest (subst (Apart x.vertex.0) (back_yes x.vertex.0 y s t) a) })
    go false t ih = ap (λ (l : List Stop). rising_from v (l ++ x ∷ back_of x.vertex.0 (y ∷ s))) (front_no x.vertex.0 y s t)
        ∙ ap (λ (l : List Stop). rising_from v (x ∷ l)) (back_no x.vertex.0 y s t)
        ∙ of_rise v x (y ∷ s) (record { stop = p; least = q; rest = of_rise (suc x.vertex.0) y s (record { stop = R.stop; least = past; rest = R.rest }) })
      where
        ne : y.vertex.0 ≡ x.vertex.0 → ⊥
        ne = subst (Apart x.vertex.0) (back_no x.vertex.0 y s t) a

        past : suc x.vertex.0 ≤ y.vertex.0
        past = omega (arith, ltb-false y.vertex.0 x.vertex.0 t, ne)

-- ---- what there is room for is fine
abbrev Good : Option Lists → Type 0
Good None = Unit {0}
Good (Some ls) = Fine ls.0 ls.1

room_good : (l : List Entry) (s : List Stop) → all_listable l ≡ true → rising_from 0 s ≡ true → Good (room_for l s)
unfolding room_for
room_good l s a r = go (leb (length l) 128) (leb (length s) 128) refl refl
  where
    go : (p q : Bool) → leb (length l) 128 ≡ p → leb (length s) 128 ≡ q → Good (cond (p && q) (Some (l, s)) None)
    go true true h k = record { listed = leb-true (length l) 128 h; stopped = leb-true (length s) 128 k; listables = a; rises = r }
    go true false h k = tt
    go false q h k = tt

cond_good : (t : Bool) (a b : Option Lists) → Good a → Good b → Good (cond t a b)
cond_good true a b p q = p
cond_good false a b p q = q

meet_good : (m n : Option Pair) (x y : Stop) (l : List Entry) (f b : List Stop) → is_stop x.obstacle ≡ true → y.vertex.0 ≡ x.vertex.0 → all_listable l ≡ true → rising_from 0 (f ++ y ∷ b) ≡ true → Good (meet m n x y l f b)
unfolding meet
meet_good None n x y l f b p w a r = room_good l (f ++ y ∷ b) a r
meet_good (Some q) None x y l f b p w a r = room_good l (f ++ x ∷ b) a (rise_instead x y 0 f b p w r)
meet_good (Some q) (Some k) x y l f b p w a r =
    cond_good (same_code q.node k.node) (room_for l (f ++ y ∷ b)) (room_for (l ++ record { obstacle = Conflicting q k } ∷ []) (f ++ b)) (room_good l (f ++ y ∷ b) a r)
    (room_good (l ++ record { obstacle = Conflicting q k } ∷ []) (f ++ b) (append_listable l (record { obstacle = Conflicting q k } ∷ []) a (one_listable (record { obstacle = Conflicting q k }) refl)) (rise_out y 0 f b r))

placed_good : (x : Stop) (l : List Entry) (f b : List Stop) → is_stop x.obstacle ≡ true → all_listable l ≡ true → rising_from 0 (f ++ b) ≡ true → (Apart x.vertex.0 b → rising_from 0 (f ++ x ∷ b) ≡ true) → Good (placed x l f b)
unfolding placed
placed_good x l f [] p a r k = room_good l (f ++ x ∷ []) a (k tt)
placed_good x l f (y ∷ b) p a r k = go (eqb y.vertex.0 x.vertex.0) refl
  where
    go : (t : Bool) → eqb y.vertex.0 x.vertex.0 ≡ t → Good (cond t (meet (pair_of x.obstacle) (pair_of y.obstacle) x y l f b) (room_for l (f ++ x ∷ y ∷ b)))
    go true e = meet_good (pair_of x.obstacle) (pair_of y.obstacle) x y l f b p (eqb-true y.vertex.0 x.vertex.0 e) a r
    go false e = room_good l (f ++ x ∷ y ∷ b) a (k (eqb-false y.vertex.0 x.vertex.0 e))

stop_good : (x : Stop) (l : List Entry) (s : List Stop) → is_stop x.obstacle ≡ true → all_listable l ≡ true → rising_from 0 s ≡ true → Good (add_stop x l s)
unfolding add_stop
stop_good x l s p a r = placed_good x l (front_of x.vertex.0 s) (back_of x.vertex.0 s) p a (ap (rising_from 0) (front_back x.vertex.0 s) ∙ r) (λ k. rise_in x 0 s p (omega arith) r k)

-- ---- add
some_fine : (o : Option Lists) (q : Group) → Good o → grouped o ≡ Some q → sound_group q ≡ true
some_fine None q g e = absurd (none_some refl e)
some_fine (Some ls) q g e = ap sound_group (sym (some_eq refl e)) ∙ of_fine ls.0 ls.1 g

few : (e : Entry) → listable e.obstacle ≡ true → Fine (e ∷ []) []
few e h = record { listed = omega arith; stopped = omega arith; listables = one_listable e h; rises = rise_none 0 }

alone : (x : Stop) → is_stop x.obstacle ≡ true → Fine [] (x ∷ [])
unfolding all_listable
alone x h = record { listed = omega arith; stopped = omega arith; listables = refl; rises = of_rise 0 x [] (record { stop = h; least = omega arith; rest = rise_none (suc x.vertex.0) }) }

to_growth : (a : ℤ) (f : Bool) (o : Obstacle) (v : ℕ) (q : Group) → add_to_growth a f o v ≡ Some q → sound_group q ≡ true
unfolding add_to_growth sound_group
to_growth a f (NonZeroGrow b h) v q e = ap sound_group (sym (some_eq refl e))
to_growth a f (Conflicting x y) v q e = ap sound_group (sym (some_eq refl e)) ∙ of_fine _ _ (few (record { obstacle = Conflicting x y }) refl)
to_growth a f (TouchingVirtual x w m) v q e = ap sound_group (sym (some_eq refl e)) ∙ of_fine _ _ (few (record { obstacle = TouchingVirtual x w m }) refl)
to_growth a f (BlossomNeedExpand n) v q e = ap sound_group (sym (some_eq refl e)) ∙ of_fine _ _ (few (record { obstacle = BlossomNeedExpand n }) refl)
to_growth a f (VertexShrinkStop n p) v q e = ap sound_group (sym (some_eq refl e)) ∙ of_fine _ _ (alone (record { vertex = record { 0 = v }; obstacle = VertexShrinkStop n p }) refl)

one_more : (e : Entry) (l : List Entry) (s : List Stop) → listable e.obstacle ≡ true → Fine l s → Good (room_for (l ++ e ∷ []) s)
one_more e l s h F = room_good (l ++ e ∷ []) s (append_listable l (e ∷ []) F.listables (one_listable e h)) F.rises

to_conflicts : (l : List Entry) (s : List Stop) (o : Obstacle) (v : ℕ) (q : Group) → Fine l s → add_to_conflicts l s o v ≡ Some q → sound_group q ≡ true
unfolding add_to_conflicts
to_conflicts l s (NonZeroGrow b h) v q F e = ap sound_group (sym (some_eq refl e)) ∙ of_fine l s F
to_conflicts l s (Conflicting x y) v q F e = some_fine (room_for (l ++ record { obstacle = Conflicting x y } ∷ []) s) q (one_more (record { obstacle = Conflicting x y }) l s refl F) e
to_conflicts l s (TouchingVirtual x w m) v q F e = some_fine (room_for (l ++ record { obstacle = TouchingVirtual x w m } ∷ []) s) q (one_more (record { obstacle = TouchingVirtual x w m }) l s refl F) e
to_conflicts l s (BlossomNeedExpand n) v q F e = some_fine (room_for (l ++ record { obstacle = BlossomNeedExpand n } ∷ []) s) q (one_more (record { obstacle = BlossomNeedExpand n }) l s refl F) e
to_conflicts l s (VertexShrinkStop n p) v q F e = some_fine (add_stop (record { vertex = record { 0 = v }; obstacle = VertexShrinkStop n p }) l s) q (stop_good (record { vertex = record { 0 = v }; obstacle = VertexShrinkStop n p }) l s refl F.listables F.rises) e

pub added_sound : (g : Group) (o : Obstacle) (v : ℕ) (q : Group) → sound_group g ≡ true → added g o v ≡ Some q → sound_group q ≡ true
unfolding added
added_sound (growth a f) o v q s e = to_growth a f o v q e
added_sound (conflicts l t) o v q s e = to_conflicts l t o v q (fine_of l t s) e

-- ---- extend
stops_good : (v : ℕ) (xs : List Stop) (l : List Entry) (s : List Stop) → rising_from v xs ≡ true → Fine l s → Good (add_stops xs l s)
unfolding add_stops
stops_good v [] l s e F = F
stops_good v (x ∷ xs) l s e F = go (add_stop x l s) (stop_good x l s R.stop F.listables F.rises) (λ l s G. stops_good (suc x.vertex.0) xs l s R.rest G)
  where
    R : Rises v x xs
    R = rise_of v x xs e

    go : (o : Option Lists) → Good o → ((l : List Entry) (s : List Stop) → Fine l s → Good (add_stops xs l s)) → Good (and_then o (add_stops xs))
    go None G ih = tt
    go (Some ls) G ih = ih ls.0 ls.1 G

pub extended_sound : (g h q : Group) → sound_group g ≡ true → sound_group h ≡ true → extended g h ≡ Some q → sound_group q ≡ true
unfolding extended sound_group smaller_pair
extended_sound (growth a f) (growth b i) q s t e = ap sound_group (sym (some_eq refl e)) ∙ pair (eq_z b largest) (lt_z b a) (lt_z a b)
  where
    pair : (x y z : Bool) → sound_group (cond x (growth a f) (cond y (growth b i) (cond z (growth a f) (growth a (f && i))))) ≡ true
    pair true y z = refl
    pair false true z = refl
    pair false false true = refl
    pair false false false = refl
extended_sound (growth a f) (conflicts m t) q s u e = ap sound_group (sym (some_eq refl e)) ∙ u
extended_sound (conflicts l s) (growth b i) q u t e = ap sound_group (sym (some_eq refl e)) ∙ u
extended_sound (conflicts l s) (conflicts m t) q u w e = some_fine (and_then (room_for (l ++ m) s) (add_stops t)) q (go (room_for (l ++ m) s) (room_good (l ++ m) s (append_listable l m F.listables H.listables) F.rises)) e
  where
    F : Fine l s
    F = fine_of l s u

    H : Fine m t
    H = fine_of m t w

    go : (o : Option Lists) → Good o → Good (and_then o (add_stops t))
    go None G = tt
    go (Some ls) G = stops_good 0 t ls.0 ls.1 H.rises G

-- ---- pop
pub popped_sound : (l : List Entry) (s : List Stop) → sound_group (conflicts l s) ≡ true → sound_group (popped l s) ≡ true
popped_sound l s e = let F : Fine l s = fine_of l s e in of_fine (all_but_last l) (drop 1 s) (record {
  listed = omega (arith, front_short l, F.listed);
  stopped = omega (arith, length-drop 1 s, F.stopped);
  listables = front_listable l F.listables;
  rises = rise_drop 0 s F.rises;
})
