-- THEOREM. Pops that spare the stops, called on a sound group until there is nothing: the list from its end, then the stops by rising vertex, each exactly
-- once, as many answers as there are entries; then none, for ever. By the number of entries: a call takes the first in that order. Assumes nothing.
use Rattle.std.specs.Prelude.{None, Option, Some}
use Prim.Native.Nat.{ℕ, zero, suc, ◌+◌}
use mathlib.Core.Path.{◌≡◌, refl, sym, ap, ap₂, ◌∙◌}
use mathlib.Core.Bool.{true}
use mathlib.Core.List.{List, [], ◌∷◌, ◌++◌}
use native.Mathlib.Omega.{arith}
use lib.ListN.{length, drop, length-append}
use Rattle.kinds.specs.declared.Entry.{Entry}
use Rattle.kinds.specs.declared.Stop.{Stop}
use Rattle.kinds.specs.declared.Obstacle.{Obstacle}
use Rattle.ledger_spec.specs.Groups.{Group, conflicts, all_listable, rising_from, sound_group, last_of, all_but_last}
use Rattle.ledger_laws.proofs.GroupSound.{fine_of}
use Rattle.ledger_sparing.specs.Sparing.{spared, pop_sparing}
use Rattle.ledger_sparing.specs.Drain.{Answer, answers, left, from_end, as_they_stand, entries_of, given_out, nothings}
use Rattle.ledger_sparing.proofs.Pops.{taken, spared_sound}

-- ---- as many as there are
end_long : (l : List Entry) → length (from_end l) ≡ length l
unfolding from_end
end_long [] = refl
end_long (e ∷ l) = let n : length (from_end l) ≡ length l = end_long l in omega (arith, length-append (from_end l) (e.obstacle ∷ []), n)

stand_long : (s : List Stop) → length (as_they_stand s) ≡ length s
unfolding as_they_stand
stand_long [] = refl
stand_long (x ∷ s) = ap suc (stand_long s)

pub as_many : (l : List Entry) (s : List Stop) → length (entries_of l s) ≡ length l + length s
as_many l s = length-append (from_end l) (as_they_stand s) ∙ ap₂ (λ (n m : ℕ). n + m) (end_long l) (stand_long s)

-- ---- the first to come is the one taken, and the others are what is left
record Comes (l : List Entry) (s : List Stop) : Type 0 where
  pub one : Obstacle
  pub list : List Entry
  pub stops : List Stop
  pub last : last_of l s ≡ Some one
  pub goes : spared l s ≡ conflicts list stops
  pub order : entries_of l s ≡ one ∷ entries_of list stops

record Last (e : Entry) (l : List Entry) (s : List Stop) : Type 0 where
  pub one : Obstacle
  pub last : last_of (e ∷ l) s ≡ Some one
  pub order : from_end (e ∷ l) ≡ one ∷ from_end (all_but_last (e ∷ l))

last_of_lem : (e : Entry) (l : List Entry) (s : List Stop) → Last e l s
unfolding last_of all_but_last from_end
last_of_lem e [] s = record { one = e.obstacle; last = refl; order = refl }
last_of_lem e (f ∷ l) s = let r : Last f l s = last_of_lem f l s in record {
  one = r.one;
  last = r.last;
  order = ap (λ (os : List Obstacle). os ++ e.obstacle ∷ []) r.order;
}

from_list : (e : Entry) (l : List Entry) (s : List Stop) → Comes (e ∷ l) s
unfolding spared
from_list e l s = let r : Last e l s = last_of_lem e l s in record {
  one = r.one;
  list = all_but_last (e ∷ l);
  stops = s;
  last = r.last;
  goes = refl;
  order = ap (λ (os : List Obstacle). os ++ as_they_stand s) r.order;
}

from_stops : (x : Stop) (s : List Stop) → Comes [] (x ∷ s)
unfolding last_of spared from_end as_they_stand
from_stops x s = record { one = x.obstacle; list = []; stops = s; last = refl; goes = refl; order = refl }

-- ---- nothing there: none, and the group stays
nothing : pop_sparing (conflicts [] []) ≡ (0, (None, conflicts [] []))
unfolding last_of spared sound_group all_listable rising_from
nothing = taken [] [] refl

abbrev Turn : Type 0
Turn = ℕ × (Option Obstacle × Group)

step_answers : (n : ℕ) (g : Group) (t : Turn) → pop_sparing g ≡ t → answers (suc n) g ≡ (t.0, t.1.0) ∷ answers n t.1.1
unfolding answers
step_answers n g t e = ap (λ (t : Turn). (t.0, t.1.0) ∷ answers n t.1.1) e

step_left : (n : ℕ) (g : Group) (t : Turn) → pop_sparing g ≡ t → left (suc n) g ≡ left n t.1.1
unfolding left
step_left n g t e = ap (λ (t : Turn). left n t.1.1) e

pub none_for_ever : (k : ℕ) → (answers k (conflicts [] []) ≡ nothings k) × (left k (conflicts [] []) ≡ conflicts [] [])
unfolding answers left nothings
none_for_ever zero = (refl, refl)
none_for_ever (suc k) = (
  step_answers k (conflicts [] []) (0, (None, conflicts [] [])) nothing ∙ ap (λ (rest : List Answer). (0, None) ∷ rest) (none_for_ever k).0,
  step_left k (conflicts [] []) (0, (None, conflicts [] [])) nothing ∙ (none_for_ever k).1,
)

-- ---- the theorem: m calls, the last k of them on nothing
abbrev Drained : ℕ → ℕ → List Entry → List Stop → Type 0
Drained m k l s = (answers m (conflicts l s) ≡ given_out (entries_of l s) ++ nothings k) × (left m (conflicts l s) ≡ conflicts [] [])

one_more : (m k : ℕ) (l : List Entry) (s : List Stop) → sound_group (conflicts l s) ≡ true → (c : Comes l s) → Drained m k c.list c.stops → Drained (suc m) k l s
unfolding given_out
one_more m k l s e c d =
    let next : Turn = (0, (Some c.one, conflicts c.list c.stops)) in
    let t : pop_sparing (conflicts l s) ≡ next = taken l s e ∙ ap₂ (λ (o : Option Obstacle) (q : Group). (0, (o, q))) c.last c.goes in (
      step_answers m (conflicts l s) next t ∙ ap (λ (rest : List Answer). (0, Some c.one) ∷ rest) d.0 ∙ sym (ap (λ (os : List Obstacle). given_out os ++ nothings k) c.order),
      step_left m (conflicts l s) next t ∙ d.1,
    )

next : (n k : ℕ) (l : List Entry) (s : List Stop) → sound_group (conflicts l s) ≡ true → length (entries_of l s) ≡ suc n → (c : Comes l s)
    → ((l : List Entry) (s : List Stop) → sound_group (conflicts l s) ≡ true → length (entries_of l s) ≡ n → Drained (n + k) k l s) → Drained (suc n + k) k l s
next n k l s e h c ih =
    let z : suc n + k ≡ suc (n + k) = omega arith in
    rw z (one_more (n + k) k l s e c (ih c.list c.stops (ap sound_group (sym c.goes) ∙ spared_sound l s e) (omega (arith, ap length c.order, h))))

drains : (n k : ℕ) (l : List Entry) (s : List Stop) → sound_group (conflicts l s) ≡ true → length (entries_of l s) ≡ n → Drained (n + k) k l s
unfolding from_end as_they_stand given_out
drains zero k [] [] e h = let z : 0 + k ≡ k = omega arith in rw z (none_for_ever k)
drains zero k [] (x ∷ s) e h = absurd (omega (arith, h, as_many [] (x ∷ s)))
drains zero k (y ∷ l) s e h = absurd (omega (arith, h, as_many (y ∷ l) s))
drains (suc n) k [] [] e h = absurd (omega (arith, h))
drains (suc n) k [] (x ∷ s) e h = next n k [] (x ∷ s) e h (from_stops x s) (drains n k)
drains (suc n) k (y ∷ l) s e h = next n k (y ∷ l) s e h (from_list y l s) (drains n k)

pub drained : (l : List Entry) (s : List Stop) → sound_group (conflicts l s) ≡ true → (k : ℕ)
    → (answers (length l + length s + k) (conflicts l s) ≡ given_out (entries_of l s) ++ nothings k) × (left (length l + length s + k) (conflicts l s) ≡ conflicts [] [])
drained l s e k = drains (length l + length s) k l s e (as_many l s)

-- ---- as many calls as the list has entries leave every stop, and the stops rise
front_long : (e : Entry) (l : List Entry) → length (all_but_last (e ∷ l)) ≡ length l
unfolding all_but_last
front_long e [] = refl
front_long e (f ∷ l) = ap suc (front_long f l)

spares : (n : ℕ) (l : List Entry) (s : List Stop) → sound_group (conflicts l s) ≡ true → length l ≡ n → left n (conflicts l s) ≡ conflicts [] s
unfolding left spared
spares zero [] s e h = refl
spares zero (x ∷ l) s e h = absurd (omega (arith, h))
spares (suc n) [] s e h = absurd (omega (arith, h))
spares (suc n) (x ∷ l) s e h =
    step_left n (conflicts (x ∷ l) s) (0, (last_of (x ∷ l) s, spared (x ∷ l) s)) (taken (x ∷ l) s e)
    ∙ spares n (all_but_last (x ∷ l)) s (spared_sound (x ∷ l) s e) (omega (arith, front_long x l, h))

pub stops_spared : (l : List Entry) (s : List Stop) → sound_group (conflicts l s) ≡ true → (left (length l) (conflicts l s) ≡ conflicts [] s) × (rising_from 0 s ≡ true)
stops_spared l s e = (spares (length l) l s e refl, (fine_of l s e).rises)
