-- What each part of an add answers: room or no room at a push, at a free place, at a meeting; and by the kinds of the group and of the obstacle.
-- Assumes nothing.
use Rattle.std.specs.Prelude.{Option}
use Prim.Native.Nat.{ℕ, ◌+◌, ◌-◌, ◌≤◌, ◌<◌}
use mathlib.Core.Path.{◌≡◌, refl, sym, ap, ◌∙◌}
use mathlib.Core.Bool.{Bool, true, false, ◌||◌, false≢true}
use mathlib.Core.List.{List, [], ◌∷◌, ◌++◌}
use native.Mathlib.Omega.{arith}
use lib.IntN.{ℤ}
use lib.ListN.{length, take, set}
use Rattle.kinds.specs.Obstacles.{listable, is_stop}
use Rattle.kinds.specs.declared.Pair.{Pair}
use Rattle.kinds.specs.declared.Obstacle.{Obstacle}
use Rattle.kinds.specs.declared.Obstacle.TheVariants.{NonZeroGrow, Conflicting, TouchingVirtual, BlossomNeedExpand, VertexShrinkStop}
use Rattle.kinds.specs.declared.Entry.{Entry}
use Rattle.kinds.specs.declared.Stop.{Stop}
use Rattle.ledger_spec.specs.Groups.{Group, growth, conflicts, Lists, smaller, grouped, room_for, meet, add_stop, add_to_growth, add_to_conflicts, added}
use Rattle.groups.specs.View.{list_of, stops_of, group_of, over, laid}
use Rattle.groups.specs.declared.Kind.TheVariants.{Growth, Conflicts}
use Rattle.groups.specs.declared.Group.{Group as Code}
use Rattle.groups.proofs.View.{listed_is, stopped_is, view_growth, view_conflicts, laid_same}
use Rattle.group_stops.specs.Places.{inserted_at, after_at, removed_at, meeting_of}
use Rattle.group_stops.specs.declared.Meeting.TheVariants.{Keep, Replace, Join}
use Rattle.group_adds.specs.Adds.{changed}
use Rattle.group_adds.specs.declared.Changed.{Changed}
use Rattle.group_adds.proofs.Places.{keeps, replaces, joins}
use Rattle.group_adds.proofs.Rooms.{done, full, room_yes, room_list, room_stops, answers_room, answers_lists}
use Rattle.group_adds.proofs.Bytes.{Fits, swap_long, pushed_long, put_in_long, taken_long, pushed, put_in, replaced, moved}

module _ (g : Code) (h : Fits g) where
  list_few : length (list_of g) ≤ 128
  list_few = omega (arith, listed_is g, h.few)

  stops_few : length (stops_of g) ≤ 128
  stops_few = omega (arith, stopped_is g, h.short)

  pub unmoved : laid (conflicts (list_of g) (stops_of g)) g ≡ g
  unmoved = laid_same g h.kind (omega (arith, h.few, h.list)) (omega (arith, h.short, h.stops))

  -- ---- an entry
  pub listed_full : (e : Entry) → 128 ≤ g.listed → full g ≡ changed (grouped (room_for (list_of g ++ e ∷ []) (stops_of g))) g
  listed_full e k = answers_room _ g (room_list (list_of g ++ e ∷ []) (stops_of g) (omega (arith, pushed_long g h e)))

  pub listed_done : (e : Entry) → g.listed < 128 → done (record { kind = g.kind; list = set g.list g.listed e; stops = g.stops; listed = g.listed + 1; stopped = g.stopped }) ≡ changed (grouped (room_for (list_of g ++ e ∷ []) (stops_of g))) g
  listed_done e k = answers_lists _ g (list_of g ++ e ∷ []) (stops_of g) _ (room_yes (list_of g ++ e ∷ []) (stops_of g) (omega (arith, pushed_long g h e)) stops_few) (pushed g h e k)

  -- ---- a stop at a free place
  module _ (p : ℕ) (x : Stop) (k : p ≤ g.stopped) (e : add_stop x (list_of g) (stops_of g) ≡ room_for (list_of g) (inserted_at p x (stops_of g))) where
    pub free_full : 128 ≤ g.stopped → full g ≡ changed (grouped (add_stop x (list_of g) (stops_of g))) g
    free_full m = answers_room _ g (e ∙ room_stops (list_of g) (inserted_at p x (stops_of g)) list_few (omega (arith, put_in_long g h p x k)))

    pub free_done : (t : List Stop) → g.stopped < 128 → t ≡ over (inserted_at p x (take g.stopped g.stops)) g.stops → done (record { kind = Conflicts; list = g.list; stops = t; listed = g.listed; stopped = g.stopped + 1 }) ≡ changed (grouped (add_stop x (list_of g) (stops_of g))) g
    free_done t m f = answers_lists _ g (list_of g) (inserted_at p x (stops_of g)) _ (e ∙ room_yes (list_of g) (inserted_at p x (stops_of g)) list_few (omega (arith, put_in_long g h p x k))) (put_in g h p x t k f)

  -- ---- a stop goes for an entry
  module _ (p : ℕ) (e : Entry) where
    pub moved_full : 128 ≤ g.listed → full g ≡ changed (grouped (room_for (list_of g ++ e ∷ []) (removed_at p (stops_of g)))) g
    moved_full k = answers_room _ g (room_list (list_of g ++ e ∷ []) (removed_at p (stops_of g)) (omega (arith, pushed_long g h e)))

    pub moved_done : (t : List Stop) → g.listed < 128 → p < g.stopped → t ≡ over (removed_at p (take g.stopped g.stops)) g.stops → done (record { kind = Conflicts; list = set g.list g.listed e; stops = t; listed = g.listed + 1; stopped = g.stopped - 1 }) ≡ changed (grouped (room_for (list_of g ++ e ∷ []) (removed_at p (stops_of g)))) g
    moved_done t k m f = answers_lists _ g (list_of g ++ e ∷ []) (removed_at p (stops_of g)) _ (room_yes (list_of g ++ e ∷ []) (removed_at p (stops_of g)) (omega (arith, pushed_long g h e)) (omega (arith, taken_long g h p m, h.short))) (moved g h p e t k m f)

  -- ---- two stops at one vertex
  module _ (p : ℕ) (x y : Stop) (k : p < g.stopped) (stands : stops_of g ≡ take p (stops_of g) ++ y ∷ after_at p (stops_of g)) (a b : Option Pair) where
    abbrev met : Option Lists
    met = meet a b x y (list_of g) (take p (stops_of g)) (after_at p (stops_of g))

    pub met_keep : meeting_of a b ≡ Keep → done g ≡ changed (grouped met) g
    met_keep e = answers_lists _ g (list_of g) (stops_of g) g
        (keeps x y (list_of g) (take p (stops_of g)) (after_at p (stops_of g)) a b e ∙ ap (room_for (list_of g)) (sym stands) ∙ room_yes (list_of g) (stops_of g) list_few stops_few) (sym unmoved)

    pub met_replace : meeting_of a b ≡ Replace → done (record { kind = g.kind; list = g.list; stops = set g.stops p x; listed = g.listed; stopped = g.stopped }) ≡ changed (grouped met) g
    met_replace e = answers_lists _ g (list_of g) (take p (stops_of g) ++ x ∷ after_at p (stops_of g)) _
        (replaces x y (list_of g) (take p (stops_of g)) (after_at p (stops_of g)) a b e ∙ room_yes (list_of g) (take p (stops_of g) ++ x ∷ after_at p (stops_of g)) list_few (omega (arith, swap_long p (stops_of g) x (omega (arith, stopped_is g)), stops_few)))
        (replaced g h p x k)

    pub met_join : (c d : Pair) (r : Changed) → meeting_of a b ≡ Join c d → r ≡ changed (grouped (room_for (list_of g ++ record { obstacle = Conflicting c d } ∷ []) (removed_at p (stops_of g)))) g → r ≡ changed (grouped met) g
    met_join c d r e f = f ∙ sym (ap (λ (o : Option Lists). changed (grouped o) g) (joins x y (list_of g) (take p (stops_of g)) (after_at p (stops_of g)) a b c d e))

-- ---- by the obstacle, to a growth
module _ (a : ℤ) (f : Bool) (o : Obstacle) (v : ℕ) (g r : Code) where
  pub growth_grow : (b : ℤ) (i : Bool) (c : ℤ) (j : Bool) → o ≡ NonZeroGrow b i → c ≡ smaller a b → j ≡ (f || i) → r ≡ laid (growth c j) g → done r ≡ changed (add_to_growth a f o v) g
  unfolding changed add_to_growth
  growth_grow b i c j e p q k = ap done (k ∙ (λ t. laid (growth (p t) (q t)) g)) ∙ sym (ap (λ (x : Obstacle). changed (add_to_growth a f x v) g) e)

pub growth_list : (a : ℤ) (f : Bool) (o : Obstacle) (v : ℕ) (g r : Code) → listable o ≡ true → r ≡ laid (conflicts (record { obstacle = o } ∷ []) []) g → done r ≡ changed (add_to_growth a f o v) g
unfolding changed add_to_growth
growth_list a f (NonZeroGrow b h) v g r e k = absurd (false≢true e)
growth_list a f (Conflicting p q) v g r e k = ap done k
growth_list a f (TouchingVirtual p w m) v g r e k = ap done k
growth_list a f (BlossomNeedExpand n) v g r e k = ap done k
growth_list a f (VertexShrinkStop n p) v g r e k = absurd (false≢true e)

pub growth_stop : (a : ℤ) (f : Bool) (o : Obstacle) (v : ℕ) (g r : Code) → is_stop o ≡ true → r ≡ laid (conflicts [] (record { vertex = record { 0 = v }; obstacle = o } ∷ [])) g → done r ≡ changed (add_to_growth a f o v) g
unfolding changed add_to_growth
growth_stop a f (NonZeroGrow b h) v g r e k = absurd (false≢true e)
growth_stop a f (Conflicting p q) v g r e k = absurd (false≢true e)
growth_stop a f (TouchingVirtual p w m) v g r e k = absurd (false≢true e)
growth_stop a f (BlossomNeedExpand n) v g r e k = absurd (false≢true e)
growth_stop a f (VertexShrinkStop n p) v g r e k = ap done k

-- ---- by the obstacle, to conflicts
pub conflicts_grow : (o : Obstacle) (v : ℕ) (g : Code) (b : ℤ) (i : Bool) → Fits g → o ≡ NonZeroGrow b i → done g ≡ changed (add_to_conflicts (list_of g) (stops_of g) o v) g
unfolding changed add_to_conflicts
conflicts_grow o v g b i h e = ap done (sym (unmoved g h)) ∙ sym (ap (λ (x : Obstacle). changed (add_to_conflicts (list_of g) (stops_of g) x v) g) e)

pub conflicts_list : (o : Obstacle) (v : ℕ) (l : List Entry) (s : List Stop) → listable o ≡ true → grouped (room_for (l ++ record { obstacle = o } ∷ []) s) ≡ add_to_conflicts l s o v
unfolding add_to_conflicts
conflicts_list (NonZeroGrow b h) v l s e = absurd (false≢true e)
conflicts_list (Conflicting p q) v l s e = refl
conflicts_list (TouchingVirtual p w m) v l s e = refl
conflicts_list (BlossomNeedExpand n) v l s e = refl
conflicts_list (VertexShrinkStop n p) v l s e = absurd (false≢true e)

pub conflicts_stop : (o : Obstacle) (v : ℕ) (l : List Entry) (s : List Stop) → is_stop o ≡ true → grouped (add_stop (record { vertex = record { 0 = v }; obstacle = o }) l s) ≡ add_to_conflicts l s o v
unfolding add_to_conflicts
conflicts_stop (NonZeroGrow b h) v l s e = absurd (false≢true e)
conflicts_stop (Conflicting p q) v l s e = absurd (false≢true e)
conflicts_stop (TouchingVirtual p w m) v l s e = absurd (false≢true e)
conflicts_stop (BlossomNeedExpand n) v l s e = absurd (false≢true e)
conflicts_stop (VertexShrinkStop n p) v l s e = refl

-- ---- by the group's kind
module _ (g : Code) (o : Obstacle) (v : ℕ) (r : Changed) where
  pub add_growth : (a : ℤ) (f : Bool) → g.kind ≡ Growth a f → r ≡ changed (add_to_growth a f o v) g → r ≡ changed (added (group_of g) o v) g
  unfolding added
  add_growth a f k e = e ∙ sym (ap (λ (q : Group). changed (added q o v) g) (view_growth g a f k))

  pub add_conflicts : g.kind ≡ Conflicts → r ≡ changed (add_to_conflicts (list_of g) (stops_of g) o v) g → r ≡ changed (added (group_of g) o v) g
  unfolding added
  add_conflicts k e = e ∙ sym (ap (λ (q : Group). changed (added q o v) g) (view_conflicts g k))
