-- What the calls on groups do does not feel a renaming of handles that keeps them apart. Assumes nothing.
use Rattle.std.specs.Prelude.{None, Option, Some}
use Prim.Native.Nat.{ℕ, zero, suc}
use mathlib.Core.Path.{◌≡◌, refl, sym, ◌∙◌, ap, ap₂}
use mathlib.Core.Bool.{Bool, true, false, cond, not, ◌&&◌}
use mathlib.Core.List.{List, [], ◌∷◌, ◌++◌, map, map-append}
use lib.Dec.{eqb, leb, ltb}
use lib.ListN.{length, length-map, drop}
use lib.Signed.{lt_z}
use Rattle.kinds.specs.Names.{same_code}
use Rattle.kinds.specs.Obstacles.{listable, is_stop, pair_of}
use Rattle.kinds.specs.declared.Handle.{Handle as Code}
use Rattle.kinds.specs.declared.Pair.{Pair}
use Rattle.kinds.specs.declared.Entry.{Entry}
use Rattle.kinds.specs.declared.Stop.{Stop}
use Rattle.kinds.specs.declared.Obstacle.{Obstacle}
use Rattle.kinds.specs.declared.Obstacle.TheVariants.{NonZeroGrow, Conflicting, TouchingVirtual, BlossomNeedExpand, VertexShrinkStop}
use Rattle.ledger_spec.specs.Tests.{first}
use Rattle.ledger_spec.specs.Reads.{said}
use Rattle.ledger_sparing.specs.Sparing.{spared, after_sparing, pop_sparing}
use Rattle.ledger_spec.specs.Groups.{Group, growth, conflicts, largest, eq_z, all_listable, rising_from, sound_group, Lists, room_for, front_of, back_of, meet, placed, add_stop, grouped, add_to_growth, add_to_conflicts, added, smaller_pair, and_then, add_stops, extended, last_of, all_but_last}
use Rattle.ledger_spec.specs.GroupCalls.{is_largest, is_growth, active, group_tests, is_empty, is_active, length_in, growth_of, last_in, take_tests, peek, after_pop, pop, handles_of, list_handles, stop_handles, group_handles}
use Rattle.patch_laws.specs.Obstacles.{map_pair, map_maybe, map_obstacle, map_taken, map_entry, map_stop, map_group}
use Rattle.patch_laws.proofs.Renamed.{map_map}

-- a renamed answer of a read
pub said_map : {A B : Type 0} (f : A → B) (n : ℕ) (v z : A) → said n (f v) (f z) ≡ ((said n v z).0, f (said n v z).1)
unfolding said
said_map f zero v z = refl
said_map f (suc n) v z = refl

-- ---- two renamings one after the other
module _ (f g h : Code → Code) (e : (c : Code) → f (g c) ≡ h c) where
  pair_twice : (p : Pair) → map_pair f (map_pair g p) ≡ map_pair h p
  pair_twice p = λ i. record { node = e p.node i; touching = e p.touching i }

  pub obstacle_twice : (o : Obstacle) → map_obstacle f (map_obstacle g o) ≡ map_obstacle h o
  obstacle_twice (NonZeroGrow l b) = refl
  obstacle_twice (Conflicting p q) = ap₂ Conflicting (pair_twice p) (pair_twice q)
  obstacle_twice (TouchingVirtual p v m) = ap (λ (x : Pair). TouchingVirtual x v m) (pair_twice p)
  obstacle_twice (BlossomNeedExpand n) = ap BlossomNeedExpand (e n)
  obstacle_twice (VertexShrinkStop n None) = ap (λ (x : Code). VertexShrinkStop x None) (e n)
  obstacle_twice (VertexShrinkStop n (Some p)) = ap₂ (λ (x : Code) (y : Pair). VertexShrinkStop x (Some y)) (e n) (pair_twice p)

  pub group_twice : (q : Group) → map_group f (map_group g q) ≡ map_group h q
  group_twice (growth l b) = refl
  group_twice (conflicts l s) = ap₂ conflicts (map_map (map_entry g) (map_entry f) (map_entry h) (λ x. ap (λ (o : Obstacle). record { obstacle = o }) (obstacle_twice x.obstacle)) l)
      (map_map (map_stop g) (map_stop f) (map_stop h) (λ x. ap (λ (o : Obstacle). record { vertex = x.vertex; obstacle = o }) (obstacle_twice x.obstacle)) s)

  pub taken_twice : (o : Option Obstacle) → map_taken f (map_taken g o) ≡ map_taken h o
  taken_twice None = refl
  taken_twice (Some o) = ap Some (obstacle_twice o)

-- ---- the handles of an obstacle and of a group
module _ (f : Code → Code) where
  pub handles_map : (o : Obstacle) → handles_of (map_obstacle f o) ≡ map f (handles_of o)
  unfolding handles_of
  handles_map (NonZeroGrow l b) = refl
  handles_map (Conflicting p q) = refl
  handles_map (TouchingVirtual p v m) = refl
  handles_map (BlossomNeedExpand n) = refl
  handles_map (VertexShrinkStop n None) = refl
  handles_map (VertexShrinkStop n (Some p)) = refl

  list_map : (l : List Entry) → list_handles (map (map_entry f) l) ≡ map f (list_handles l)
  unfolding list_handles
  list_map [] = refl
  list_map (x ∷ xs) = ap₂ {C = List Code} ◌++◌ (handles_map x.obstacle) (list_map xs) ∙ sym (map-append f (handles_of x.obstacle) (list_handles xs))

  stop_map : (s : List Stop) → stop_handles (map (map_stop f) s) ≡ map f (stop_handles s)
  unfolding stop_handles
  stop_map [] = refl
  stop_map (x ∷ xs) = ap₂ {C = List Code} ◌++◌ (handles_map x.obstacle) (stop_map xs) ∙ sym (map-append f (handles_of x.obstacle) (stop_handles xs))

  pub group_map : (g : Group) → group_handles (map_group f g) ≡ map f (group_handles g)
  group_map (growth l b) = refl
  group_map (conflicts l s) = ap₂ {C = List Code} ◌++◌ (list_map l) (stop_map s) ∙ sym (map-append f (list_handles l) (stop_handles s))

  -- ---- a sound group
  listable_map : (o : Obstacle) → listable (map_obstacle f o) ≡ listable o
  listable_map (NonZeroGrow l b) = refl
  listable_map (Conflicting p q) = refl
  listable_map (TouchingVirtual p v m) = refl
  listable_map (BlossomNeedExpand n) = refl
  listable_map (VertexShrinkStop n p) = refl

  is_stop_map : (o : Obstacle) → is_stop (map_obstacle f o) ≡ is_stop o
  is_stop_map (NonZeroGrow l b) = refl
  is_stop_map (Conflicting p q) = refl
  is_stop_map (TouchingVirtual p v m) = refl
  is_stop_map (BlossomNeedExpand n) = refl
  is_stop_map (VertexShrinkStop n p) = refl

  pair_map : (o : Obstacle) → pair_of (map_obstacle f o) ≡ map_maybe f (pair_of o)
  pair_map (NonZeroGrow l b) = refl
  pair_map (Conflicting p q) = refl
  pair_map (TouchingVirtual p v m) = refl
  pair_map (BlossomNeedExpand n) = refl
  pair_map (VertexShrinkStop n p) = refl

  all_listable_lem : (l : List Entry) → all_listable (map (map_entry f) l) ≡ all_listable l
  unfolding all_listable
  all_listable_lem [] = refl
  all_listable_lem (x ∷ xs) = ap₂ ◌&&◌ (listable_map x.obstacle) (all_listable_lem xs)

  rising_map : (v : ℕ) (s : List Stop) → rising_from v (map (map_stop f) s) ≡ rising_from v s
  unfolding rising_from
  rising_map v [] = refl
  rising_map v (x ∷ xs) = ap₂ (λ (c d : Bool). c && (leb v x.vertex.0 && d)) (is_stop_map x.obstacle) (rising_map (suc x.vertex.0) xs)

  pub sound_map : (g : Group) → sound_group (map_group f g) ≡ sound_group g
  unfolding sound_group
  sound_map (growth l b) = refl
  sound_map (conflicts l s) = λ i. leb (length-map l (map_entry f) i) 128 && (leb (length-map s (map_stop f) i) 128 && (all_listable_lem l i && rising_map 0 s i))

  -- ---- what a group answers, and gives out
  abbrev E : List Entry → List Entry
  E l = map (map_entry f) l

  abbrev S : List Stop → List Stop
  S s = map (map_stop f) s

  last_of_lem : (l : List Entry) (s : List Stop) → last_of (E l) (S s) ≡ map_taken f (last_of l s)
  unfolding last_of
  last_of_lem [] [] = refl
  last_of_lem [] (x ∷ xs) = refl
  last_of_lem (x ∷ []) s = refl
  last_of_lem (x ∷ y ∷ ys) s = last_of_lem (y ∷ ys) s

  all_but : (l : List Entry) → all_but_last (E l) ≡ E (all_but_last l)
  unfolding all_but_last
  all_but [] = refl
  all_but (x ∷ []) = refl
  all_but (x ∷ y ∷ ys) = ap {B = List Entry} (λ l. map_entry f x ∷ l) (all_but (y ∷ ys))

  rest_of : (s : List Stop) → drop 1 (S s) ≡ S (drop 1 s)
  rest_of [] = refl
  rest_of (x ∷ xs) = refl

  last_map : (g : Group) → last_in (map_group f g) ≡ map_taken f (last_in g)
  last_map (growth l b) = refl
  last_map (conflicts l s) = last_of_lem l s

  take_map : (g : Group) → first (take_tests (map_group f g)) ≡ first (take_tests g)
  unfolding take_tests
  take_map g = λ i. first ((not (sound_map g i), 2) ∷ (growths g i, 10) ∷ [])
    where
      growths : (q : Group) → is_growth (map_group f q) ≡ is_growth q
      growths (growth l b) = refl
      growths (conflicts l s) = refl

  largest_map : (g : Group) → is_largest (map_group f g) ≡ is_largest g
  largest_map (growth l b) = refl
  largest_map (conflicts l s) = refl

  pub empty_map : (g : Group) → is_empty (map_group f g) ≡ is_empty g
  unfolding is_empty group_tests
  empty_map g = λ i. said (first ((not (sound_map g i), 2) ∷ [])) (largest_map g i) false

  pub active_map : (g : Group) → is_active (map_group f g) ≡ is_active g
  unfolding is_active group_tests
  active_map g = λ i. said (first ((not (sound_map g i), 2) ∷ [])) (go g i) false
    where
      go : (q : Group) → active (map_group f q) ≡ active q
      go (growth l b) = refl
      go (conflicts l s) = refl

  pub growth_map : (g : Group) → growth_of (map_group f g) ≡ growth_of g
  unfolding growth_of
  growth_map g = λ i. said (first ((not (sound_map g i), 2) ∷ (largest_map g i, 21) ∷ [])) (go g i) None
    where
      go : (q : Group) → length_in (map_group f q) ≡ length_in q
      go (growth l b) = refl
      go (conflicts l s) = refl

  pub peek_map : (g : Group) → peek (map_group f g) ≡ ((peek g).0, map_taken f (peek g).1)
  unfolding peek
  peek_map g = (λ i. said (take_map g i) (last_map g i) None) ∙ said_map (map_taken f) (first (take_tests g)) (last_in g) None

  -- a pop's answer and what it leaves
  abbrev pub map_popped : Option Obstacle × Group → Option Obstacle × Group
  map_popped x = (map_taken f x.0, map_group f x.1)

  pub pop_map : (g : Group) → pop (map_group f g) ≡ ((pop g).0, map_popped (pop g).1)
  unfolding pop
  pop_map g = (λ i. said (take_map g i) (last_map g i, go g i) (None, map_group f g)) ∙ said_map map_popped (first (take_tests g)) (last_in g, after_pop g) (None, g)
    where
      go : (q : Group) → after_pop (map_group f q) ≡ map_group f (after_pop q)
      go (growth l b) = refl
      go (conflicts l s) = ap₂ conflicts (all_but l) (rest_of s)

  pub spare_map : (g : Group) → pop_sparing (map_group f g) ≡ ((pop_sparing g).0, map_popped (pop_sparing g).1)
  unfolding pop_sparing spared
  spare_map g = (λ i. said (take_map g i) (last_map g i, go g i) (None, map_group f g)) ∙ said_map map_popped (first (take_tests g)) (last_in g, after_sparing g) (None, g)
    where
      go : (q : Group) → after_sparing (map_group f q) ≡ map_group f (after_sparing q)
      go (growth l b) = refl
      go (conflicts [] s) = ap (conflicts []) (rest_of s)
      go (conflicts (x ∷ xs) s) = ap (λ (l : List Entry). conflicts l (S s)) (all_but (x ∷ xs))

-- ---- what add and extend make
module _ (f : Code → Code) (same : (g h : Code) → same_code (f g) (f h) ≡ same_code g h) where
  abbrev both : Option Lists → Option Lists
  both None = None
  both (Some ls) = Some (E f ls.0, S f ls.1)

  abbrev pub mapped : Option Group → Option Group
  mapped None = None
  mapped (Some g) = Some (map_group f g)

  room : (l : List Entry) (s : List Stop) → room_for (E f l) (S f s) ≡ both (room_for l s)
  unfolding room_for
  room l s = ap₂ (λ (x y : ℕ). cond (leb x 128 && leb y 128) (Some (E f l, S f s)) None) (length-map l (map_entry f)) (length-map s (map_stop f)) ∙ go (leb (length l) 128 && leb (length s) 128)
    where
      go : (c : Bool) → cond c (Some (E f l, S f s)) None ≡ both (cond c (Some (l, s)) None)
      go true = refl
      go false = refl

  front_map : (v : ℕ) (s : List Stop) → front_of v (S f s) ≡ S f (front_of v s)
  unfolding front_of
  front_map v [] = refl
  front_map v (x ∷ xs) = ap (λ (r : List Stop). cond (ltb x.vertex.0 v) (map_stop f x ∷ r) []) (front_map v xs) ∙ go (ltb x.vertex.0 v)
    where
      go : (c : Bool) → cond c (map_stop f x ∷ S f (front_of v xs)) [] ≡ S f (cond c (x ∷ front_of v xs) [])
      go true = refl
      go false = refl

  back_map : (v : ℕ) (s : List Stop) → back_of v (S f s) ≡ S f (back_of v s)
  unfolding back_of
  back_map v [] = refl
  back_map v (x ∷ xs) = ap (λ (r : List Stop). cond (ltb x.vertex.0 v) r (map_stop f x ∷ S f xs)) (back_map v xs) ∙ go (ltb x.vertex.0 v)
    where
      go : (c : Bool) → cond c (S f (back_of v xs)) (map_stop f x ∷ S f xs) ≡ S f (cond c (back_of v xs) (x ∷ xs))
      go true = refl
      go false = refl

  both_cond : (c : Bool) (x y : Option Lists) → cond c (both x) (both y) ≡ both (cond c x y)
  both_cond true x y = refl
  both_cond false x y = refl

  -- room with stops put together
  room_join : (l : List Entry) (s t : List Stop) → room_for (E f l) (S f s ++ S f t) ≡ both (room_for l (s ++ t))
  room_join l s t = ap (room_for (E f l)) (sym (map-append (map_stop f) s t)) ∙ room l (s ++ t)

  room_more : (l : List Entry) (x : Entry) (s : List Stop) → room_for (E f l ++ (map_entry f x ∷ [])) (S f s) ≡ both (room_for (l ++ (x ∷ [])) s)
  room_more l x s = ap (λ (z : List Entry). room_for z (S f s)) (sym (map-append (map_entry f) l (x ∷ []))) ∙ room (l ++ (x ∷ [])) s

  meet_map : (p q : Option Pair) (x y : Stop) (l : List Entry) (s t : List Stop) → meet (map_maybe f p) (map_maybe f q) (map_stop f x) (map_stop f y) (E f l) (S f s) (S f t) ≡ both (meet p q x y l s t)
  unfolding meet
  meet_map None q x y l s t = room_join l s (y ∷ t)
  meet_map (Some p) None x y l s t = room_join l s (x ∷ t)
  meet_map (Some p) (Some q) x y l s t = (λ i. cond (same p.node q.node i) (room_join l s (y ∷ t) i) (more i)) ∙ both_cond (same_code p.node q.node) (room_for l (s ++ y ∷ t)) (room_for (l ++ record { obstacle = Conflicting p q } ∷ []) (s ++ t))
    where
      more : room_for (E f l ++ record { obstacle = Conflicting (map_pair f p) (map_pair f q) } ∷ []) (S f s ++ S f t) ≡ both (room_for (l ++ record { obstacle = Conflicting p q } ∷ []) (s ++ t))
      more = ap (room_for (E f l ++ record { obstacle = Conflicting (map_pair f p) (map_pair f q) } ∷ [])) (sym (map-append (map_stop f) s t)) ∙ room_more l (record { obstacle = Conflicting p q }) (s ++ t)

  placed_map : (x : Stop) (l : List Entry) (s t : List Stop) → placed (map_stop f x) (E f l) (S f s) (S f t) ≡ both (placed x l s t)
  unfolding placed
  placed_map x l s [] = room_join l s (x ∷ [])
  placed_map x l s (y ∷ t) = (λ i. cond (eqb y.vertex.0 x.vertex.0) (met i) (room_join l s (x ∷ y ∷ t) i)) ∙ both_cond (eqb y.vertex.0 x.vertex.0) (meet (pair_of x.obstacle) (pair_of y.obstacle) x y l s t) (room_for l (s ++ x ∷ y ∷ t))
    where
      met : meet (pair_of (map_obstacle f x.obstacle)) (pair_of (map_obstacle f y.obstacle)) (map_stop f x) (map_stop f y) (E f l) (S f s) (S f t) ≡ both (meet (pair_of x.obstacle) (pair_of y.obstacle) x y l s t)
      met = (λ i. meet (pair_map f x.obstacle i) (pair_map f y.obstacle i) (map_stop f x) (map_stop f y) (E f l) (S f s) (S f t)) ∙ meet_map (pair_of x.obstacle) (pair_of y.obstacle) x y l s t

  add_stop_lem : (x : Stop) (l : List Entry) (s : List Stop) → add_stop (map_stop f x) (E f l) (S f s) ≡ both (add_stop x l s)
  unfolding add_stop
  add_stop_lem x l s = (λ i. placed (map_stop f x) (E f l) (front_map x.vertex.0 s i) (back_map x.vertex.0 s i)) ∙ placed_map x l (front_of x.vertex.0 s) (back_of x.vertex.0 s)

  add_stops_lem : (xs : List Stop) (l : List Entry) (s : List Stop) → add_stops (S f xs) (E f l) (S f s) ≡ both (add_stops xs l s)
  unfolding add_stops
  add_stops_lem [] l s = refl
  add_stops_lem (x ∷ xs) l s = ap (λ (o : Option Lists). and_then o (add_stops (S f xs))) (add_stop_lem x l s) ∙ go (add_stop x l s) (add_stops_lem xs)
    where
      go : (o : Option Lists) → ((l : List Entry) (s : List Stop) → add_stops (S f xs) (E f l) (S f s) ≡ both (add_stops xs l s)) → and_then (both o) (add_stops (S f xs)) ≡ both (and_then o (add_stops xs))
      go None ih = refl
      go (Some ls) ih = ih ls.0 ls.1

  grouped_map : (o : Option Lists) → grouped (both o) ≡ mapped (grouped o)
  grouped_map None = refl
  grouped_map (Some ls) = refl

  pub added_map : (g : Group) (o : Obstacle) (v : ℕ) → added (map_group f g) (map_obstacle f o) v ≡ mapped (added g o v)
  unfolding added add_to_growth add_to_conflicts
  added_map (growth a b) (NonZeroGrow l c) v = refl
  added_map (growth a b) (Conflicting p q) v = refl
  added_map (growth a b) (TouchingVirtual p w m) v = refl
  added_map (growth a b) (BlossomNeedExpand n) v = refl
  added_map (growth a b) (VertexShrinkStop n p) v = refl
  added_map (conflicts l s) (NonZeroGrow a c) v = refl
  added_map (conflicts l s) (Conflicting p q) v = ap grouped (room_more l (record { obstacle = Conflicting p q }) s) ∙ grouped_map (room_for (l ++ record { obstacle = Conflicting p q } ∷ []) s)
  added_map (conflicts l s) (TouchingVirtual p w m) v = ap grouped (room_more l (record { obstacle = TouchingVirtual p w m }) s) ∙ grouped_map (room_for (l ++ record { obstacle = TouchingVirtual p w m } ∷ []) s)
  added_map (conflicts l s) (BlossomNeedExpand n) v = ap grouped (room_more l (record { obstacle = BlossomNeedExpand n }) s) ∙ grouped_map (room_for (l ++ record { obstacle = BlossomNeedExpand n } ∷ []) s)
  added_map (conflicts l s) (VertexShrinkStop n p) v = ap grouped (add_stop_lem (record { vertex = record { 0 = v }; obstacle = VertexShrinkStop n p }) l s) ∙ grouped_map (add_stop (record { vertex = record { 0 = v }; obstacle = VertexShrinkStop n p }) l s)

  pub extended_map : (g h : Group) → extended (map_group f g) (map_group f h) ≡ mapped (extended g h)
  unfolding extended smaller_pair
  extended_map (growth a b) (growth c d) = go (eq_z c largest) (lt_z c a) (lt_z a c)
    where
      go : (x y z : Bool) → Some (cond x (growth a b) (cond y (growth c d) (cond z (growth a b) (growth a (b && d))))) ≡ mapped (Some (cond x (growth a b) (cond y (growth c d) (cond z (growth a b) (growth a (b && d))))))
      go true y z = refl
      go false true z = refl
      go false false true = refl
      go false false false = refl
  extended_map (growth a b) (conflicts m t) = refl
  extended_map (conflicts l s) (growth c d) = refl
  extended_map (conflicts l s) (conflicts m t) = ap grouped (ap (λ (o : Option Lists). and_then o (add_stops (S f t))) (ap (λ (z : List Entry). room_for z (S f s)) (sym (map-append (map_entry f) l m)) ∙ room (l ++ m) s) ∙ go (room_for (l ++ m) s)) ∙ grouped_map (and_then (room_for (l ++ m) s) (add_stops t))
    where
      go : (o : Option Lists) → and_then (both o) (add_stops (S f t)) ≡ both (and_then o (add_stops t))
      go None = refl
      go (Some ls) = add_stops_lem t ls.0 ls.1
