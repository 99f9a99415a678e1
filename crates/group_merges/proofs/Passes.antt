-- One pass over the stops of two groups. At each turn what is left to add, to the stops that are written so far and to those that are still to come, is
-- the whole answer; and past what is written the arrays are as they were. Assumes nothing.
use Rattle.std.specs.Prelude.{None, Option, Some}
use Prim.Native.Nat.{ℕ, ◌+◌, ◌-◌, ◌≤◌, ◌<◌}
use mathlib.Core.Path.{◌≡◌, refl, sym, ap, ◌∙◌, subst}
use mathlib.Core.Bool.{Bool, true, false, cond}
use mathlib.Core.Logic.{◌⊎◌, inl, inr}
use mathlib.Core.List.{List, [], ◌∷◌, ◌++◌, append_assoc}
use native.Mathlib.Numerals.{add-one}
use native.Mathlib.Omega.{arith}
use borrow.Author.Tests.{leb-true, leb-false, ltb-true, ltb-false}
use lib.Dec.{leb, ltb}
use lib.ListN.{length, take, drop, get_or, set, length-append, length-drop, length-set, take-append-drop}
use lib.Seq.{length-take-le, take-suc-set, drop-set-lt, drop-drop, append_snoc}
use Rattle.kinds.specs.Obstacles.{pair_of}
use Rattle.kinds.specs.declared.Pair.{Pair}
use Rattle.kinds.specs.declared.Obstacle.TheVariants.{Conflicting}
use Rattle.kinds.specs.declared.Entry.{Entry}
use Rattle.kinds.specs.declared.Stop.{Stop}
use Rattle.ledger_spec.specs.Groups.{Lists, rising_from, add_stops}
use Rattle.groups.specs.View.{over}
use Rattle.groups.specs.declared.Kind.TheVariants.{Conflicts}
use Rattle.groups.specs.declared.Group.{Group as Code}
use Rattle.groups.proofs.Lists.{step, spent}
use Rattle.groups.proofs.View.{same}
use Rattle.group_stops.specs.Places.{meeting_of}
use Rattle.group_stops.specs.declared.Meeting.{Meeting}
use Rattle.group_stops.specs.declared.Meeting.TheVariants.{Keep, Replace, Join}
use Rattle.group_adds.proofs.Places.{keeps, replaces, joins}
use Rattle.group_runs.specs.Runs.{laid_at}
use Rattle.group_merges.specs.Turns.{comes_in, meets, turn_of}
use Rattle.group_merges.specs.declared.Turn.{Turn}
use Rattle.group_merges.specs.declared.Turn.TheVariants.{Put, Enter, Full}
use Rattle.group_merges.proofs.Fronts.{Below, Past, Under, below_snoc, under_none, rise_rest, rise_zero, under_next, under_same, comes, comes_full, meets_one, meets_none, meets_full, all_added}

-- ---- a store at the end of what is written
module _ {A : Type 0} (l : List A) (k : ℕ) (x : A) (h : k < length l) where
  stored : take (k + 1) (set l k x) ≡ take k l ++ x ∷ []
  stored = ap (λ (i : ℕ). take i (set l k x)) (add-one k) ∙ take-suc-set l k x h

  past_store : (s : List A) → drop k l ≡ drop k s → drop (k + 1) (set l k x) ≡ drop (k + 1) s
  past_store s e = drop-set-lt (k + 1) l k x (omega arith) ∙ sym (drop-drop 1 k l) ∙ ap (drop 1) e ∙ drop-drop 1 k s

-- where a pass stands: i of the n own stops are passed, j of the m others are added, k stops are written to `out`
pub record Merging (own other : List Stop) (own-list : List Entry) (n m : ℕ) (whole : Option Lists) (list : List Entry) (out : List Stop) (at i j k : ℕ) : Type 0 where
  pub own_in : i ≤ n
  pub other_in : j ≤ m
  pub room : k + (n - i) ≤ 128
  pub few : at ≤ 128
  pub list_long : length list ≡ 128
  pub out_long : length out ≡ 128
  pub list_past : drop at list ≡ drop at own-list
  pub out_past : drop k out ≡ drop k own
  pub rest : whole ≡ add_stops (drop j (take m other)) (take at list) (take k out ++ drop i (take n own))
  pub rises : rising_from 0 (drop j (take m other)) ≡ true
  pub under : Under (take k out) (drop j (take m other))

-- what a pass comes to by a turn: it stands further on, or the whole has no room
module _ (own other : List Stop) (own-list : List Entry) (n m : ℕ) (whole : Option Lists) (list : List Entry) (out : List Stop) (at i j k : ℕ) where
  abbrev pub After : Turn → Type 0
  After (Put z a b) = (0 < a + b) × Merging own other own-list n m whole list (set out k z) at (i + a) (j + b) (k + 1)
  After (Enter e) = Merging own other own-list n m whole (set list at e) out (at + 1) (i + 1) (j + 1) k
  After Full = whole ≡ None

module _ (own other : List Stop) (own-list : List Entry) (n m : ℕ) where
  pub starts : (list : List Entry) (at : ℕ) → n ≤ 128 → at ≤ 128 → length list ≡ 128 → length own ≡ 128 → drop at list ≡ drop at own-list → rising_from 0 (take m other) ≡ true →
      Merging own other own-list n m (add_stops (take m other) (take at list) (take n own)) list own at 0 0 0
  starts list at a b c d e f = record {
    own_in = omega arith;
    other_in = omega arith;
    room = omega (arith, a);
    few = b;
    list_long = c;
    out_long = d;
    list_past = e;
    out_past = refl;
    rest = refl;
    rises = f;
    under = under_none (take m other);
  }

  module _ (own-long : n ≤ length own) (other-long : m ≤ length other) (whole : Option Lists) (list : List Entry) (out : List Stop) (at i j k : ℕ) (d : Stop)
      (M : Merging own other own-list n m whole list out at i j k) (jm : j < m) where
    abbrev x : Stop
    x = get_or other j d

    abbrev y : Stop
    y = get_or own i d

    abbrev f : List Stop
    f = take k out

    abbrev xs : List Stop
    xs = drop (j + 1) (take m other)

    abbrev l : List Entry
    l = take at list

    next : drop j (take m other) ≡ x ∷ xs
    next = step m j other d jm other-long

    rising_x : rising_from 0 (x ∷ xs) ≡ true
    rising_x = subst (λ (t : List Stop). rising_from 0 t ≡ true) next M.rises

    below : Below x.vertex.0 f
    below = subst (λ (t : List Stop). Under f t) next M.under

    k_in : k ≤ length out
    k_in = omega (arith, M.room, M.out_long)

    f_long : length f ≡ k
    f_long = length-take-le k out k_in

    l_long : length l ≡ at
    l_long = length-take-le at list (omega (arith, M.few, M.list_long))

    l_few : length l ≤ 128
    l_few = omega (arith, l_long, M.few)

    back_long : length (drop i (take n own)) ≡ n - i
    back_long = omega (arith, length-drop i (take n own), length-take-le n own own-long)

    both_long : (b : List Stop) (z : Stop) → length (f ++ z ∷ b) ≡ k + (1 + length b)
    both_long b z = omega (arith, length-append f (z ∷ b), f_long)

    rest_x : whole ≡ add_stops (x ∷ xs) l (f ++ drop i (take n own))
    rest_x = M.rest ∙ ap (λ (t : List Stop). add_stops t l (f ++ drop i (take n own))) next

    -- z is written, and j or i or both go on; what is left is told by `goes`
    writes : (z : Stop) (i' j' : ℕ) → k < 128 → i' ≤ n → j' ≤ m → k + 1 + (n - i') ≤ 128 →
        whole ≡ add_stops (drop j' (take m other)) l ((f ++ z ∷ []) ++ drop i' (take n own)) → rising_from 0 (drop j' (take m other)) ≡ true → Under (f ++ z ∷ []) (drop j' (take m other)) →
        Merging own other own-list n m whole list (set out k z) at i' j' (k + 1)
    writes z i' j' a b c e goes r u = record {
      own_in = b;
      other_in = c;
      room = e;
      few = M.few;
      list_long = M.list_long;
      out_long = length-set out k z ∙ M.out_long;
      list_past = M.list_past;
      out_past = past_store out k z (omega (arith, a, M.out_long)) own M.out_past;
      rest = goes ∙ ap (λ (t : List Stop). add_stops (drop j' (take m other)) l (t ++ drop i' (take n own))) (sym (stored out k z (omega (arith, a, M.out_long))));
      rises = r;
      under = subst (λ (t : List Stop). Under t (drop j' (take m other))) (sym (stored out k z (omega (arith, a, M.out_long)))) u;
    }

    -- ---- x comes in, past all that is left or before y
    past_x : n ≤ i → Past x.vertex.0 (drop i (take n own))
    past_x h = subst (λ (t : List Stop). Past x.vertex.0 t) (sym (spent n i own h own-long)) tt

    before_y : i < n → x.vertex.0 < y.vertex.0 → Past x.vertex.0 (drop i (take n own))
    before_y h v = subst (λ (t : List Stop). Past x.vertex.0 t) (sym (step n i own d h own-long)) v

    module _ (p : Past x.vertex.0 (drop i (take n own))) where
      comes_in_lem : k + (n - i) < 128 → Merging own other own-list n m whole list (set out k x) at i (j + 1) (k + 1)
      comes_in_lem h = writes x i (j + 1) (omega (arith, h)) M.own_in (omega (arith, jm)) (omega (arith, h))
          (rest_x ∙ comes x xs l f (drop i (take n own)) below p l_few (omega (arith, h, back_long, both_long (drop i (take n own)) x)))
          (rise_zero x xs rising_x) (under_next x.vertex.0 f x xs (rise_rest x xs rising_x) below (omega arith))

      no_room : 128 ≤ k + (n - i) → whole ≡ None
      no_room h = rest_x ∙ comes_full x xs l f (drop i (take n own)) below p l_few (omega (arith, h, back_long, both_long (drop i (take n own)) x))

      -- told by a count of stops that is full where they are
      come_turn : (s : ℕ) → (128 ≤ s → 128 ≤ k + (n - i)) → (s < 128 → k + (n - i) < 128) → After own other own-list n m whole list out at i j k (comes_in x s)
      unfolding comes_in
      come_turn s full room = go (leb 128 s) refl
        where
          go : (b : Bool) → leb 128 s ≡ b → After own other own-list n m whole list out at i j k (cond b Full (Put x 0 1))
          go true e = no_room (full (leb-true 128 s e))
          go false e = let z : i + 0 ≡ i = omega arith in (omega arith, rw z (comes_in_lem (room (leb-false 128 s e))))

    pub last_turn : n ≤ i → After own other own-list n m whole list out at i j k (comes_in x k)
    last_turn h = come_turn (past_x h) k (λ a. omega (arith, h, a)) (λ a. omega (arith, h, a))

    module _ (h : i < n) where
      back : drop i (take n own) ≡ y ∷ drop (i + 1) (take n own)
      back = step n i own d h own-long

      rest_y : whole ≡ add_stops (x ∷ xs) l (f ++ y ∷ drop (i + 1) (take n own))
      rest_y = rest_x ∙ ap (λ (t : List Stop). add_stops (x ∷ xs) l (f ++ t)) back

      tail_long : length (drop (i + 1) (take n own)) ≡ n - (i + 1)
      tail_long = omega (arith, length-drop (i + 1) (take n own), length-take-le n own own-long)

      -- y is passed
      passes : y.vertex.0 < x.vertex.0 → Merging own other own-list n m whole list (set out k y) at (i + 1) j (k + 1)
      passes v = writes y (i + 1) j (omega (arith, h, M.room)) (omega (arith, h)) M.other_in (omega (arith, h, M.room))
          (rest_y ∙ ap (add_stops (x ∷ xs) l) (sym (append_snoc f y (drop (i + 1) (take n own)))) ∙ ap (λ (t : List Stop). add_stops t l ((f ++ y ∷ []) ++ drop (i + 1) (take n own))) (sym next))
          M.rises (subst (λ (t : List Stop). Under (f ++ y ∷ []) t) (sym next) (below_snoc x.vertex.0 f y below v))

      -- ---- x meets y
      module _ (e : y.vertex.0 ≡ x.vertex.0) where
        abbrev t : List Stop
        t = drop (i + 1) (take n own)

        swaps : length (f ++ y ∷ drop (i + 1) (take n own)) ≤ 128
        swaps = omega (arith, h, M.room, tail_long, both_long (drop (i + 1) (take n own)) y)

        kept : meeting_of (pair_of x.obstacle) (pair_of y.obstacle) ≡ Keep → Merging own other own-list n m whole list (set out k y) at (i + 1) (j + 1) (k + 1)
        kept q = writes y (i + 1) (j + 1) (omega (arith, h, M.room)) (omega (arith, h)) (omega (arith, jm)) (omega (arith, h, M.room))
            (rest_y ∙ meets_one x y xs l f t below e y (keeps x y l f t (pair_of x.obstacle) (pair_of y.obstacle) q) l_few swaps)
            (rise_zero x xs rising_x) (under_next x.vertex.0 f y xs (rise_rest x xs rising_x) below (omega (arith, e)))

        replaced : meeting_of (pair_of x.obstacle) (pair_of y.obstacle) ≡ Replace → Merging own other own-list n m whole list (set out k x) at (i + 1) (j + 1) (k + 1)
        replaced q = writes x (i + 1) (j + 1) (omega (arith, h, M.room)) (omega (arith, h)) (omega (arith, jm)) (omega (arith, h, M.room))
            (rest_y ∙ meets_one x y xs l f t below e x (replaces x y l f t (pair_of x.obstacle) (pair_of y.obstacle) q) l_few (omega (arith, h, M.room, tail_long, both_long (drop (i + 1) (take n own)) x)))
            (rise_zero x xs rising_x) (under_next x.vertex.0 f x xs (rise_rest x xs rising_x) below (omega arith))

        module _ (a b : Pair) (q : meeting_of (pair_of x.obstacle) (pair_of y.obstacle) ≡ Join a b) where
          abbrev c : Entry
          c = record { obstacle = Conflicting a b }

          pushed_long : length (l ++ c ∷ []) ≡ at + 1
          pushed_long = omega (arith, length-append l (c ∷ []), l_long)

          list_full : 128 ≤ at → whole ≡ None
          list_full z = rest_y ∙ meets_full x y xs l f t below e c (joins x y l f t (pair_of x.obstacle) (pair_of y.obstacle) a b q) (omega (arith, z, pushed_long))

          joined : at < 128 → Merging own other own-list n m whole (set list at c) out (at + 1) (i + 1) (j + 1) k
          joined z = record {
            own_in = omega (arith, h);
            other_in = omega (arith, jm);
            room = omega (arith, h, M.room);
            few = omega (arith, z);
            list_long = length-set list at c ∙ M.list_long;
            out_long = M.out_long;
            list_past = past_store list at c (omega (arith, z, M.list_long)) own-list M.list_past;
            out_past = M.out_past;
            rest = rest_y ∙ meets_none x y xs l f t below e c (joins x y l f t (pair_of x.obstacle) (pair_of y.obstacle) a b q) (omega (arith, z, pushed_long)) (omega (arith, h, M.room, tail_long, f_long, length-append f (drop (i + 1) (take n own))))
                ∙ ap (λ (s : List Entry). add_stops xs s (f ++ drop (i + 1) (take n own))) (sym (stored list at c (omega (arith, z, M.list_long))));
            rises = rise_zero x xs rising_x;
            under = under_same x.vertex.0 f xs (rise_rest x xs rising_x) below;
          }

        meet_turn : (r : Meeting) → meeting_of (pair_of x.obstacle) (pair_of y.obstacle) ≡ r → After own other own-list n m whole list out at i j k (meets r x y at)
        unfolding meets
        meet_turn Keep q = (omega arith, kept q)
        meet_turn Replace q = (omega arith, replaced q)
        meet_turn (Join a b) q = go (leb 128 at) refl
          where
            go : (f : Bool) → leb 128 at ≡ f → After own other own-list n m whole list out at i j k (cond f Full (Enter (record { obstacle = Conflicting a b })))
            go true z = list_full a b q (leb-true 128 at z)
            go false z = joined a b q (leb-false 128 at z)

      pub turn : After own other own-list n m whole list out at i j k (turn_of x y (k + (n - i)) at)
      unfolding turn_of
      turn = go (ltb y.vertex.0 x.vertex.0) (ltb x.vertex.0 y.vertex.0) refl refl
        where
          go : (b c : Bool) → ltb y.vertex.0 x.vertex.0 ≡ b → ltb x.vertex.0 y.vertex.0 ≡ c →
              After own other own-list n m whole list out at i j k (cond b (Put y 1 0) (cond c (comes_in x (k + (n - i))) (meets (meeting_of (pair_of x.obstacle) (pair_of y.obstacle)) x y at)))
          go true c p q = let z : j + 0 ≡ j = omega arith in (omega arith, rw z (passes (ltb-true _ _ p)))
          go false true p q = come_turn (before_y h (ltb-true _ _ q)) (k + (n - i)) (λ a. a) (λ a. a)
          go false false p q = meet_turn (omega (arith, ltb-false y.vertex.0 x.vertex.0 p, ltb-false x.vertex.0 y.vertex.0 q)) (meeting_of (pair_of x.obstacle) (pair_of y.obstacle)) refl

  -- a turn by the test that leads to it
  module _ (own-long : n ≤ length own) (other-long : m ≤ length other) (whole : Option Lists) (list : List Entry) (out : List Stop) (at i j k : ℕ) (d : Stop)
      (M : Merging own other own-list n m whole list out at i j k) (jm : j < m) where
    pub next_turn : (r : Turn) → ((i < n) × (r ≡ turn_of (get_or other j d) (get_or own i d) (k + (n - i)) at)) ⊎ ((n ≤ i) × (r ≡ comes_in (get_or other j d) k)) →
        After own other own-list n m whole list out at i j k r
    next_turn r (inl p) = subst (λ (t : Turn). After own other own-list n m whole list out at i j k t) (sym p.1) (turn own-long other-long whole list out at i j k d M jm p.0)
    next_turn r (inr p) = subst (λ (t : Turn). After own other own-list n m whole list out at i j k t) (sym p.1) (last_turn own-long other-long whole list out at i j k d M jm p.0)

  -- ---- all others are added: what is left of the own stops follows
  module _ (own-long : n ≤ length own) (other-long : m ≤ length other) (whole : Option Lists) (list : List Entry) (out : List Stop) (at i j k : ℕ)
      (M : Merging own other own-list n m whole list out at i j k) (mj : m ≤ j) where
    pub ended : whole ≡ Some (take at list, take k out ++ drop i (take n own))
    ended = M.rest ∙ ap (λ (t : List Stop). add_stops t (take at list) (take k out ++ drop i (take n own))) (spent m j other mj other-long) ∙ all_added (take at list) (take k out ++ drop i (take n own))

    list_bytes : list ≡ over (take at list) own-list
    list_bytes = sym (ap (λ (p : ℕ). take at list ++ drop p own-list) (length-take-le at list (omega (arith, M.few, M.list_long))) ∙ ap (λ (r : List Entry). take at list ++ r) (sym M.list_past) ∙ take-append-drop at list)

    list_count : at ≡ length (take at list)
    list_count = sym (length-take-le at list (omega (arith, M.few, M.list_long)))

    stops_count : k + (n - i) ≡ length (take k out ++ drop i (take n own))
    stops_count = omega (arith, length-append (take k out) (drop i (take n own)), length-take-le k out (omega (arith, M.room, M.out_long)), length-drop i (take n own), length-take-le n own own-long)

    stops_bytes : laid_at k out i n own ≡ over (take k out ++ drop i (take n own)) own
    stops_bytes = sym (append_assoc (take k out) (drop i (take n own)) (drop (k + (n - i)) out))
        ∙ ap (λ (r : List Stop). (take k out ++ drop i (take n own)) ++ r)
        (sym (drop-drop (n - i) k out) ∙ ap (drop (n - i)) M.out_past ∙ drop-drop (n - i) k own ∙ ap (λ (p : ℕ). drop p own) stops_count)

    -- the bytes of the group that is then answered
    pub closes : ◌≡◌ {A = Code} (record { kind = Conflicts; list = list; stops = laid_at k out i n own; listed = at; stopped = k + (n - i) })
        (record { kind = Conflicts; list = over (take at list) own-list; stops = over (take k out ++ drop i (take n own)) own; listed = length (take at list); stopped = length (take k out ++ drop i (take n own)) })
    closes = same _ _ refl list_bytes stops_bytes list_count stops_count
