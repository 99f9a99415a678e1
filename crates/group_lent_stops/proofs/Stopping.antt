-- THEOREM: the words that a stop leaves hold the ledger's group after it is added, and its number. Assumes nothing.
use Rattle.std.specs.Prelude.{None, Option, Some}
use Rattle.kinds.specs.declared.Pair.{Pair}
use Prim.Native.Nat.{ℕ, zero, suc, ◌+◌, ◌-◌, ◌<◌, ◌≤◌}
use mathlib.Core.Path.{◌≡◌, refl, sym, ap, ap₂, ◌∙◌, subst}
use mathlib.Core.Bool.{Bool, true, false, false≢true, cond, ◌&&◌}
use mathlib.Core.List.{List, [], ◌∷◌, ◌++◌}
use native.Mathlib.Omega.{arith}
use borrow.Author.Tests.{eqb-true, eqb-false, eq-eqb, ltb-true, ltb-false, lt-ltb, lt-leb}
use lib.Dec.{eqb, leb, ltb}
use lib.IntN.{ℤ}
use lib.ListN.{length, get_or, length-append}
use lib.Seq.{sets, length-sets}
use Rattle.kinds.specs.Obstacles as kinds
use Rattle.kinds.specs.Obstacles.{is_stop}
use Rattle.kinds.specs.declared.Entry.{Entry}
use Rattle.kinds.specs.declared.Stop.{Stop}
use Rattle.kinds.specs.declared.Obstacle.{Obstacle}
use Rattle.kinds.specs.declared.Obstacle.TheVariants.{NonZeroGrow, Conflicting, TouchingVirtual, BlossomNeedExpand, VertexShrinkStop}
use Rattle.bench_words.specs.Codec.{pick}
use Rattle.ledger_spec.specs.Groups.{Group, conflicts, Lists, room_for, front_of, back_of, meet, placed, add_stop, grouped, add_to_growth, add_to_conflicts, added}
use Rattle.ledger_laws.proofs.GroupSound.{fine_of, added_sound}
use Rattle.group_lent.specs.Forms.{length_of, same_hand, pair_of, five_words, is_form, obstacle_of}
use Rattle.group_lent.specs.Groups.{entry_form, entry_at, stop_read, stop_form, stop_at, ReadStop}
use Rattle.group_lent.specs.declared.Five.{Five}
use Rattle.group_lent.proofs.Stores.{and_left, and_right, sets_in, run_long}
use Rattle.group_lent.specs.Place.{run, kind_in, length_in, flag_in, listed, stopped, list_in, stops_in, group_in, Listing, SoundGroup}
use Rattle.group_lent_takes.specs.After.{head_words}
use Rattle.group_lent_takes.specs.Made.{Added}
use Rattle.group_lent.proofs.Seen.{out_reads, stop_reads, seen_growth, seen_conflicts, sound_in, is_listing, to_listing}
use Rattle.group_lent_takes.proofs.Adding.{made, has_room, no_room}
use Rattle.group_lent_stops.specs.Stops.{spot, stop_five, place_in, one_stop, inserted, replaced, pair_five, joined, meet_out, place_out, stop_out}
use Rattle.group_lent_stops.proofs.Places.{run_split, vertex_is, rising_stop, Split, splits}
use Rattle.group_lent_stops.proofs.Meets.{stop_six, no_pair, a_pair, pair_form, pair_says, same_words}
use Rattle.group_lent_stops.proofs.Changes.{stop_of, entry_of, stop_put, Kept, same_list, same_forms, replaced_kept, replaced_listed, replaced_count, replaced_stops, replaced_forms, inserted_kept, inserted_listed, inserted_count, inserted_stops, inserted_forms, joined_kept, joined_listed, joined_stopped, joined_list, joined_entries, joined_stops, joined_forms}

-- ---- the ledger's add of a stop

to_growth : (a : ℤ) (f : Bool) (o : Obstacle) (v : ℕ) → is_stop o ≡ true → add_to_growth a f o v ≡ Some (conflicts [] (record { vertex = record { 0 = v }; obstacle = o } ∷ []))
unfolding add_to_growth
to_growth a f (NonZeroGrow b h) v e = absurd (false≢true e)
to_growth a f (Conflicting p q) v e = absurd (false≢true e)
to_growth a f (TouchingVirtual p w m) v e = absurd (false≢true e)
to_growth a f (BlossomNeedExpand n) v e = absurd (false≢true e)
to_growth a f (VertexShrinkStop n p) v e = refl

pub to_conflicts : (l : List Entry) (s : List Stop) (o : Obstacle) (v : ℕ) → is_stop o ≡ true → add_to_conflicts l s o v ≡ grouped (add_stop (record { vertex = record { 0 = v }; obstacle = o }) l s)
unfolding add_to_conflicts
to_conflicts l s (NonZeroGrow b h) v e = absurd (false≢true e)
to_conflicts l s (Conflicting p q) v e = absurd (false≢true e)
to_conflicts l s (TouchingVirtual p w m) v e = absurd (false≢true e)
to_conflicts l s (BlossomNeedExpand n) v e = absurd (false≢true e)
to_conflicts l s (VertexShrinkStop n p) v e = refl

no_stop_room : (l : List Entry) (s : List Stop) → 128 < length s → grouped (room_for l s) ≡ None
unfolding room_for
no_stop_room l s h = go (leb (length l) 128)
  where
    go : (b : Bool) → grouped (cond (b && leb (length s) 128) (Some (l, s)) None) ≡ None
    go true = rw (lt-leb (length s) 128 h)
    go false = refl

module _ (ws : List ℕ) (f : Five) (v : ℕ) (s : SoundGroup ws) (form : is_form f ≡ true) (stop : is_stop (obstacle_of f) ≡ true) (low : v < 4294967296) where
  -- what is to be shown of a number and words
  abbrev Good : ℕ × List ℕ → Type 0
  Good o = Added f v ws o.1 o.0 o.1

  -- ---- a growth
  module _ (e : kind_in ws ≡ 1) where
    abbrev put : List ℕ
    put = sets ws 645 (v ∷ five_words f)

    abbrev one : List ℕ
    one = one_stop ws f v

    head : (k : ℕ) → k < 5 → get_or one k 0 ≡ get_or (head_words 0 1) k 0
    head k h = sets_in put 0 (head_words 0 1) k k (omega arith) h (rw (length-sets ws 645 (v ∷ five_words f)) (omega (arith, s.long)))

    came : stop_read one 645 ≡ record { ok = true; stop = stop_of f v }
    came = stop_reads put 645 one 645 (out_reads put 0 (head_words 0 1) 645 6 (λ h. omega arith)) ∙ stop_put ws 645 v f (omega (arith, s.long)) low form

    list : list_in one ≡ []
    unfolding run
    list = ap (run (entry_at one) 0) (head 3 (omega arith))

    stops : stops_in one ≡ stop_of f v ∷ []
    unfolding run stop_at
    stops = ap (run (stop_at one) 0) (head 4 (omega arith)) ∙ ap (λ (r : ReadStop). r.stop ∷ []) came

    says : added (group_in ws) (obstacle_of f) v ≡ Some (conflicts [] (stop_of f v ∷ []))
    unfolding added
    says = ap (λ (g : Group). added g (obstacle_of f) v) (seen_growth ws e) ∙ to_growth (length_of (length_in ws)) (eqb (flag_in ws) 1) (obstacle_of f) v stop

    form_at : (i : ℕ) → i < 1 → stop_form one i ≡ true
    unfolding stop_form
    form_at i h = let z : i ≡ 0 = omega arith in rw z (ap (λ (r : ReadStop). r.ok) came)

    one_sound : SoundGroup one
    one_sound =
        to_listing one (conflicts [] (stop_of f v ∷ []))
        (length-sets put 0 (head_words 0 1) ∙ length-sets ws 645 (v ∷ five_words f) ∙ s.long)
        (head 0 (omega arith))
        (head 1 (omega arith))
        (head 2 (omega arith))
        (omega (arith, head 3 (omega arith)))
        (omega (arith, head 4 (omega arith)))
        (λ i h. absurd (omega (arith, head 3 (omega arith))))
        (λ i h. form_at i (omega (arith, head 4 (omega arith))))
        (ap₂ conflicts list stops)
        (added_sound (group_in ws) (obstacle_of f) v (conflicts [] (stop_of f v ∷ [])) (sound_in ws s) says)

    one_good : Good (0, one)
    one_good =
        made f v ws one 0 one (λ n. absurd (n refl)) (Some (conflicts [] (stop_of f v ∷ []))) says refl refl
        (seen_conflicts one (head 0 (omega arith)) ∙ ap₂ conflicts list stops) one_sound

  -- ---- conflicts
  module _ (n : kind_in ws ≡ 1 → ⊥) where
    abbrev l : Listing ws
    l = is_listing ws s n

    abbrev S : ℕ → Stop
    S = stop_at ws

    abbrev p : ℕ
    p = place_in ws v

    abbrev x : Stop
    x = stop_of f v

    abbrev q : ℕ
    q = stopped ws - 1 - p

    says_add : (o : Option Lists) → add_stop x (list_in ws) (stops_in ws) ≡ o → added (group_in ws) (obstacle_of f) v ≡ grouped o
    unfolding added
    says_add o e =
        ap (λ (g : Group). added g (obstacle_of f) v) (seen_conflicts ws l.kind)
        ∙ to_conflicts (list_in ws) (stops_in ws) (obstacle_of f) v stop
        ∙ ap grouped e

    split : Split S v 0 (stopped ws) (front_of v (stops_in ws)) (back_of v (stops_in ws))
    split = splits S v 0 (stopped ws)

    within : p ≤ stopped ws
    unfolding place_in
    within = split.low

    front_is : front_of v (stops_in ws) ≡ run S 0 p
    unfolding place_in
    front_is = split.before

    back_is : back_of v (stops_in ws) ≡ run S p (stopped ws - p)
    unfolding place_in
    back_is = let z : 0 + length (front_of v (stops_in ws)) ≡ length (front_of v (stops_in ws)) = omega arith in split.after ∙ ap (λ (i : ℕ). run S i (stopped ws - length (front_of v (stops_in ws)))) z

    -- nothing changes
    kept : (o : Option Lists) → add_stop x (list_in ws) (stops_in ws) ≡ o → grouped o ≡ Some (conflicts (list_in ws) (stops_in ws)) → Good (0, ws)
    kept o e g = made f v ws ws 0 ws (λ n. absurd (n refl)) (Some (conflicts (list_in ws) (stops_in ws))) (says_add o e ∙ g) refl refl (seen_conflicts ws l.kind) s

    -- no room
    full : (o : Option Lists) → add_stop x (list_in ws) (stops_in ws) ≡ o → grouped o ≡ None → Good (20, ws)
    full o e g = made f v ws ws 20 ws (λ n. refl) None (says_add o e ∙ g) refl refl refl s

    -- ws' holds the list es and the stops ss
    module _ (ws' : List ℕ) (es : List Entry) (ss : List Stop) (k : Kept ws ws') (a : list_in ws' ≡ es) (b : stops_in ws' ≡ ss) (few : listed ws' ≤ 128) (fewer : stopped ws' ≤ 128)
        (fs : (i : ℕ) → i < listed ws' → entry_form ws' i ≡ true) (gs : (i : ℕ) → i < stopped ws' → stop_form ws' i ≡ true) where
      settled : add_stop x (list_in ws) (stops_in ws) ≡ room_for es ss → Good (0, ws')
      settled e =
          let u : length es ≤ 128 = omega (arith, ap length a, run_long (entry_at ws') 0 (listed ws')) in
          let w : length ss ≤ 128 = omega (arith, ap length b, run_long (stop_at ws') 0 (stopped ws')) in
          let says = says_add (room_for es ss) e ∙ has_room es ss u w in
          let kind = k.head 0 (omega arith) ∙ l.kind in
          made f v ws ws' 0 ws' (λ n. absurd (n refl)) (Some (conflicts es ss)) says refl refl
          (seen_conflicts ws' kind ∙ ap₂ conflicts a b)
          (to_listing ws' (conflicts es ss) (k.long ∙ s.long) kind (k.head 1 (omega arith) ∙ l.plain) (k.head 2 (omega arith) ∙ l.blank) few fewer fs gs (ap₂ conflicts a b)
          (added_sound (group_in ws) (obstacle_of f) v (conflicts es ss) (sound_in ws s) says))

    -- ---- a free place
    free_is : (t : ℕ) → stopped ws - p ≡ t → (ltb p (stopped ws) && eqb (get_or ws (spot p) 0) v) ≡ false → placed x (list_in ws) (run S 0 p) (run S p t) ≡ room_for (list_in ws) (run S 0 p ++ x ∷ run S p t)
    unfolding placed run
    free_is zero e h = refl
    free_is (suc t) e h =
        let g : p < stopped ws = omega arith in
        let d : eqb (S p).vertex.0 v ≡ false = ap (λ (i : ℕ). eqb i v) (vertex_is ws p (l.stops p g)) ∙ sym (ap (λ (b : Bool). b && eqb (get_or ws (spot p) 0) v) (lt-ltb p (stopped ws) g)) ∙ h in
        rw d

    free_add : (ltb p (stopped ws) && eqb (get_or ws (spot p) 0) v) ≡ false → add_stop x (list_in ws) (stops_in ws) ≡ room_for (list_in ws) (run S 0 p ++ x ∷ run S p (stopped ws - p))
    unfolding add_stop
    free_add h = ap₂ (placed x (list_in ws)) front_is back_is ∙ free_is (stopped ws - p) refl h

    more_long : length (run S 0 p ++ x ∷ run S p (stopped ws - p)) ≡ suc (stopped ws)
    more_long =
        length-append (run S 0 p) (x ∷ run S p (stopped ws - p))
        ∙ omega (arith, run_long S 0 p, run_long S p (stopped ws - p), within)

    free_good : (ltb p (stopped ws) && eqb (get_or ws (spot p) 0) v) ≡ false → (b : Bool) → ltb (stopped ws) 128 ≡ b → Good (pick b (0, inserted ws f v p) (20, ws))
    free_good h true r =
        let room = ltb-true (stopped ws) 128 r in
        let few = l.few in
        let fewer = l.fewer in
        let k = inserted_listed ws f v p s.long few fewer form low within room in
        settled (inserted ws f v p) (list_in ws) (run S 0 p ++ x ∷ run S p (stopped ws - p))
        (inserted_kept ws f v p s.long few fewer form low within room)
        (same_list ws (inserted ws f v p) k)
        (inserted_stops ws f v p s.long few fewer form low within room)
        (omega (arith, k.count))
        (omega (arith, inserted_count ws f v p s.long few fewer form low within room))
        (same_forms ws (inserted ws f v p) k l.list)
        (inserted_forms ws f v p s.long few fewer form low within room l.stops)
        (free_add h)
    free_good h false r =
        full (room_for (list_in ws) (run S 0 p ++ x ∷ run S p (stopped ws - p))) (free_add h)
        (no_stop_room (list_in ws) (run S 0 p ++ x ∷ run S p (stopped ws - p)) (omega (arith, more_long, ltb-false (stopped ws) 128 r)))

    -- ---- a stop is pending at v
    module _ (h : p < stopped ws) (here : get_or ws (spot p) 0 ≡ v) where
      abbrev y : Five
      y = stop_five ws p

      suc_q : stopped ws - p ≡ suc q
      suc_q = omega arith

      whole : stops_in ws ≡ run S 0 p ++ S p ∷ run S (suc p) q
      unfolding run
      whole = run_split S 0 p (suc q) (stopped ws) p (omega arith) (omega arith)

      held_add : add_stop x (list_in ws) (stops_in ws) ≡ meet (kinds.pair_of (obstacle_of f)) (kinds.pair_of (S p).obstacle) x (S p) (list_in ws) (run S 0 p) (run S (suc p) q)
      unfolding add_stop placed run
      held_add =
          ap₂ (placed x (list_in ws)) front_is (back_is ∙ ap (run S p) suc_q)
          ∙ ap (λ (b : Bool). cond b (meet (kinds.pair_of (obstacle_of f)) (kinds.pair_of (S p).obstacle) x (S p) (list_in ws) (run S 0 p) (run S (suc p) q)) (room_for (list_in ws) (run S 0 p ++ x ∷ S p ∷ run S (suc p) q)))
          (eq-eqb (S p).vertex.0 v (vertex_is ws p (l.stops p h) ∙ here))

      -- the stop that is pending is one
      held_stop : is_stop (obstacle_of y) ≡ true
      unfolding stop_at stop_read
      held_stop = rising_stop S 0 0 (stopped ws) (fine_of (list_in ws) (stops_in ws) l.sound).rises p (omega arith) (omega arith)

      same_room : grouped (room_for (list_in ws) (run S 0 p ++ S p ∷ run S (suc p) q)) ≡ Some (conflicts (list_in ws) (stops_in ws))
      same_room =
          ap (λ (r : List Stop). grouped (room_for (list_in ws) r)) (sym whole)
          ∙ has_room (list_in ws) (stops_in ws) (omega (arith, run_long (entry_at ws) 0 (listed ws), l.few)) (omega (arith, run_long S 0 (stopped ws), l.fewer))

      module _ (a b : Option Pair) (i : kinds.pair_of (obstacle_of f) ≡ a) (j : kinds.pair_of (obstacle_of y) ≡ b) where
        held_by : add_stop x (list_in ws) (stops_in ws) ≡ meet a b x (S p) (list_in ws) (run S 0 p) (run S (suc p) q)
        unfolding stop_at stop_read
        held_by = held_add ∙ ap₂ (λ (c d : Option Pair). meet c d x (S p) (list_in ws) (run S 0 p) (run S (suc p) q)) i j

      keeps : f.kind ≡ 5 → Good (0, ws)
      unfolding meet
      keeps e =
          kept (room_for (list_in ws) (run S 0 p ++ S p ∷ run S (suc p) q)) (held_by None (kinds.pair_of (obstacle_of y)) (no_pair f e) refl) same_room

      module _ (e : f.kind ≡ 6) where
        replaces : y.kind ≡ 5 → Good (0, replaced ws f v p)
        unfolding meet
        replaces d =
            let few = l.few in
            let fewer = l.fewer in
            let k = replaced_listed ws f v p s.long few fewer form low h in
            settled (replaced ws f v p) (list_in ws) (run S 0 p ++ x ∷ run S (suc p) q)
            (replaced_kept ws f v p s.long few fewer form low h)
            (same_list ws (replaced ws f v p) k)
            (replaced_stops ws f v p s.long few fewer form low h)
            (omega (arith, k.count))
            (omega (arith, replaced_count ws f v p s.long few fewer form low h))
            (same_forms ws (replaced ws f v p) k l.list)
            (replaced_forms ws f v p s.long few fewer form low h l.stops)
            (held_by (Some (pair_of f.b f.c)) None (a_pair f e) (no_pair y d))

        module _ (d : y.kind ≡ 6) where
          abbrev entry : Entry
          entry = entry_of (pair_five f y)

          pairs : add_stop x (list_in ws) (stops_in ws) ≡ cond (same_hand f.b y.b) (room_for (list_in ws) (run S 0 p ++ S p ∷ run S (suc p) q)) (room_for (list_in ws ++ entry ∷ []) (run S 0 p ++ run S (suc p) q))
          unfolding meet
          pairs =
              let a = pair_of f.b f.c in
              let b = pair_of y.b y.c in
              held_by (Some a) (Some b) (a_pair f e) (a_pair y d)
              ∙ ap (λ (t : Bool). cond t (room_for (list_in ws) (run S 0 p ++ S p ∷ run S (suc p) q)) (room_for (list_in ws ++ record { obstacle = Conflicting a b } ∷ []) (run S 0 p ++ run S (suc p) q)))
              (same_words f.b y.b)
              ∙ ap (λ (o : Obstacle). cond (same_hand f.b y.b) (room_for (list_in ws) (run S 0 p ++ S p ∷ run S (suc p) q)) (room_for (list_in ws ++ record { obstacle = o } ∷ []) (run S 0 p ++ run S (suc p) q)))
              (sym (pair_says f y))

          drops : same_hand f.b y.b ≡ true → Good (0, ws)
          drops t = kept (room_for (list_in ws) (run S 0 p ++ S p ∷ run S (suc p) q)) (pairs ∙ rw t) same_room

          joins : same_hand f.b y.b ≡ false → (r : Bool) → ltb (listed ws) 128 ≡ r → Good (pick r (0, joined ws f p) (20, ws))
          joins t true r =
              let room = ltb-true (listed ws) 128 r in
              let fewer = l.fewer in
              settled (joined ws f p) (list_in ws ++ entry ∷ []) (run S 0 p ++ run S (suc p) q)
              (joined_kept ws f p s.long fewer room h)
              (joined_list ws f p s.long fewer room h)
              (joined_stops ws f p s.long fewer room h)
              (omega (arith, joined_listed ws f p s.long fewer room h))
              (omega (arith, joined_stopped ws f p s.long fewer room h))
              (joined_entries ws f p s.long fewer room h (pair_form f y) l.list)
              (joined_forms ws f p s.long fewer room h l.stops)
              (pairs ∙ rw t)
          joins t false r =
              full (room_for (list_in ws ++ entry ∷ []) (run S 0 p ++ run S (suc p) q)) (pairs ∙ rw t)
              (no_room (list_in ws ++ entry ∷ []) (run S 0 p ++ run S (suc p) q)
              (omega (arith, length-append (list_in ws) (entry ∷ []), run_long (entry_at ws) 0 (listed ws), ltb-false (listed ws) 128 r)))

      meet_good : Good (meet_out ws f v p)
      unfolding meet_out
      meet_good = go (eqb f.kind 5) refl (eqb y.kind 5) refl (same_hand f.b y.b) refl
        where
          go : (a : Bool) → eqb f.kind 5 ≡ a → (b : Bool) → eqb y.kind 5 ≡ b → (c : Bool) → same_hand f.b y.b ≡ c
              → Good (pick a (0, ws) (pick b (0, replaced ws f v p) (pick c (0, ws) (pick (ltb (listed ws) 128) (0, joined ws f p) (20, ws)))))
          go true a b i c j = keeps (eqb-true f.kind 5 a)
          go false a true i c j = replaces (stop_six f stop a) (eqb-true y.kind 5 i)
          go false a false i true j = drops (stop_six f stop a) (stop_six y held_stop i) j
          go false a false i false j = joins (stop_six f stop a) (stop_six y held_stop i) j (ltb (listed ws) 128) refl

    place_good : Good (place_out ws f v p)
    unfolding place_out
    place_good = go (ltb p (stopped ws) && eqb (get_or ws (spot p) 0) v) refl
      where
        go : (b : Bool) → (ltb p (stopped ws) && eqb (get_or ws (spot p) 0) v) ≡ b → Good (pick b (meet_out ws f v p) (pick (ltb (stopped ws) 128) (0, inserted ws f v p) (20, ws)))
        go true e =
            meet_good (ltb-true p (stopped ws) (and_left (ltb p (stopped ws)) (eqb (get_or ws (spot p) 0) v) e)) (eqb-true (get_or ws (spot p) 0) v (and_right (ltb p (stopped ws)) (eqb (get_or ws (spot p) 0) v) e))
        go false e = free_good e (ltb (stopped ws) 128) refl

  pub stop_good : Added f v ws (stop_out ws f v).1 (stop_out ws f v).0 (stop_out ws f v).1
  unfolding stop_out
  stop_good = go (eqb (kind_in ws) 1) refl
    where
      go : (b : Bool) → eqb (kind_in ws) 1 ≡ b → Good (pick b (0, one_stop ws f v) (place_out ws f v (place_in ws v)))
      go true e = one_good (eqb-true (kind_in ws) 1 e)
      go false e = place_good (eqb-false (kind_in ws) 1 e)

  -- a number and words that are those
  pub stop_made : (r : ℕ) (after : List ℕ) → (r, after) ≡ stop_out ws f v → Added f v ws (stop_out ws f v).1 r after
  stop_made r after e = subst (λ (o : ℕ × List ℕ). Added f v ws (stop_out ws f v).1 o.0 o.1) (sym e) stop_good
