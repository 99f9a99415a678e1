-- What a stop does to the counts, read off a group's words. Assumes nothing.
use Rattle.std.specs.Prelude.{Option}
use Rattle.kinds.specs.declared.Pair.{Pair}
use Prim.Native.Nat.{ℕ, zero, suc, ◌+◌, ◌-◌, ◌<◌, ◌≤◌}
use mathlib.Core.Path.{◌≡◌, refl, sym, ap, ap₂, ◌∙◌}
use mathlib.Core.Bool.{Bool, true, false, cond, ◌&&◌}
use mathlib.Core.List.{List}
use native.Mathlib.Omega.{arith}
use borrow.Author.Tests.{eqb-true, eq-eqb, ne_eqb, ltb-true, lt-ltb, le-ltb}
use lib.Dec.{eqb, ltb}
use lib.ListN.{length, get_or}
use Rattle.kinds.specs.Obstacles as kinds
use Rattle.kinds.specs.Obstacles.{is_stop}
use Rattle.kinds.specs.declared.Stop.{Stop}
use Rattle.bench_words.specs.Codec.{pick}
use Rattle.ledger_spec.specs.Groups.{front_of, back_of}
use Rattle.ledger_laws.proofs.GroupSound.{fine_of}
use Rattle.group_lent.specs.Forms.{same_hand, pair_of, five_at, obstacle_of}
use Rattle.group_lent.specs.Groups.{stop_read, stop_form, stop_at}
use Rattle.group_lent.specs.Place.{run, stopped, list_in, stops_in, Listing}
use Rattle.group_lent.specs.declared.Five.{Five}
use Rattle.group_lent.proofs.Stores.{and_left}
use Rattle.group_lent_stops.specs.Stops.{spot, stop_five, place_in}
use Rattle.group_lent_stops.proofs.Places.{vertex_is, rising_stop, Split, splits}
use Rattle.group_lent_stops.proofs.Meets.{stop_six, no_pair, a_pair, same_words}
use Rattle.group_lent_stops.proofs.Changes.{stop_of}
use Rattle.group_lent_room.specs.Coming.{meets, comes, coming_at, coming_in}

module _ (ws : List ℕ) (f : Five) (v : ℕ) (l : Listing ws) (stop : is_stop (obstacle_of f) ≡ true) where
  abbrev S : ℕ → Stop
  S = stop_at ws

  abbrev p : ℕ
  p = place_in ws v

  abbrev y : Five
  y = stop_five ws p

  abbrev by_pair : ℕ
  by_pair = pick (eqb f.kind 5) 0 (pick (eqb y.kind 5) 0 (pick (same_hand f.b y.b) 0 2))

  back_is : back_of v (stops_in ws) ≡ run S p (stopped ws - p)
  unfolding place_in
  back_is =
      let s : Split S v 0 (stopped ws) (front_of v (stops_in ws)) (back_of v (stops_in ws)) = splits S v 0 (stopped ws) in
      let z : 0 + length (front_of v (stops_in ws)) ≡ length (front_of v (stops_in ws)) = omega arith in
      s.after ∙ ap (λ (i : ℕ). run S i (stopped ws - length (front_of v (stops_in ws)))) z

  -- the stop that is pending at p
  module _ (h : p < stopped ws) where
    held_stop : is_stop (obstacle_of y) ≡ true
    unfolding stop_at stop_read
    held_stop = rising_stop S 0 0 (stopped ws) (fine_of (list_in ws) (stops_in ws) l.sound).rises p (omega arith) (omega arith)

    by_pair_lem : by_pair ≡ meets (kinds.pair_of (obstacle_of f)) (kinds.pair_of (obstacle_of y))
    unfolding meets
    by_pair_lem = go (eqb f.kind 5) refl (eqb y.kind 5) refl
      where
        both : (t : Bool) → ◌≡◌ {A = ℕ} (cond t 0 2) (pick t 0 2)
        both true = refl
        both false = refl

        go : (a : Bool) → eqb f.kind 5 ≡ a → (b : Bool) → eqb y.kind 5 ≡ b → pick a 0 (pick b 0 (pick (same_hand f.b y.b) 0 2)) ≡ meets (kinds.pair_of (obstacle_of f)) (kinds.pair_of (obstacle_of y))
        go true i b j = sym (ap (λ (m : Option Pair). meets m (kinds.pair_of (obstacle_of y))) (no_pair f (eqb-true f.kind 5 i)))
        go false i true j = sym (ap₂ meets (a_pair f (stop_six f stop i)) (no_pair y (eqb-true y.kind 5 j)))
        go false i false j =
            sym (ap₂ meets (a_pair f (stop_six f stop i)) (a_pair y (stop_six y held_stop j)) ∙ ap (λ (t : Bool). cond t 0 2) (same_words f.b y.b) ∙ both (same_hand f.b y.b))

    by_pair_at : by_pair ≡ meets (kinds.pair_of (obstacle_of f)) (kinds.pair_of (S p).obstacle)
    unfolding stop_at stop_read
    by_pair_at = by_pair_lem

    same_vertex : (S p).vertex.0 ≡ get_or ws (spot p) 0
    same_vertex = vertex_is ws p (l.stops p h)

  coming_by : (t : ℕ) → stopped ws - p ≡ t → coming_at ws f v p ≡ comes (stop_of f v) (run S p t)
  unfolding coming_at comes run
  coming_by zero e = rw (le-ltb p (stopped ws) (omega arith))
  coming_by (suc t) e =
      let h : p < stopped ws = omega arith in
      rw (lt-ltb p (stopped ws) h) (sym (ap₂ (λ (i : ℕ) (n : ℕ). cond (eqb i v) n 1) (same_vertex h) (sym (by_pair_at h)) ∙ both (eqb (get_or ws (spot p) 0) v)))
    where
      both : (t : Bool) → cond t by_pair 1 ≡ pick t by_pair 1
      both true = refl
      both false = refl

  pub coming_is : coming_in ws f v ≡ comes (stop_of f v) (back_of v (stops_in ws))
  coming_is = coming_by (stopped ws - p) refl ∙ ap (comes (stop_of f v)) (sym back_is)

-- ---- each way through the code

module _ (ws : List ℕ) (f : Five) (v p : ℕ) (q : p ≡ place_in ws v) (b : Bool) (h : b ≡ (ltb p (stopped ws) && eqb (get_or ws (spot p) 0) v)) where
  pub within : p ≤ stopped ws
  unfolding place_in
  within = rw q (splits (stop_at ws) v 0 (stopped ws)).low

  pub goes_free : b ≡ false → 1 ≡ coming_in ws f v
  unfolding coming_at
  goes_free t = sym (ap (coming_at ws f v) (sym q) ∙ rw (sym h ∙ t))

  module _ (t : b ≡ true) where
    pub is_within : p < stopped ws
    is_within = ltb-true p (stopped ws) (and_left (ltb p (stopped ws)) (eqb (get_or ws (spot p) 0) v) (sym h ∙ t))

    by_words : (n : ℕ) → n ≡ pick (eqb f.kind 5) 0 (pick (eqb (stop_five ws p).kind 5) 0 (pick (same_hand f.b (stop_five ws p).b) 0 2)) → n ≡ coming_in ws f v
    unfolding coming_at
    by_words n e = e ∙ sym (ap (coming_at ws f v) (sym q) ∙ rw (sym h ∙ t))

    pub goes_plain : f.kind ≡ 5 → 0 ≡ coming_in ws f v
    goes_plain e = by_words 0 (rw (eq-eqb f.kind 5 e))

    module _ (n : f.kind ≡ 5 → ⊥) where
      pub goes_first : get_or ws (spot p + 1) 0 ≡ 5 → 0 ≡ coming_in ws f v
      unfolding five_at
      goes_first e = by_words 0 (rw (ne_eqb f.kind 5 n, eq-eqb (get_or ws (spot p + 1) 0) 5 e))

      module _ (m : get_or ws (spot p + 1) 0 ≡ 5 → ⊥) (r : Bool) (e : r ≡ same_hand f.b (get_or ws (spot p + 3) 0)) where
        abbrev third : spot p + 3 ≡ spot p + 1 + 2
        third = omega arith

        tested : (x : Bool) → r ≡ x → same_hand f.b (get_or ws (spot p + 1 + 2) 0) ≡ x
        tested x d = ap (λ (i : ℕ). same_hand f.b (get_or ws i 0)) (sym third) ∙ sym e ∙ d

        pub goes_same : r ≡ true → 0 ≡ coming_in ws f v
        unfolding five_at
        goes_same d = by_words 0 (rw (ne_eqb f.kind 5 n, ne_eqb (get_or ws (spot p + 1) 0) 5 m, tested true d))

        pub goes_join : r ≡ false → 2 ≡ coming_in ws f v
        unfolding five_at
        goes_join d = by_words 2 (rw (ne_eqb f.kind 5 n, ne_eqb (get_or ws (spot p + 1) 0) 5 m, tested false d))

-- ---- stop i of the other group, by its words

module _ (vs : List ℕ) (l : Listing vs) (i : ℕ) (h : i < stopped vs) where
  pub other_stop : is_stop (obstacle_of (stop_five vs i)) ≡ true
  unfolding stop_at stop_read
  other_stop = rising_stop (stop_at vs) 0 0 (stopped vs) (fine_of (list_in vs) (stops_in vs) l.sound).rises i (omega arith) (omega arith)

  pub other_is : stop_at vs i ≡ stop_of (stop_five vs i) (get_or vs (spot i) 0)
  unfolding stop_at stop_read
  other_is = ap (λ (v : ℕ). record { vertex = record { 0 = v }; obstacle = obstacle_of (stop_five vs i) }) (vertex_of (l.stops i h))
    where
      vertex_of : stop_form vs i ≡ true → (stop_at vs i).vertex.0 ≡ get_or vs (spot i) 0
      vertex_of e = vertex_is vs i e
