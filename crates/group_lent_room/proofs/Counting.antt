-- The counts of each step: they are the lengths of the ledger's list and stops there, and past 128 the ledger has no room. Assumes nothing.
use Rattle.std.specs.Prelude.{None, Option, Some}
use Prim.Native.Nat.{ℕ, zero, suc, ◌+◌, ◌-◌, ◌<◌, ◌≤◌}
use mathlib.Core.Path.{◌≡◌, refl, sym, ap, ap₂, ◌∙◌}
use mathlib.Core.Bool.{Bool, true, false, cond, ◌&&◌}
use mathlib.Core.Logic.{by_cases}
use mathlib.Core.List.{List, ◌∷◌, ◌++◌}
use native.Mathlib.Decide.{ℕ_discrete}
use native.Mathlib.Omega.{arith}
use borrow.Author.Tests.{leb-true, le-leb, lt-leb}
use lib.Dec.{leb}
use lib.ListN.{length, get_or, length-append}
use Rattle.kinds.specs.Obstacles.{is_stop}
use Rattle.kinds.specs.declared.Entry.{Entry}
use Rattle.kinds.specs.declared.Stop.{Stop}
use Rattle.ledger_spec.specs.Tests.{is_some}
use Rattle.ledger_spec.specs.Groups.{Group, Lists, rising_from, room_for, back_of, grouped, and_then, add_stops, extended}
use Rattle.ledger_laws.proofs.GroupSound.{fine_of}
use Rattle.group_lent.specs.Groups.{entry_at, stop_at}
use Rattle.group_lent.specs.Place.{run, listed, stopped, list_in, stops_in, group_in, Listing}
use Rattle.group_lent.proofs.Stores.{and_left, and_right, run_long}
use Rattle.group_lent.proofs.Seen.{seen_conflicts}
use Rattle.group_lent_stops.specs.Stops.{spot, stop_five}
use Rattle.group_lent_room.specs.Coming.{comes, listed_by, stopped_by, coming_in}
use Rattle.group_lent_room.proofs.Arrivals.{Came, came}
use Rattle.group_lent_room.proofs.Words.{coming_is, other_stop, other_is}

-- ---- room

pub room_yes : (l : List Entry) (s : List Stop) → length l ≤ 128 → length s ≤ 128 → room_for l s ≡ Some (l, s)
unfolding room_for
room_yes l s h k = rw (le-leb (length l) 128 h, le-leb (length s) 128 k)

room_no : (l : List Entry) (s : List Stop) → 128 < length l → room_for l s ≡ None
unfolding room_for
room_no l s h = rw (lt-leb (length l) 128 h)

room_short : (l : List Entry) (s : List Stop) → 128 < length s → room_for l s ≡ None
unfolding room_for
room_short l s h = go (leb (length l) 128)
  where
    go : (b : Bool) → ◌≡◌ {A = Option Lists} (cond (b && leb (length s) 128) (Some (l, s)) None) None
    go true = rw (lt-leb (length s) 128 h)
    go false = refl

pub given_grouped : (o : Option Lists) → is_some (grouped o) ≡ is_some o
given_grouped None = refl
given_grouped (Some ls) = refl

-- ---- rising stops

module _ (S : ℕ → Stop) where
  rising_least : (b a n : ℕ) → rising_from b (run S a n) ≡ true → (i : ℕ) → a ≤ i → i < a + n → b ≤ (S i).vertex.0
  unfolding rising_from run
  rising_least b a zero e i h k = absurd (omega arith)
  rising_least b a (suc n) e i h k =
      let rest = leb b (S a).vertex.0 && rising_from (suc (S a).vertex.0) (run S (suc a) n) in
      let t = and_right (is_stop (S a).obstacle) rest e in
      let u = leb-true b (S a).vertex.0 (and_left (leb b (S a).vertex.0) (rising_from (suc (S a).vertex.0) (run S (suc a) n)) t) in
      let r = and_right (leb b (S a).vertex.0) (rising_from (suc (S a).vertex.0) (run S (suc a) n)) t in
      by_cases (ℕ_discrete i a)
      (λ (z : i ≡ a). rw z u)
      (λ (d : i ≡ a → ⊥). let m : suc (S a).vertex.0 ≤ (S i).vertex.0 = rising_least (suc (S a).vertex.0) (suc a) n r i (omega (arith, d)) (omega arith) in omega arith)

  rising_next : (b a n : ℕ) → rising_from b (run S a n) ≡ true → (i j : ℕ) → a ≤ i → i < j → j < a + n → (S i).vertex.0 < (S j).vertex.0
  unfolding rising_from run
  rising_next b a zero e i j h k m = absurd (omega arith)
  rising_next b a (suc n) e i j h k m =
      let rest = leb b (S a).vertex.0 && rising_from (suc (S a).vertex.0) (run S (suc a) n) in
      let r = and_right (leb b (S a).vertex.0) (rising_from (suc (S a).vertex.0) (run S (suc a) n)) (and_right (is_stop (S a).obstacle) rest e) in
      by_cases (ℕ_discrete i a)
      (λ (z : i ≡ a). rw z (rising_least (suc (S a).vertex.0) (suc a) n r j (omega arith) (omega arith)))
      (λ (d : i ≡ a → ⊥). rising_next (suc (S a).vertex.0) (suc a) n r i j (omega (arith, d)) k (omega arith))

-- ---- j stops have come: l are listed and s pending, in the ledger's list and stops there; what is left to come decides the whole

pub record Counting (ws vs : List ℕ) (whole : Bool) (l s j : ℕ) : Type 0 where
  pub list : List Entry
  pub stops : List Stop
  pub few : length list ≡ l
  pub fewer : length stops ≡ s
  pub rest : whole ≡ is_some (add_stops (run (stop_at vs) j (stopped vs - j)) list stops)
  pub later : (i : ℕ) → j ≤ i → i < stopped vs → back_of (stop_at vs i).vertex.0 stops ≡ back_of (stop_at vs i).vertex.0 (stops_in ws)

module _ (ws vs : List ℕ) (a : Listing ws) (b : Listing vs) where
  abbrev whole : Bool
  whole = is_some (extended (group_in ws) (group_in vs))

  abbrev both : List Entry
  both = list_in ws ++ list_in vs

  pub both_long : length both ≡ listed ws + listed vs
  both_long = length-append (list_in ws) (list_in vs) ∙ ap₂ (λ (i j : ℕ). i + j) (run_long (entry_at ws) 0 (listed ws)) (run_long (entry_at vs) 0 (listed vs))

  pub whole_is : (o : Option Lists) → room_for both (stops_in ws) ≡ o → whole ≡ is_some (and_then o (add_stops (stops_in vs)))
  unfolding extended
  whole_is o e =
      ap₂ (λ (g h : Group). is_some (extended g h)) (seen_conflicts ws a.kind) (seen_conflicts vs b.kind)
      ∙ given_grouped (and_then (room_for both (stops_in ws)) (add_stops (stops_in vs)))
      ∙ ap (λ (p : Option Lists). is_some (and_then p (add_stops (stops_in vs)))) e

  pub count_full : 128 < listed ws + listed vs → false ≡ whole
  count_full h = sym (whole_is None (room_no both (stops_in ws) (omega (arith, both_long))))

  pub count_begin : listed ws + listed vs ≤ 128 → Counting ws vs whole (listed ws + listed vs) (stopped ws) 0
  count_begin h =
      let s = run_long (stop_at ws) 0 (stopped ws) in
      let z : stopped vs ≡ stopped vs - 0 = omega arith in
      record {
        list = both;
        stops = stops_in ws;
        few = both_long;
        fewer = s;
        rest = whole_is (Some (both, stops_in ws)) (room_yes both (stops_in ws) (omega (arith, both_long)) (omega (arith, s, a.fewer)))
            ∙ ap (λ (n : ℕ). is_some (add_stops (run (stop_at vs) 0 n) both (stops_in ws))) z;
        later = λ i p q. refl;
      }

  module _ (t : Bool) (l s j : ℕ) (C : Counting ws vs t l s j) where
    pub count_end : stopped vs ≤ j → true ≡ t
    unfolding run add_stops
    count_end h = let z : stopped vs - j ≡ 0 = omega arith in sym (C.rest ∙ ap (λ (n : ℕ). is_some (add_stops (run (stop_at vs) j n) C.list C.stops)) z)

    module _ (h : j < stopped vs) (d : ℕ) (e : d ≡ coming_in ws (stop_five vs j) (get_or vs (spot j) 0)) where
      abbrev x : Stop
      x = stop_at vs j

      abbrev xs : List Stop
      xs = run (stop_at vs) (j + 1) (stopped vs - (j + 1))

      next : run (stop_at vs) j (stopped vs - j) ≡ x ∷ xs
      unfolding run
      next = let z : stopped vs - j ≡ suc (stopped vs - (j + 1)) = omega arith in let y : suc j ≡ j + 1 = omega arith in ap (run (stop_at vs) j) z ∙ ap (λ (i : ℕ). x ∷ run (stop_at vs) i (stopped vs - (j + 1))) y

      kind_is : comes x (back_of x.vertex.0 C.stops) ≡ d
      kind_is =
          ap (comes x) (C.later j (omega arith) h)
          ∙ ap (λ (y : Stop). comes y (back_of y.vertex.0 (stops_in ws))) (other_is vs b j h)
          ∙ sym (coming_is ws (stop_five vs j) (get_or vs (spot j) 0) a (other_stop vs b j h))
          ∙ sym e

      gone : Came x C.list C.stops d
      gone = rw kind_is at (came x C.list C.stops)

      on : (o : Option Lists) → room_for gone.list gone.stops ≡ o → t ≡ is_some (and_then o (add_stops xs))
      unfolding add_stops
      on o r =
          C.rest
          ∙ ap (λ (q : List Stop). is_some (add_stops q C.list C.stops)) next
          ∙ ap (λ (p : Option Lists). is_some (and_then p (add_stops xs))) (gone.is ∙ r)

      long : length gone.list ≡ listed_by d l
      long = gone.listed ∙ ap (listed_by d) C.few

      short : length gone.stops ≡ stopped_by d s
      short = gone.stopped ∙ ap (stopped_by d) C.fewer

      module _ (l' s' : ℕ) (p : l' ≡ listed_by d l) (q : s' ≡ stopped_by d s) where
        pub list_full : 128 < l' → false ≡ t
        list_full g = sym (on None (room_no gone.list gone.stops (omega (arith, long, p))))

        pub stops_full : 128 < s' → false ≡ t
        stops_full g = sym (on None (room_short gone.list gone.stops (omega (arith, short, q))))

        pub count_turn : l' ≤ 128 → s' ≤ 128 → Counting ws vs t l' s' (j + 1)
        count_turn g k = record {
          list = gone.list;
          stops = gone.stops;
          few = long ∙ sym p;
          fewer = short ∙ sym q;
          rest = on (Some (gone.list, gone.stops)) (room_yes gone.list gone.stops (omega (arith, long, p)) (omega (arith, short, q)));
          later = λ i u v.
              gone.later (stop_at vs i).vertex.0 (rising_next (stop_at vs) 0 0 (stopped vs) (fine_of (list_in vs) (stops_in vs) b.sound).rises j i (omega arith) (omega arith) (omega arith))
              ∙ C.later i (omega arith) v;
        }
