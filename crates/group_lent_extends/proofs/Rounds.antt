-- The other's stops come one after the other: what is left to add to the words so far is what was to be added at first. Assumes nothing.
use Rattle.std.specs.Prelude.{None, Option, Some}
use Prim.Native.Nat.{ℕ, suc, ◌+◌, ◌-◌, ◌<◌, ◌≤◌}
use mathlib.Core.Path.{◌≡◌, refl, sym, ap, ap₂, ◌∙◌}
use mathlib.Core.Bool.{true, false≢true, ◌&&◌}
use borrow.Author.Tests.{ltb-true}
use mathlib.Core.Logic.{◌⊎◌, inl, inr}
use mathlib.Core.List.{List, ◌∷◌}
use native.Mathlib.Omega.{arith}
use lib.Dec.{eqb, ltb}
use lib.ListN.{get_or}
use Rattle.kinds.specs.declared.Entry.{Entry}
use Rattle.kinds.specs.declared.Stop.{Stop}
use Rattle.ledger_spec.specs.Tests.{is_some}
use Rattle.ledger_spec.specs.Groups.{Group, growth, conflicts, Lists, add_stop, grouped, and_then, add_stops, added}
use Rattle.ledger_spec.specs.GroupCalls.{or_else}
use Rattle.group_lent.specs.Forms.{length_of, is_form, obstacle_of}
use Rattle.group_lent.specs.Groups.{stop_read, stop_form, stop_at}
use Rattle.group_lent.specs.Place.{run, kind_in, length_in, flag_in, stopped, list_in, stops_in, group_in, Growing, Listing, SoundGroup}
use Rattle.group_lent.proofs.Stores.{and_left, and_right}
use Rattle.group_lent.proofs.Seen.{seen_growth, seen_conflicts}
use Rattle.group_lent.specs.declared.Five.{Five}
use Rattle.group_lent_takes.specs.Made.{Added}
use Rattle.group_lent_stops.specs.Stops.{spot, stop_five, stop_out}
use Rattle.group_lent_stops.proofs.Changes.{stop_of}
use Rattle.group_lent_stops.proofs.Stopping.{to_conflicts}
use Rattle.group_lent_room.proofs.Words.{other_stop, other_is}
use Rattle.group_lent_extends.specs.Extends.{stops_added}
use Rattle.group_lent_extends.specs.Stages.{Ended}

-- j of them have come
pub record Coming (ws vs w : List ℕ) (j : ℕ) : Type 0 where
  pub sound : SoundGroup w
  pub kind : kind_in w ≡ 2
  pub words : stops_added ws vs 0 (stopped vs) ≡ stops_added w vs j (stopped vs - j)
  pub rest : add_stops (stops_in vs) (list_in ws) (stops_in ws) ≡ add_stops (run (stop_at vs) j (stopped vs - j)) (list_in w) (stops_in w)

-- words that say conflicts are conflicts, and say which
module _ (w : List ℕ) (l : List Entry) (s : List Stop) (h : SoundGroup w) (e : group_in w ≡ conflicts l s) where
  same_kind : kind_in w ≡ 2
  same_kind = go h.either
    where
      go : Growing w ⊎ Listing w → kind_in w ≡ 2
      go (inl g) = let q : growth (length_of (length_in w)) (eqb (flag_in w) 1) ≡ conflicts l s = sym (seen_growth w g.kind) ∙ e in let z : ◌≡◌ {A = ℕ} 0 1 = cc in absurd (omega arith)
      go (inr k) = k.kind

  same_lists : (list_in w ≡ l) × (stops_in w ≡ s)
  same_lists = let q : conflicts (list_in w) (stops_in w) ≡ conflicts l s = sym (seen_conflicts w same_kind) ∙ e in (cc, cc)

module _ (ws vs : List ℕ) (b : Listing vs) where
  pub come_begin : SoundGroup ws → kind_in ws ≡ 2 → Coming ws vs ws 0
  come_begin s k =
      let z : stopped vs ≡ stopped vs - 0 = omega arith in
      record {
        sound = s;
        kind = k;
        words = ap (stops_added ws vs 0) z;
        rest = ap (λ (n : ℕ). add_stops (run (stop_at vs) 0 n) (list_in ws) (stops_in ws)) z;
      }

  -- stop i of the other, by its words
  module _ (i : ℕ) (h : i < stopped vs) where
    pub other_form : is_form (stop_five vs i) ≡ true
    unfolding stop_form stop_read
    other_form = and_right (ltb (get_or vs (spot i) 0) 4294967296) (is_form (stop_five vs i)) (b.stops i h)

    pub other_low : get_or vs (spot i) 0 < 4294967296
    unfolding stop_form stop_read
    other_low = low_of (b.stops i h)
      where
        low_of : (ltb (get_or vs (spot i) 0) 4294967296 && is_form (stop_five vs i)) ≡ true → get_or vs (spot i) 0 < 4294967296
        low_of e = ltb-true (get_or vs (spot i) 0) 4294967296 (and_left (ltb (get_or vs (spot i) 0) 4294967296) (is_form (stop_five vs i)) e)

  module _ (w : List ℕ) (j : ℕ) (C : Coming ws vs w j) where
    pub come_end : stopped vs ≤ j → Ended ws vs w
    unfolding run add_stops stops_added
    come_end h =
        let z : stopped vs - j ≡ 0 = omega arith in
        record {
          words = sym (C.words ∙ ap (stops_added w vs j) z);
          seen = ap grouped (C.rest ∙ ap (λ (n : ℕ). add_stops (run (stop_at vs) j n) (list_in w) (stops_in w)) z) ∙ sym (ap Some (seen_conflicts w C.kind));
          sound = C.sound;
        }

    module _ (room : is_some (add_stops (stops_in vs) (list_in ws) (stops_in ws)) ≡ true) (h : j < stopped vs) where
      abbrev f : Five
      f = stop_five vs j

      abbrev v : ℕ
      v = get_or vs (spot j) 0

      abbrev x : Stop
      x = stop_of f v

      abbrev xs : List Stop
      xs = run (stop_at vs) (j + 1) (stopped vs - (j + 1))

      next : run (stop_at vs) j (stopped vs - j) ≡ x ∷ xs
      unfolding run
      next =
          let z : stopped vs - j ≡ suc (stopped vs - (j + 1)) = omega arith in
          let y : suc j ≡ j + 1 = omega arith in
          ap (run (stop_at vs) j) z ∙ ap₂ (λ (s : Stop) (i : ℕ). s ∷ run (stop_at vs) i (stopped vs - (j + 1))) (other_is vs b j h) y

      goes : add_stops (stops_in vs) (list_in ws) (stops_in ws) ≡ and_then (add_stop x (list_in w) (stops_in w)) (add_stops xs)
      unfolding add_stops
      goes = C.rest ∙ ap (λ (q : List Stop). add_stops q (list_in w) (stops_in w)) next

      says : added (group_in w) (obstacle_of f) v ≡ grouped (add_stop x (list_in w) (stops_in w))
      unfolding added
      says = ap (λ (g : Group). added g (obstacle_of f) v) (seen_conflicts w C.kind) ∙ to_conflicts (list_in w) (stops_in w) (obstacle_of f) v (other_stop vs b j h)

      words_next : stops_added w vs j (stopped vs - j) ≡ stops_added (stop_out w f v).1 vs (j + 1) (stopped vs - (j + 1))
      unfolding stops_added
      words_next =
          let z : stopped vs - j ≡ suc (stopped vs - (j + 1)) = omega arith in
          let y : suc j ≡ j + 1 = omega arith in
          ap (stops_added w vs j) z ∙ ap (λ (i : ℕ). stops_added (stop_out w f v).1 vs i (stopped vs - (j + 1))) y

      module _ (r : ℕ) (after : List ℕ) (A : Added f v w (stop_out w f v).1 r after) where
        came_by : (o : Option Lists) → add_stop x (list_in w) (stops_in w) ≡ o → Coming ws vs after (j + 1)
        came_by None e = absurd (false≢true (sym (ap is_some (goes ∙ ap (λ (p : Option Lists). and_then p (add_stops xs)) e)) ∙ room))
        came_by (Some ls) e =
            let g : group_in after ≡ conflicts ls.0 ls.1 = A.seen ∙ ap (λ (p : Option Group). or_else p (group_in w)) (says ∙ ap grouped e) in
            let both = same_lists after ls.0 ls.1 A.sound g in
            record {
              sound = A.sound;
              kind = same_kind after ls.0 ls.1 A.sound g;
              words = C.words ∙ words_next ∙ ap (λ (q : List ℕ). stops_added q vs (j + 1) (stopped vs - (j + 1))) (sym A.words);
              rest = goes ∙ ap (λ (p : Option Lists). and_then p (add_stops xs)) e ∙ sym (ap₂ (add_stops xs) both.0 both.1);
            }

        pub come_turn : Coming ws vs after (j + 1)
        come_turn = came_by (add_stop x (list_in w) (stops_in w)) refl
