-- THEOREM: the words that extending leaves hold the ledger's group extended by the other, and its number. By the kinds of the two. Assumes nothing.
use Rattle.std.specs.Prelude.{None, Option, Some}
use Prim.Native.Nat.{ℕ, ◌+◌, ◌<◌, ◌≤◌}
use mathlib.Core.Path.{◌≡◌, refl, sym, ap, ap₂, ◌∙◌, subst}
use mathlib.Core.Bool.{Bool, true, false, false≢true, cond}
use mathlib.Core.Logic.{by_cases}
use mathlib.Core.List.{List, ◌++◌}
use native.Mathlib.Decide.{dec_lt}
use native.Mathlib.Omega.{arith}
use borrow.Author.Tests.{eq-eqb, ne_eqb}
use lib.Dec.{eqb}
use Rattle.bench_words.specs.Codec.{pick}
use Rattle.ledger_spec.specs.Tests.{is_some}
use Rattle.ledger_spec.specs.Groups.{Group, growth, conflicts, Lists, largest, eq_z, smaller_pair, grouped, and_then, add_stops, extended}
use Rattle.ledger_spec.specs.GroupCalls.{or_else}
use Rattle.group_lent.specs.Forms.{length_of}
use Rattle.group_lent.specs.Place.{kind_in, length_in, flag_in, listed, stopped, list_in, stops_in, group_in, Listing, SoundGroup}
use Rattle.group_lent.proofs.Stores.{run_long}
use Rattle.group_lent.specs.Groups.{stop_at}
use Rattle.group_lent.proofs.Seen.{seen_growth, seen_conflicts, is_growing, is_listing}
use Rattle.group_lent_room.proofs.Counting.{count_full, room_yes, given_grouped, both_long}
use Rattle.group_lent_extends.specs.Extends.{paired_words, taken_words, appended_words, stops_added, extended_words, Extended}
use Rattle.group_lent_extends.specs.Stages.{Roomy, Ended}
use Rattle.group_lent_extends.proofs.Pairs.{paired_seen, paired_sound}
use Rattle.group_lent_extends.proofs.Takes.{taken_seen, taken_sound}
use Rattle.group_lent_extends.proofs.Appends.{appended_kind, appended_list, appended_stops, appended_sound}

-- the promise, by the ledger's answer q
made : (ws vs : List ℕ) (r : ℕ) (after : List ℕ) → ((r ≡ 0 → ⊥) → after ≡ ws) → (q : Option Group) → extended (group_in ws) (group_in vs) ≡ q → r ≡ pick (is_some q) 0 20 → after ≡ extended_words ws vs
    → group_in after ≡ or_else q (group_in ws) → SoundGroup after → Extended ws vs r after
made ws vs r after k q e n w s d =
    record {
      number = n ∙ sym (ap (λ (o : Option Group). pick (is_some o) 0 20) e);
      words = w;
      seen = s ∙ sym (ap (λ (o : Option Group). or_else o (group_in ws)) e);
      sound = d;
      refused = k;
    }

module _ (ws vs : List ℕ) (s : SoundGroup ws) (t : SoundGroup vs) where
  abbrev mine : Group
  mine = growth (length_of (length_in ws)) (eqb (flag_in ws) 1)

  abbrev theirs : Group
  theirs = growth (length_of (length_in vs)) (eqb (flag_in vs) 1)

  -- ---- by a growth
  module _ (e : kind_in vs ≡ 1) where
    pub by_pair_lem : kind_in ws ≡ 1 → (after : List ℕ) → after ≡ paired_words ws vs → Extended ws vs 0 after
    unfolding extended extended_words
    by_pair_lem d after w =
        let least = cond (eq_z (length_of (length_in vs)) largest) mine (smaller_pair (length_of (length_in ws)) (eqb (flag_in ws) 1) (length_of (length_in vs)) (eqb (flag_in vs) 1)) in
        made ws vs 0 after (λ n. absurd (n refl)) (Some least) (ap₂ extended (seen_growth ws d) (seen_growth vs e)) refl
        (w ∙ rw (eq-eqb (kind_in vs) 1 e, eq-eqb (kind_in ws) 1 d))
        (ap group_in w ∙ paired_seen ws vs s.long (is_growing ws s d) (is_growing vs t e))
        (subst SoundGroup (sym w) (paired_sound ws vs s.long (is_growing ws s d) (is_growing vs t e)))

    pub by_none : (kind_in ws ≡ 1 → ⊥) → Extended ws vs 0 ws
    unfolding extended extended_words
    by_none n =
        let l = is_listing ws s n in
        made ws vs 0 ws (λ n. absurd (n refl)) (Some (conflicts (list_in ws) (stops_in ws))) (ap₂ extended (seen_conflicts ws l.kind) (seen_growth vs e)) refl
        (rw (eq-eqb (kind_in vs) 1 e, ne_eqb (kind_in ws) 1 n)) (seen_conflicts ws l.kind) s

  -- ---- by conflicts
  module _ (m : kind_in vs ≡ 1 → ⊥) where
    abbrev b : Listing vs
    b = is_listing vs t m

    pub by_taking : kind_in ws ≡ 1 → (after : List ℕ) → after ≡ taken_words ws vs → Extended ws vs 0 after
    unfolding extended extended_words
    by_taking d after w =
        made ws vs 0 after (λ n. absurd (n refl)) (Some (conflicts (list_in vs) (stops_in vs))) (ap₂ extended (seen_growth ws d) (seen_conflicts vs b.kind)) refl
        (w ∙ rw (ne_eqb (kind_in vs) 1 m, eq-eqb (kind_in ws) 1 d))
        (ap group_in w ∙ taken_seen ws vs s.long t.long b)
        (subst SoundGroup (sym w) (taken_sound ws vs s.long t.long b))

    module _ (n : kind_in ws ≡ 1 → ⊥) where
      abbrev a : Listing ws
      a = is_listing ws s n

      abbrev whole : Option Group
      whole = extended (group_in ws) (group_in vs)

      words_are : (r : Bool) → is_some whole ≡ r → extended_words ws vs ≡ pick r (stops_added (appended_words ws vs) vs 0 (stopped vs)) ws
      unfolding extended_words
      words_are r g = rw (ne_eqb (kind_in vs) 1 m, ne_eqb (kind_in ws) 1 n) (ap (λ (q : Bool). pick q (stops_added (appended_words ws vs) vs 0 (stopped vs)) ws) g)

      -- no room
      pub by_room : (r : Bool) → r ≡ is_some whole → r ≡ false → Extended ws vs 20 ws
      by_room r e f = go whole refl (sym e ∙ f)
        where
          go : (o : Option Group) → whole ≡ o → is_some whole ≡ false → Extended ws vs 20 ws
          go None p g = made ws vs 20 ws (λ n. refl) None p refl (sym (words_are false g)) refl s
          go (Some q) p g = absurd (false≢true (sym g ∙ ap is_some p))

      module _ (r : Bool) (e : r ≡ is_some whole) (f : r ≡ true) where
        yes : is_some whole ≡ true
        yes = sym e ∙ f

        pub fits : listed ws + listed vs ≤ 128
        fits =
            by_cases (dec_lt 128 (listed ws + listed vs))
            (λ (h : 128 < listed ws + listed vs). absurd (false≢true (count_full ws vs a b h ∙ yes)))
            (λ (h : 128 < listed ws + listed vs → ⊥). omega (arith, h))

        abbrev more : List ℕ
        more = appended_words ws vs

        whole_adds : whole ≡ grouped (add_stops (stops_in vs) (list_in ws ++ list_in vs) (stops_in ws))
        unfolding extended
        whole_adds =
            ap₂ extended (seen_conflicts ws a.kind) (seen_conflicts vs b.kind)
            ∙ ap (λ (o : Option Lists). grouped (and_then o (add_stops (stops_in vs))))
            (room_yes (list_in ws ++ list_in vs) (stops_in ws) (omega (arith, both_long ws vs a b, fits)) (omega (arith, run_long (stop_at ws) 0 (stopped ws), a.fewer)))

        adds : grouped (add_stops (stops_in vs) (list_in more) (stops_in more)) ≡ whole
        adds =
            ap₂ (λ l t. grouped (add_stops (stops_in vs) l t)) (appended_list ws vs s.long t.long a b fits) (appended_stops ws vs s.long t.long a b fits)
            ∙ sym whole_adds

        pub by_roomy : (w : List ℕ) → w ≡ more → Roomy w vs
        by_roomy w q =
            subst (λ (u : List ℕ). Roomy u vs) (sym q)
            (record {
              sound = appended_sound ws vs s.long t.long a b fits;
              kind = appended_kind ws vs s.long t.long a b fits;
              room = sym (given_grouped (add_stops (stops_in vs) (list_in more) (stops_in more))) ∙ ap is_some adds ∙ yes;
            })

        pub by_adding : (w after : List ℕ) → w ≡ more → Ended w vs after → Extended ws vs 0 after
        by_adding w after q E =
            let end : Ended more vs after = subst (λ (u : List ℕ). Ended u vs after) q E in
            let says : whole ≡ Some (group_in after) = sym adds ∙ end.seen in
            made ws vs 0 after (λ n. absurd (n refl)) (Some (group_in after)) says refl (end.words ∙ sym (words_are true yes)) refl end.sound
