-- What is left when a pop spares the stops: as the other pop leaves it where there is no list; else one entry fewer, and every other word. Assumes nothing.
use Rattle.std.specs.Prelude.{Option}
use Prim.Native.Nat.{ℕ, zero, suc, ◌+◌, ◌-◌, ◌*◌, ◌<◌, ◌≤◌}
use mathlib.Core.Path.{◌≡◌, refl, sym, ap, ap₂, ◌∙◌}
use mathlib.Core.Logic.{◌≢◌}
use mathlib.Core.Bool.{Bool, true, false, true≢false, ◌||◌}
use mathlib.Core.List.{List, [], ◌∷◌}
use native.Mathlib.Omega.{arith}
use borrow.Author.Tests.{eqb-true, eqb-false}
use lib.Dec.{eqb}
use lib.ListN.{get_or, set}
use lib.Seq.{sets, length-sets}
use Rattle.kinds.specs.declared.Obstacle.{Obstacle}
use Rattle.bench_words.specs.Codec.{pick}
use Rattle.ledger_spec.specs.Groups.{Group, growth, conflicts, last_of, all_but_last}
use Rattle.ledger_spec.specs.GroupCalls.{peek}
use Rattle.ledger_sparing.specs.Sparing.{spared, pop_sparing}
use Rattle.ledger_sparing.specs.Drain.{one_empty}
use Rattle.ledger_sparing.proofs.Pops.{taken, spared_list, spared_sound}
use Rattle.ledger_sparing.proofs.Agrees.{peek_serves, agree_where}
use Rattle.group_lent.specs.Forms.{length_of}
use Rattle.group_lent.specs.Groups.{entry_at, stop_at}
use Rattle.group_lent.specs.Place.{run, kind_in, length_in, flag_in, listed, stopped, list_in, stops_in, group_in, Listing, SoundGroup}
use Rattle.group_lent.proofs.Stores.{sets_out, sets_in, run_same, run_front, run_long}
use Rattle.group_lent.proofs.Seen.{Reads, out_reads, entry_same, entry_form_lem, stop_same, stop_form_lem, seen_conflicts, is_listing, to_listing}
use Rattle.group_lent_takes.specs.After.{top_five, popped_words}
use Rattle.group_lent_takes.specs.Made.{maybe_seen, Popped}
use Rattle.group_lent_takes.specs.declared.Top.{Top}
use Rattle.group_lent_spares.specs.Spares.{spared_words, Spared}

module _ (ws : List ℕ) where
  abbrev unlisted : Bool
  unlisted = eqb (kind_in ws) 1 || eqb (listed ws) 0

  -- ---- no list
  is_empty_lem : unlisted ≡ true → one_empty (group_in ws) ≡ true
  unfolding group_in one_empty run
  is_empty_lem t = go (eqb (kind_in ws) 1) (listed ws) t
    where
      go : (b : Bool) (n : ℕ) → (b || eqb n 0) ≡ true → one_empty (pick b (growth (length_of (length_in ws)) (eqb (flag_in ws) 1)) (conflicts (run (entry_at ws) 0 n) (stops_in ws))) ≡ true
      go true n t = refl
      go false zero t = refl
      go false (suc n) t = absurd (omega (arith, eqb-true (suc n) 0 t))

  pub spared_none : unlisted ≡ true → (r : Top) (after : List ℕ) → Popped ws r after → Spared ws r after
  unfolding spared_words
  spared_none t r after P = record {
    top = P.top;
    words = P.words ∙ sym (ap (λ (b : Bool). pick b (popped_words ws) (set ws 3 (listed ws - 1))) t);
    seen = P.seen ∙ sym (agree_where (group_in ws) (is_empty_lem t));
    sound = P.sound;
    refused = P.refused;
  }

  -- ---- one entry fewer
  both_no : (a b : Bool) → (a || b) ≡ false → (a ≡ false) × (b ≡ false)
  both_no true b e = absurd (true≢false e)
  both_no false b e = (refl, e)

  module _ (s : SoundGroup ws) (t : unlisted ≡ false) where
    abbrev l : Listing ws
    l = is_listing ws s (eqb-false (kind_in ws) 1 (both_no (eqb (kind_in ws) 1) (eqb (listed ws) 0) t).0)

    pub some_listed : 0 < listed ws
    some_listed = let n : listed ws ≢ 0 = eqb-false (listed ws) 0 (both_no (eqb (kind_in ws) 1) (eqb (listed ws) 0) t).1 in omega (arith, n)

    abbrev count : List ℕ
    count = (listed ws - 1) ∷ []

    abbrev left : List ℕ
    left = sets ws 3 count

    counted : listed left ≡ listed ws - 1
    counted = sets_in ws 3 count 0 3 refl (omega arith) (omega (arith, s.long))

    word : (j : ℕ) → (3 ≤ j → 4 ≤ j) → get_or left j 0 ≡ get_or ws j 0
    word j h = sets_out ws 3 count j h

    entry : (i : ℕ) → Reads ws (5 + i * 5) left (5 + i * 5) 5
    entry i = out_reads ws 3 count (5 + i * 5) 5 (λ g. omega arith)

    stop : (i : ℕ) → Reads ws (645 + i * 6) left (645 + i * 6) 6
    stop i = out_reads ws 3 count (645 + i * 6) 6 (λ g. omega arith)

    four : stopped left ≡ stopped ws
    four = word 4 (λ g. omega arith)

    list_left : list_in left ≡ all_but_last (list_in ws)
    unfolding run all_but_last
    list_left =
        ap (run (entry_at left) 0) counted
        ∙ run_same (entry_at left) (entry_at ws) 0 (listed ws - 1) (λ i a b. entry_same ws left i (entry i))
        ∙ go (listed ws)
      where
        go : (i : ℕ) → run (entry_at ws) 0 (i - 1) ≡ all_but_last (run (entry_at ws) 0 i)
        go zero = refl
        go (suc i) = let z : suc i - 1 ≡ i = omega arith in ap (run (entry_at ws) 0) z ∙ sym (run_front (entry_at ws) 0 i)

    stops_left : stops_in left ≡ stops_in ws
    stops_left = ap (run (stop_at left) 0) four ∙ run_same (stop_at left) (stop_at ws) 0 (stopped ws) (λ i a b. stop_same ws left i i (stop i))

    goes : spared (list_in ws) (stops_in ws) ≡ conflicts (all_but_last (list_in ws)) (stops_in ws)
    goes = spared_list (list_in ws) (stops_in ws) (omega (arith, some_listed, run_long (entry_at ws) 0 (listed ws)))

    left_sound : SoundGroup left
    left_sound =
        to_listing left (spared (list_in ws) (stops_in ws))
        (length-sets ws 3 count ∙ s.long)
        (word 0 (λ g. absurd (omega arith)) ∙ l.kind)
        (word 1 (λ g. absurd (omega arith)) ∙ l.plain)
        (word 2 (λ g. absurd (omega arith)) ∙ l.blank)
        (omega (arith, counted, l.few))
        (omega (arith, four, l.fewer))
        (λ i h. entry_form_lem ws left i (entry i) (l.list i (omega (arith, h, counted))))
        (λ i h. stop_form_lem ws left i i (stop i) (l.stops i (omega (arith, h, four))))
        (ap₂ conflicts list_left stops_left ∙ sym goes)
        (spared_sound (list_in ws) (stops_in ws) l.sound)

    turn : pop_sparing (group_in ws) ≡ (0, (last_of (list_in ws) (stops_in ws), conflicts (all_but_last (list_in ws)) (stops_in ws)))
    turn = ap pop_sparing (seen_conflicts ws l.kind) ∙ taken (list_in ws) (stops_in ws) l.sound ∙ ap (λ (q : Group). (0, (last_of (list_in ws) (stops_in ws), q))) goes

    pub spared_list_less : (r : Top) → r.obstacle ≡ top_five ws → (r.number, maybe_seen r.obstacle) ≡ peek (group_in ws) → Spared ws r (set ws 3 (listed ws - 1))
    unfolding spared_words
    spared_list_less r e p =
        let a = p ∙ sym (peek_serves (group_in ws)) in
        let q : group_in left ≡ (pop_sparing (group_in ws)).1.1 = seen_conflicts left (word 0 (λ g. absurd (omega arith)) ∙ l.kind) ∙ ap₂ conflicts list_left stops_left ∙ sym (ap (λ (t : ℕ × (Option Obstacle × Group)). t.1.1) turn) in
        record {
          top = e;
          words = sym (ap (λ (b : Bool). pick b (popped_words ws) (set ws 3 (listed ws - 1))) t);
          seen = λ i. ((a i).0, ((a i).1, q i));
          sound = left_sound;
          refused = λ n. absurd (n ((λ i. (a i).0) ∙ ap (λ (t : ℕ × (Option Obstacle × Group)). t.0) turn));
        }
