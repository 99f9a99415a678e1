-- What stands on top of conflicts, and what is left when it goes: the last entry and the first stop. Assumes nothing.
use Rattle.std.specs.Prelude.{None, Option, Some}
use Prim.Native.Nat.{ℕ, zero, suc, ◌+◌, ◌-◌, ◌*◌, ◌<◌, ◌≤◌}
use mathlib.Core.Path.{◌≡◌, refl, sym, ap, ap₂, ◌∙◌, subst}
use mathlib.Core.Bool.{Bool, true, false, false≢true, not}
use mathlib.Core.List.{List, [], ◌∷◌}
use native.Mathlib.Omega.{arith}
use borrow.Author.Tests.{ne_eqb}
use lib.Dec.{eqb, ltb}
use lib.IntN.{ℤ}
use lib.ListN.{length, drop, get_or, set}
use lib.Seq.{sets, length-sets}
use Rattle.kinds.specs.declared.Entry.{Entry}
use Rattle.kinds.specs.declared.Stop.{Stop}
use Rattle.kinds.specs.declared.Obstacle.{Obstacle}
use Rattle.ledger_spec.specs.Tests.{first}
use Rattle.ledger_spec.specs.Reads.{said}
use Rattle.ledger_spec.specs.Groups.{Group, growth, conflicts, sound_group, last_of, all_but_last, popped}
use Rattle.ledger_spec.specs.GroupCalls.{take_tests, peek, pop}
use Rattle.ledger_laws.proofs.GroupSound.{popped_sound}
use Rattle.group_lent.specs.Forms.{length_of, five, five_at, is_form, obstacle_of}
use Rattle.group_lent.specs.Groups.{entry_form, entry_at, stop_read, stop_form, stop_at}
use Rattle.group_lent.specs.declared.Five.{Five}
use Rattle.group_lent.proofs.Stores.{and_right, sets_out, sets_in, run_same, run_next, run_front, run_top}
use Rattle.group_lent.specs.Place.{run, kind_in, length_in, flag_in, listed, stopped, list_in, stops_in, group_in, Listing, SoundGroup}
use Rattle.group_lent_takes.specs.After.{top_by, top_five, popped_words}
use Rattle.group_lent.specs.Moves.{slid}
use Rattle.group_lent_takes.specs.declared.Top.{Top}
use Rattle.group_lent_takes.specs.Made.{maybe_seen, Popped}
use Rattle.group_lent.proofs.Seen.{Reads, out_reads, then_reads, entry_same, entry_form_lem, stop_same, stop_form_lem, seen_growth, seen_conflicts, is_listing, to_listing}
use Rattle.group_lent.proofs.Slides.{slid_long, slid_reads, slid_apart}

-- ---- the ledger's peek and pop, by kind

module _ (q : Group) (a : ℤ) (f : Bool) (k : q ≡ growth a f) where
  pub peek_growth : (10, None) ≡ peek q
  unfolding peek take_tests first said sound_group
  peek_growth = sym (ap peek k)

  pub pop_growth : (10, (None, q)) ≡ pop q
  unfolding pop take_tests first said sound_group
  pop_growth = rw k

module _ (q : Group) (l : List Entry) (s : List Stop) (k : q ≡ conflicts l s) (sound : sound_group (conflicts l s) ≡ true) where
  pub peek_conflicts : (0, last_of l s) ≡ peek q
  unfolding peek take_tests first said
  peek_conflicts = sym (ap peek k ∙ ap (λ (b : Bool). said (first ((not b, 2) ∷ (false, 10) ∷ [])) (last_of l s) None) sound)

  pub pop_conflicts : (0, (last_of l s, popped l s)) ≡ pop q
  unfolding pop take_tests first said
  pop_conflicts = sym (ap pop k ∙ ap (λ (b : Bool). said (first ((not b, 2) ∷ (false, 10) ∷ [])) (last_of l s, popped l s) (None, conflicts l s)) sound)

-- ---- on top

-- an obstacle's words begin with no 0
form_kind : (f : Five) → is_form f ≡ true → eqb f.kind 0 ≡ false
unfolding is_form
form_kind f e = ne_eqb f.kind 0 (λ z. false≢true (rw z at e))

some_seen : (f : Five) → is_form f ≡ true → maybe_seen f ≡ Some (obstacle_of f)
some_seen f e = rw (form_kind f e)

module _ (ws : List ℕ) (l : Listing ws) where
  top_seen : (n m : ℕ) → listed ws ≡ n → stopped ws ≡ m → maybe_seen (top_by n m ws) ≡ last_of (run (entry_at ws) 0 n) (run (stop_at ws) 0 m)
  unfolding top_by last_of run entry_form entry_at stop_form stop_at stop_read
  top_seen (suc n) m e d =
      some_seen (five_at ws (5 + n * 5)) (l.list n (omega (arith, e)))
      ∙ sym (run_top (entry_at ws) (run (stop_at ws) 0 m) 0 n n (omega arith))
  top_seen zero (suc m) e d = some_seen (five_at ws 646) (and_right (ltb (get_or ws 645 0) 4294967296) (is_form (five_at ws 646)) (l.stops 0 (omega (arith, d))))
  top_seen zero zero e d = refl

  pub top_is : maybe_seen (top_by (listed ws) (stopped ws) ws) ≡ last_of (list_in ws) (stops_in ws)
  top_is = top_seen (listed ws) (stopped ws) refl refl

module _ (ws : List ℕ) (s : SoundGroup ws) where
  -- which words are on top
  pub top_growth : kind_in ws ≡ 1 → five 0 0 0 0 0 ≡ top_five ws
  unfolding top_five
  top_growth e = rw e

  module _ (n : kind_in ws ≡ 1 → ⊥) where
    pub top_conflicts : top_five ws ≡ top_by (listed ws) (stopped ws) ws
    unfolding top_five
    top_conflicts = rw (ne_eqb (kind_in ws) 1 n)

    pub top_entry : 0 < listed ws → (f : Five) → f ≡ five_at ws (listed ws * 5) → f ≡ top_five ws
    unfolding top_by
    top_entry h f e = e ∙ sym (top_conflicts ∙ go (listed ws) h)
      where
        go : (i : ℕ) → 0 < i → top_by i (stopped ws) ws ≡ five_at ws (i * 5)
        go zero k = absurd (omega arith)
        go (suc i) k = let z : 5 + i * 5 ≡ suc i * 5 = omega arith in ap (five_at ws) z

    pub top_stop : listed ws ≤ 0 → 0 < stopped ws → (f : Five) → f ≡ five_at ws 646 → f ≡ top_five ws
    unfolding top_by
    top_stop h k f e = e ∙ sym (top_conflicts ∙ go (listed ws) (stopped ws) h k)
      where
        go : (i j : ℕ) → i ≤ 0 → 0 < j → top_by i j ws ≡ five_at ws 646
        go zero zero a b = absurd (omega arith)
        go zero (suc j) a b = refl
        go (suc i) j a b = absurd (omega arith)

    pub top_none : listed ws ≤ 0 → stopped ws ≤ 0 → five 0 0 0 0 0 ≡ top_five ws
    unfolding top_by
    top_none h k = sym (top_conflicts ∙ go (listed ws) (stopped ws) h k)
      where
        go : (i j : ℕ) → i ≤ 0 → j ≤ 0 → top_by i j ws ≡ five 0 0 0 0 0
        go zero zero a b = refl
        go zero (suc j) a b = absurd (omega arith)
        go (suc i) j a b = absurd (omega arith)

  -- what peek says of them
  module _ (f : Five) (t : f ≡ top_five ws) where
    pub peek_refused : kind_in ws ≡ 1 → (10, maybe_seen f) ≡ peek (group_in ws)
    peek_refused e =
        ap (λ (g : Five). (10, maybe_seen g)) (t ∙ sym (top_growth e))
        ∙ peek_growth (group_in ws) (length_of (length_in ws)) (eqb (flag_in ws) 1) (seen_growth ws e)

    seen_top : (n : kind_in ws ≡ 1 → ⊥) → maybe_seen f ≡ last_of (list_in ws) (stops_in ws)
    seen_top n = ap maybe_seen (t ∙ top_conflicts n) ∙ top_is ws (is_listing ws s n)

    pub peek_made : (kind_in ws ≡ 1 → ⊥) → (0, maybe_seen f) ≡ peek (group_in ws)
    peek_made n =
        let l = is_listing ws s n in
        ap (λ (o : Option Obstacle). (0, o)) (seen_top n)
        ∙ peek_conflicts (group_in ws) (list_in ws) (stops_in ws) (seen_conflicts ws l.kind) l.sound

    refused : kind_in ws ≡ 1 → Popped ws (record { number = 10; obstacle = f }) ws
    unfolding popped_words
    refused e = record {
      top = t;
      words = rw e;
      seen = ap (λ (g : Five). (10, (maybe_seen g, group_in ws))) (t ∙ sym (top_growth e)) ∙ pop_growth (group_in ws) (length_of (length_in ws)) (eqb (flag_in ws) 1) (seen_growth ws e);
      sound = s;
      refused = λ n. refl;
    }

    -- ---- and what is left
    module _ (n : kind_in ws ≡ 1 → ⊥) where
      abbrev l : Listing ws
      l = is_listing ws s n

      abbrev k : ℕ
      k = (stopped ws - 1) * 6

      abbrev down : List ℕ
      down = slid ws 645 k

      abbrev counts : List ℕ
      counts = (listed ws - 1) ∷ (stopped ws - 1) ∷ []

      abbrev left : List ℕ
      left = sets down 3 counts

      room : 645 + 6 + k ≤ length ws
      room = omega (arith, s.long, l.fewer)

      counted : (j i : ℕ) → i ≡ 3 + j → j < 2 → get_or left i 0 ≡ get_or counts j 0
      counted j i e h = sets_in down 3 counts j i e h (rw (slid_long ws 645 k room) (omega (arith, s.long)))

      word : (j : ℕ) → j < 3 → get_or left j 0 ≡ get_or ws j 0
      word j h = sets_out down 3 counts j (λ g. absurd (omega arith)) ∙ slid_apart ws 645 k room j 1 (λ g. absurd (omega arith)) 0 j j (omega arith) (omega arith) (omega arith)

      old : (i : ℕ) → i < listed ws - 1 → Reads ws (5 + i * 5) left (5 + i * 5) 5
      old i h =
          then_reads ws down left (5 + i * 5) (5 + i * 5) (5 + i * 5) 5
          (slid_apart ws 645 k room (5 + i * 5) 5 (λ g. absurd (omega (arith, l.few))))
          (out_reads down 3 counts (5 + i * 5) 5 (λ g. omega arith))

      next : (i : ℕ) → i < stopped ws - 1 → Reads ws (645 + suc i * 6) left (645 + i * 6) 6
      next i h =
          let z : 645 + i * 6 + 6 ≡ 645 + suc i * 6 = omega arith in
          then_reads ws down left (645 + suc i * 6) (645 + i * 6) (645 + i * 6) 6
          (rw z at (slid_reads ws 645 k room (645 + i * 6) 6 (omega arith) (omega arith)))
          (out_reads down 3 counts (645 + i * 6) 6 (λ g. omega arith))

      list_left : list_in left ≡ all_but_last (list_in ws)
      unfolding run all_but_last
      list_left =
          ap (run (entry_at left) 0) (counted 0 3 refl (omega arith))
          ∙ run_same (entry_at left) (entry_at ws) 0 (listed ws - 1) (λ i a b. entry_same ws left i (old i (omega arith)))
          ∙ go (listed ws)
        where
          go : (i : ℕ) → run (entry_at ws) 0 (i - 1) ≡ all_but_last (run (entry_at ws) 0 i)
          go zero = refl
          go (suc i) = let z : suc i - 1 ≡ i = omega arith in ap (run (entry_at ws) 0) z ∙ sym (run_front (entry_at ws) 0 i)

      stops_left : stops_in left ≡ drop 1 (stops_in ws)
      unfolding run
      stops_left =
          ap (run (stop_at left) 0) (counted 1 4 refl (omega arith))
          ∙ run_same (stop_at left) (λ i. stop_at ws (suc i)) 0 (stopped ws - 1) (λ i a b. stop_same ws left (suc i) i (next i (omega arith)))
          ∙ go (stopped ws)
        where
          go : (i : ℕ) → run (λ j. stop_at ws (suc j)) 0 (i - 1) ≡ drop 1 (run (stop_at ws) 0 i)
          go zero = refl
          go (suc i) = let z : suc i - 1 ≡ i = omega arith in ap (run (λ j. stop_at ws (suc j)) 0) z ∙ sym (run_next (stop_at ws) 0 i)

      left_sound : SoundGroup left
      left_sound =
          to_listing left (popped (list_in ws) (stops_in ws))
          (length-sets down 3 counts ∙ slid_long ws 645 k room ∙ s.long)
          (word 0 (omega arith) ∙ l.kind)
          (word 1 (omega arith) ∙ l.plain)
          (word 2 (omega arith) ∙ l.blank)
          (omega (arith, counted 0 3 refl (omega arith), l.few))
          (omega (arith, counted 1 4 refl (omega arith), l.fewer))
          (λ i h. let z : i < listed ws - 1 = omega (arith, counted 0 3 refl (omega arith)) in entry_form_lem ws left i (old i z) (l.list i (omega arith)))
          (λ i h. let z : i < stopped ws - 1 = omega (arith, counted 1 4 refl (omega arith)) in stop_form_lem ws left (suc i) i (next i z) (l.stops (suc i) (omega arith)))
          (ap₂ conflicts list_left stops_left)
          (popped_sound (list_in ws) (stops_in ws) l.sound)

      pop_made : Popped ws (record { number = 0; obstacle = f }) left
      unfolding popped_words
      pop_made = record {
        top = t;
        words = rw (ne_eqb (kind_in ws) 1 n);
        seen =
            ap₂ (λ (o : Option Obstacle) (g : Group). (0, (o, g))) (seen_top n) (seen_conflicts left (word 0 (omega arith) ∙ l.kind) ∙ ap₂ conflicts list_left stops_left)
            ∙ pop_conflicts (group_in ws) (list_in ws) (stops_in ws) (seen_conflicts ws l.kind) l.sound;
        sound = left_sound;
        refused = λ n. absurd (n refl);
      }

  -- the same, as the code leaves it, from what peek answers
  module _ (r : Top) (t : r.obstacle ≡ top_five ws) (p : (r.number, maybe_seen r.obstacle) ≡ peek (group_in ws)) where
    pub pop_refused : kind_in ws ≡ 1 → Popped ws r ws
    pop_refused e =
        let q : r.number ≡ 10 = ap (λ (x : ℕ × Option Obstacle). x.0) (p ∙ sym (peek_refused r.obstacle t e)) in
        subst (λ (x : ℕ). Popped ws (record { number = x; obstacle = r.obstacle }) ws) (sym q) (refused r.obstacle t e)

    pub pop_left : (kind_in ws ≡ 1 → ⊥) → (d : List ℕ) (a b : ℕ) → a ≡ listed ws - 1 → b ≡ stopped ws - 1 → d ≡ slid ws 645 (b * 6) → Popped ws r (set (set d 3 a) 4 b)
    pop_left n d a b e g h =
        let q : r.number ≡ 0 = ap (λ (x : ℕ × Option Obstacle). x.0) (p ∙ sym (peek_made r.obstacle t n)) in
        rw (h, e, g) (subst (λ (x : ℕ). Popped ws (record { number = x; obstacle = r.obstacle }) (left r.obstacle t n)) (sym q) (pop_made r.obstacle t n))
