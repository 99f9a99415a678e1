-- THEOREM: words pass the test just where they hold a sound group. Assumes nothing.
use Prim.Native.Nat.{ℕ, zero, suc, ◌+◌, ◌<◌, ◌≤◌}
use mathlib.Core.Path.{◌≡◌, refl, sym, ◌∙◌}
use mathlib.Core.Bool.{Bool, true, false, ◌&&◌}
use mathlib.Core.Logic.{◌⊎◌, inl, inr, by_cases}
use mathlib.Core.List.{List}
use native.Mathlib.Decide.{ℕ_discrete}
use native.Mathlib.Omega.{arith}
use borrow.Author.Tests.{eqb-true, eq-eqb, ne_eqb, leb-true, le-leb}
use lib.Dec.{eqb, leb}
use lib.ListN.{length}
use Rattle.kinds.specs.Obstacles.{listable, is_stop}
use Rattle.bench_words.specs.Codec.{pick}
use Rattle.ledger_spec.specs.Groups.{all_listable, rising_from}
use Rattle.ledger_laws.proofs.GroupSound.{fine_of, of_fine}
use Rattle.group_lent.specs.Groups.{entry_form, entry_at, stop_form, stop_at}
use Rattle.group_lent.proofs.Stores.{and_left, and_right}
use Rattle.group_lent.specs.Place.{run, kind_in, length_in, flag_in, listed, stopped, list_in, stops_in, Growing, Listing, SoundGroup}
use Rattle.group_lent.proofs.Stores.{run_long}
use Rattle.group_lent_sound.specs.Test.{entry_fits, stop_fits, entries_fit, stops_fit, growth_fits, head_fits, sound_in}

module _ (ws : List ℕ) where
  -- ---- entries

  pub record Entries (i k : ℕ) : Type 0 where
    pub forms : (j : ℕ) → i ≤ j → j < i + k → entry_form ws j ≡ true
    pub listables : all_listable (run (entry_at ws) i k) ≡ true

  entries_of : (i k : ℕ) → entries_fit ws i k ≡ true → Entries i k
  unfolding entries_fit run all_listable
  entries_of i zero e = record { forms = λ j a b. absurd (omega arith); listables = refl }
  entries_of i (suc k) e =
      let a = and_left (entry_fits ws i) (entries_fit ws (suc i) k) e in
      let r = entries_of (suc i) k (and_right (entry_fits ws i) (entries_fit ws (suc i) k) e) in
      let f = and_left (entry_form ws i) (listable (entry_at ws i).obstacle) a in
      record {
        forms = λ j l h. by_cases (ℕ_discrete j i) (λ (z : j ≡ i). rw z f) (λ (n : j ≡ i → ⊥). r.forms j (omega (arith, n)) (omega arith));
        listables = rw (and_right (entry_form ws i) (listable (entry_at ws i).obstacle) a, r.listables);
      }

  of_entries : (i k : ℕ) → ((j : ℕ) → i ≤ j → j < i + k → entry_form ws j ≡ true) → all_listable (run (entry_at ws) i k) ≡ true → entries_fit ws i k ≡ true
  unfolding entries_fit run all_listable
  of_entries i zero f l = refl
  of_entries i (suc k) f l =
      rw (
        f i (omega arith) (omega arith),
        and_left (listable (entry_at ws i).obstacle) (all_listable (run (entry_at ws) (suc i) k)) l,
        of_entries (suc i) k (λ j a b. f j (omega arith) (omega arith)) (and_right (listable (entry_at ws i).obstacle) (all_listable (run (entry_at ws) (suc i) k)) l),
      )

  -- ---- stops

  pub record Stops (b i k : ℕ) : Type 0 where
    pub forms : (j : ℕ) → i ≤ j → j < i + k → stop_form ws j ≡ true
    pub rises : rising_from b (run (stop_at ws) i k) ≡ true

  stops_of : (b i k : ℕ) → stops_fit ws b i k ≡ true → Stops b i k
  unfolding stops_fit run rising_from
  stops_of b i zero e = record { forms = λ j a c. absurd (omega arith); rises = refl }
  stops_of b i (suc k) e =
      let v = (stop_at ws i).vertex.0 in
      let a = and_left (stop_fits ws b i) (stops_fit ws (suc v) (suc i) k) e in
      let r = stops_of (suc v) (suc i) k (and_right (stop_fits ws b i) (stops_fit ws (suc v) (suc i) k) e) in
      let f = and_left (stop_form ws i) (is_stop (stop_at ws i).obstacle && leb b v) a in
      let g = and_right (stop_form ws i) (is_stop (stop_at ws i).obstacle && leb b v) a in
      record {
        forms = λ j l h. by_cases (ℕ_discrete j i) (λ (z : j ≡ i). rw z f) (λ (n : j ≡ i → ⊥). r.forms j (omega (arith, n)) (omega arith));
        rises = rw (and_left (is_stop (stop_at ws i).obstacle) (leb b v) g, and_right (is_stop (stop_at ws i).obstacle) (leb b v) g, r.rises);
      }

  of_stops : (b i k : ℕ) → ((j : ℕ) → i ≤ j → j < i + k → stop_form ws j ≡ true) → rising_from b (run (stop_at ws) i k) ≡ true → stops_fit ws b i k ≡ true
  unfolding stops_fit run rising_from
  of_stops b i zero f l = refl
  of_stops b i (suc k) f l =
      let v = (stop_at ws i).vertex.0 in
      let rest = leb b v && rising_from (suc v) (run (stop_at ws) (suc i) k) in
      let r = and_right (is_stop (stop_at ws i).obstacle) rest l in
      rw (
        f i (omega arith) (omega arith),
        and_left (is_stop (stop_at ws i).obstacle) rest l,
        and_left (leb b v) (rising_from (suc v) (run (stop_at ws) (suc i) k)) r,
        of_stops (suc v) (suc i) k (λ j a c. f j (omega arith) (omega arith)) (and_right (leb b v) (rising_from (suc v) (run (stop_at ws) (suc i) k)) r),
      )

  -- ---- the group

  module _ (long : length ws ≡ 1413) where
    listing_of : head_fits ws ≡ true → (entries_fit ws 0 (listed ws) && stops_fit ws 0 0 (stopped ws)) ≡ true → Listing ws
    listing_of h t =
        let b = and_right (eqb (kind_in ws) 2) (eqb (length_in ws) 0 && (eqb (flag_in ws) 0 && (leb (listed ws) 128 && leb (stopped ws) 128))) h in
        let c = and_right (eqb (length_in ws) 0) (eqb (flag_in ws) 0 && (leb (listed ws) 128 && leb (stopped ws) 128)) b in
        let d = and_right (eqb (flag_in ws) 0) (leb (listed ws) 128 && leb (stopped ws) 128) c in
        let n = leb-true (listed ws) 128 (and_left (leb (listed ws) 128) (leb (stopped ws) 128) d) in
        let m = leb-true (stopped ws) 128 (and_right (leb (listed ws) 128) (leb (stopped ws) 128) d) in
        let es = entries_of 0 (listed ws) (and_left (entries_fit ws 0 (listed ws)) (stops_fit ws 0 0 (stopped ws)) t) in
        let ss = stops_of 0 0 (stopped ws) (and_right (entries_fit ws 0 (listed ws)) (stops_fit ws 0 0 (stopped ws)) t) in
        record {
          kind = eqb-true (kind_in ws) 2 (and_left (eqb (kind_in ws) 2) (eqb (length_in ws) 0 && (eqb (flag_in ws) 0 && (leb (listed ws) 128 && leb (stopped ws) 128))) h);
          plain = eqb-true (length_in ws) 0 (and_left (eqb (length_in ws) 0) (eqb (flag_in ws) 0 && (leb (listed ws) 128 && leb (stopped ws) 128)) b);
          blank = eqb-true (flag_in ws) 0 (and_left (eqb (flag_in ws) 0) (leb (listed ws) 128 && leb (stopped ws) 128) c);
          few = n;
          fewer = m;
          list = λ i l. es.forms i (omega arith) (omega arith);
          stops = λ i l. ss.forms i (omega arith) (omega arith);
          sound = of_fine (list_in ws) (stops_in ws) (record {
            listed = omega (arith, run_long (entry_at ws) 0 (listed ws));
            stopped = omega (arith, run_long (stop_at ws) 0 (stopped ws));
            listables = es.listables;
            rises = ss.rises;
          });
        }

    -- THEOREM: words that pass hold a sound group
    pub sound_of : sound_in ws ≡ true → SoundGroup ws
    unfolding sound_in
    sound_of t = record { long = long; either = go (eqb (kind_in ws) 1) refl t }
      where
        go : (b : Bool) → eqb (kind_in ws) 1 ≡ b → pick b (growth_fits ws) (head_fits ws && (entries_fit ws 0 (listed ws) && stops_fit ws 0 0 (stopped ws))) ≡ true → Growing ws ⊎ Listing ws
        go true e h = inl (record { kind = eqb-true (kind_in ws) 1 e; flag = leb-true (flag_in ws) 1 h })
        go false e h =
            inr (listing_of (and_left (head_fits ws) (entries_fit ws 0 (listed ws) && stops_fit ws 0 0 (stopped ws)) h) (and_right (head_fits ws) (entries_fit ws 0 (listed ws) && stops_fit ws 0 0 (stopped ws)) h))

  -- THEOREM: a sound group's words pass
  pub of_sound : SoundGroup ws → sound_in ws ≡ true
  unfolding sound_in
  of_sound s = go s.either
    where
      go : Growing ws ⊎ Listing ws → pick (eqb (kind_in ws) 1) (growth_fits ws) (head_fits ws && (entries_fit ws 0 (listed ws) && stops_fit ws 0 0 (stopped ws))) ≡ true
      go (inl g) = rw (g.kind, le-leb (flag_in ws) 1 g.flag)
      go (inr l) =
          let f = fine_of (list_in ws) (stops_in ws) l.sound in
          rw (
            l.kind,
            l.plain,
            l.blank,
            le-leb (listed ws) 128 l.few,
            le-leb (stopped ws) 128 l.fewer,
            of_entries 0 (listed ws) (λ j a b. l.list j (omega arith)) f.listables,
            of_stops 0 0 (stopped ws) (λ j a b. l.stops j (omega arith)) f.rises,
          )

-- ---- each way through the code

pub head_counts : (ws : List ℕ) (b : Bool) → b ≡ head_fits ws → b ≡ true → (listed ws ≤ 128) × (stopped ws ≤ 128)
head_counts ws b e t =
    let h = sym e ∙ t in
    let c = and_right (eqb (kind_in ws) 2) (eqb (length_in ws) 0 && (eqb (flag_in ws) 0 && (leb (listed ws) 128 && leb (stopped ws) 128))) h in
    let d = and_right (eqb (length_in ws) 0) (eqb (flag_in ws) 0 && (leb (listed ws) 128 && leb (stopped ws) 128)) c in
    let g = and_right (eqb (flag_in ws) 0) (leb (listed ws) 128 && leb (stopped ws) 128) d in
    (leb-true (listed ws) 128 (and_left (leb (listed ws) 128) (leb (stopped ws) 128) g), leb-true (stopped ws) 128 (and_right (leb (listed ws) 128) (leb (stopped ws) 128) g))

pub growth_test : (ws : List ℕ) → kind_in ws ≡ 1 → growth_fits ws ≡ sound_in ws
unfolding sound_in
growth_test ws e = rw (eq-eqb (kind_in ws) 1 e)

module _ (ws : List ℕ) (n : kind_in ws ≡ 1 → ⊥) (a : Bool) (e : a ≡ head_fits ws) where
  pub head_no : a ≡ false → false ≡ sound_in ws
  unfolding sound_in
  head_no t = rw (ne_eqb (kind_in ws) 1 n, sym e ∙ t)

  module _ (t : a ≡ true) (b : Bool) (f : b ≡ entries_fit ws 0 (listed ws)) where
    pub list_no : b ≡ false → false ≡ sound_in ws
    unfolding sound_in
    list_no u = rw (ne_eqb (kind_in ws) 1 n, sym e ∙ t, sym f ∙ u)

    pub stops_test : b ≡ true → (c : Bool) → c ≡ stops_fit ws 0 0 (stopped ws) → c ≡ sound_in ws
    unfolding sound_in
    stops_test u c g = rw (ne_eqb (kind_in ws) 1 n, sym e ∙ t, sym f ∙ u) g
