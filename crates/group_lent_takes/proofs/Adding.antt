-- What adding leaves: a growth to a growth or to conflicts, and what is listed to either. Assumes nothing.
use Rattle.std.specs.Prelude.{None, Option, Some}
use Prim.Native.Nat.{ℕ, suc, ◌+◌, ◌*◌, ◌<◌, ◌≤◌}
use mathlib.Core.Path.{◌≡◌, refl, sym, ap, ap₂, ◌∙◌}
use mathlib.Core.Bool.{Bool, true, false, false≢true, cond, ◌||◌}
use mathlib.Core.Logic.{inl, by_cases}
use mathlib.Core.List.{List, [], ◌∷◌, ◌++◌}
use native.Mathlib.Numerals.{add-one}
use native.Mathlib.Decide.{ℕ_discrete}
use native.Mathlib.Omega.{arith}
use borrow.Author.Tests.{eq-eqb, ne_eqb, lt-ltb, le-ltb, le-leb, lt-leb}
use lib.Dec.{eqb}
use lib.IntN.{ℤ}
use lib.ListN.{length, get_or, set, length-append}
use lib.Seq.{sets, length-sets}
use lib.Signed.{lt_z}
use Rattle.kinds.specs.Obstacles.{listable}
use Rattle.kinds.specs.declared.Entry.{Entry}
use Rattle.kinds.specs.declared.Stop.{Stop}
use Rattle.kinds.specs.declared.Obstacle.{Obstacle}
use Rattle.kinds.specs.declared.Obstacle.TheVariants.{NonZeroGrow, Conflicting, TouchingVirtual, BlossomNeedExpand, VertexShrinkStop}
use Rattle.bench_words.specs.Codec.{pick}
use Rattle.ledger_spec.specs.Tests.{is_some}
use Rattle.ledger_spec.specs.Groups.{Group, growth, conflicts, smaller, room_for, grouped, add_to_growth, add_to_conflicts, added}
use Rattle.ledger_spec.specs.GroupCalls.{or_else}
use Rattle.ledger_laws.proofs.GroupSound.{added_sound}
use Rattle.group_lent.specs.Forms.{length_of, five_words, five_at, is_form, obstacle_of}
use Rattle.group_lent.specs.Groups.{entry_form, entry_at, stop_at}
use Rattle.group_lent.specs.declared.Five.{Five}
use Rattle.group_lent.specs.Place.{run, kind_in, length_in, flag_in, listed, stopped, list_in, stops_in, group_in, Listing, SoundGroup}
use Rattle.group_lent_takes.specs.After.{least_word, either_word, grown_words, head_words, one_listed, one_more, listed_words}
use Rattle.group_lent_takes.specs.Made.{Added}
use Rattle.group_lent.proofs.Stores.{sets_out, sets_in, run_long, run_same, run_more}
use Rattle.group_lent.proofs.Seen.{Reads, out_reads, then_reads, five_reads, five_put, entry_same, entry_form_lem, stop_same, stop_form_lem, seen_growth, seen_conflicts, sound_in, is_growing, is_listing, to_listing}

-- the promise, by the ledger's answer q
pub made : (f : Five) (v : ℕ) (ws next : List ℕ) (r : ℕ) (after : List ℕ) → ((r ≡ 0 → ⊥) → after ≡ ws) → (q : Option Group) → added (group_in ws) (obstacle_of f) v ≡ q → r ≡ pick (is_some q) 0 20 → after ≡ next
    → group_in after ≡ or_else q (group_in ws) → SoundGroup after → Added f v ws next r after
made f v ws next r after k q e n w s d =
    record {
      number = n ∙ sym (ap (λ (o : Option Group). pick (is_some o) 0 20) e);
      words = w;
      seen = s ∙ sym (ap (λ (o : Option Group). or_else o (group_in ws)) e);
      sound = d;
      refused = k;
    }

-- ---- a growth

least_is : (a b : ℕ) → length_of (least_word a b) ≡ smaller (length_of a) (length_of b)
least_is a b = go (lt_z (length_of b) (length_of a))
  where
    go : (q : Bool) → length_of (pick q b a) ≡ cond q (length_of b) (length_of a)
    go true = refl
    go false = refl

module _ (a b : ℕ) (x y : ℤ) (p : x ≡ length_of a) (q : y ≡ length_of b) where
  pub least_other : lt_z y x ≡ true → b ≡ least_word a b
  least_other t = rw (sym (λ i. lt_z (q i) (p i)) ∙ t)

  pub least_own : lt_z y x ≡ false → a ≡ least_word a b
  least_own t = rw (sym (λ i. lt_z (q i) (p i)) ∙ t)

either_is : (a b : ℕ) → eqb (either_word a b) 1 ≡ (eqb a 1 || eqb b 1)
either_is a b = go (eqb b 1) (eqb a 1) refl
  where
    go : (q p : Bool) → eqb a 1 ≡ p → eqb (pick q 1 a) 1 ≡ (eqb a 1 || q)
    go true true e = rw e
    go true false e = rw e
    go false true e = rw e
    go false false e = rw e

either_low : (a b : ℕ) → a ≤ 1 → either_word a b ≤ 1
either_low a b h = go (eqb b 1)
  where
    go : (q : Bool) → pick q 1 a ≤ 1
    go true = omega arith
    go false = h

module _ (ws : List ℕ) (f : Five) (s : SoundGroup ws) (k : f.kind ≡ 1) (v : ℕ) where
  grows : obstacle_of f ≡ NonZeroGrow (length_of f.a) (eqb f.b 1)
  unfolding obstacle_of
  grows = rw k

  pub growth_kept : (kind_in ws ≡ 1 → ⊥) → Added f v ws (grown_words ws f) 0 ws
  unfolding grown_words added add_to_conflicts
  growth_kept n =
      let l = is_listing ws s n in
      made f v ws (grown_words ws f) 0 ws (λ n. absurd (n refl)) (Some (conflicts (list_in ws) (stops_in ws)))
      (ap₂ (λ (g : Group) (o : Obstacle). added g o v) (seen_conflicts ws l.kind) grows)
      refl
      (rw (ne_eqb (kind_in ws) 1 n))
      (seen_conflicts ws l.kind)
      s

  pub growth_grown : kind_in ws ≡ 1 → (x y : ℕ) → x ≡ least_word (length_in ws) f.a → y ≡ either_word (flag_in ws) f.b → Added f v ws (grown_words ws f) 0 (set (set ws 1 x) 2 y)
  unfolding grown_words added add_to_growth
  growth_grown e x y p q =
      let xs = x ∷ y ∷ [] in
      let after = sets ws 1 xs in
      let g = is_growing ws s e in
      let room : 1 + length xs ≤ length ws = omega (arith, s.long) in
      let kind : kind_in after ≡ 1 = sets_out ws 1 xs 0 (λ h. absurd (omega arith)) ∙ e in
      let long : length_in after ≡ x = sets_in ws 1 xs 0 1 refl (omega arith) room in
      let flag : flag_in after ≡ y = sets_in ws 1 xs 1 2 refl (omega arith) room in
      let l : length_of (length_in after) ≡ smaller (length_of (length_in ws)) (length_of f.a) = ap length_of (long ∙ p) ∙ least_is (length_in ws) f.a in
      let h : eqb (flag_in after) 1 ≡ (eqb (flag_in ws) 1 || eqb f.b 1) = ap (λ (w : ℕ). eqb w 1) (flag ∙ q) ∙ either_is (flag_in ws) f.b in
      made f v ws (grown_words ws f) 0 after (λ n. absurd (n refl)) (Some (growth (smaller (length_of (length_in ws)) (length_of f.a)) (eqb (flag_in ws) 1 || eqb f.b 1)))
      (ap₂ (λ (g : Group) (o : Obstacle). added g o v) (seen_growth ws e) grows)
      refl
      (rw (eq-eqb (kind_in ws) 1 e, p, q))
      (seen_growth after kind ∙ ap₂ growth l h)
      (record {
        long = length-sets ws 1 xs ∙ s.long;
        either = inl (record { kind = kind; flag = rw (flag ∙ q) (either_low (flag_in ws) f.b g.flag) });
      })

-- ---- what is listed

abbrev entry : Five → Entry
entry f = record { obstacle = obstacle_of f }

to_growth : (a : ℤ) (f : Bool) (o : Obstacle) (v : ℕ) → listable o ≡ true → add_to_growth a f o v ≡ Some (conflicts (record { obstacle = o } ∷ []) [])
unfolding add_to_growth
to_growth a f (NonZeroGrow b h) v e = absurd (false≢true e)
to_growth a f (Conflicting p q) v e = refl
to_growth a f (TouchingVirtual p w m) v e = refl
to_growth a f (BlossomNeedExpand n) v e = refl
to_growth a f (VertexShrinkStop n p) v e = absurd (false≢true e)

to_conflicts : (l : List Entry) (s : List Stop) (o : Obstacle) (v : ℕ) → listable o ≡ true → add_to_conflicts l s o v ≡ grouped (room_for (l ++ record { obstacle = o } ∷ []) s)
unfolding add_to_conflicts
to_conflicts l s (NonZeroGrow b h) v e = absurd (false≢true e)
to_conflicts l s (Conflicting p q) v e = refl
to_conflicts l s (TouchingVirtual p w m) v e = refl
to_conflicts l s (BlossomNeedExpand n) v e = refl
to_conflicts l s (VertexShrinkStop n p) v e = absurd (false≢true e)

pub has_room : (l : List Entry) (s : List Stop) → length l ≤ 128 → length s ≤ 128 → grouped (room_for l s) ≡ Some (conflicts l s)
unfolding room_for
has_room l s h k = rw (le-leb (length l) 128 h, le-leb (length s) 128 k)

pub no_room : (l : List Entry) (s : List Stop) → 128 < length l → grouped (room_for l s) ≡ None
unfolding room_for
no_room l s h = rw (lt-leb (length l) 128 h)

module _ (ws : List ℕ) (f : Five) (s : SoundGroup ws) (form : is_form f ≡ true) (listing : listable (obstacle_of f) ≡ true) (v : ℕ) where
  -- a growth becomes conflicts with one entry
  module _ (e : kind_in ws ≡ 1) where
    abbrev one : List ℕ
    one = one_listed ws f

    abbrev put : List ℕ
    put = sets ws 5 (five_words f)

    head : (k : ℕ) → k < 5 → get_or one k 0 ≡ get_or (head_words 1 0) k 0
    head k h = sets_in put 0 (head_words 1 0) k k (omega arith) h (rw (length-sets ws 5 (five_words f)) (omega (arith, s.long)))

    first : five_at one (5 + 0 * 5) ≡ f
    first = five_reads put 5 one 5 (out_reads put 0 (head_words 1 0) 5 5 (λ h. omega arith)) ∙ five_put ws 5 f (omega (arith, s.long))

    list : list_in one ≡ entry f ∷ []
    unfolding run entry_at
    list = ap (run (entry_at one) 0) (head 3 (omega arith)) ∙ ap (λ (g : Five). entry g ∷ []) first

    stops : stops_in one ≡ []
    unfolding run
    stops = ap (run (stop_at one) 0) (head 4 (omega arith))

    says : added (group_in ws) (obstacle_of f) v ≡ Some (conflicts (entry f ∷ []) [])
    unfolding added
    says = ap (λ (g : Group). added g (obstacle_of f) v) (seen_growth ws e) ∙ to_growth (length_of (length_in ws)) (eqb (flag_in ws) 1) (obstacle_of f) v listing

    form_at : (i : ℕ) → i < 1 → entry_form one i ≡ true
    unfolding entry_form
    form_at i h = let z : i ≡ 0 = omega arith in rw z (ap is_form first ∙ form)

    one_sound : SoundGroup one
    one_sound =
        to_listing one (conflicts (entry f ∷ []) [])
        (length-sets put 0 (head_words 1 0) ∙ length-sets ws 5 (five_words f) ∙ s.long)
        (head 0 (omega arith))
        (head 1 (omega arith))
        (head 2 (omega arith))
        (omega (arith, head 3 (omega arith)))
        (omega (arith, head 4 (omega arith)))
        (λ i h. form_at i (omega (arith, head 3 (omega arith))))
        (λ i h. absurd (omega (arith, head 4 (omega arith))))
        (ap₂ conflicts list stops)
        (added_sound (group_in ws) (obstacle_of f) v (conflicts (entry f ∷ []) []) (sound_in ws s) says)

    pub listed_one : Added f v ws (listed_words ws f) 0 one
    unfolding listed_words
    listed_one =
        made f v ws (listed_words ws f) 0 one (λ n. absurd (n refl)) (Some (conflicts (entry f ∷ []) [])) says refl (rw (eq-eqb (kind_in ws) 1 e))
        (seen_conflicts one (head 0 (omega arith)) ∙ ap₂ conflicts list stops) one_sound

  -- conflicts
  module _ (n : kind_in ws ≡ 1 → ⊥) where
    abbrev l : Listing ws
    l = is_listing ws s n

    abbrev longer : List Entry
    longer = list_in ws ++ entry f ∷ []

    says_more : added (group_in ws) (obstacle_of f) v ≡ grouped (room_for longer (stops_in ws))
    unfolding added
    says_more = ap (λ (g : Group). added g (obstacle_of f) v) (seen_conflicts ws l.kind) ∙ to_conflicts (list_in ws) (stops_in ws) (obstacle_of f) v listing

    longer_by : length longer ≡ suc (listed ws)
    longer_by = length-append (list_in ws) (entry f ∷ []) ∙ omega (arith, run_long (entry_at ws) 0 (listed ws))

    pub listed_full : 128 ≤ listed ws → Added f v ws (listed_words ws f) 20 ws
    unfolding listed_words
    listed_full h =
        made f v ws (listed_words ws f) 20 ws (λ n. refl) None (says_more ∙ no_room longer (stops_in ws) (omega (arith, longer_by))) refl
        (rw (ne_eqb (kind_in ws) 1 n, le-ltb (listed ws) 128 h)) refl s

    module _ (h : listed ws < 128) where
      abbrev at : ℕ
      at = 5 + listed ws * 5

      abbrev with : List ℕ
      with = sets ws at (five_words f)

      abbrev more : List ℕ
      more = one_more ws f

      -- a window that lies apart from the new entry and from the count
      apart : (m k : ℕ) → (at < m + k → at + 5 ≤ m) → (3 < m + k → 4 ≤ m) → Reads ws m more m k
      apart m k d c = then_reads ws with more m m m k (out_reads ws at (five_words f) m k d) (out_reads with 3 ((listed ws + 1) ∷ []) m k c)

      word : (j : ℕ) → j < 5 → (j ≡ 3 → ⊥) → get_or more j 0 ≡ get_or ws j 0
      word j i d = apart j 1 (λ g. absurd (omega arith)) (λ g. let z : (4 ≤ j) = by j i d g in z) 0 j j (omega arith) (omega arith) (omega arith)
        where
          by : (j : ℕ) → j < 5 → (j ≡ 3 → ⊥) → 3 < j + 1 → 4 ≤ j
          by j i d g = omega (arith, d)

      count : listed more ≡ listed ws + 1
      count = sets_in with 3 ((listed ws + 1) ∷ []) 0 3 refl (omega arith) (rw (length-sets ws at (five_words f)) (omega (arith, s.long)))

      old : (i : ℕ) → i < listed ws → Reads ws (5 + i * 5) more (5 + i * 5) 5
      old i k = apart (5 + i * 5) 5 (λ g. absurd (omega arith)) (λ g. omega arith)

      pending : (i : ℕ) → Reads ws (645 + i * 6) more (645 + i * 6) 6
      pending i = apart (645 + i * 6) 6 (λ g. omega (arith, h)) (λ g. omega arith)

      new : five_at more at ≡ f
      new = five_reads with at more at (out_reads with 3 ((listed ws + 1) ∷ []) at 5 (λ g. omega arith)) ∙ five_put ws at f (omega (arith, s.long))

      list_more : list_in more ≡ longer
      unfolding entry_at
      list_more =
          ap (run (entry_at more) 0) (count ∙ add-one (listed ws))
          ∙ run_more (entry_at more) 0 (listed ws) (listed ws) (omega arith)
          ∙ ap₂ (λ (r : List Entry) (g : Five). r ++ entry g ∷ []) (run_same (entry_at more) (entry_at ws) 0 (listed ws) (λ i a b. entry_same ws more i (old i (omega arith)))) new

      stops_more : stops_in more ≡ stops_in ws
      stops_more =
          ap (run (stop_at more) 0) (word 4 (omega arith) (λ e. omega arith))
          ∙ run_same (stop_at more) (stop_at ws) 0 (stopped ws) (λ i a b. stop_same ws more i i (pending i))

      says_it : added (group_in ws) (obstacle_of f) v ≡ Some (conflicts longer (stops_in ws))
      says_it = says_more ∙ has_room longer (stops_in ws) (omega (arith, longer_by)) (omega (arith, run_long (stop_at ws) 0 (stopped ws), l.fewer))

      form_more : (i : ℕ) → i < listed ws + 1 → entry_form more i ≡ true
      unfolding entry_form
      form_more i k =
          by_cases (ℕ_discrete i (listed ws))
          (λ (e : i ≡ listed ws). rw e (ap is_form new ∙ form))
          (λ (d : i ≡ listed ws → ⊥). let z : i < listed ws = omega (arith, d) in entry_form_lem ws more i (old i z) (l.list i z))

      kind_more : kind_in more ≡ 2
      kind_more = word 0 (omega arith) (λ e. omega arith) ∙ l.kind

      more_sound : SoundGroup more
      more_sound =
          to_listing more (conflicts longer (stops_in ws))
          (length-sets with 3 ((listed ws + 1) ∷ []) ∙ length-sets ws at (five_words f) ∙ s.long)
          kind_more
          (word 1 (omega arith) (λ e. omega arith) ∙ l.plain)
          (word 2 (omega arith) (λ e. omega arith) ∙ l.blank)
          (omega (arith, count))
          (omega (arith, word 4 (omega arith) (λ e. omega arith), l.fewer))
          (λ i k. form_more i (omega (arith, count)))
          (λ i k. stop_form_lem ws more i i (pending i) (l.stops i (omega (arith, word 4 (omega arith) (λ e. omega arith)))))
          (ap₂ conflicts list_more stops_more)
          (added_sound (group_in ws) (obstacle_of f) v (conflicts longer (stops_in ws)) (sound_in ws s) says_it)

      pub listed_more : Added f v ws (listed_words ws f) 0 more
      unfolding listed_words
      listed_more =
          made f v ws (listed_words ws f) 0 more (λ n. absurd (n refl)) (Some (conflicts longer (stops_in ws))) says_it refl
          (rw (ne_eqb (kind_in ws) 1 n, lt-ltb (listed ws) 128 h))
          (seen_conflicts more kind_more ∙ ap₂ conflicts list_more stops_more) more_sound
