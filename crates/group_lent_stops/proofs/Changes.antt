-- The words after each way that a stop can go, seen as a group: the stops in a row, the list, and every window that is as it was. Assumes nothing.
use Prim.Native.Nat.{ℕ, suc, ◌+◌, ◌-◌, ◌*◌, ◌<◌, ◌≤◌}
use mathlib.Core.Path.{◌≡◌, refl, sym, ap, ap₂, ◌∙◌}
use mathlib.Core.Bool.{true}
use mathlib.Core.Logic.{by_cases}
use mathlib.Core.List.{List, [], ◌∷◌, ◌++◌}
use native.Mathlib.Decide.{ℕ_discrete, dec_lt}
use native.Mathlib.Nat.{mod-eq_of_lt}
use native.Mathlib.Numerals.{add-one}
use native.Mathlib.Omega.{arith}
use borrow.Author.Tests.{lt-ltb}
use lib.ListN.{length, get_or, set, length-set}
use lib.Seq.{sets, length-sets}
use Rattle.kinds.specs.declared.Entry.{Entry}
use Rattle.kinds.specs.declared.Stop.{Stop}
use Rattle.group_lent.specs.Forms.{five_words, five_at, is_form, obstacle_of}
use Rattle.group_lent.specs.Groups.{entry_form, entry_at, stop_read, stop_form, stop_at}
use Rattle.group_lent.specs.declared.Five.{Five}
use Rattle.group_lent.specs.Groups.{ReadStop}
use Rattle.group_lent.specs.Place.{run, listed, stopped, list_in, stops_in}
use Rattle.group_lent.specs.Moves.{slid}
use Rattle.group_lent.proofs.Stores.{sets_out, sets_in, run_same, run_next, run_more}
use Rattle.group_lent.proofs.Seen.{Reads, out_reads, then_reads, five_reads, stop_reads, five_put, entry_same, entry_form_lem, stop_same, stop_form_lem}
use Rattle.group_lent.proofs.Slides.{slid_long, slid_reads, slid_apart}
use Rattle.group_lent_stops.specs.Stops.{spot, stop_five, lifted, inserted, replaced, pair_five, joined}
use Rattle.group_lent_stops.proofs.Lifts.{lifted_long, lifted_reads, lifted_apart}
use Rattle.group_lent_stops.proofs.Places.{run_split}

abbrev pub stop_of : Five → ℕ → Stop
stop_of f v = record { vertex = record { 0 = v }; obstacle = obstacle_of f }

abbrev pub entry_of : Five → Entry
entry_of f = record { obstacle = obstacle_of f }

-- a stop's six words just stored
pub stop_put : (ws : List ℕ) (m : ℕ) (v : ℕ) (f : Five) → m + 6 ≤ length ws → v < 4294967296 → is_form f ≡ true → stop_read (sets ws m (v ∷ five_words f)) m ≡ record { ok = true; stop = stop_of f v }
unfolding stop_read
stop_put ws m v f h l e =
    let a : get_or (sets ws m (v ∷ five_words f)) m 0 ≡ v = sets_in ws m (v ∷ five_words f) 0 m (omega arith) (omega arith) (omega arith) in
    let b : five_at (sets ws m (v ∷ five_words f)) (m + 1) ≡ f = ap (five_at (sets ws m (v ∷ five_words f))) (add-one m) ∙ five_put (set ws m v) (suc m) f (rw length-set (omega arith)) in
    rw (a, b, lt-ltb v 4294967296 l, e, mod-eq_of_lt l)

-- what is kept of ws by ws' beside its stops
pub record Kept (ws ws' : List ℕ) : Type 0 where
  pub long : length ws' ≡ length ws
  pub head : (j : ℕ) → j < 3 → get_or ws' j 0 ≡ get_or ws j 0

-- and its entries
pub record Listed (ws ws' : List ℕ) : Type 0 where
  pub count : listed ws' ≡ listed ws
  pub entries : (i : ℕ) → i < listed ws → Reads ws (5 + i * 5) ws' (5 + i * 5) 5

module _ (ws ws' : List ℕ) (k : Listed ws ws') where
  pub same_list : list_in ws' ≡ list_in ws
  same_list =
      ap (run (entry_at ws') 0) k.count
      ∙ run_same (entry_at ws') (entry_at ws) 0 (listed ws) (λ i a b. entry_same ws ws' i (k.entries i (omega arith)))

  pub same_forms : ((i : ℕ) → i < listed ws → entry_form ws i ≡ true) → (i : ℕ) → i < listed ws' → entry_form ws' i ≡ true
  same_forms f i h = let z : i < listed ws = omega (arith, k.count) in entry_form_lem ws ws' i (k.entries i z) (f i z)

-- ---- replaced

module _ (ws : List ℕ) (f : Five) (v p : ℕ) (long : length ws ≡ 1413) (few : listed ws ≤ 128) (fewer : stopped ws ≤ 128) (form : is_form f ≡ true) (low : v < 4294967296) where
  module _ (h : p < stopped ws) where
    abbrev new : List ℕ
    new = replaced ws f v p

    apart : (m k : ℕ) → (spot p < m + k → spot p + 6 ≤ m) → Reads ws m new m k
    apart m k d = out_reads ws (spot p) (v ∷ five_words f) m k d

    word : (j : ℕ) → j < 5 → get_or new j 0 ≡ get_or ws j 0
    word j l = sets_out ws (spot p) (v ∷ five_words f) j (λ g. absurd (omega arith))

    pub replaced_kept : Kept ws new
    replaced_kept = record { long = length-sets ws (spot p) (v ∷ five_words f); head = λ j l. word j (omega arith) }

    pub replaced_listed : Listed ws new
    replaced_listed = record { count = word 3 (omega arith); entries = λ i l. apart (5 + i * 5) 5 (λ g. absurd (omega (arith, few))) }

    pub replaced_count : stopped new ≡ stopped ws
    replaced_count = word 4 (omega arith)

    here : stop_read new (spot p) ≡ record { ok = true; stop = stop_of f v }
    here = stop_put ws (spot p) v f (omega arith) low form

    other : (i : ℕ) → (i ≡ p → ⊥) → Reads ws (spot i) new (spot i) 6
    other i d = apart (spot i) 6 (λ g. by_cases (dec_lt p i) (λ (l : p < i). omega arith) (λ (l : p < i → ⊥). absurd (omega (arith, d, l))))

    pub replaced_stops : stops_in new ≡ run (stop_at ws) 0 p ++ stop_of f v ∷ run (stop_at ws) (suc p) (stopped ws - 1 - p)
    unfolding run stop_at
    replaced_stops =
        let q = stopped ws - 1 - p in
        ap (run (stop_at new) 0) replaced_count
        ∙ run_split (stop_at new) 0 p (suc q) (stopped ws) p (omega arith) (omega arith)
        ∙ ap₂ (λ (a b : List Stop). a ++ b) (run_same (stop_at new) (stop_at ws) 0 p (λ i a b. stop_same ws new i i (other i (λ e. omega arith))))
        (ap₂ (λ (s : ReadStop) (r : List Stop). s.stop ∷ r) here (run_same (stop_at new) (stop_at ws) (suc p) q (λ i a b. stop_same ws new i i (other i (λ e. omega arith)))))

    pub replaced_forms : ((i : ℕ) → i < stopped ws → stop_form ws i ≡ true) → (i : ℕ) → i < stopped new → stop_form new i ≡ true
    unfolding stop_form
    replaced_forms fs i l =
        by_cases (ℕ_discrete i p)
        (λ (e : i ≡ p). rw e (ap (λ (s : ReadStop). s.ok) here))
        (λ (d : i ≡ p → ⊥). stop_form_lem ws new i i (other i d) (fs i (omega (arith, replaced_count))))

  -- ---- inserted

  module _ (h : p ≤ stopped ws) (room : stopped ws < 128) where
    abbrev k : ℕ
    k = (stopped ws - p) * 6

    abbrev up : List ℕ
    up = lifted ws (spot p) k

    abbrev put : List ℕ
    put = sets up (spot p) (v ∷ five_words f)

    abbrev more : List ℕ
    more = inserted ws f v p

    fits : spot p + 6 + k ≤ length ws
    fits = omega arith

    -- a window apart from all that is moved or stored
    clear : (m c : ℕ) → (spot p < m + c → 1413 ≤ m) → (4 < m + c → 5 ≤ m) → Reads ws m more m c
    clear m c d e =
        then_reads ws put more m m m c
        (then_reads ws up put m m m c (lifted_apart ws (spot p) k fits m c (λ g. omega (arith, d (omega arith)))) (out_reads up (spot p) (v ∷ five_words f) m c (λ g. omega (arith, d g))))
        (out_reads put 4 ((stopped ws + 1) ∷ []) m c (λ g. omega (arith, e g)))

    row : (j : ℕ) → j < 4 → get_or more j 0 ≡ get_or ws j 0
    row j l = clear j 1 (λ g. absurd (omega arith)) (λ g. absurd (omega arith)) 0 j j (omega arith) (omega arith) (omega arith)

    put_long : length put ≡ length ws
    put_long = length-sets up (spot p) (v ∷ five_words f) ∙ lifted_long ws (spot p) k fits

    pub inserted_kept : Kept ws more
    inserted_kept = record { long = length-sets put 4 ((stopped ws + 1) ∷ []) ∙ put_long; head = λ j l. row j (omega arith) }

    pub inserted_listed : Listed ws more
    inserted_listed = record { count = row 3 (omega arith); entries = λ i l. clear (5 + i * 5) 5 (λ g. absurd (omega (arith, few))) (λ g. omega arith) }

    pub inserted_count : stopped more ≡ stopped ws + 1
    inserted_count = sets_in put 4 ((stopped ws + 1) ∷ []) 0 4 refl (omega arith) (rw put_long (omega arith))

    below : (i : ℕ) → i < p → Reads ws (spot i) more (spot i) 6
    below i l =
        then_reads ws put more (spot i) (spot i) (spot i) 6
        (then_reads ws up put (spot i) (spot i) (spot i) 6 (lifted_apart ws (spot p) k fits (spot i) 6 (λ g. absurd (omega arith))) (out_reads up (spot p) (v ∷ five_words f) (spot i) 6 (λ g. absurd (omega arith))))
        (out_reads put 4 ((stopped ws + 1) ∷ []) (spot i) 6 (λ g. omega arith))

    above : (i : ℕ) → p ≤ i → i < stopped ws → Reads ws (spot i) more (spot (suc i)) 6
    above i a l =
        let z : spot i + 6 ≡ spot (suc i) = omega arith in
        then_reads ws put more (spot i) (spot (suc i)) (spot (suc i)) 6
        (then_reads ws up put (spot i) (spot (suc i)) (spot (suc i)) 6
        (rw z at (lifted_reads ws (spot p) k fits (spot i) 6 (omega arith) (omega arith)))
        (out_reads up (spot p) (v ∷ five_words f) (spot (suc i)) 6 (λ g. omega arith)))
        (out_reads put 4 ((stopped ws + 1) ∷ []) (spot (suc i)) 6 (λ g. omega arith))

    came : stop_read more (spot p) ≡ record { ok = true; stop = stop_of f v }
    came =
        stop_reads put (spot p) more (spot p) (out_reads put 4 ((stopped ws + 1) ∷ []) (spot p) 6 (λ g. omega arith))
        ∙ stop_put up (spot p) v f (rw (lifted_long ws (spot p) k fits) (omega arith)) low form

    pub inserted_stops : stops_in more ≡ run (stop_at ws) 0 p ++ stop_of f v ∷ run (stop_at ws) p (stopped ws - p)
    unfolding run stop_at
    inserted_stops =
        let q = stopped ws - p in
        ap (run (stop_at more) 0) inserted_count
        ∙ run_split (stop_at more) 0 p (suc q) (stopped ws + 1) p (omega arith) (omega arith)
        ∙ ap₂ (λ (a b : List Stop). a ++ b) (run_same (stop_at more) (stop_at ws) 0 p (λ i a b. stop_same ws more i i (below i (omega arith))))
        (ap₂ (λ (s : ReadStop) (r : List Stop). s.stop ∷ r) came
        (run_next (stop_at more) p q ∙ run_same (λ i. stop_at more (suc i)) (stop_at ws) p q (λ i a b. stop_same ws more i (suc i) (above i a (omega arith)))))

    pub inserted_forms : ((i : ℕ) → i < stopped ws → stop_form ws i ≡ true) → (i : ℕ) → i < stopped more → stop_form more i ≡ true
    unfolding stop_form
    inserted_forms fs i l =
        by_cases (dec_lt i p)
        (λ (a : i < p). stop_form_lem ws more i i (below i a) (fs i (omega arith)))
        (λ (a : i < p → ⊥).
        by_cases (ℕ_discrete i p)
        (λ (e : i ≡ p). rw e (ap (λ (s : ReadStop). s.ok) came))
        (λ (d : i ≡ p → ⊥).
        let z : i ≡ suc (i - 1) = omega (arith, a, d) in
        let g : p ≤ i - 1 = omega (arith, a, d) in
        let b : i - 1 < stopped ws = omega (arith, inserted_count) in
        rw z (stop_form_lem ws more (i - 1) (suc (i - 1)) (above (i - 1) g b) (fs (i - 1) b))))

-- ---- joined

module _ (ws : List ℕ) (f : Five) (p : ℕ) (long : length ws ≡ 1413) (fewer : stopped ws ≤ 128) (room : listed ws < 128) (h : p < stopped ws) where
  abbrev pair : Five
  pair = pair_five f (stop_five ws p)

  abbrev at : ℕ
  at = 5 + listed ws * 5

  abbrev with : List ℕ
  with = sets ws at (five_words pair)

  abbrev tail : ℕ
  tail = (stopped ws - 1 - p) * 6

  abbrev down : List ℕ
  down = slid with (spot p) tail

  abbrev counts : List ℕ
  counts = (listed ws + 1) ∷ (stopped ws - 1) ∷ []

  abbrev both : List ℕ
  both = joined ws f p

  with_long : length with ≡ length ws
  with_long = length-sets ws at (five_words pair)

  inside : spot p + 6 + tail ≤ length with
  inside = rw with_long (omega arith)

  -- a window apart from the new entry, from what is moved and from the counts
  free : (m c : ℕ) → (at < m + c → at + 5 ≤ m) → (spot p < m + c → 1413 ≤ m) → (3 < m + c → 5 ≤ m) → Reads ws m both m c
  free m c a d e =
      then_reads ws down both m m m c
      (then_reads ws with down m m m c (out_reads ws at (five_words pair) m c a) (slid_apart with (spot p) tail inside m c (λ g. omega (arith, d g))))
      (out_reads down 3 counts m c (λ g. omega (arith, e g)))

  pub joined_kept : Kept ws both
  joined_kept = record {
    long = length-sets down 3 counts ∙ slid_long with (spot p) tail inside ∙ with_long;
    head = λ j l. free j 1 (λ g. absurd (omega arith)) (λ g. absurd (omega arith)) (λ g. absurd (omega arith)) 0 j j (omega arith) (omega arith) (omega arith);
  }

  counted : (j i : ℕ) → i ≡ 3 + j → j < 2 → get_or both i 0 ≡ get_or counts j 0
  counted j i e l = sets_in down 3 counts j i e l (rw (slid_long with (spot p) tail inside, with_long) (omega arith))

  pub joined_listed : listed both ≡ listed ws + 1
  joined_listed = counted 0 3 refl (omega arith)

  pub joined_stopped : stopped both ≡ stopped ws - 1
  joined_stopped = counted 1 4 refl (omega arith)

  earlier : (i : ℕ) → i < listed ws → Reads ws (5 + i * 5) both (5 + i * 5) 5
  earlier i l = free (5 + i * 5) 5 (λ g. absurd (omega arith)) (λ g. absurd (omega arith)) (λ g. omega arith)

  last : five_at both at ≡ pair
  last =
      five_reads with at both at
      (then_reads with down both at at at 5 (slid_apart with (spot p) tail inside at 5 (λ g. absurd (omega arith))) (out_reads down 3 counts at 5 (λ g. omega arith)))
      ∙ five_put ws at pair (omega arith)

  pub joined_list : list_in both ≡ list_in ws ++ entry_of pair ∷ []
  unfolding entry_at
  joined_list =
      ap (run (entry_at both) 0) (joined_listed ∙ add-one (listed ws))
      ∙ run_more (entry_at both) 0 (listed ws) (listed ws) (omega arith)
      ∙ ap₂ (λ (r : List Entry) (g : Five). r ++ entry_of g ∷ []) (run_same (entry_at both) (entry_at ws) 0 (listed ws) (λ i a b. entry_same ws both i (earlier i (omega arith)))) last

  pub joined_entries : is_form pair ≡ true → ((i : ℕ) → i < listed ws → entry_form ws i ≡ true) → (i : ℕ) → i < listed both → entry_form both i ≡ true
  unfolding entry_form
  joined_entries form fs i l =
      by_cases (ℕ_discrete i (listed ws))
      (λ (e : i ≡ listed ws). rw e (ap is_form last ∙ form))
      (λ (d : i ≡ listed ws → ⊥). let z : i < listed ws = omega (arith, d, joined_listed) in entry_form_lem ws both i (earlier i z) (fs i z))

  before : (i : ℕ) → i < p → Reads ws (spot i) both (spot i) 6
  before i l =
      then_reads ws down both (spot i) (spot i) (spot i) 6
      (then_reads ws with down (spot i) (spot i) (spot i) 6 (out_reads ws at (five_words pair) (spot i) 6 (λ g. omega arith)) (slid_apart with (spot p) tail inside (spot i) 6 (λ g. absurd (omega arith))))
      (out_reads down 3 counts (spot i) 6 (λ g. omega arith))

  after : (i : ℕ) → p ≤ i → i < stopped ws - 1 → Reads ws (spot (suc i)) both (spot i) 6
  after i a l =
      let z : spot i + 6 ≡ spot (suc i) = omega arith in
      then_reads ws down both (spot (suc i)) (spot i) (spot i) 6
      (then_reads ws with down (spot (suc i)) (spot (suc i)) (spot i) 6
      (out_reads ws at (five_words pair) (spot (suc i)) 6 (λ g. omega arith))
      (rw z at (slid_reads with (spot p) tail inside (spot i) 6 (omega arith) (omega arith))))
      (out_reads down 3 counts (spot i) 6 (λ g. omega arith))

  pub joined_stops : stops_in both ≡ run (stop_at ws) 0 p ++ run (stop_at ws) (suc p) (stopped ws - 1 - p)
  joined_stops =
      let q = stopped ws - 1 - p in
      ap (run (stop_at both) 0) joined_stopped
      ∙ run_split (stop_at both) 0 p q (stopped ws - 1) p (omega arith) (omega arith)
      ∙ ap₂ (λ (a b : List Stop). a ++ b) (run_same (stop_at both) (stop_at ws) 0 p (λ i a b. stop_same ws both i i (before i (omega arith))))
      (run_same (stop_at both) (λ i. stop_at ws (suc i)) p q (λ i a b. stop_same ws both (suc i) i (after i a (omega arith))) ∙ sym (run_next (stop_at ws) p q))

  pub joined_forms : ((i : ℕ) → i < stopped ws → stop_form ws i ≡ true) → (i : ℕ) → i < stopped both → stop_form both i ≡ true
  joined_forms fs i l =
      by_cases (dec_lt i p)
      (λ (a : i < p). stop_form_lem ws both i i (before i a) (fs i (omega arith)))
      (λ (a : i < p → ⊥). let b : i < stopped ws - 1 = omega (arith, joined_stopped) in stop_form_lem ws both (suc i) i (after i (omega (arith, a)) b) (fs (suc i) (omega arith)))
