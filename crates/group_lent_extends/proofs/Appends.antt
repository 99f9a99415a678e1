-- The other's list behind the own one: the words hold both, and the stops are as they were. Assumes nothing.
use Rattle.std.specs.Prelude.{Option}
use Prim.Native.Nat.{ℕ, ◌+◌, ◌-◌, ◌*◌, ◌<◌, ◌≤◌}
use mathlib.Core.Path.{◌≡◌, refl, ap, ap₂, ◌∙◌}
use mathlib.Core.Bool.{true}
use mathlib.Core.Logic.{by_cases}
use mathlib.Core.List.{List, [], ◌∷◌, ◌++◌}
use native.Mathlib.Decide.{dec_lt}
use native.Mathlib.Omega.{arith}
use lib.ListN.{length, get_or}
use lib.Seq.{length-sets}
use Rattle.kinds.specs.declared.Entry.{Entry}
use Rattle.ledger_spec.specs.Groups.{conflicts, Lists, rising_from, sound_group, grouped, and_then, add_stops, extended}
use Rattle.ledger_laws.proofs.GroupSound.{fine_of, of_fine, extended_sound}
use Rattle.group_lent.specs.Groups.{entry_form, entry_at, stop_at}
use Rattle.group_lent.specs.Place.{run, kind_in, listed, stopped, list_in, stops_in, Listing, SoundGroup}
use Rattle.group_lent.proofs.Stores.{sets_in, run_long, run_same}
use Rattle.group_lent.proofs.Seen.{Reads, out_reads, then_reads, entry_same, entry_form_lem, stop_same, stop_form_lem, to_listing}
use Rattle.group_lent_stops.proofs.Places.{run_split}
use Rattle.group_lent_room.proofs.Counting.{room_yes, both_long}
use Rattle.group_lent_extends.specs.Extends.{copied, appended_words}
use Rattle.group_lent_extends.proofs.Copies.{copied_long, copied_reads, copied_apart, entry_moved, form_moved, run_moved}

module _ (ws vs : List ℕ) (long : length ws ≡ 1413) (other : length vs ≡ 1413) (a : Listing ws) (b : Listing vs) (room : listed ws + listed vs ≤ 128) where
  abbrev n : ℕ
  n = listed ws

  abbrev k : ℕ
  k = listed vs

  abbrev at : ℕ
  at = 5 + n * 5

  abbrev with : List ℕ
  with = copied ws at vs 5 (k * 5)

  abbrev more : List ℕ
  more = appended_words ws vs

  inside : at + k * 5 ≤ length ws
  inside = omega arith

  outside : 5 + k * 5 ≤ length vs
  outside = omega (arith, b.few)

  with_long : length with ≡ length ws
  with_long = copied_long ws at vs 5 (k * 5) inside outside

  -- a window apart from what is copied and from the count
  apart : (m c : ℕ) → (at < m + c → at + k * 5 ≤ m) → (3 < m + c → 4 ≤ m) → Reads ws m more m c
  apart m c d e = then_reads ws with more m m m c (copied_apart ws at vs 5 (k * 5) inside outside m c d) (out_reads with 3 ((n + k) ∷ []) m c e)

  word : (j : ℕ) → j < 3 → get_or more j 0 ≡ get_or ws j 0
  word j h = apart j 1 (λ g. absurd (omega arith)) (λ g. absurd (omega arith)) 0 j j (omega arith) (omega arith) (omega arith)

  stopped_same : stopped more ≡ stopped ws
  stopped_same = apart 4 1 (λ g. absurd (omega arith)) (λ g. omega arith) 0 4 4 (omega arith) refl refl

  count : listed more ≡ n + k
  count = sets_in with 3 ((n + k) ∷ []) 0 3 refl (omega arith) (rw with_long (omega arith))

  old : (i : ℕ) → i < n → Reads ws (5 + i * 5) more (5 + i * 5) 5
  old i h = apart (5 + i * 5) 5 (λ g. absurd (omega arith)) (λ g. omega arith)

  new : (i : ℕ) → i < k → Reads vs (5 + i * 5) more (5 + (n + i) * 5) 5
  new i h =
      then_reads vs with more (5 + i * 5) (5 + (n + i) * 5) (5 + (n + i) * 5) 5
      (copied_reads ws at vs 5 (k * 5) inside outside (5 + i * 5) (5 + (n + i) * 5) 5 (omega arith) (omega arith) (omega arith))
      (out_reads with 3 ((n + k) ∷ []) (5 + (n + i) * 5) 5 (λ g. omega arith))

  pending : (i : ℕ) → Reads ws (645 + i * 6) more (645 + i * 6) 6
  pending i = apart (645 + i * 6) 6 (λ g. omega arith) (λ g. omega arith)

  pub appended_kind : kind_in more ≡ 2
  appended_kind = word 0 (omega arith) ∙ a.kind

  pub appended_list : list_in more ≡ list_in ws ++ list_in vs
  appended_list =
      ap (run (entry_at more) 0) count
      ∙ run_split (entry_at more) 0 n k (n + k) n refl (omega arith)
      ∙ ap₂ (λ (x y : List Entry). x ++ y) (run_same (entry_at more) (entry_at ws) 0 n (λ i p q. entry_same ws more i (old i (omega arith))))
      (run_moved (entry_at more) (entry_at vs) n 0 k (λ i h. let z : i ≡ 0 + i = omega arith in entry_moved vs more i (n + i) (new i h) ∙ ap (entry_at vs) z))

  pub appended_stops : stops_in more ≡ stops_in ws
  appended_stops = ap (run (stop_at more) 0) stopped_same ∙ run_same (stop_at more) (stop_at ws) 0 (stopped ws) (λ i p q. stop_same ws more i i (pending i))

  form : (i : ℕ) → i < n + k → entry_form more i ≡ true
  form i h =
      by_cases (dec_lt i n)
      (λ (l : i < n). entry_form_lem ws more i (old i l) (a.list i l))
      (λ (l : i < n → ⊥).
      let z : n + (i - n) ≡ i = omega (arith, l) in
      let g : i - n < k = omega (arith, l) in
      rw z at (form_moved vs more (i - n) (n + (i - n)) (new (i - n) g) (b.list (i - n) g)))

  -- the other's list alone is a sound group's
  other_list : sound_group (conflicts (list_in vs) []) ≡ true
  unfolding rising_from
  other_list =
      let f = fine_of (list_in vs) (stops_in vs) b.sound in
      of_fine (list_in vs) [] (record { listed = f.listed; stopped = omega arith; listables = f.listables; rises = refl })

  both_sound : sound_group (conflicts (list_in ws ++ list_in vs) (stops_in ws)) ≡ true
  unfolding extended add_stops
  both_sound =
      extended_sound (conflicts (list_in ws) (stops_in ws)) (conflicts (list_in vs) []) (conflicts (list_in ws ++ list_in vs) (stops_in ws)) a.sound other_list
      (ap (λ (o : Option Lists). grouped (and_then o (add_stops []))) (room_yes (list_in ws ++ list_in vs) (stops_in ws) (omega (arith, both_long ws vs a b)) (omega (arith, run_long (stop_at ws) 0 (stopped ws), a.fewer))))

  pub appended_sound : SoundGroup more
  appended_sound =
      to_listing more (conflicts (list_in ws ++ list_in vs) (stops_in ws))
      (length-sets with 3 ((n + k) ∷ []) ∙ with_long ∙ long)
      appended_kind
      (word 1 (omega arith) ∙ a.plain)
      (word 2 (omega arith) ∙ a.blank)
      (omega (arith, count))
      (omega (arith, stopped_same, a.fewer))
      (λ i h. form i (omega (arith, count)))
      (λ i h. stop_form_lem ws more i i (pending i) (a.stops i (omega (arith, stopped_same))))
      (ap₂ conflicts appended_list appended_stops)
      both_sound
