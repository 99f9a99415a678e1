-- A growth extended by conflicts: the words hold the conflicts. Assumes nothing.
use Prim.Native.Nat.{ℕ, ◌+◌, ◌*◌, ◌<◌, ◌≤◌}
use mathlib.Core.Path.{◌≡◌, refl, ap, ap₂, ◌∙◌}
use mathlib.Core.List.{List}
use native.Mathlib.Omega.{arith}
use lib.ListN.{length, get_or}
use lib.Seq.{length-sets}
use Rattle.ledger_spec.specs.Groups.{conflicts}
use Rattle.group_lent.specs.Groups.{entry_at, stop_at}
use Rattle.group_lent.specs.Place.{run, listed, stopped, list_in, stops_in, group_in, Listing, SoundGroup}
use Rattle.group_lent.proofs.Stores.{sets_in, run_same}
use Rattle.group_lent.proofs.Seen.{Reads, out_reads, then_reads, stop_same, stop_form_lem, entry_same, entry_form_lem, seen_conflicts, to_listing}
use Rattle.group_lent_takes.specs.After.{head_words}
use Rattle.group_lent_extends.specs.Extends.{copied, taken_words}
use Rattle.group_lent_extends.proofs.Copies.{copied_long, copied_reads, copied_apart}

module _ (ws vs : List ℕ) (long : length ws ≡ 1413) (other : length vs ≡ 1413) (l : Listing vs) where
  abbrev n : ℕ
  n = listed vs

  abbrev m : ℕ
  m = stopped vs

  abbrev one : List ℕ
  one = copied ws 5 vs 5 (n * 5)

  abbrev two : List ℕ
  two = copied one 645 vs 645 (m * 6)

  abbrev new : List ℕ
  new = taken_words ws vs

  low : n * 5 ≤ 640
  low = omega (arith, l.few)

  high : m * 6 ≤ 768
  high = omega (arith, l.fewer)

  one_in : 5 + n * 5 ≤ length ws
  one_in = omega (arith, low)

  one_out : 5 + n * 5 ≤ length vs
  one_out = omega (arith, low)

  one_long : length one ≡ length ws
  one_long = copied_long ws 5 vs 5 (n * 5) one_in one_out

  two_in : 645 + m * 6 ≤ length one
  two_in = rw one_long (omega (arith, high))

  two_out : 645 + m * 6 ≤ length vs
  two_out = omega (arith, high)

  two_long : length two ≡ 1413
  two_long = copied_long one 645 vs 645 (m * 6) two_in two_out ∙ one_long ∙ long

  head : (k : ℕ) → k < 5 → get_or new k 0 ≡ get_or (head_words n m) k 0
  head k h = sets_in two 0 (head_words n m) k k (omega arith) h (rw two_long (omega arith))

  entry_in : (i : ℕ) → i < n → Reads vs (5 + i * 5) new (5 + i * 5) 5
  entry_in i h =
      then_reads vs two new (5 + i * 5) (5 + i * 5) (5 + i * 5) 5
      (then_reads vs one two (5 + i * 5) (5 + i * 5) (5 + i * 5) 5
      (copied_reads ws 5 vs 5 (n * 5) one_in one_out (5 + i * 5) (5 + i * 5) 5 refl (omega arith) (omega arith))
      (copied_apart one 645 vs 645 (m * 6) two_in two_out (5 + i * 5) 5 (λ g. absurd (omega (arith, low)))))
      (out_reads two 0 (head_words n m) (5 + i * 5) 5 (λ g. omega arith))

  stop_in : (i : ℕ) → i < m → Reads vs (645 + i * 6) new (645 + i * 6) 6
  stop_in i h =
      then_reads vs two new (645 + i * 6) (645 + i * 6) (645 + i * 6) 6
      (copied_reads one 645 vs 645 (m * 6) two_in two_out (645 + i * 6) (645 + i * 6) 6 refl (omega arith) (omega arith))
      (out_reads two 0 (head_words n m) (645 + i * 6) 6 (λ g. omega arith))

  list : list_in new ≡ list_in vs
  list = ap (run (entry_at new) 0) (head 3 (omega arith)) ∙ run_same (entry_at new) (entry_at vs) 0 n (λ i a b. entry_same vs new i (entry_in i (omega arith)))

  stops : stops_in new ≡ stops_in vs
  stops = ap (run (stop_at new) 0) (head 4 (omega arith)) ∙ run_same (stop_at new) (stop_at vs) 0 m (λ i a b. stop_same vs new i i (stop_in i (omega arith)))

  pub taken_seen : group_in new ≡ conflicts (list_in vs) (stops_in vs)
  taken_seen = seen_conflicts new (head 0 (omega arith)) ∙ ap₂ conflicts list stops

  pub taken_sound : SoundGroup new
  taken_sound =
      to_listing new (conflicts (list_in vs) (stops_in vs))
      (length-sets two 0 (head_words n m) ∙ two_long)
      (head 0 (omega arith))
      (head 1 (omega arith))
      (head 2 (omega arith))
      (omega (arith, head 3 (omega arith), l.few))
      (omega (arith, head 4 (omega arith), l.fewer))
      (λ i h. let z : i < n = omega (arith, head 3 (omega arith)) in entry_form_lem vs new i (entry_in i z) (l.list i z))
      (λ i h. let z : i < m = omega (arith, head 4 (omega arith)) in stop_form_lem vs new i i (stop_in i z) (l.stops i z))
      (ap₂ conflicts list stops)
      l.sound
