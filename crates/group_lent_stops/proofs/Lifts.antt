-- Words that move up by a stop's six: what stands where, and that std's copy moves them so. Assumes nothing.
use Prim.Native.Nat.{ℕ, ◌+◌, ◌-◌, ◌<◌, ◌≤◌}
use mathlib.Core.Path.{◌≡◌, sym, ap, ◌∙◌}
use mathlib.Core.List.{List}
use native.Mathlib.Omega.{arith}
use lib.ListN.{length, take, drop, get_or, length-drop}
use Rattle.std.specs.List.{copy_within}
use Rattle.std.proofs.lemmas.List.Edits.{sets-eq}
use lib.Seq.{length-sets, length-take-le, get_or-take, get_or-drop}
use Rattle.group_lent.proofs.Stores.{sets_in}
use Rattle.group_lent.proofs.Seen.{Reads, out_reads}
use Rattle.group_lent_stops.specs.Stops.{lifted}

module _ (ws : List ℕ) (at k : ℕ) (h : at + 6 + k ≤ length ws) where
  abbrev row : List ℕ
  row = take k (drop at ws)

  row_long : length row ≡ k
  row_long = length-take-le k (drop at ws) (rw (length-drop at ws) (omega arith))

  row_at : (i : ℕ) → i < k → get_or row i 0 ≡ get_or ws (at + i) 0
  row_at i l = get_or-take k (drop at ws) i 0 l ∙ get_or-drop at ws i 0

  pub lifted_long : length (lifted ws at k) ≡ length ws
  unfolding lifted
  lifted_long = length-sets ws (at + 6) row

  -- a window that is moved up, and one that is not touched
  pub lifted_reads : (m c : ℕ) → at ≤ m → m + c ≤ at + k → Reads ws m (lifted ws at k) (m + 6) c
  unfolding lifted
  lifted_reads m c a b = λ x j j' l e e'.
      let t = j - at in
      let z : at + t ≡ j = omega arith in
      let r = row_long in
      sets_in ws (at + 6) row t j' (omega arith) (omega arith) (omega arith) ∙ row_at t (omega arith) ∙ ap (λ (n : ℕ). get_or ws n 0) z

  pub lifted_apart : (m c : ℕ) → (at + 6 < m + c → at + 6 + k ≤ m) → Reads ws m (lifted ws at k) m c
  unfolding lifted
  lifted_apart m c d = out_reads ws (at + 6) row m c (λ l. omega (arith, row_long, d l))

  pub lifted_copied : copy_within ws at (at + k) (at + 6) ≡ lifted ws at k
  unfolding lifted
  lifted_copied =
      let n : at + k - at ≡ k = omega arith in
      let r = row_long in
      rw n (sym (sets-eq row ws (at + 6) (omega arith) ∙ rw r))
