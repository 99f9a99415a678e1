-- Words that move down by a stop's six: what stands where, and that std's copy moves them so. Assumes nothing.
use Prim.Native.Nat.{ℕ, ◌+◌, ◌-◌, ◌<◌, ◌≤◌}
use mathlib.Core.Path.{◌≡◌, sym, ap, ◌∙◌}
use mathlib.Core.List.{List}
use native.Mathlib.Omega.{arith}
use lib.ListN.{length, take, drop, get_or, length-drop}
use lib.Seq.{length-sets, length-take-le, get_or-take, get_or-drop}
use Rattle.std.specs.List.{copy_within}
use Rattle.std.proofs.lemmas.List.Edits.{sets-eq}
use Rattle.group_lent.specs.Moves.{slid}
use Rattle.group_lent.proofs.Stores.{sets_in}
use Rattle.group_lent.proofs.Seen.{Reads, out_reads}

module _ (ws : List ℕ) (at k : ℕ) (h : at + 6 + k ≤ length ws) where
  rest_long : length (take k (drop (at + 6) ws)) ≡ k
  rest_long = length-take-le k (drop (at + 6) ws) (rw (length-drop (at + 6) ws) (omega arith))

  pub slid_long : length (slid ws at k) ≡ length ws
  unfolding slid
  slid_long = length-sets ws at (take k (drop (at + 6) ws))

  -- a window that is moved down, and one that is not touched
  pub slid_reads : (m c : ℕ) → at ≤ m → m + c ≤ at + k → Reads ws (m + 6) (slid ws at k) m c
  unfolding slid
  slid_reads m c a b = λ x j j' l e e'.
      let t = j' - at in
      let z : at + 6 + t ≡ j = omega arith in
      let r = rest_long in
      sets_in ws at (take k (drop (at + 6) ws)) t j' (omega arith) (omega arith) (omega arith)
      ∙ get_or-take k (drop (at + 6) ws) t 0 (omega arith)
      ∙ get_or-drop (at + 6) ws t 0
      ∙ ap (λ (n : ℕ). get_or ws n 0) z

  pub slid_apart : (m c : ℕ) → (at < m + c → at + k ≤ m) → Reads ws m (slid ws at k) m c
  unfolding slid
  slid_apart m c d = out_reads ws at (take k (drop (at + 6) ws)) m c (λ l. omega (arith, rest_long, d l))

  pub slid_copied : copy_within ws (at + 6) (at + 6 + k) at ≡ slid ws at k
  unfolding slid
  slid_copied =
      let n : at + 6 + k - (at + 6) ≡ k = omega arith in
      let r = rest_long in
      rw n (sym (sets-eq (take k (drop (at + 6) ws)) ws at (omega arith) ∙ rw r))
