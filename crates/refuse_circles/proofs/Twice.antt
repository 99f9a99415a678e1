-- Packed handles are the same handle exactly where they are the same word; so a list of them holds one twice where a word comes again. The loops look
-- at what is left of the list. Assumes nothing.
use Prim.Native.Nat.{ℕ, zero, suc, ◌+◌, ◌<◌, ◌≤◌}
use mathlib.Core.Path.{◌≡◌, refl, sym, ◌∙◌, ap}
use mathlib.Core.Bool.{Bool, true, false, ◌||◌}
use mathlib.Core.List.{List, [], ◌∷◌}
use native.Mathlib.Numerals.{add-one}
use native.Mathlib.Omega.{arith}
use lib.ListN.{length, get_or, drop, drop_of_length-le}
use lib.Seq.{drop-cons}
use Rattle.ledger_spec.specs.Bench.{Handle}
use Rattle.ledger_spec.specs.Look.{same_handle}
use Rattle.ledger_spec.specs.Tests.{any, twice}
use Rattle.ledger_spec.specs.Knit.{In, here, there}
use Rattle.ledger_spec.proofs.Knit.{same_handle_lem, same_self}
use Rattle.bench_views.specs.Given.{hand_given}
use Rattle.deed_circles.specs.Given.{hands_given}
use Rattle.deed_circles.proofs.Givens.{given_fine}
use Rattle.refuse_circles.specs.Placed.{Placed}
use Rattle.refuse_circles.proofs.Any.{or_true, or_rest}

-- ---- one word and another
pub word_of : (v w : ℕ) → v < 2199023255552 → w < 2199023255552 → hand_given w ≡ hand_given v → v ≡ w
word_of v w lv lw e =
    let h = sym (given_fine w lw) ∙ e ∙ given_fine v lv in
    omega (arith, ap (λ (x : Handle). x.unit) h, ap (λ (x : Handle). x.slot) h, ap (λ (x : Handle). x.serial) h)

pub same_yes : (v w : ℕ) → v ≡ w → same_handle (hand_given w) (hand_given v) ≡ true
same_yes v w e = ap (λ (x : ℕ). same_handle (hand_given w) (hand_given x)) e ∙ same_self (hand_given w)

pub same_no : (v w : ℕ) → v < 2199023255552 → w < 2199023255552 → (v ≡ w → ⊥) → same_handle (hand_given w) (hand_given v) ≡ false
same_no v w lv lw ne = go (same_handle (hand_given w) (hand_given v)) refl
  where
    go : (c : Bool) → same_handle (hand_given w) (hand_given v) ≡ c → same_handle (hand_given w) (hand_given v) ≡ false
    go true e = absurd (ne (word_of v w lv lw (same_handle_lem (hand_given w) (hand_given v) e)))
    go false e = e

pub in_at : (ws : List ℕ) (i : ℕ) → i < length ws → In (get_or ws i 0) ws
in_at [] i l = absurd (omega arith)
in_at (x ∷ ws) zero l = here refl
in_at (x ∷ ws) (suc i) l = there (in_at ws i (omega arith))

-- ---- among the words from i on
abbrev pub after : List ℕ → ℕ → ℕ → Bool
after ws w i = any (same_handle (hand_given w)) (hands_given (drop i ws))

module _ (ws : List ℕ) (w : ℕ) where
  after_next : (i : ℕ) → i < length ws → after ws w i ≡ (same_handle (hand_given w) (hand_given (get_or ws i 0)) || after ws w (i + 1))
  unfolding any
  after_next i l = rw (add-one, drop-cons ws i 0)

  pub after_here : (i : ℕ) → i < length ws → get_or ws i 0 ≡ w → after ws w i ≡ true
  after_here i l e = after_next i l ∙ or_true _ (after ws w (i + 1)) (same_yes (get_or ws i 0) w e)

  pub after_on : Placed ws → In w ws → (i : ℕ) → i < length ws → (get_or ws i 0 ≡ w → ⊥) → after ws w i ≡ after ws w (i + 1)
  after_on P j i l ne = after_next i l ∙ or_rest _ (after ws w (i + 1)) (same_no (get_or ws i 0) w (P.sure (get_or ws i 0) (in_at ws i l)) (P.sure w j) ne)

  pub after_end : (i : ℕ) → length ws ≤ i → after ws w i ≡ false
  unfolding any
  after_end i l = ap (λ (xs : List ℕ). any (same_handle (hand_given w)) (hands_given xs)) (drop_of_length-le ws l)

-- ---- twice among the words from i on
abbrev pub still : List ℕ → ℕ → Bool
still ws i = twice (hands_given (drop i ws))

module _ (ws : List ℕ) where
  still_next : (i : ℕ) → i < length ws → still ws i ≡ (after ws (get_or ws i 0) (i + 1) || still ws (i + 1))
  unfolding twice
  still_next i l = rw (add-one, drop-cons ws i 0)

  pub still_here : (i : ℕ) → i < length ws → after ws (get_or ws i 0) (i + 1) ≡ true → still ws i ≡ true
  still_here i l e = still_next i l ∙ or_true _ (still ws (i + 1)) e

  pub still_on : (i : ℕ) → i < length ws → after ws (get_or ws i 0) (i + 1) ≡ false → still ws i ≡ still ws (i + 1)
  still_on i l e = still_next i l ∙ or_rest _ (still ws (i + 1)) e

  pub still_end : (i : ℕ) → length ws ≤ i → still ws i ≡ false
  unfolding twice
  still_end i l = ap (λ (xs : List ℕ). twice (hands_given xs)) (drop_of_length-le ws l)
