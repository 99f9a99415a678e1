-- What a caller of `read_line` knows in each arm of its match: the line is what the answer says, with the serials that stand in the slice.
-- Assumes nothing.
use Rattle.std.specs.Prelude.{None, Some}
use Prim.Native.Nat.{ℕ, suc, ◌+◌, ◌≤◌}
use native.Mathlib.Omega.{arith}
use mathlib.Core.Path.{◌≡◌, refl, sym, ◌∙◌, ap}
use mathlib.Core.List.{List, [], ◌∷◌, ◌++◌}
use lib.ListN.{length, take, drop, set, take-append-drop}
use lib.Seq.{sets, sets-eq, take_all, take_at, length-take-le, take-set-le}
use Rattle.text_decimals.proofs.Writes.{sets_append}
use Rattle.ledger_spec.specs.Bench.{State, grows, stays, shrinks}
use Rattle.ledger_spec.specs.Named.{state_named}
use Rattle.ledger_spec.specs.Operations.{D, B, E, S, G, F, C, K}
use Rattle.ledger_spec.specs.Grammar.{Line as Said}
use Rattle.text_lines.specs.declared.Line.{Line}
use Rattle.text_lines.specs.declared.Line.TheVariants.{Defect, Blossom, Expand, SetState, Grow, Fuse, Clear, Check, Wrong}
use Rattle.text_lines.specs.Shown.{state_shown, line_shown, serials_in, said_by, ReadAs}

named_shown : (g : State) → state_named (state_shown g) ≡ g
named_shown grows = refl
named_shown stays = refl
named_shown shrinks = refl

shown_back : (l : Said) → said_by (line_shown l) (serials_in l) ≡ l
shown_back (Some (D u v)) = refl
shown_back (Some (B u ns)) = refl
shown_back (Some (E u n)) = refl
shown_back (Some (S u n g)) = ap (λ (x : State). Some (S u n x)) (named_shown g)
shown_back (Some (G u l)) = refl
shown_back (Some (F p l r)) = refl
shown_back (Some (C u)) = refl
shown_back (Some (K u)) = refl
shown_back None = refl

-- how many serials an answer says there are
abbrev pub count_in : Line → ℕ
count_in (Defect u v) = 0
count_in (Blossom u k) = k
count_in (Expand u n) = 0
count_in (SetState u n g) = 0
count_in (Grow u l) = 0
count_in (Fuse p l r) = 0
count_in (Clear u) = 0
count_in (Check u) = 0
count_in Wrong = 0

count_shown : (l : Said) → count_in (line_shown l) ≡ length (serials_in l)
count_shown (Some (D u v)) = refl
count_shown (Some (B u ns)) = refl
count_shown (Some (E u n)) = refl
count_shown (Some (S u n g)) = refl
count_shown (Some (G u l)) = refl
count_shown (Some (F p l r)) = refl
count_shown (Some (C u)) = refl
count_shown (Some (K u)) = refl
count_shown None = refl

-- ---- the front of a slice that was stored to

take_sets : (n i : ℕ) (vs s : List ℕ) → n ≤ i → take n (sets s i vs) ≡ take n s
take_sets n i [] s h = refl
take_sets n i (v ∷ vs) s h = take_sets n (suc i) vs (set s i v) (omega arith) ∙ take-set-le n s i v h

front_set : (ns s : List ℕ) (n : ℕ) → n ≤ length s → n ≤ length ns → take n (sets s 0 ns) ≡ take n ns
front_set ns s n h k =
    let a = take n ns in
    let e : length a ≡ n = length-take-le n ns k in
    let f : sets s 0 a ≡ a ++ drop (0 + length a) s = sets-eq a s 0 (omega arith) in
    ap (λ (l : List ℕ). take n (sets s 0 l)) (sym (take-append-drop n ns))
    ∙ ap (take n) (sets_append a (drop n ns) s 0)
    ∙ take_sets n (0 + length a) (drop n ns) (sets s 0 a) (omega arith)
    ∙ ap (take n) f
    ∙ take_at a (drop (0 + length a) s) n e

-- ---- an answer of `read_line`

module _ (l : Said) (before after : List ℕ) (r : Line) (is : ReadAs l before after r) where
  pub told : l ≡ said_by r (serials_in l)
  told = sym (shown_back l) ∙ ap (λ (x : Line). said_by x (serials_in l)) (sym is.line)

  -- in the arm of a match where the answer is x
  pub told_as : (x : Line) → r ≡ x → l ≡ said_by x (serials_in l)
  told_as x e = told ∙ ap (λ (y : Line). said_by y (serials_in l)) e

  pub told_count : count_in r ≡ length (serials_in l)
  told_count = ap count_in is.line ∙ count_shown l

  -- the slice's front holds as many of them as it can
  pub told_front : (n : ℕ) → n ≤ length before → n ≤ count_in r → take n after ≡ take n (serials_in l)
  told_front n h k = ap (take n) is.stored ∙ front_set (serials_in l) before n h (rw told_count at k)

  -- and all of them, if it is long enough
  pub told_serials : count_in r ≤ length before → take (count_in r) after ≡ serials_in l
  told_serials h = told_front (count_in r) h (omega arith) ∙ take_all (count_in r) (serials_in l) (rw told_count (omega arith))
