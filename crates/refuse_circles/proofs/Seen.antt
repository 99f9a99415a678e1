-- The marks so far say which words passed; a word left is given twice where its position is marked, or where it comes again among those left. Setting
-- a word's mark moves it from the one to the other. Assumes nothing.
use Prim.Native.Nat.{ℕ, zero, suc, ◌+◌, ◌<◌, ◌≤◌}
use mathlib.Core.Path.{◌≡◌, refl, sym, ◌∙◌, ap, ap₂}
use mathlib.Core.Bool.{Bool, true, false, ◌||◌}
use mathlib.Core.List.{List, [], ◌∷◌}
use native.Mathlib.Numerals.{add-one}
use native.Mathlib.Decide.{ℕ_discrete}
use native.Mathlib.Omega.{arith}
use borrow.Author.Tests.{eq-eqb, ne_eqb}
use lib.Dec.{eqb}
use lib.ListN.{length, get_or, set, drop, replicate, drop_of_length-le, length-set, length-replicate}
use lib.Seq.{drop-cons, get_or-set_same, get_or-set_other}
use Rattle.ledger_spec.specs.Look.{same_handle}
use Rattle.ledger_spec.specs.Tests.{any, twice}
use Rattle.ledger_spec.specs.Knit.{In, there}
use Rattle.bench_views.specs.Given.{hand_given}
use Rattle.deed_circles.specs.Given.{hands_given, spot_of}
use Rattle.refuse_circles.specs.Placed.{Placed, Blank}
use Rattle.refuse_circles.proofs.Any.{or_true, or_rest, or_any, or_none, or_of, any_or, any_none}
use Rattle.refuse_circles.proofs.Twice.{same_yes, same_no, in_at, still, still_end}

-- ---- lists
any_hands : (w : ℕ) (ws : List ℕ) → any (λ v. same_handle (hand_given w) (hand_given v)) ws ≡ any (same_handle (hand_given w)) (hands_given ws)
unfolding any
any_hands w [] = refl
any_hands w (v ∷ ws) = ap (λ (c : Bool). same_handle (hand_given w) (hand_given v) || c) (any_hands w ws)

in_drop : (n : ℕ) (ws : List ℕ) {w : ℕ} → In w (drop n ws) → In w ws
in_drop zero ws i = i
in_drop (suc n) [] i = i
in_drop (suc n) (x ∷ ws) i = there (in_drop n ws i)

-- ---- marks
abbrev pub marked : List ℕ → ℕ → Bool
marked seen v = eqb (get_or seen (spot_of v) 0) 1

pub blank : (n : ℕ) → n ≡ 512 → Blank (replicate n 0)
blank n e = record { long = length-replicate n 0 ∙ e; none = zeros n }
  where
    zeros : (n k : ℕ) → ◌≡◌ {A = ℕ} (get_or (replicate n 0) k 0) 0
    zeros zero k = refl
    zeros (suc n) zero = refl
    zeros (suc n) (suc k) = zeros n k

module _ (ws seen : List ℕ) (P : Placed ws) (long : length seen ≡ 512) (w : ℕ) (j : In w ws) where
  mark_more : (v : ℕ) → In v ws → marked (set seen (spot_of w) 1) v ≡ (marked seen v || same_handle (hand_given w) (hand_given v))
  mark_more v i = go (ℕ_discrete (spot_of v) (spot_of w))
    where
      go : Dec (spot_of v ≡ spot_of w) → marked (set seen (spot_of w) 1) v ≡ (marked seen v || same_handle (hand_given w) (hand_given v))
      go (yes e) = eq-eqb (get_or (set seen (spot_of w) 1) (spot_of v) 0) 1 (ap (λ (k : ℕ). get_or (set seen (spot_of w) 1) k 0) e ∙ get_or-set_same seen (spot_of w) 1 0 (omega arith))
          ∙ sym (or_any (marked seen v) (same_handle (hand_given w) (hand_given v)) (same_yes v w (P.apart v w i j e)))
      go (no n) = ap (λ (x : ℕ). eqb x 1) (get_or-set_other seen (spot_of w) (spot_of v) 1 0 n)
          ∙ sym (ap (λ (c : Bool). marked seen v || c) (same_no v w (P.sure v i) (P.sure w j) (λ e. n (ap spot_of e))) ∙ or_none (marked seen v))

-- ---- the loop
pub record Going (ws seen : List ℕ) (i : ℕ) : Type 0 where
  pub long : length seen ≡ 512
  pub left : twice (hands_given ws) ≡ (any (marked seen) (drop i ws) || still ws i)

pub going_starts : (ws seen : List ℕ) → Blank seen → Going ws seen 0
going_starts ws seen B = record {
  long = B.long;
  left = sym (or_rest _ (still ws 0) (any_none (marked seen) ws (λ v. ne_eqb (get_or seen (spot_of v) 0) 1 (λ e. omega (arith, B.none (spot_of v))))));
}

module _ (ws seen : List ℕ) (i : ℕ) (G : Going ws seen i) where
  module _ (l : i < length ws) where
    w : ℕ
    w = get_or ws i 0

    rest : List ℕ
    rest = drop (i + 1) ws

    next : (any (marked seen) (drop i ws) || still ws i) ≡ ((marked seen w || any (marked seen) rest) || (any (same_handle (hand_given w)) (hands_given rest) || twice (hands_given rest)))
    unfolding any twice w rest
    next = rw (add-one, drop-cons ws i 0)

    pub going_here : (k : ℕ) → k ≡ spot_of (get_or ws i 0) → get_or seen k 0 ≡ 1 → true ≡ twice (hands_given ws)
    unfolding w
    going_here k e q = sym (G.left ∙ next ∙ or_true _ (any (same_handle (hand_given w)) (hands_given rest) || twice (hands_given rest)) (or_true _ (any (marked seen) rest) (eq-eqb (get_or seen (spot_of w) 0) 1 (ap (λ (x : ℕ). get_or seen x 0) (sym e) ∙ q))))

    pub going_on : Placed ws → (k : ℕ) → k ≡ spot_of (get_or ws i 0) → (get_or seen k 0 ≡ 1 → ⊥) → Going ws (set seen k 1) (i + 1)
    unfolding w rest
    going_on P k e q = record {
      long = length-set seen k 1 ∙ G.long;
      left = G.left ∙ next
          ∙ ap (λ (c : Bool). c || (any (same_handle (hand_given w)) (hands_given rest) || twice (hands_given rest))) (or_rest _ (any (marked seen) rest) (ne_eqb (get_or seen (spot_of w) 0) 1 (λ z. q (ap (λ (x : ℕ). get_or seen x 0) e ∙ z))))
          ∙ sym (or_of (any (marked seen) rest) (any (same_handle (hand_given w)) (hands_given rest)) (twice (hands_given rest)))
          ∙ ap (λ (c : Bool). c || twice (hands_given rest)) (ap (λ (c : Bool). any (marked seen) rest || c) (sym (any_hands w rest)) ∙ sym (any_or (marked (set seen (spot_of w) 1)) (marked seen) (λ v. same_handle (hand_given w) (hand_given v)) rest (λ v m. mark_more ws seen P G.long w (in_at ws i l) v (in_drop (i + 1) ws m))))
          ∙ ap (λ (x : ℕ). any (marked (set seen x 1)) rest || twice (hands_given rest)) (sym e);
    }

  pub going_ends : length ws ≤ i → false ≡ twice (hands_given ws)
  unfolding any
  going_ends l = sym (G.left ∙ ap₂ ◌||◌ (ap (any (marked seen)) (drop_of_length-le ws l)) (still_end ws i l))
