-- Members that are linked, followed: the circle that was given. From the last member back, each one's next is the one after it. Assumes nothing.
use Prim.Native.Nat.{ℕ, zero, suc, ◌+◌, ◌*◌, ◌/◌, ◌%◌, ◌<◌, ◌≤◌}
use mathlib.Core.Path.{◌≡◌, refl, ap, ap₂, sym, ◌∙◌}
use mathlib.Core.Logic.{by_cases}
use mathlib.Core.List.{List, [], ◌∷◌}
use native.Mathlib.Decide.{ℕ_discrete}
use native.Mathlib.Numerals.{add-one}
use native.Mathlib.Omega.{arith}
use borrow.Author.Tests.{eq-eqb, ne_eqb, lt-ltb, le-ltb}
use lib.ListN.{length, get_or, drop, drop_of_length-le}
use lib.Seq.{drop-cons}
use Rattle.bench_words.specs.Codec.{handle_of}
use Rattle.bench_words.specs.declared.Node.{Node}
use Rattle.ledger_spec.specs.Bench.{Member}
use Rattle.ledger_spec.specs.Deeds.{circle}
use Rattle.ledger_spec.specs.Named.{handle_named}
use Rattle.bench_views.specs.View.{follow, member_at}
use Rattle.bench_views.specs.Canon.{walk}
use Rattle.bench_views.specs.Given.{hand_given}
use Rattle.deed_circles.specs.Given.{hands_given, pairs_given, spot_of, spot_at, next_spot, touch_word}
use Rattle.deed_circles.proofs.Givens.{given_fine}

pub next_more : (ms : List ℕ) (i : ℕ) → suc i < length ms → next_spot ms i ≡ spot_at ms (suc i)
unfolding next_spot
next_more ms i l =
    let l1 : i + 1 < length ms = omega arith in
    rw (lt-ltb (i + 1) (length ms) l1, add-one i)

pub next_last : (ms : List ℕ) (i : ℕ) → length ms ≤ suc i → next_spot ms i ≡ 0
unfolding next_spot
next_last ms i l =
    let l1 : length ms ≤ i + 1 = omega arith in
    rw (le-ltb (i + 1) (length ms) l1)

-- what the circle shows of member i
pub record Linked (ms ts : List ℕ) (i : ℕ) (n : Node) : Type 0 where
  pub serial : n.serial.0 ≡ get_or ms i 0 / 8 / 64 % 4294967296
  pub next : n.next ≡ next_spot ms i
  pub left : n.left ≡ handle_of (touch_word ms ts i 0)
  pub right : n.right ≡ handle_of (touch_word ms ts i 1)

-- the touching pair of member i
pairs_step : (ts : List ℕ) (i n : ℕ) → length ts ≡ n * 2 → i < n
    → pairs_given (drop (i * 2) ts) ≡ (hand_given (get_or ts (i * 2 + 0) 0), hand_given (get_or ts (i * 2 + 1) 0)) ∷ pairs_given (drop (suc i * 2) ts)
unfolding pairs_given
pairs_step ts i n e l =
    let a : drop (i * 2) ts ≡ get_or ts (i * 2) 0 ∷ drop (suc (i * 2)) ts = drop-cons ts (i * 2) 0 (omega arith) in
    let b : drop (suc (i * 2)) ts ≡ get_or ts (suc (i * 2)) 0 ∷ drop (suc (suc (i * 2))) ts = drop-cons ts (suc (i * 2)) 0 (omega arith) in
    let z0 : i * 2 + 0 ≡ i * 2 = omega arith in
    let z1 : i * 2 + 1 ≡ suc (i * 2) = omega arith in
    let z2 : suc i * 2 ≡ suc (suc (i * 2)) = omega arith in
    rw (z0, z1, z2, a, b)

nil_pairs : pairs_given [] ≡ []
unfolding pairs_given
nil_pairs = refl

circle_touch : (ms ts : List ℕ) (i : ℕ) → i < length ms → ((length ts ≡ 0 → ⊥) → length ts ≡ length ms * 2)
    → circle (hands_given (drop i ms)) (pairs_given (drop (i * 2) ts))
    ≡ record { node = hand_given (get_or ms i 0); touch = (hand_given (touch_word ms ts i 0), hand_given (touch_word ms ts i 1)) } ∷ circle (hands_given (drop (suc i) ms)) (pairs_given (drop (suc i * 2) ts))
unfolding circle touch_word
circle_touch ms ts i l p = by_cases (ℕ_discrete (length ts) 0)
    (λ (e : length ts ≡ 0).
    let n1 : drop (i * 2) ts ≡ [] = drop_of_length-le ts {i = i * 2} (omega arith) in
    let n2 : drop (suc i * 2) ts ≡ [] = drop_of_length-le ts {i = suc i * 2} (omega arith) in
    rw (drop-cons ms i 0 l, n1, n2, eq-eqb (length ts) 0 e, nil_pairs))
    (λ (e : length ts ≡ 0 → ⊥).
    rw (drop-cons ms i 0 l, pairs_step ts i (length ms) (p e) l, ne_eqb (length ts) 0 e))

module _ (A : ℕ → Node) (ms ts : List ℕ) (paired : (length ts ≡ 0 → ⊥) → length ts ≡ length ms * 2)
    (sure : (i : ℕ) → i < length ms → get_or ms i 0 < 2199023255552) (touch : (i d : ℕ) → i < length ms → d < 2 → touch_word ms ts i d < 2199023255552)
    (linked : (i : ℕ) → i < length ms → Linked ms ts i (A (spot_at ms i))) where
  member_linked : (i : ℕ) → i < length ms → member_at A (spot_at ms i) ≡ record { node = hand_given (get_or ms i 0); touch = (hand_given (touch_word ms ts i 0), hand_given (touch_word ms ts i 1)) }
  member_linked i l =
      let w = get_or ms i 0 in
      let k = linked i l in
      let u : spot_of w / 64 ≡ w % 8 = omega arith in
      let s : spot_of w % 64 ≡ w / 8 % 64 = omega arith in
      let h : record { unit = spot_of w / 64; slot = spot_of w % 64; serial = (A (spot_at ms i)).serial.0 } ≡ hand_given w =
      (λ j. record { unit = u j; slot = s j; serial = k.serial j }) ∙ sym (given_fine w (sure i l)) in
      let a : handle_named (A (spot_at ms i)).left ≡ hand_given (touch_word ms ts i 0) = ap handle_named k.left ∙ sym (given_fine (touch_word ms ts i 0) (touch i 0 l (omega arith))) in
      let z : handle_named (A (spot_at ms i)).right ≡ hand_given (touch_word ms ts i 1) = ap handle_named k.right ∙ sym (given_fine (touch_word ms ts i 1) (touch i 1 l (omega arith))) in
      λ j. record { node = h j; touch = (a j, z j) }

  onward : (m i : ℕ) → i + suc m ≡ length ms → follow m A (A (spot_at ms i)).next ≡ follow m A (spot_at ms (suc i))
  unfolding follow
  onward zero i e = refl
  onward (suc m) i e = ap (follow (suc m) A) ((linked i (omega arith)).next ∙ next_more ms i (omega arith))

  ring : (m i : ℕ) → i + m ≡ length ms → follow m A (spot_at ms i) ≡ circle (hands_given (drop i ms)) (pairs_given (drop (i * 2) ts))
  unfolding follow circle
  ring zero i e = sym (ap (λ (l : List ℕ). circle (hands_given l) (pairs_given (drop (i * 2) ts))) (drop_of_length-le ms {i = i} (omega arith)))
  ring (suc m) i e =
      ap₂ (λ (x : Member) (l : List Member). x ∷ l) (member_linked i (omega arith)) (onward m i e ∙ ring m (suc i) (omega arith))
      ∙ sym (circle_touch ms ts i (omega arith) paired)

  pub whole_ring : follow (length ms) A (spot_at ms 0) ≡ circle (hands_given ms) (pairs_given ts)
  whole_ring = ring (length ms) 0 (omega arith)

  -- i steps from the first member
  pub ring_walk : (i : ℕ) → i < length ms → walk i A (spot_at ms 0) ≡ spot_at ms i
  unfolding walk
  ring_walk zero l = refl
  ring_walk (suc i) l = ap (λ (p : ℕ). (A p).next) (ring_walk i (omega arith)) ∙ (linked i (omega arith)).next ∙ next_more ms i l
