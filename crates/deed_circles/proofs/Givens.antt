-- What the passed tests of add blossom say of the words given: each is a packed handle of a node that stands, in the tree and without a parent, at a
-- place of its own; touching handles come two a member or not at all, since one left over would be stale. Assumes nothing.
use Rattle.std.specs.Prelude.{None}
use Prim.Native.Nat.{ℕ, zero, suc, ◌+◌, ◌*◌, ◌/◌, ◌%◌, ◌<◌, ◌≤◌}
use mathlib.Core.Path.{◌≡◌, refl, ap, sym, ◌∙◌, subst}
use mathlib.Core.Logic.{◌≢◌, by_cases, ⊎_elim}
use mathlib.Core.Bool.{Bool, true, false}
use mathlib.Core.List.{List, [], ◌∷◌}
use native.Mathlib.Decide.{ℕ_discrete, dec_lt}
use native.Mathlib.Omega.{arith}
use borrow.Author.Tests.{eq-eqb, ne_eqb, lt-ltb, le-ltb}
use lib.ListN.{length, get_or, length-map}
use Rattle.bench_words.specs.Codec.{handle_of}
use Rattle.bench_words.specs.Store.{node_at, interface_at}
use Rattle.ledger_spec.specs.Bench.{Handle}
use Rattle.ledger_spec.specs.Look.{same_handle, climb, free_slot}
use Rattle.ledger_spec.specs.Look as look
use Rattle.ledger_spec.specs.Tests.{first, both}
use Rattle.ledger_spec.specs.Refuse.{blossom_tests}
use Rattle.ledger_spec.specs.Named.{handle_named}
use Rattle.ledger_spec.specs.Knit.{In, here, there}
use Rattle.ledger_spec.proofs.Knit.{none_some, same_self}
use Rattle.ledger_spec.specs.SoundTree.{tally}
use Rattle.ledger_spec.proofs.Lists.{tally_yes, tally_no}
use Rattle.ledger_spec.proofs.Accepted.{Named, BlossomPassed, blossom_passed}
use Rattle.ledger_spec.proofs.Passed.{Open}
use Rattle.bench_views.specs.View.{view}
use Rattle.bench_views.specs.Fit.{Fit}
use Rattle.bench_views.proofs.Views.{view_out}
use Rattle.deed_nodes.proofs.Needs.{Vacant, open_slot, open_next, Stands, stands, stands_free}
use Rattle.bench_views.specs.Given.{nowhere, hand_given}
use Rattle.deed_circles.specs.Given.{hands_given, pairs_given, spot_at, touch_word}

-- ---- one word
pub given_fine : (w : ℕ) → w < 2199023255552 → hand_given w ≡ handle_named (handle_of w)
unfolding hand_given
given_fine w l = rw (lt-ltb w 2199023255552 l)

given_out : (w : ℕ) → 2199023255552 ≤ w → hand_given w ≡ nowhere
unfolding hand_given
given_out w l = rw (le-ltb w 2199023255552 l)

module _ (b : List ℕ) (u : ℕ) where
  none_out : Named (view b) u nowhere → ⊥
  none_out N = none_some (view_out (get_or b 0 0) (interface_at b) (node_at b) 8 0 (omega arith)) N.has.stands

  given_sure : (w : ℕ) → Named (view b) u (hand_given w) → w < 2199023255552
  given_sure w N = go (dec_lt w 2199023255552)
    where
      go : Dec (w < 2199023255552) → w < 2199023255552
      go (yes l) = l
      go (no q) = absurd (none_out (subst (Named (view b) u) (given_out w (omega arith)) N))

-- ---- lists of words
given_in : (ms : List ℕ) (i : ℕ) → i < length ms → In (hand_given (get_or ms i 0)) (hands_given ms)
given_in [] i l = absurd (omega arith)
given_in (x ∷ ms) zero l = here refl
given_in (x ∷ ms) (suc i) l = there (given_in ms i (omega arith))

-- a handle that stands at two places is counted twice
tally_more : (h g : Handle) (hs : List Handle) → tally (same_handle h) hs ≤ tally (same_handle h) (g ∷ hs)
tally_more h g hs = go (same_handle h g) refl
  where
    go : (c : Bool) → same_handle h g ≡ c → tally (same_handle h) hs ≤ tally (same_handle h) (g ∷ hs)
    go true e = omega (arith, tally_yes (same_handle h) g hs e)
    go false e = omega (arith, tally_no (same_handle h) g hs e)

given_counts : (h : Handle) (ms : List ℕ) (i : ℕ) → i < length ms → h ≡ hand_given (get_or ms i 0) → 1 ≤ tally (same_handle h) (hands_given ms)
given_counts h [] i l e = absurd (omega arith)
given_counts h (x ∷ ms) zero l e = omega (arith, tally_yes (same_handle h) (hand_given x) (hands_given ms) (ap (same_handle h) (sym e) ∙ same_self h))
given_counts h (x ∷ ms) (suc i) l e = omega (arith, given_counts h ms i (omega arith) e, tally_more h (hand_given x) (hands_given ms))

given_twice : (h : Handle) (ms : List ℕ) (i j : ℕ) → i < j → j < length ms → h ≡ hand_given (get_or ms i 0) → h ≡ hand_given (get_or ms j 0) → 2 ≤ tally (same_handle h) (hands_given ms)
given_twice h [] i j l k e f = absurd (omega arith)
given_twice h (x ∷ ms) i zero l k e f = absurd (omega arith)
given_twice h (x ∷ ms) zero (suc j) l k e f = omega (arith, tally_yes (same_handle h) (hand_given x) (hands_given ms) (ap (same_handle h) (sym e) ∙ same_self h), given_counts h ms j (omega arith) f)
given_twice h (x ∷ ms) (suc i) (suc j) l k e f = omega (arith, given_twice h ms i j (omega arith) (omega arith) e f, tally_more h (hand_given x) (hands_given ms))

touch_in : (ts : List ℕ) (j : ℕ) → j < length ts → In (hand_given (get_or ts j 0)) (both (pairs_given ts))
unfolding both pairs_given
touch_in [] j l = absurd (omega arith)
touch_in (x ∷ []) zero l = here refl
touch_in (x ∷ []) (suc j) l = absurd (omega arith)
touch_in (x ∷ (y ∷ ts)) zero l = here refl
touch_in (x ∷ (y ∷ ts)) (suc zero) l = there (here refl)
touch_in (x ∷ (y ∷ ts)) (suc (suc j)) l = there (there (touch_in ts j (omega arith)))

-- two words a pair, unless a handle that names no node is among them
touch_even : (P : Handle → Type 0) (ts : List ℕ) → ((h : Handle) → In h (both (pairs_given ts)) → P h) → (P nowhere → ⊥) → length ts ≡ length (pairs_given ts) * 2
unfolding both pairs_given
touch_even P [] all out = refl
touch_even P (x ∷ []) all out = absurd (out (all nowhere (there (here refl))))
touch_even P (x ∷ (y ∷ ts)) all out =
    let e = touch_even P ts (λ h i. all h (there (there i))) out in
    omega arith

-- ---- all the tests
pub record Ringable (b : List ℕ) (u : ℕ) (ms ts : List ℕ) : Type 0 where
  pub root : Open (view b) u
  pub slot : Vacant b u (free_slot (view b) u)
  pub next : get_or b 0 0 < 4294967296
  pub some : 1 ≤ length ms
  pub many : length ms ≤ 64
  pub paired : (length ts ≡ 0 → ⊥) → length ts ≡ length ms * 2
  pub sure : (i : ℕ) → i < length ms → get_or ms i 0 < 2199023255552
  pub stands : (i : ℕ) → i < length ms → Stands b (handle_named (handle_of (get_or ms i 0)))
  pub under : (i : ℕ) → i < length ms → climb 8 (view b) (get_or ms i 0 % 8) ≡ u
  pub free : (i : ℕ) → i < length ms → (node_at b (spot_at ms i)).parent ≡ None
  pub apart : (i j : ℕ) → i < length ms → j < length ms → i ≢ j → spot_at ms i ≢ spot_at ms j
  pub touch : (i d : ℕ) → i < length ms → d < 2 → touch_word ms ts i d < 2199023255552

module _ (b : List ℕ) (u : ℕ) (ms ts : List ℕ) (F : Fit b) (P : BlossomPassed (view b) u (hands_given ms) (pairs_given ts)) where
  named : (i : ℕ) → i < length ms → Named (view b) u (hand_given (get_or ms i 0))
  named i l = P.member (hand_given (get_or ms i 0)) (given_in ms i l)

  is_sure : (i : ℕ) → i < length ms → get_or ms i 0 < 2199023255552
  is_sure i l = given_sure b u (get_or ms i 0) (named i l)

  is_hand : (i : ℕ) → i < length ms → hand_given (get_or ms i 0) ≡ handle_named (handle_of (get_or ms i 0))
  is_hand i l = given_fine (get_or ms i 0) (is_sure i l)

  does_stand : (i : ℕ) → i < length ms → Stands b (handle_named (handle_of (get_or ms i 0)))
  does_stand i l = stands b F (handle_named (handle_of (get_or ms i 0))) (subst (Named (view b) u) (is_hand i l) (named i l))

  -- two members at one place would have one serial, and be the same handle
  is_apart_up : (i j : ℕ) → i < j → j < length ms → spot_at ms i ≢ spot_at ms j
  is_apart_up i j l lj e =
      let x = get_or ms i 0 in
      let y = get_or ms j 0 in
      let u0 : x % 8 ≡ y % 8 = omega arith in
      let s0 : x / 8 % 64 ≡ y / 8 % 64 = omega arith in
      let n0 : x / 8 / 64 % 4294967296 ≡ y / 8 / 64 % 4294967296 = sym (does_stand i (omega arith)).serial ∙ ap (λ (k : ℕ). (node_at b k).serial.0) e ∙ (does_stand j lj).serial in
      let same : handle_named (handle_of x) ≡ handle_named (handle_of y) = λ k. record { unit = u0 k; slot = s0 k; serial = n0 k } in
      let g : hand_given x ≡ hand_given y = is_hand i (omega arith) ∙ same ∙ sym (is_hand j lj) in
      omega (arith, given_twice (hand_given x) ms i j l lj refl g, P.once (hand_given x) (given_in ms i (omega arith)))

  is_apart : (i j : ℕ) → i < length ms → j < length ms → i ≢ j → spot_at ms i ≢ spot_at ms j
  is_apart i j li lj ne e = go (dec_lt i j)
    where
      go : Dec (i < j) → ⊥
      go (yes l) = is_apart_up i j l lj e
      go (no l) = is_apart_up j i (omega arith) li (sym e)

  is_even : length ts ≡ length (pairs_given ts) * 2
  is_even = touch_even (Named (view b) u) ts P.touch (none_out b u)

  is_paired : (length ts ≡ 0 → ⊥) → length ts ≡ length ms * 2
  is_paired ne = ⊎_elim
      (λ (e : pairs_given ts ≡ []). absurd (ne (omega (arith, is_even, ap length e))))
      (λ (e : length (pairs_given ts) ≡ length (hands_given ms)). omega (arith, is_even, e, length-map ms hand_given))
      P.paired

  is_touch : (i d : ℕ) → i < length ms → d < 2 → touch_word ms ts i d < 2199023255552
  unfolding touch_word
  is_touch i d l ld = by_cases (ℕ_discrete (length ts) 0)
      (λ (e : length ts ≡ 0). rw (eq-eqb (length ts) 0 e) (is_sure i l))
      (λ (ne : length ts ≡ 0 → ⊥).
      let long = is_paired ne in
      rw (ne_eqb (length ts) 0 ne) (given_sure b u (get_or ts (i * 2 + d) 0) (P.touch (hand_given (get_or ts (i * 2 + d) 0)) (touch_in ts (i * 2 + d) (omega arith)))))

  ring_of : Ringable b u ms ts
  ring_of =
      record {
        root = P.here;
        slot = open_slot b F u P.here P.room;
        next = open_next b F u P.here P.unworn;
        some = omega (arith, P.least, length-map ms hand_given);
        many = omega (arith, P.most, length-map ms hand_given);
        paired = is_paired;
        sure = is_sure;
        stands = does_stand;
        under = λ i l. ap (λ (h : Handle). climb 8 (view b) h.unit) (sym (is_hand i l)) ∙ (named i l).near;
        free = λ i l.
            let g = given_in ms i l in
            stands_free (does_stand i l) (ap (look.node_named (view b)) (sym (is_hand i l)) ∙ (P.member (hand_given (get_or ms i 0)) g).is) (P.orphan (hand_given (get_or ms i 0)) g);
        apart = is_apart;
        touch = is_touch;
      }

pub ringable : (b : List ℕ) (u : ℕ) (ms ts : List ℕ) → Fit b → first (blossom_tests (view b) u (hands_given ms) (pairs_given ts)) ≡ 0 → Ringable b u ms ts
ringable b u ms ts F e = ring_of b u ms ts F (blossom_passed (view b) u (hands_given ms) (pairs_given ts) e)
