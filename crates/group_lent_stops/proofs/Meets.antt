-- The words of a stop: its kind says whether it has a pair, and its handles' words are the same where its handles are. Assumes nothing.
use Rattle.std.specs.Prelude.{None, Some}
use Prim.Native.Nat.{ℕ, zero, suc, ◌%◌, ◌<◌, ◌≤◌}
use mathlib.Core.Path.{◌≡◌, refl, sym, ap, ◌∙◌}
use mathlib.Core.Bool.{Bool, true, false, false≢true, ◌&&◌, ◌||◌}
use mathlib.Core.Logic.{◌⊎◌, inl, inr, by_cases}
use native.Mathlib.Decide.{ℕ_discrete}
use native.Mathlib.Omega.{arith}
use borrow.Author.Tests.{eqb-true, eqb-false, eq-eqb, ne_eqb, ltb-true, ltb-false, lt-leb, le-leb}
use lib.Dec.{eqb, ltb}
use Rattle.kinds.specs.Names.{same_code, no_code}
use Rattle.kinds.specs.Obstacles as kinds
use Rattle.kinds.specs.Obstacles.{listable, is_stop}
use Rattle.kinds.specs.declared.Handle.{Handle}
use Rattle.kinds.specs.declared.Obstacle.TheVariants.{NonZeroGrow, Conflicting, TouchingVirtual, BlossomNeedExpand, VertexShrinkStop}
use Rattle.bench_words.specs.Codec.{pick, handle_of, nowhere_code, hand_of, handle_word}
use Rattle.group_lent.specs.Forms.{length_of, same_hand, pair_of, five, is_form, obstacle_of}
use Rattle.group_lent.specs.declared.Five.{Five}
use Rattle.group_lent.proofs.Stores.{and_left, and_right}
use Rattle.group_lent_stops.specs.Stops.{pair_five}

module _ (f : Five) where
  pub stop_kinds : is_stop (obstacle_of f) ≡ true → (f.kind ≡ 5) ⊎ (f.kind ≡ 6)
  unfolding obstacle_of
  stop_kinds = go (eqb f.kind 1) (eqb f.kind 2) (eqb f.kind 3) (eqb f.kind 4) (eqb f.kind 5) refl (eqb f.kind 6) refl
    where
      go : (p q r s t : Bool) → eqb f.kind 5 ≡ t → (u : Bool) → eqb f.kind 6 ≡ u →
          is_stop (
          pick p (NonZeroGrow (length_of f.a) (eqb f.b 1))
          (pick q (Conflicting (pair_of f.a f.b) (pair_of f.c f.d))
          (pick r (TouchingVirtual (pair_of f.a f.b) (record { 0 = f.c % 4294967296 }) (eqb f.d 1))
          (pick s (BlossomNeedExpand (hand_of f.a))
          (pick t (VertexShrinkStop (hand_of f.a) None)
          (pick u (VertexShrinkStop (hand_of f.a) (Some (pair_of f.b f.c))) (BlossomNeedExpand no_code))))))
          ) ≡ true → (f.kind ≡ 5) ⊎ (f.kind ≡ 6)
      go true q r s t x u y e = absurd (false≢true e)
      go false true r s t x u y e = absurd (false≢true e)
      go false false true s t x u y e = absurd (false≢true e)
      go false false false true t x u y e = absurd (false≢true e)
      go false false false false true x u y e = inl (eqb-true f.kind 5 x)
      go false false false false false x true y e = inr (eqb-true f.kind 6 y)
      go false false false false false x false y e = absurd (false≢true e)

  -- no 5, so a pair
  pub stop_six : is_stop (obstacle_of f) ≡ true → eqb f.kind 5 ≡ false → f.kind ≡ 6
  stop_six e n = go (stop_kinds e)
    where
      go : (f.kind ≡ 5) ⊎ (f.kind ≡ 6) → f.kind ≡ 6
      go (inl z) = absurd (eqb-false f.kind 5 n z)
      go (inr z) = z

  pub no_pair : f.kind ≡ 5 → kinds.pair_of (obstacle_of f) ≡ None
  unfolding obstacle_of
  no_pair e = rw e

  pub a_pair : f.kind ≡ 6 → kinds.pair_of (obstacle_of f) ≡ Some (pair_of f.b f.c)
  unfolding obstacle_of
  a_pair e = rw e

-- the conflict that two stops with pairs become
pub pair_form : (f y : Five) → is_form (pair_five f y) ≡ true
unfolding is_form
pair_form f y = refl

pub pair_says : (f y : Five) → obstacle_of (pair_five f y) ≡ Conflicting (pair_of f.b f.c) (pair_of y.b y.c)
unfolding obstacle_of
pair_says f y = refl

-- ---- handles

same_refl : (h : Handle) → same_code h h ≡ true
same_refl h = rw (eq-eqb h.unit h.unit refl, eq-eqb h.slot h.slot refl, eq-eqb h.serial.0 h.serial.0 refl)

same_is : (g h : Handle) → same_code g h ≡ true → g ≡ h
same_is g h e =
    let r = and_right (eqb g.unit h.unit) (eqb g.slot h.slot && eqb g.serial.0 h.serial.0) e in
    let u = eqb-true g.unit h.unit (and_left (eqb g.unit h.unit) (eqb g.slot h.slot && eqb g.serial.0 h.serial.0) e) in
    let s = eqb-true g.slot h.slot (and_left (eqb g.slot h.slot) (eqb g.serial.0 h.serial.0) r) in
    let t = eqb-true g.serial.0 h.serial.0 (and_right (eqb g.slot h.slot) (eqb g.serial.0 h.serial.0) r) in
    λ i. record { unit = u i; slot = s i; serial = record { 0 = t i } }

handle_same : (w : ℕ) → w < 2199023255552 → handle_word (handle_of w) ≡ w
handle_same w h = omega arith

or_false : (b : Bool) → (b || false) ≡ b
or_false true = refl
or_false false = refl

-- handles of two words that may name a node
low_words : (a b : ℕ) → a < 2199023255552 → b < 2199023255552 → same_code (handle_of a) (handle_of b) ≡ eqb a b
low_words a b h k = go (eqb a b) refl
  where
    differ : (eqb a b ≡ false) → (t : Bool) → same_code (handle_of a) (handle_of b) ≡ t → t ≡ false
    differ n true e = absurd (eqb-false a b n (sym (handle_same a h) ∙ ap handle_word (same_is (handle_of a) (handle_of b) e) ∙ handle_same b k))
    differ n false e = refl

    go : (t : Bool) → eqb a b ≡ t → same_code (handle_of a) (handle_of b) ≡ eqb a b
    go true e = let z = eqb-true a b e in rw (z, eq-eqb b b refl) (same_refl (handle_of b))
    go false e = rw e (differ e (same_code (handle_of a) (handle_of b)) refl)

-- two words are one handle just where the code says so
pub same_words : (a b : ℕ) → same_code (hand_of a) (hand_of b) ≡ same_hand a b
unfolding hand_of
same_words a b = go (ltb a 2199023255552) refl (ltb b 2199023255552) refl
  where
    either : (t : Bool) → (t || true) ≡ true
    either true = refl
    either false = refl

    go : (p : Bool) → ltb a 2199023255552 ≡ p → (q : Bool) → ltb b 2199023255552 ≡ q → same_code (pick p (handle_of a) nowhere_code) (pick q (handle_of b) nowhere_code) ≡ same_hand a b
    go true e true d =
        let h = ltb-true a 2199023255552 e in
        low_words a b h (ltb-true b 2199023255552 d) ∙ rw (lt-leb 2199023255552 a h) (sym (or_false (eqb a b)))
    go true e false d =
        let h = ltb-true a 2199023255552 e in
        let k = ltb-false b 2199023255552 d in
        rw (ne_eqb (a % 8) 8 (λ z. omega arith), ne_eqb a b (λ z. omega arith), lt-leb 2199023255552 a h)
    go false e true d =
        let h = ltb-false a 2199023255552 e in
        let k = ltb-true b 2199023255552 d in
        rw (ne_eqb 8 (b % 8) (λ z. omega arith), ne_eqb a b (λ z. omega arith), le-leb 2199023255552 a h, lt-leb 2199023255552 b k)
    go false e false d =
        rw (le-leb 2199023255552 a (ltb-false a 2199023255552 e), le-leb 2199023255552 b (ltb-false b 2199023255552 d)) (sym (either (eqb a b)))

-- ---- an obstacle's kind says where it goes

pub listable_of : (k a b c d : ℕ) → is_form (five k a b c d) ≡ true → (k ≡ 1 → ⊥) → k < 5 → listable (obstacle_of (five k a b c d)) ≡ true
unfolding is_form obstacle_of
listable_of zero a b c d e n h = absurd (false≢true e)
listable_of (suc zero) a b c d e n h = absurd (n refl)
listable_of (suc (suc zero)) a b c d e n h = refl
listable_of (suc (suc (suc zero))) a b c d e n h = refl
listable_of (suc (suc (suc (suc zero)))) a b c d e n h = refl
listable_of (suc (suc (suc (suc (suc k))))) a b c d e n h = absurd (omega arith)

pub stop_of : (f : Five) → is_form f ≡ true → 5 ≤ f.kind → is_stop (obstacle_of f) ≡ true
unfolding is_form obstacle_of
stop_of f e h =
    by_cases (ℕ_discrete f.kind 5)
    (λ (z : f.kind ≡ 5). rw z)
    (λ (m : f.kind ≡ 5 → ⊥).
    by_cases (ℕ_discrete f.kind 6)
    (λ (z : f.kind ≡ 6). rw z)
    (λ (n : f.kind ≡ 6 → ⊥).
    let z : is_form f ≡ false =
    rw (ne_eqb f.kind 1 (λ i. omega arith), ne_eqb f.kind 2 (λ i. omega arith), ne_eqb f.kind 3 (λ i. omega arith), ne_eqb f.kind 4 (λ i. omega arith), ne_eqb f.kind 5 m, ne_eqb f.kind 6 n) in
    absurd (false≢true (sym z ∙ e))))
