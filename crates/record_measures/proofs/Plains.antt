-- The records of every letter but B, measured, from the numbers that were read. Assumes nothing.
use Rattle.std.specs.Prelude.{None, Option, Some}
use Prim.Native.Nat.{ℕ, ◌+◌, ◌≤◌, ◌<◌}
use native.Mathlib.Omega.{arith}
use mathlib.Core.Path.{◌≡◌, refl, ◌∙◌, ap}
use mathlib.Core.Bool.{true}
use mathlib.Core.List.{List}
use lib.ListN.{length, drop}
use borrow.Author.Tests.{le-leb, lt-leb}
use Rattle.ledger_spec.specs.Bench.{State, grows, stays, shrinks, rate}
use Rattle.ledger_spec.specs.Decimals.{digits as digits_in, decimal, signed}
use Rattle.ledger_spec.specs.Operations.{D, E, S, G, F, C, K}
use Rattle.text_lines.specs.Texts.{letter_of}
use Rattle.record_spec.specs.Numbers.{bytes, length_in}
use Rattle.record_spec.specs.Operations.{self}
use Rattle.record_spec.specs.Records.{fields, spelled, bytes_of}
use Rattle.record_spec.specs.Reader.{state_in, rest, serials_good}
use Rattle.record_spec.specs.Places.{at}
use Rattle.record_spec.proofs.Numbers.{length_only}
use Rattle.record_measures.specs.declared.Measured.{Measured}
use Rattle.record_measures.specs.Measures.{nothing, tried, digits_of, state_digits}
use Rattle.record_measures.proofs.Rests.{rest-D, rest-E, rest-S, bad-S, rest-G, rest-F}
use Rattle.record_measures.proofs.Measuring.{none_measured, plain_measured, plain_unfit, line-D, line-E, line-S, line-G, line-F, line-C, line-K}

-- a letter and a unit, and numbers after them
abbrev Is : Measured → ℕ → ℕ → List ℕ → Type 0
Is m letter u s = m ≡ tried letter u s

abbrev plain : ℕ → ℕ → Measured
plain size line = record { size = size; line = line; own = true }

shown : (m n : ℕ) → m ≡ n → length (decimal m) ≡ length (decimal n)
shown m n e = ap (λ (k : ℕ). length (decimal k)) e

module _ (t : List ℕ) (q u : ℕ) (unit : u < 256) (a : ℕ) (digits : a ≡ length (decimal u)) where
  pub is-D : (v b : ℕ) → q + 4 ≤ length t → v ≡ at 4 t q → v < 4294967296 → b ≡ length (decimal v) → Is (plain 6 (4 + a + b)) 68 u (drop q t)
  unfolding serials_good self bytes_of fields spelled bytes letter_of
  is-D v b h e s d =
      plain_measured (rest 68 u (drop q t)) (D u (at 4 t q)) (drop (q + 4) t) (rest-D t q u h) tt (unit, omega arith) refl 6 (4 + a + b) refl
      (omega (arith, line-D u (at 4 t q), digits, d, shown v (at 4 t q) e)) refl

  pub is-E : (v b : ℕ) → q + 4 ≤ length t → v ≡ at 4 t q → v < 4294967296 → 1 ≤ v → b ≡ length (decimal v) → Is (plain 6 (4 + a + b)) 69 u (drop q t)
  unfolding serials_good self bytes_of fields spelled bytes letter_of
  is-E v b h e s g d =
      plain_measured (rest 69 u (drop q t)) (E u (at 4 t q)) (drop (q + 4) t) (rest-E t q u h) tt (unit, omega arith) (le-leb 1 (at 4 t q) (omega arith)) 6 (4 + a + b) refl
      (omega (arith, line-E u (at 4 t q), digits, d, shown v (at 4 t q) e)) refl

  pub is-G : (n b : ℕ) → q + 8 ≤ length t → n ≡ at 8 t q → n < 18446744073709551616 → b ≡ length (signed (length_in n)) → Is (plain 10 (4 + a + b)) 71 u (drop q t)
  unfolding serials_good self bytes_of fields spelled bytes letter_of
  is-G n b h e s d =
      plain_measured (rest 71 u (drop q t)) (G u (length_in (at 8 t q))) (drop (q + 8) t) (rest-G t q u h) tt (unit, (length_only (at 8 t q) (omega arith)).1) refl 10 (4 + a + b) refl
      (omega (arith, line-G u (length_in (at 8 t q)), digits, d, ap (λ (k : ℕ). length (signed (length_in k))) e)) refl

  pub is-F : (v w b d : ℕ) → q + 2 ≤ length t → v ≡ at 1 t q → v < 256 → w ≡ at 1 t (q + 1) → w < 256 → b ≡ length (decimal v) → d ≡ length (decimal w) → Is (plain 4 (5 + a + b + d)) 70 u (drop q t)
  unfolding serials_good self bytes_of fields spelled bytes letter_of
  is-F v w b d h e s f r i j =
      plain_measured (rest 70 u (drop q t)) (F u (at 1 t q) (at 1 t (q + 1))) (drop (q + 1 + 1) t) (rest-F t q u h) tt (unit, omega (arith, e), omega (arith, f)) refl 4 (5 + a + b + d) refl
      (omega (arith, line-F u (at 1 t q) (at 1 t (q + 1)), digits, i, j, shown v (at 1 t q) e, shown w (at 1 t (q + 1)) f)) refl

  pub is-C : (s : List ℕ) → Is (plain 2 (3 + a)) 67 u s
  unfolding rest serials_good self bytes_of fields spelled bytes letter_of
  is-C s = plain_measured (rest 67 u s) (C u) s refl tt unit refl 2 (3 + a) refl (omega (arith, line-C u, digits)) refl

  pub is-K : (s : List ℕ) → Is (plain 2 (3 + a)) 75 u s
  unfolding rest serials_good self bytes_of fields spelled bytes letter_of
  is-K s = plain_measured (rest 75 u s) (K u) s refl tt unit refl 2 (3 + a) refl (omega (arith, line-K u, digits)) refl

  pub is-S : (v n b d : ℕ) → q + 5 ≤ length t → v ≡ at 4 t q → v < 4294967296 → 1 ≤ v → n ≡ at 1 t (q + 4) → b ≡ length (decimal v) → d ≡ state_digits n → (d ≡ 0 → ⊥)
      → Is (plain 7 (5 + a + b + d)) 83 u (drop q t)
  unfolding state_digits serials_good self bytes_of fields spelled bytes letter_of
  is-S v n b d h e s g f i j z = go (state_in (at 1 t (q + 4))) refl
    where
      go : (o : Option State) → state_in (at 1 t (q + 4)) ≡ o → Is (plain 7 (5 + a + b + d)) 83 u (drop q t)
      go None p = absurd (z (j ∙ ap (λ (k : ℕ). digits_of (state_in k)) f ∙ ap digits_of p))
      go (Some x) p =
          plain_measured (rest 83 u (drop q t)) (S u (at 4 t q) x) (drop (q + 4 + 1) t) (rest-S t q u x h p) tt (unit, omega arith) (le-leb 1 (at 4 t q) (omega arith)) 7 (5 + a + b + d) refl
          (omega (arith, line-S u (at 4 t q) x, digits, i, shown v (at 4 t q) e, j, ap (λ (k : ℕ). digits_of (state_in k)) f, ap digits_of p)) refl

module _ (t : List ℕ) (q u : ℕ) (unit : u < 256) where
  pub zero-E : q + 4 ≤ length t → at 4 t q ≡ 0 → Is nothing 69 u (drop q t)
  unfolding serials_good
  zero-E h e = plain_unfit (rest 69 u (drop q t)) (E u (at 4 t q)) (drop (q + 4) t) (rest-E t q u h) tt (unit, omega arith) (lt-leb 1 (at 4 t q) (omega arith))

  pub zero-S : q + 5 ≤ length t → at 4 t q ≡ 0 → Is nothing 83 u (drop q t)
  unfolding serials_good
  zero-S h e = go (state_in (at 1 t (q + 4))) refl
    where
      go : (o : Option State) → state_in (at 1 t (q + 4)) ≡ o → Is nothing 83 u (drop q t)
      go None p = none_measured (rest 83 u (drop q t)) (bad-S t q u h p)
      go (Some x) p = plain_unfit (rest 83 u (drop q t)) (S u (at 4 t q) x) (drop (q + 4 + 1) t) (rest-S t q u x h p) tt (unit, omega arith) (lt-leb 1 (at 4 t q) (omega arith))

  pub wrong-S : (n d : ℕ) → q + 5 ≤ length t → n ≡ at 1 t (q + 4) → d ≡ state_digits n → d ≡ 0 → Is nothing 83 u (drop q t)
  unfolding state_digits signed decimal digits_in
  wrong-S n d h f j z = go (state_in (at 1 t (q + 4))) refl
    where
      some_text : (g : State) → 0 < length (signed (rate g))
      some_text grows = omega arith
      some_text stays = omega arith
      some_text shrinks = omega arith

      go : (o : Option State) → state_in (at 1 t (q + 4)) ≡ o → Is nothing 83 u (drop q t)
      go None p = none_measured (rest 83 u (drop q t)) (bad-S t q u h p)
      go (Some x) p = absurd (omega (arith, some_text x, j, ap (λ (k : ℕ). digits_of (state_in k)) f, ap digits_of p))
