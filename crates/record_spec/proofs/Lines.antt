-- What the reader tests is what is asked: of numbers that bytes hold, with pairs that are serials, `good` says that the line is not LINE.
-- Assumes nothing.
use Rattle.std.specs.Prelude.{None, Option, Some}
use Prim.Native.Nat.{ℕ, suc, ◌≤◌, ◌<◌}
use native.Mathlib.Omega.{arith}
use native.Mathlib.Decide.{dec_le}
use mathlib.Core.Logic.{◌↔◌}
use mathlib.Core.Path.{◌≡◌, refl, sym, ◌∙◌, ap, subst}
use mathlib.Core.Bool.{Bool, true, false, true≢false}
use mathlib.Core.List.{List, [], ◌∷◌, map}
use lib.Dec.{leb}
use lib.ListN.{length}
use borrow.Author.Tests.{leb-false, le-leb}
use Rattle.text_decimals.proofs.Back.{read_back, number_back}
use Rattle.text_decimals.proofs.Values.{between_low}
use Rattle.ledger_spec.specs.Bench.{rate}
use Rattle.ledger_spec.specs.Decimals.{decimal, signed, between}
use Rattle.ledger_spec.specs.Operations.{D, B, E, S, G, F, C, K}
use Rattle.ledger_spec.specs.Grammar.{Line, wrong, Fields, a_unit, a_serial, a_state, letter, follow, then, no_more, all_serials, gathered, rest, line_of}
use Rattle.text_fields.proofs.Steps.{step_some, step_none}
use Rattle.text_lines.specs.Texts.{spaced, letter_of, fields_of, Fit}
use Rattle.text_lines.proofs.Spaces.{AllFree, free_decimal, free_signed, cut_spaced}
use Rattle.text_lines.proofs.Serials.{before, serials_bad, serials_cons}
use Rattle.text_lines.proofs.Texts.{text_reads}
use Rattle.text_lines.proofs.Whole.{line_long, line_short}
use Rattle.record_spec.specs.Operations.{Member, Op, serial_of, line_said, line_of_op}
use Rattle.record_spec.specs.Records.{Pairs, PairsOf, Writable}
use Rattle.record_spec.specs.Reader.{members_good, serials_good, good}
use Rattle.record_spec.proofs.Writable.{joined, Words, Held, good_writable}

-- the line of a writable operation says the operation
pub line_reads : (op : Op) → Writable op → line_of (line_of_op op) ≡ line_said op
line_reads op w = text_reads (line_said op) w.fit w.short

-- ---- a line after letter and unit

goes : {A : Type 0} (r : List ℕ → Option A) (k : A → Fields → Line) (f : List ℕ) (fs : Fields) (a : A) → r f ≡ Some a → then r k (f ∷ fs) ≡ k a fs
goes r k f fs a e = ap (λ (o : Option (_ × Fields)). follow o k) (step_some r f fs a e)

stops : {A : Type 0} (r : List ℕ → Option A) (k : A → Fields → Line) (f : List ℕ) (fs : Fields) → r f ≡ None → then r k (f ∷ fs) ≡ wrong
stops r k f fs e = ap (λ (o : Option (_ × Fields)). follow o k) (step_none r f fs e)

opened : (c u : ℕ) (fs : Fields) → (c ≡ 32 → ⊥) → AllFree fs → u ≤ 255 → length (spaced (c ∷ []) (decimal u ∷ fs)) ≤ 1023
    → line_of (spaced (c ∷ []) (decimal u ∷ fs)) ≡ rest c u fs
opened c u fs n free h short =
    line_short (spaced (c ∷ []) (decimal u ∷ fs)) short
    ∙ ap (then letter (λ d. then a_unit (rest d))) (cut_spaced (c ∷ []) (decimal u ∷ fs) (n, tt) (free_decimal u, free))
    ∙ goes letter (λ d. then a_unit (rest d)) (c ∷ []) (decimal u ∷ fs) c refl
    ∙ goes a_unit (rest c) (decimal u) fs u (number_back 0 255 u (omega arith) h)

-- ---- a serial 0

serial_zero : (k : ℕ) → k < 1 → a_serial (decimal k) ≡ None
serial_zero k h = ap (between 1 4294967295) (read_back k) ∙ between_low 1 4294967295 k h

serials_zero : (ms : List Member) → Words ms → Pairs ms → members_good ms ≡ false → all_serials (map decimal (map serial_of ms)) ≡ None
unfolding members_good
serials_zero [] h p e = absurd (true≢false e)
serials_zero (m ∷ ms) h p e = go (dec_le 1 m.serial) (serials_zero ms h.3 p.2)
  where
    go : Dec (1 ≤ m.serial) → (members_good ms ≡ false → all_serials (map decimal (map serial_of ms)) ≡ None) → all_serials (decimal m.serial ∷ map decimal (map serial_of ms)) ≡ None
    go (no n) i = serials_bad (decimal m.serial) (map decimal (map serial_of ms)) (serial_zero m.serial (omega arith))
    go (yes y) i =
        let word : m.serial < 4294967296 = h.0 in
        let b = rw (le-leb 1 m.serial y, le-leb 1 m.first p.0.0, le-leb 1 m.second p.1.0) at e in
        serials_cons (decimal m.serial) (map decimal (map serial_of ms)) m.serial (number_back 1 4294967295 m.serial y (omega arith)) ∙ ap (before m.serial) (i b)

all_free : (ns : List ℕ) → AllFree (map decimal ns)
all_free [] = tt
all_free (n ∷ ns) = (free_decimal n, all_free ns)

serials_wrong : (op : Op) → Held op → PairsOf op → length (line_of_op op) ≤ 1023 → serials_good op ≡ false → line_of (line_of_op op) ≡ wrong
unfolding serials_good letter_of fields_of rest
serials_wrong (D u v) h p s e = absurd (true≢false e)
serials_wrong (B u []) h p s e = opened 66 u [] (λ x. omega arith) tt (omega (arith, h.0)) s
serials_wrong (B u (m ∷ ms)) h p s e =
    opened 66 u (map decimal (map serial_of (m ∷ ms))) (λ x. omega arith) (all_free (map serial_of (m ∷ ms))) (omega (arith, h.0)) s
    ∙ ap (gathered u) (serials_zero (m ∷ ms) h.2 p (rw (le-leb 1 (suc (length ms)) (omega arith)) at e))
serials_wrong (E u k) h p s e =
    opened 69 u (decimal k ∷ []) (λ x. omega arith) (free_decimal k, tt) (omega (arith, h.0)) s
    ∙ stops a_serial (λ n. no_more (Some (E u n))) (decimal k) [] (serial_zero k (leb-false 1 k e))
serials_wrong (S u k g) h p s e =
    opened 83 u (decimal k ∷ signed (rate g) ∷ []) (λ x. omega arith) (free_decimal k, (free_signed (rate g), tt)) (omega (arith, h.0)) s
    ∙ stops a_serial (λ n. then a_state (λ y. no_more (Some (S u n y)))) (decimal k) (signed (rate g) ∷ []) (serial_zero k (leb-false 1 k e))
serials_wrong (G u l) h p s e = absurd (true≢false e)
serials_wrong (F q l r) h p s e = absurd (true≢false e)
serials_wrong (C u) h p s e = absurd (true≢false e)
serials_wrong (K u) h p s e = absurd (true≢false e)

-- ---- both ways

pub good_exactly : (op : Op) → Held op → PairsOf op → (good op ≡ true) ↔ (line_of (line_of_op op) ≡ wrong → ⊥)
unfolding good
good_exactly op h p =
    ((λ g e. let w = good_writable op h g in subst Fit (sym (line_reads op w) ∙ e) w.fit), (λ n. short n (dec_le (length (line_of_op op)) 1023)))
  where
    serial : (line_of (line_of_op op) ≡ wrong → ⊥) → length (line_of_op op) ≤ 1023 → (b : Bool) → serials_good op ≡ b → good op ≡ true
    serial n s true e = joined (serials_good op) (leb (length (line_of_op op)) 1023) e (le-leb (length (line_of_op op)) 1023 s)
    serial n s false e = absurd (n (serials_wrong op h p s e))

    short : (line_of (line_of_op op) ≡ wrong → ⊥) → Dec (length (line_of_op op) ≤ 1023) → good op ≡ true
    short n (yes s) = serial n s (serials_good op) refl
    short n (no s) = absurd (n (line_long (line_of_op op) (omega arith)))
