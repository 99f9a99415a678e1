-- The text of a line reads as the line: each field is read back, and single spaces keep the fields apart. Assumes nothing.
use Rattle.std.specs.Prelude.{None, Option, Some}
use Prim.Native.Nat.{ℕ, ◌≤◌}
use native.Mathlib.Omega.{arith}
use mathlib.Core.Path.{◌≡◌, refl, ◌∙◌, ap}
use mathlib.Core.List.{List, [], ◌∷◌, map}
use lib.ListN.{length}
use lib.IntN.{pos, negsuc}
use Rattle.text_decimals.proofs.Back.{number_back, signed_back}
use Rattle.ledger_spec.specs.Bench.{State, grows, stays, shrinks, rate}
use Rattle.ledger_spec.specs.Decimals.{decimal, signed}
use Rattle.ledger_spec.specs.Operations.{D, B, E, S, G, F, C, K}
use Rattle.ledger_spec.specs.Grammar.{Line, Fields, a_unit, a_vertex, a_serial, an_amount, a_state, state_in, letter, follow, then, no_more, all_serials, gathered, rest, line_of}
use Rattle.text_fields.proofs.Steps.{step_some}
use Rattle.text_lines.specs.Texts.{letter_of, fields_of, line_text, Serial32, Serials, Fit}
use Rattle.text_lines.proofs.Serials.{before, serials_none, serials_cons}
use Rattle.text_lines.proofs.Spaces.{Free, AllFree, free_decimal, free_signed, cut_spaced}
use Rattle.text_lines.proofs.Whole.{line_short}

-- ---- a field that is read

reads : {A : Type 0} (r : List ℕ → Option A) (k : A → Fields → Line) (f : List ℕ) (fs : Fields) (a : A) → r f ≡ Some a → then r k (f ∷ fs) ≡ k a fs
reads r k f fs a e = ap (λ (o : Option (_ × Fields)). follow o k) (step_some r f fs a e)

state_back : (g : State) → a_state (signed (rate g)) ≡ Some g
state_back grows = ap state_in (signed_back (pos 1) (record { sfits = omega arith }))
state_back stays = ap state_in (signed_back (pos 0) (record { sfits = omega arith }))
state_back shrinks = ap state_in (signed_back (negsuc 0) (record { sfits = omega arith }))

serial_back : (n : ℕ) → Serial32 n → a_serial (decimal n) ≡ Some n
serial_back n h = number_back 1 4294967295 n h.0 h.1

serials_back : (ns : List ℕ) → Serials ns → all_serials (map decimal ns) ≡ Some ns
serials_back [] h = serials_none
serials_back (n ∷ ns) h = serials_cons (decimal n) (map decimal ns) n (serial_back n h.0) ∙ ap (before n) (serials_back ns h.1)

-- ---- a line

first : (c u : ℕ) (fs : Fields) → u ≤ 255 → then letter (λ d. then a_unit (rest d)) ((c ∷ []) ∷ decimal u ∷ fs) ≡ rest c u fs
first c u fs h =
    reads letter (λ d. then a_unit (rest d)) (c ∷ []) (decimal u ∷ fs) c refl ∙ reads a_unit (rest c) (decimal u) fs u (number_back 0 255 u (omega arith) h)

fields_read : (l : Line) → Fit l → then letter (λ d. then a_unit (rest d)) (letter_of l ∷ fields_of l) ≡ l
unfolding letter_of fields_of rest
fields_read (Some (D u v)) h = first 68 u (decimal v ∷ []) h.0 ∙ reads a_vertex (λ x. no_more (Some (D u x))) (decimal v) [] v (number_back 0 4294967295 v (omega arith) h.1)
fields_read (Some (B u [])) h = absurd (omega (arith, h.1))
fields_read (Some (B u (n ∷ ns))) h = first 66 u (map decimal (n ∷ ns)) h.0 ∙ ap (gathered u) (serials_back (n ∷ ns) h.2)
fields_read (Some (E u n)) h = first 69 u (decimal n ∷ []) h.0 ∙ reads a_serial (λ x. no_more (Some (E u x))) (decimal n) [] n (serial_back n h.1)
fields_read (Some (S u n g)) h =
    first 83 u (decimal n ∷ signed (rate g) ∷ []) h.0
    ∙ reads a_serial (λ x. then a_state (λ y. no_more (Some (S u x y)))) (decimal n) (signed (rate g) ∷ []) n (serial_back n h.1)
    ∙ reads a_state (λ y. no_more (Some (S u n y))) (signed (rate g)) [] g (state_back g)
fields_read (Some (G u l)) h = first 71 u (signed l ∷ []) h.0 ∙ reads an_amount (λ x. no_more (Some (G u x))) (signed l) [] l (signed_back l h.1)
fields_read (Some (F p l r)) h =
    first 70 p (decimal l ∷ decimal r ∷ []) h.0
    ∙ reads a_unit (λ x. then a_unit (λ y. no_more (Some (F p x y)))) (decimal l) (decimal r ∷ []) l (number_back 0 255 l (omega arith) h.1)
    ∙ reads a_unit (λ y. no_more (Some (F p l y))) (decimal r) [] r (number_back 0 255 r (omega arith) h.2)
fields_read (Some (C u)) h = first 67 u [] h
fields_read (Some (K u)) h = first 75 u [] h
fields_read None h = absurd h

all_free : (ns : List ℕ) → AllFree (map decimal ns)
all_free [] = tt
all_free (n ∷ ns) = (free_decimal n, all_free ns)

letter_free : (l : Line) → Fit l → Free (letter_of l)
unfolding letter_of
letter_free (Some (D u v)) h = (λ e. omega arith, tt)
letter_free (Some (B u ns)) h = (λ e. omega arith, tt)
letter_free (Some (E u n)) h = (λ e. omega arith, tt)
letter_free (Some (S u n g)) h = (λ e. omega arith, tt)
letter_free (Some (G u l)) h = (λ e. omega arith, tt)
letter_free (Some (F p l r)) h = (λ e. omega arith, tt)
letter_free (Some (C u)) h = (λ e. omega arith, tt)
letter_free (Some (K u)) h = (λ e. omega arith, tt)
letter_free None h = absurd h

fields_free : (l : Line) → Fit l → AllFree (fields_of l)
unfolding fields_of
fields_free (Some (D u v)) h = (free_decimal u, (free_decimal v, tt))
fields_free (Some (B u ns)) h = (free_decimal u, all_free ns)
fields_free (Some (E u n)) h = (free_decimal u, (free_decimal n, tt))
fields_free (Some (S u n g)) h = (free_decimal u, (free_decimal n, (free_signed (rate g), tt)))
fields_free (Some (G u l)) h = (free_decimal u, (free_signed l, tt))
fields_free (Some (F p l r)) h = (free_decimal p, (free_decimal l, (free_decimal r, tt)))
fields_free (Some (C u)) h = (free_decimal u, tt)
fields_free (Some (K u)) h = (free_decimal u, tt)
fields_free None h = absurd h

pub text_reads : (l : Line) → Fit l → length (line_text l) ≤ 1023 → line_of (line_text l) ≡ l
text_reads l h short =
    line_short (line_text l) short
    ∙ ap (then letter (λ d. then a_unit (rest d))) (cut_spaced (letter_of l) (fields_of l) (letter_free l h) (fields_free l h))
    ∙ fields_read l h
