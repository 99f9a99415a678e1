-- Whole lines: the letter and the first number, and what each letter leads to. Assumes nothing.
use Rattle.std.specs.Prelude.{None, Option, Some}
use Prim.Native.Nat.{ℕ, ◌≤◌, ◌<◌}
use native.Mathlib.Omega.{arith}
use native.Mathlib.Nat.{sub-zero}
use mathlib.Core.Path.{◌≡◌, refl, sym, ◌∙◌, ap}
use mathlib.Core.List.{List, [], ◌∷◌}
use lib.ListN.{length, get_or, take}
use lib.Seq.{sets, length-take-le}
use borrow.Author.Tests.{lt-ltb, le-ltb, ne_eqb}
use Rattle.ledger_spec.specs.Fields.{cut}
use Rattle.ledger_spec.specs.Operations.{D, E, S, G, F, C, K}
use Rattle.ledger_spec.specs.Grammar.{Line as Said, wrong, Fields, a_unit, a_vertex, a_serial, an_amount, a_state, letter, step, follow, then, no_more, some_serials, rest, line_of}
use Rattle.text_fields.specs.Places.{from, Ends}
use Rattle.text_fields.proofs.Steps.{step_some, step_none}
use Rattle.text_lines.specs.declared.Line.{Line}
use Rattle.text_lines.specs.declared.Line.TheVariants.{Wrong}
use Rattle.text_lines.specs.Shown.{line_shown, serials_in, ReadAs}

-- ---- the letter

letter_one : (s : List ℕ) → 1 ≤ length s → letter (take 1 s) ≡ Some (get_or s 0 0)
letter_one [] h = absurd (omega arith)
letter_one (c ∷ s) h = refl

letter_not : (f : List ℕ) → (length f ≡ 1 → ⊥) → letter f ≡ None
letter_not [] h = refl
letter_not (c ∷ []) h = absurd (h refl)
letter_not (c ∷ d ∷ f) h = refl

pub line_long : (s : List ℕ) → 1023 < length s → line_of s ≡ wrong
unfolding line_of
line_long s h = rw (lt-ltb 1023 (length s) h)

pub line_short : (s : List ℕ) → length s ≤ 1023 → line_of s ≡ then letter (λ c. then a_unit (rest c)) (cut 32 s)
unfolding line_of
line_short s h = rw (le-ltb 1023 (length s) h)

-- the first field ends at z
module _ (s : List ℕ) (z : ℕ) (short : length s ≤ 1023) (g : Ends 32 s 0 z) where
  opened : line_of s ≡ follow (step letter (take z s ∷ from s z)) (λ c. then a_unit (rest c))
  opened =
      line_short s short
      ∙ ap (λ (fs : Fields). follow (step letter fs) (λ c. then a_unit (rest c))) (λ i. (g.part ∙ ap (λ (k : ℕ). take k s) (sub-zero z)) i ∷ g.others i)

  pub line_bad : (z ≡ 1 → ⊥) → line_of s ≡ wrong
  line_bad n =
      opened ∙ ap (λ (o : Option (ℕ × Fields)). follow o (λ c. then a_unit (rest c)))
      (step_none letter (take z s) (from s z) (letter_not (take z s) (λ h. n (sym (length-take-le z s g.high) ∙ h))))

  pub line_good : z ≡ 1 → line_of s ≡ then a_unit (rest (get_or s 0 0)) (from s 1)
  line_good n =
      opened ∙ ap (λ (o : Option (ℕ × Fields)). follow o (λ c. then a_unit (rest c)))
      (ap (λ (k : ℕ). step letter (take k s ∷ from s k)) n ∙ step_some letter (take 1 s) (from s 1) (get_or s 0 0) (letter_one s (omega (arith, g.high))))

-- ---- a line without serials leaves the lent slice as it was

quiet_end : (l : Said) → serials_in l ≡ [] → (fs : Fields) → serials_in (no_more l fs) ≡ []
quiet_end l e [] = e
quiet_end l e (f ∷ fs) = refl

quiet_follow : {A : Type 0} (o : Option (A × Fields)) (k : A → Fields → Said) → ((a : A) (gs : Fields) → serials_in (k a gs) ≡ []) → serials_in (follow o k) ≡ []
quiet_follow None k e = refl
quiet_follow (Some p) k e = e p.0 p.1

quiet_then : {A : Type 0} (r : List ℕ → Option A) (k : A → Fields → Said) → ((a : A) (gs : Fields) → serials_in (k a gs) ≡ []) → (fs : Fields) → serials_in (then r k fs) ≡ []
quiet_then r k e fs = quiet_follow (step r fs) k e

quiet : (l : Said) (out : List ℕ) (r : Line) → serials_in l ≡ [] → r ≡ line_shown l → ReadAs l out out r
quiet l out r e p = record { line = p; stored = sym (ap (sets out 0) e) }

-- ---- after letter and first number

module _ (l u : ℕ) (fs : Fields) (out : List ℕ) (r : Line) where
  pub rest-D : l ≡ 68 → r ≡ line_shown (then a_vertex (λ v. no_more (Some (D u v))) fs) → ReadAs (rest l u fs) out out r
  unfolding rest
  rest-D e p = rw e (quiet _ out r (quiet_then a_vertex _ (λ a gs. quiet_end _ refl gs) fs) p)

  pub rest-B : l ≡ 66 → (out' : List ℕ) → ReadAs (some_serials u fs) out out' r → ReadAs (rest l u fs) out out' r
  unfolding rest
  rest-B e out' p = rw e p

  pub rest-E : l ≡ 69 → r ≡ line_shown (then a_serial (λ n. no_more (Some (E u n))) fs) → ReadAs (rest l u fs) out out r
  unfolding rest
  rest-E e p = rw e (quiet _ out r (quiet_then a_serial _ (λ a gs. quiet_end _ refl gs) fs) p)

  pub rest-S : l ≡ 83 → r ≡ line_shown (then a_serial (λ n. then a_state (λ g. no_more (Some (S u n g)))) fs) → ReadAs (rest l u fs) out out r
  unfolding rest
  rest-S e p = rw e (quiet _ out r (quiet_then a_serial _ (λ a gs. quiet_then a_state _ (λ b hs. quiet_end _ refl hs) gs) fs) p)

  pub rest-G : l ≡ 71 → r ≡ line_shown (then an_amount (λ n. no_more (Some (G u n))) fs) → ReadAs (rest l u fs) out out r
  unfolding rest
  rest-G e p = rw e (quiet _ out r (quiet_then an_amount _ (λ a gs. quiet_end _ refl gs) fs) p)

  pub rest-F : l ≡ 70 → r ≡ line_shown (then a_unit (λ n. then a_unit (λ m. no_more (Some (F u n m)))) fs) → ReadAs (rest l u fs) out out r
  unfolding rest
  rest-F e p = rw e (quiet _ out r (quiet_then a_unit _ (λ a gs. quiet_then a_unit _ (λ b hs. quiet_end _ refl hs) gs) fs) p)

  pub rest-C : l ≡ 67 → r ≡ line_shown (no_more (Some (C u)) fs) → ReadAs (rest l u fs) out out r
  unfolding rest
  rest-C e p = rw e (quiet _ out r (quiet_end (Some (C u)) refl fs) p)

  pub rest-K : l ≡ 75 → r ≡ line_shown (no_more (Some (K u)) fs) → ReadAs (rest l u fs) out out r
  unfolding rest
  rest-K e p = rw e (quiet _ out r (quiet_end (Some (K u)) refl fs) p)

pub rest_else : (l u : ℕ) (fs : Fields) (out : List ℕ) → (l ≡ 68 → ⊥) → (l ≡ 66 → ⊥) → (l ≡ 69 → ⊥) → (l ≡ 83 → ⊥) → (l ≡ 71 → ⊥) → (l ≡ 70 → ⊥) → (l ≡ 67 → ⊥) → (l ≡ 75 → ⊥)
    → ReadAs (rest l u fs) out out Wrong
unfolding rest
rest_else l u fs out d b e s g f c k =
    rw (ne_eqb l 68 d, ne_eqb l 66 b, ne_eqb l 69 e, ne_eqb l 83 s, ne_eqb l 71 g, ne_eqb l 70 f, ne_eqb l 67 c, ne_eqb l 75 k) (record { line = refl; stored = refl })
