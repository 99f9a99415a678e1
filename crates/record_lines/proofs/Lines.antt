-- The record that stands at a place has the line that its numbers' places say. Assumes nothing.
use Rattle.std.specs.Prelude.{None, Option, Some}
use Rattle.std.proofs.lemmas.Option.{same_Some, none-some}
use Prim.Native.Nat.{ℕ, suc, ◌+◌, ◌*◌, ◌≤◌}
use native.Mathlib.Omega.{arith}
use native.Mathlib.Decide.{dec_le, ℕ_discrete}
use mathlib.Core.Path.{◌≡◌, refl, sym, ◌∙◌, ap}
use mathlib.Core.Bool.{Bool, true, false}
use mathlib.Core.List.{List, [], ◌∷◌, ◌++◌, append-nil}
use lib.ListN.{length, drop, get_or, set, length-drop, length-append, length-set}
use borrow.Author.Tests.{ne_eqb}
use Rattle.ledger_spec.specs.Bench.{State, grows, stays, shrinks, rate}
use Rattle.ledger_spec.specs.Decimals.{decimal, digits, signed}
use Rattle.ledger_spec.specs.Operations.{D, B, E, S, G, F, C, K}
use Rattle.ledger_spec.specs.Grammar.{Fields}
use Rattle.text_lines.specs.Texts.{spaced, letter_of, fields_of}
use Rattle.text_decimals.specs.Wrote.{Wrote}
use Rattle.text_decimals.proofs.Writes.{chain, after_byte, byte_wrote, same_text, length_wrote}
use Rattle.record_spec.specs.Numbers.{length_in}
use Rattle.record_spec.specs.Operations.{Op, line_of_op}
use Rattle.record_spec.specs.Reader.{state_in, rest, good, record_in}
use Rattle.record_spec.specs.Places.{at}
use Rattle.record_spec.proofs.Numbers.{same_value}
use Rattle.record_measures.specs.Measures.{kept, members_at}
use Rattle.record_measures.proofs.Rests.{rest-D, short-D, rest-E, short-E, rest-S, bad-S, short-S, rest-G, short-G, rest-F, short-F, rest-B, few-B, short-B, rest_none}
use Rattle.record_measures.proofs.Measuring.{kept_good, kept_bad, kept_none, opened, too_short}
use Rattle.record_lines.specs.Lines.{line_in, Ready, tail, state_text, serial_fields, fields_at, bytes_at}
use Rattle.record_lines.proofs.Pieces.{fields-D, fields-B, fields-E, fields-S, fields-G, fields-F, fields_none}

spaced_tail : (f : List ℕ) (fs : Fields) → spaced f fs ≡ f ++ tail fs
unfolding spaced tail
spaced_tail f [] = sym (append-nil f)
spaced_tail f (g ∷ fs) = ap (λ (l : List ℕ). f ++ (32 ∷ l)) (spaced_tail g fs)

-- the letter, the unit, and what stands after it
abbrev line_by : ℕ → ℕ → Fields → List ℕ
line_by l u fs = (l ∷ []) ++ tail (decimal u ∷ fs)

-- ---- a state

state_said : (n : ℕ) (g : State) → state_in n ≡ Some g → state_text n ≡ signed (rate g)
unfolding state_in state_text signed decimal digits
state_said n g e = go (ℕ_discrete n 0) (ℕ_discrete n 1) (ℕ_discrete n 255)
  where
    is : (k : ℕ) (f : State) → n ≡ k → state_in k ≡ Some f → state_text k ≡ signed (rate f) → state_text n ≡ signed (rate g)
    is k f a b c = ap state_text a ∙ c ∙ ap (λ (x : State). signed (rate x)) (same_Some f g (sym b ∙ sym (ap state_in a) ∙ e))

    go : Dec (n ≡ 0) → Dec (n ≡ 1) → Dec (n ≡ 255) → state_text n ≡ signed (rate g)
    go (yes a) b c = is 0 stays a refl refl
    go (no a) (yes b) c = is 1 grows b refl refl
    go (no a) (no b) (yes c) = is 255 shrinks c refl refl
    go (no a) (no b) (no c) = absurd (none-some g (sym (sym e ∙ rw (ne_eqb n 0 a, ne_eqb n 1 b, ne_eqb n 255 c, state_in))))

-- ---- what stands after the unit

module _ (t : List ℕ) (q u : ℕ) (op : Op) (r : List ℕ) where
  abbrev Said : ℕ → Type 0
  Said l = (line_of_op op ≡ line_by l u (fields_at l t q)) × (q + bytes_at l t q ≤ length t)

  module _ (l : ℕ) (h : rest l u (drop q t) ≡ Some (op, r)) where
    found : (k : ℕ) (fs : Fields) (n : ℕ) (o : Op) (v : List ℕ) → l ≡ k → rest k u (drop q t) ≡ Some (o, v) → line_of_op o ≡ line_by k u fs
        → (fields_at l t q ≡ fs) × (bytes_at l t q ≡ n) → q + n ≤ length t → Said l
    found k fs n o v e f g a b =
        let w : o ≡ op = same_value o op v r (sym f ∙ sym (ap (λ (x : ℕ). rest x u (drop q t)) e) ∙ h) in
        (sym (ap line_of_op w) ∙ g ∙ (λ i. line_by (sym e i) u (sym a.0 i)), omega (arith, a.1))

    missing : (k : ℕ) → l ≡ k → rest k u (drop q t) ≡ None → Said l
    missing k e f = absurd (none-some (op, r) (sym (sym h ∙ ap (λ (x : ℕ). rest x u (drop q t)) e ∙ f)))

    letter-D : l ≡ 68 → Dec (q + 4 ≤ length t) → Said l
    unfolding letter_of fields_of
    letter-D e (yes x) = found 68 (decimal (at 4 t q) ∷ []) 4 (D u (at 4 t q)) (drop (q + 4) t) e (rest-D t q u x) (spaced_tail (68 ∷ []) (decimal u ∷ decimal (at 4 t q) ∷ [])) (fields-D l t q e) x
    letter-D e (no x) = missing 68 e (short-D t q u (omega arith))

    letter-E : l ≡ 69 → Dec (q + 4 ≤ length t) → Said l
    unfolding letter_of fields_of
    letter-E e (yes x) = found 69 (decimal (at 4 t q) ∷ []) 4 (E u (at 4 t q)) (drop (q + 4) t) e (rest-E t q u x) (spaced_tail (69 ∷ []) (decimal u ∷ decimal (at 4 t q) ∷ [])) (fields-E l t q e) x
    letter-E e (no x) = missing 69 e (short-E t q u (omega arith))

    letter-G : l ≡ 71 → Dec (q + 8 ≤ length t) → Said l
    unfolding letter_of fields_of
    letter-G e (yes x) =
        let z = length_in (at 8 t q) in
        found 71 (signed z ∷ []) 8 (G u z) (drop (q + 8) t) e (rest-G t q u x) (spaced_tail (71 ∷ []) (decimal u ∷ signed z ∷ [])) (fields-G l t q e) x
    letter-G e (no x) = missing 71 e (short-G t q u (omega arith))

    letter-F : l ≡ 70 → Dec (q + 2 ≤ length t) → Said l
    unfolding letter_of fields_of
    letter-F e (yes x) =
        found 70 (decimal (at 1 t q) ∷ decimal (at 1 t (q + 1)) ∷ []) 2 (F u (at 1 t q) (at 1 t (q + 1))) (drop (q + 1 + 1) t) e (rest-F t q u x)
        (spaced_tail (70 ∷ []) (decimal u ∷ decimal (at 1 t q) ∷ decimal (at 1 t (q + 1)) ∷ [])) (fields-F l t q e) x
    letter-F e (no x) = missing 70 e (short-F t q u (omega arith))

    letter-S : l ≡ 83 → Dec (q + 5 ≤ length t) → (o : Option State) → state_in (at 1 t (q + 4)) ≡ o → Said l
    unfolding letter_of fields_of
    letter-S e (yes x) (Some g) z =
        found 83 (decimal (at 4 t q) ∷ state_text (at 1 t (q + 4)) ∷ []) 5 (S u (at 4 t q) g) (drop (q + 4 + 1) t) e (rest-S t q u g x z)
        (spaced_tail (83 ∷ []) (decimal u ∷ decimal (at 4 t q) ∷ signed (rate g) ∷ []) ∙ ap (λ (f : List ℕ). line_by 83 u (decimal (at 4 t q) ∷ f ∷ [])) (sym (state_said (at 1 t (q + 4)) g z)))
        (fields-S l t q e) x
    letter-S e (yes x) None z = missing 83 e (bad-S t q u x z)
    letter-S e (no x) o z = missing 83 e (short-S t q u (omega arith))

    letter-B : l ≡ 66 → Dec (q + 2 ≤ length t) → Dec (q + 2 + 12 * at 2 t q ≤ length t) → Said l
    unfolding letter_of fields_of
    letter-B e (yes x) (yes y) =
        let ms = members_at (at 2 t q) t (q + 2) in
        found 66 (serial_fields (at 2 t q) t (q + 2)) (2 + 12 * at 2 t q) (B u ms) (drop (q + 2 + 12 * at 2 t q) t) e (rest-B t q u y)
        (spaced_tail (66 ∷ []) (decimal u ∷ serial_fields (at 2 t q) t (q + 2))) (fields-B l t q e) (omega arith)
    letter-B e (yes x) (no y) = missing 66 e (few-B t q u x (omega arith))
    letter-B e (no x) y = missing 66 e (short-B t q u (omega arith))

    letter-C : l ≡ 67 → q ≤ length t → Said l
    unfolding letter_of fields_of rest
    letter-C e x = found 67 [] 0 (C u) (drop q t) e refl (spaced_tail (67 ∷ []) (decimal u ∷ []))
        (fields_none l t q (λ z. omega (arith, e, z)) (λ z. omega (arith, e, z)) (λ z. omega (arith, e, z)) (λ z. omega (arith, e, z)) (λ z. omega (arith, e, z)) (λ z. omega (arith, e, z))) (omega arith)

    letter-K : l ≡ 75 → q ≤ length t → Said l
    unfolding letter_of fields_of rest
    letter-K e x = found 75 [] 0 (K u) (drop q t) e refl (spaced_tail (75 ∷ []) (decimal u ∷ []))
        (fields_none l t q (λ z. omega (arith, e, z)) (λ z. omega (arith, e, z)) (λ z. omega (arith, e, z)) (λ z. omega (arith, e, z)) (λ z. omega (arith, e, z)) (λ z. omega (arith, e, z))) (omega arith)

    by_letter : q ≤ length t → Dec (l ≡ 68) → Dec (l ≡ 66) → Dec (l ≡ 69) → Dec (l ≡ 83) → Dec (l ≡ 71) → Dec (l ≡ 70) → Dec (l ≡ 67) → Dec (l ≡ 75) → Said l
    by_letter x (yes a) b c d e f g k = letter-D a (dec_le (q + 4) (length t))
    by_letter x (no a) (yes b) c d e f g k = letter-B b (dec_le (q + 2) (length t)) (dec_le (q + 2 + 12 * at 2 t q) (length t))
    by_letter x (no a) (no b) (yes c) d e f g k = letter-E c (dec_le (q + 4) (length t))
    by_letter x (no a) (no b) (no c) (yes d) e f g k = letter-S d (dec_le (q + 5) (length t)) (state_in (at 1 t (q + 4))) refl
    by_letter x (no a) (no b) (no c) (no d) (yes e) f g k = letter-G e (dec_le (q + 8) (length t))
    by_letter x (no a) (no b) (no c) (no d) (no e) (yes f) g k = letter-F f (dec_le (q + 2) (length t))
    by_letter x (no a) (no b) (no c) (no d) (no e) (no f) (yes g) k = letter-C g x
    by_letter x (no a) (no b) (no c) (no d) (no e) (no f) (no g) (yes k) = letter-K k x
    by_letter x (no a) (no b) (no c) (no d) (no e) (no f) (no g) (no k) = absurd (none-some (op, r) (sym (sym h ∙ rest_none l u (drop q t) a b c d e f g k)))

    said : q ≤ length t → Said l
    said x = by_letter x (ℕ_discrete l 68) (ℕ_discrete l 66) (ℕ_discrete l 69) (ℕ_discrete l 83) (ℕ_discrete l 71) (ℕ_discrete l 70) (ℕ_discrete l 67) (ℕ_discrete l 75)

-- ---- the record at a place

pub record Stood (t : List ℕ) (p : ℕ) (op : Op) : Type 0 where
  pub line : line_of_op op ≡ line_by (at 1 t p) (at 1 t (p + 1)) (fields_at (at 1 t p) t (p + 2))
  pub long : p + 2 + bytes_at (at 1 t p) t (p + 2) ≤ length t

kept_only : (o : Option (Op × List ℕ)) (op : Op) (r : List ℕ) → kept o ≡ Some (op, r) → o ≡ Some (op, r)
kept_only None op r e = absurd (none-some (op, r) (sym (sym e ∙ kept_none None refl)))
kept_only (Some x) op r e = go (good x.0) refl
  where
    go : (b : Bool) → good x.0 ≡ b → Some x ≡ Some (op, r)
    go true g = sym (kept_good (Some x) x.0 x.1 refl g) ∙ e
    go false g = absurd (none-some (op, r) (sym (sym e ∙ kept_bad (Some x) x.0 x.1 refl g)))

stood : (t : List ℕ) (p : ℕ) (op : Op) (r : List ℕ) → record_in (drop p t) ≡ Some (op, r) → Stood t p op
stood t p op r e = go (dec_le (p + 2) (length t))
  where
    go : Dec (p + 2 ≤ length t) → Stood t p op
    go (yes h) =
        let a = said t (p + 2) (at 1 t (p + 1)) op r (at 1 t p) (kept_only (rest (at 1 t p) (at 1 t (p + 1)) (drop (p + 2) t)) op r (sym (opened t p h) ∙ e)) h in
        record { line = a.0; long = a.1 }
    go (no h) = absurd (none-some (op, r) (sym (sym e ∙ too_short (drop p t) (omega (arith, length-drop p t)))))

-- ---- its line written

pub record Here (t : List ℕ) (p from room : ℕ) : Type 0 where
  pub op : Op
  pub is : line_in (record_in (drop p t)) ≡ line_of_op op ++ (10 ∷ [])
  pub stood : Stood t p op
  pub fits : from + suc (length (line_of_op op)) ≤ room

pub here : (t : List ℕ) (p from room : ℕ) → Ready (record_in (drop p t)) from room → Here t p from room
here t p from room x = go (record_in (drop p t)) refl x
  where
    go : (o : Option (Op × List ℕ)) → record_in (drop p t) ≡ o → Ready o from room → Here t p from room
    go None e y = absurd y
    go (Some z) e y = record { op = z.0; is = ap line_in e; stood = stood t p z.0 z.1 e; fits = y }

module _ (t : List ℕ) (p from : ℕ) (o : List ℕ) (h : Here t p from (length o)) (l u : ℕ) (letter : l ≡ get_or t p 0) (unit : u ≡ at 1 t (p + 1)) where
  line_is : line_of_op h.op ≡ (l ∷ []) ++ ((32 ∷ decimal u) ++ tail (fields_at l t (p + 2)))
  unfolding at tail
  line_is =
      let e : at 1 t p ≡ l = omega (arith, letter) in
      h.stood.line ∙ (λ i. line_by (e i) (sym unit i) (fields_at (e i) t (p + 2)))

  sizes : length (line_of_op h.op) ≡ suc (suc (length (decimal u)) + length (tail (fields_at l t (p + 2))))
  sizes = ap length line_is ∙ ap suc (length-append (32 ∷ decimal u) (tail (fields_at l t (p + 2))))

  pub numbers_there : p + 2 + bytes_at l t (p + 2) ≤ length t
  unfolding at
  numbers_there = let e : at 1 t p ≡ l = omega (arith, letter) in omega (arith, h.stood.long, ap (λ (x : ℕ). bytes_at x t (p + 2)) e)

  pub unit_room : from + 1 + suc (length (decimal u)) ≤ length o
  unit_room = omega (arith, sizes, h.fits)

  module _ (o₁ : List ℕ) (a : ℕ) (w : Wrote (set o from l) (from + 1) (32 ∷ decimal u) o₁ a) where
    long₁ : length o₁ ≡ length o
    long₁ = length_wrote (set o from l) (from + 1) (32 ∷ decimal u) o₁ a w ∙ length-set o from l

    pub fields_room : a + length (tail (fields_at l t (p + 2))) ≤ length o₁
    fields_room = omega (arith, sizes, h.fits, w.next, long₁)

    module _ (o₂ : List ℕ) (b : ℕ) (v : Wrote o₁ a (tail (fields_at l t (p + 2))) o₂ b) where
      long₂ : length o₂ ≡ length o
      long₂ = length_wrote o₁ a (tail (fields_at l t (p + 2))) o₂ b v ∙ long₁

      pub end_room : b + 1 ≤ length o₂
      end_room = omega (arith, sizes, h.fits, w.next, v.next, long₂)

      pub end_fits : b + 1 ≤ length o
      end_fits = omega (arith, end_room, long₂)

      pub whole_long : length (set o₂ b 10) ≡ length o
      whole_long = length-set o₂ b 10 ∙ long₂

      pub whole_line : Wrote o from (line_in (record_in (drop p t))) (set o₂ b 10) (b + 1)
      whole_line =
          let f = tail (fields_at l t (p + 2)) in
          let x = chain (set o from l) (from + 1) (32 ∷ decimal u) o₁ a f o₂ b w v in
          let y = chain (set o from l) (from + 1) ((32 ∷ decimal u) ++ f) o₂ b (10 ∷ []) (set o₂ b 10) (b + 1) x (byte_wrote o₂ b 10) in
          same_text o from (l ∷ (((32 ∷ decimal u) ++ f) ++ (10 ∷ []))) (line_in (record_in (drop p t))) (set o₂ b 10) (b + 1)
          (sym (h.is ∙ ap (λ (x : List ℕ). x ++ (10 ∷ [])) line_is))
          (after_byte o from l (((32 ∷ decimal u) ++ f) ++ (10 ∷ [])) (set o₂ b 10) (b + 1) y)
