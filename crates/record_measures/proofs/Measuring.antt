-- A record that stands after a letter and a unit, as the code measures it. Assumes nothing.
use Rattle.std.specs.Prelude.{None, Option, Some}
use Prim.Native.Nat.{ℕ, suc, ◌+◌, ◌*◌, ◌≤◌, ◌<◌}
use native.Mathlib.Omega.{arith}
use mathlib.Core.Path.{◌≡◌, refl, sym, ◌∙◌, ap}
use mathlib.Core.Bool.{Bool, true, false}
use mathlib.Core.List.{List, [], ◌∷◌, map}
use lib.IntN.{ℤ}
use lib.ListN.{length, drop, get_or, length-drop}
use Rattle.ledger_spec.specs.Bench.{State, rate}
use Rattle.ledger_spec.specs.Decimals.{decimal, signed}
use Rattle.ledger_spec.specs.Operations.{D, B, E, S, G, F, C, K}
use Rattle.text_lines.specs.Texts.{letter_of, fields_of}
use Rattle.record_spec.specs.Numbers.{bytes, then, number}
use Rattle.record_spec.specs.Operations.{Member, Op, serial_of, line_of_op, self}
use Rattle.record_spec.specs.Records.{member_fields, fields, spelled, bytes_of}
use Rattle.record_spec.specs.Reader.{rest, serials_good, good, record_in}
use Rattle.record_spec.specs.Places.{at, total}
use Rattle.record_spec.proofs.Numbers.{then_back}
use Rattle.record_spec.proofs.Places.{number_at}
use Rattle.record_spec.proofs.Sizes.{Plain, plain_good, length_spaced, length_blossom}
use Rattle.record_spec.proofs.Writable.{Held}
use Rattle.record_measures.specs.declared.Measured.{Measured}
use Rattle.record_measures.specs.Measures.{nothing, measured_of, kept, tried}

-- ---- kept or not

pub kept_good : (o : Option (Op × List ℕ)) (op : Op) (r : List ℕ) → o ≡ Some (op, r) → good op ≡ true → kept o ≡ Some (op, r)
unfolding kept
kept_good o op r e g = then_back o (λ x q. elim (good x) [ true ↦ Some (x, q) | false ↦ None ]) op r e ∙ rw g

pub kept_bad : (o : Option (Op × List ℕ)) (op : Op) (r : List ℕ) → o ≡ Some (op, r) → good op ≡ false → kept o ≡ None
unfolding kept
kept_bad o op r e g = then_back o (λ x q. elim (good x) [ true ↦ Some (x, q) | false ↦ None ]) op r e ∙ rw g

pub kept_none : (o : Option (Op × List ℕ)) → o ≡ None → kept o ≡ None
unfolding kept
kept_none o e = ap kept e

pub none_measured : (o : Option (Op × List ℕ)) → o ≡ None → nothing ≡ measured_of (kept o)
none_measured o e = sym (ap measured_of (kept_none o e))

pub bad_measured : (o : Option (Op × List ℕ)) (op : Op) (r : List ℕ) → o ≡ Some (op, r) → good op ≡ false → nothing ≡ measured_of (kept o)
bad_measured o op r e g = sym (ap measured_of (kept_bad o op r e g))

-- the three numbers of an operation that is kept
pub good_measured : (o : Option (Op × List ℕ)) (op : Op) (r : List ℕ) → o ≡ Some (op, r) → good op ≡ true
    → (a b : ℕ) (c : Bool) → a ≡ length (bytes_of op) → b ≡ suc (length (line_of_op op)) → c ≡ self op
    → ◌≡◌ {A = Measured} (record { size = a; line = b; own = c }) (measured_of (kept o))
good_measured o op r e g a b c x y z = (λ i. record { size = x i; line = y i; own = z i }) ∙ sym (ap measured_of (kept_good o op r e g))

-- no blossom: only the serials are tested
pub plain_measured : (o : Option (Op × List ℕ)) (op : Op) (r : List ℕ) → o ≡ Some (op, r) → Plain op → Held op → serials_good op ≡ true
    → (a b : ℕ) → a ≡ length (bytes_of op) → b ≡ suc (length (line_of_op op)) → true ≡ self op
    → ◌≡◌ {A = Measured} (record { size = a; line = b; own = true }) (measured_of (kept o))
plain_measured o op r e p h s a b x y z = good_measured o op r e (plain_good op p h ∙ s) a b true x y z

pub plain_unfit : (o : Option (Op × List ℕ)) (op : Op) (r : List ℕ) → o ≡ Some (op, r) → Plain op → Held op → serials_good op ≡ false → nothing ≡ measured_of (kept o)
plain_unfit o op r e p h s = bad_measured o op r e (plain_good op p h ∙ s)

-- ---- how long a line is

pub line-D : (u v : ℕ) → suc (length (line_of_op (D u v))) ≡ 4 + (length (decimal u) + length (decimal v))
unfolding letter_of fields_of total
line-D u v = omega (arith, length_spaced (68 ∷ []) (decimal u ∷ decimal v ∷ []))

pub line-E : (u v : ℕ) → suc (length (line_of_op (E u v))) ≡ 4 + (length (decimal u) + length (decimal v))
unfolding letter_of fields_of total
line-E u v = omega (arith, length_spaced (69 ∷ []) (decimal u ∷ decimal v ∷ []))

pub line-S : (u v : ℕ) (g : State) → suc (length (line_of_op (S u v g))) ≡ 5 + (length (decimal u) + (length (decimal v) + length (signed (rate g))))
unfolding letter_of fields_of total
line-S u v g = omega (arith, length_spaced (83 ∷ []) (decimal u ∷ decimal v ∷ signed (rate g) ∷ []))

pub line-G : (u : ℕ) (z : ℤ) → suc (length (line_of_op (G u z))) ≡ 4 + (length (decimal u) + length (signed z))
unfolding letter_of fields_of total
line-G u z = omega (arith, length_spaced (71 ∷ []) (decimal u ∷ signed z ∷ []))

pub line-F : (u v w : ℕ) → suc (length (line_of_op (F u v w))) ≡ 5 + (length (decimal u) + (length (decimal v) + length (decimal w)))
unfolding letter_of fields_of total
line-F u v w = omega (arith, length_spaced (70 ∷ []) (decimal u ∷ decimal v ∷ decimal w ∷ []))

pub line-C : (u : ℕ) → suc (length (line_of_op (C u))) ≡ 3 + length (decimal u)
unfolding letter_of fields_of total
line-C u = omega (arith, length_spaced (67 ∷ []) (decimal u ∷ []))

pub line-K : (u : ℕ) → suc (length (line_of_op (K u))) ≡ 3 + length (decimal u)
unfolding letter_of fields_of total
line-K u = omega (arith, length_spaced (75 ∷ []) (decimal u ∷ []))

pub line-B : (u : ℕ) (ms : List Member) → length (line_of_op (B u ms)) ≡ 2 + (length (decimal u) + total (map decimal (map serial_of ms)))
line-B u ms = omega (arith, length_blossom u ms)

-- ---- how long a record is

pub bytes-B : (u : ℕ) (ms : List Member) → length (bytes_of (B u ms)) ≡ 4 + 12 * length ms
unfolding bytes_of fields member_fields spelled letter_of bytes
bytes-B u ms = omega (arith, members_long ms)
  where
    members_long : (l : List Member) → length (spelled (member_fields l)) ≡ 12 * length l
    members_long [] = refl
    members_long (m ∷ l) = omega (arith, members_long l)

-- ---- from the letter on

pub opened : (t : List ℕ) (p : ℕ) → p + 2 ≤ length t → record_in (drop p t) ≡ kept (rest (at 1 t p) (at 1 t (p + 1)) (drop (p + 2) t))
unfolding record_in kept
opened t p h =
    let e : p + 1 + 1 ≡ p + 2 = omega arith in
    then_back (number 1 (drop p t)) (λ c v. then (number 1 v) (λ u w. kept (rest c u w))) (at 1 t p) (drop (p + 1) t) (number_at 1 t p (omega arith))
    ∙ then_back (number 1 (drop (p + 1) t)) (λ u w. kept (rest (at 1 t p) u w)) (at 1 t (p + 1)) (drop (p + 2) t)
    (number_at 1 t (p + 1) (omega arith) ∙ ap (λ (a : ℕ). Some (at 1 t (p + 1), drop a t)) e)

pub too_short : (s : List ℕ) → length s < 2 → record_in s ≡ None
unfolding record_in number
too_short [] h = refl
too_short (b ∷ []) h = refl
too_short (b ∷ c ∷ s) h = absurd (omega arith)

pub none_short : (t : List ℕ) (p : ℕ) → length t < p + 2 → nothing ≡ measured_of (record_in (drop p t))
none_short t p h = sym (ap measured_of (too_short (drop p t) (omega (arith, length-drop p t))))

-- the letter and the unit were read
pub letter_is : (t : List ℕ) (p l u : ℕ) (m : Measured) → p + 2 ≤ length t → get_or t p 0 ≡ l → u ≡ at 1 t (p + 1) → m ≡ tried l u (drop (p + 2) t) → m ≡ measured_of (record_in (drop p t))
unfolding at
letter_is t p l u m h e f g =
    let a : l ≡ at 1 t p = omega (arith, e) in
    g ∙ (λ i. tried (a i) (f i) (drop (p + 2) t)) ∙ sym (ap measured_of (opened t p h))

pub letter_none : (t : List ℕ) (p l u : ℕ) → p + 2 ≤ length t → get_or t p 0 ≡ l → u ≡ at 1 t (p + 1) → rest l u (drop (p + 2) t) ≡ None → nothing ≡ measured_of (record_in (drop p t))
letter_none t p l u h e f n = letter_is t p l u nothing h e f (none_measured (rest l u (drop (p + 2) t)) n)

-- the bytes after a record do not count
pub whatever_after : (op : Op) (r : List ℕ) → measured_of (kept (Some (op, r))) ≡ measured_of (kept (Some (op, [])))
unfolding kept
whatever_after op r = go (good op) refl
  where
    go : (b : Bool) → good op ≡ b → measured_of (kept (Some (op, r))) ≡ measured_of (kept (Some (op, [])))
    go true e = ap measured_of (kept_good (Some (op, r)) op r refl e) ∙ sym (ap measured_of (kept_good (Some (op, [])) op [] refl e))
    go false e = ap measured_of (kept_bad (Some (op, r)) op r refl e) ∙ sym (ap measured_of (kept_bad (Some (op, [])) op [] refl e))
