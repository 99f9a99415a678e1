-- Members written one by one: what is written and what is left make the whole; and each record from its parts. Assumes nothing.
use Prim.Native.Nat.{ℕ, suc, ◌+◌, ◌-◌, ◌*◌, ◌≤◌, ◌<◌}
use native.Mathlib.Omega.{arith}
use mathlib.Core.Path.{◌≡◌, refl, sym, ◌∙◌, ap}
use mathlib.Core.List.{List, [], ◌∷◌, ◌++◌, map}
use lib.IntN.{ℤ}
use lib.ListN.{length, drop, get_or, length-append, length-map}
use lib.Seq.{sets, drop-cons, drop-length}
use Rattle.ledger_spec.specs.Bench.{State}
use Rattle.ledger_spec.specs.Operations.{D, B, E, S, G, F, C, K}
use Rattle.text_decimals.specs.Wrote.{Wrote}
use Rattle.text_decimals.proofs.Writes.{sets_append}
use Rattle.text_lines.specs.Texts.{letter_of}
use Rattle.record_spec.specs.Numbers.{bytes, complement}
use Rattle.record_spec.specs.Operations.{itself}
use Rattle.record_spec.specs.Records.{member_fields, fields, spelled, state_byte, bytes_of}
use Rattle.record_spec.proofs.Numbers.{length_bytes}
use Rattle.record_puts.specs.Puts.{head_of}

abbrev pub spelt : List ℕ → List ℕ
spelt ns = spelled (member_fields (map itself ns))

pub length_spelt : (ns : List ℕ) → length (spelt ns) ≡ 12 * length ns
unfolding spelled member_fields bytes
length_spelt [] = omega arith
length_spelt (n ∷ ns) = omega (arith, length_spelt ns)

spelt_cons : (n : ℕ) (ns : List ℕ) → spelt (n ∷ ns) ≡ ((bytes 4 n ++ bytes 4 n) ++ bytes 4 n) ++ spelt ns
unfolding spelled member_fields bytes
spelt_cons n ns = refl

-- the first i of ns are written, up to p
pub record Putting (ns out₀ : List ℕ) (at i p : ℕ) (out : List ℕ) : Type 0 where
  pub long : length out ≡ length out₀
  pub low : i ≤ length ns
  pub place : p ≡ at + 12 * i
  pub stands : sets out p (spelt (drop i ns)) ≡ sets out₀ at (spelt ns)

pub putting : (ns out : List ℕ) (at : ℕ) → Putting ns out at 0 at out
putting ns out at = record { long = refl; low = omega arith; place = omega arith; stands = refl }

module _ (ns out₀ : List ℕ) (at i p : ℕ) (out : List ℕ) (g : Putting ns out₀ at i p out) where
  pub put_on : i < length ns → (n : ℕ) → n ≡ get_or ns i 0 → (out' : List ℕ) (q : ℕ) → length out' ≡ length out → Wrote out p ((bytes 4 n ++ bytes 4 n) ++ bytes 4 n) out' q → Putting ns out₀ at (i + 1) q out'
  put_on h n e out' q l w =
      let m = (bytes 4 n ++ bytes 4 n) ++ bytes 4 n in
      let s : suc i ≡ i + 1 = omega arith in
      let d : drop i ns ≡ n ∷ drop (i + 1) ns = drop-cons ns i 0 h ∙ (λ j. sym e j ∷ drop (s j) ns) in
      let k : length m ≡ 12 = omega (arith, length-append (bytes 4 n ++ bytes 4 n) (bytes 4 n), length-append (bytes 4 n) (bytes 4 n), length_bytes 4 n) in
      record {
        long = l ∙ g.long;
        low = omega arith;
        place = omega (arith, w.next, g.place, k);
        stands =
            (λ j. sets (w.stands j) (w.next j) (spelt (drop (i + 1) ns)))
            ∙ sym (sets_append m (spelt (drop (i + 1) ns)) out p)
            ∙ ap (sets out p) (sym (spelt_cons n (drop (i + 1) ns)) ∙ sym (ap spelt d))
            ∙ g.stands;
      }

  pub put_done : length ns ≤ i → Wrote out₀ at (spelt ns) out p
  unfolding spelled member_fields
  put_done h =
      let e : i ≡ length ns = omega (arith, g.low) in
      record {
        next = omega (arith, g.place, length_spelt ns, e);
        stands = sym (ap (λ (l : List ℕ). sets out p (spelt l)) (ap (λ (k : ℕ). drop k ns) e ∙ drop-length ns)) ∙ g.stands;
      }

-- ---- each record, from its parts

pub head_long : (l u : ℕ) → length (head_of l u) ≡ 2
unfolding bytes
head_long l u = refl

-- how many bytes each has
pub long-D : (u v : ℕ) → length (bytes_of (D u v)) ≡ 6
unfolding bytes bytes_of fields spelled letter_of
long-D u v = refl

pub long-E : (u v : ℕ) → length (bytes_of (E u v)) ≡ 6
unfolding bytes bytes_of fields spelled letter_of
long-E u v = refl

pub long-S : (u v : ℕ) (g : State) → length (bytes_of (S u v g)) ≡ 7
unfolding bytes bytes_of fields spelled letter_of
long-S u v g = refl

pub long-G : (u : ℕ) (z : ℤ) → length (bytes_of (G u z)) ≡ 10
unfolding bytes bytes_of fields spelled letter_of
long-G u z = refl

pub long-F : (p l r : ℕ) → length (bytes_of (F p l r)) ≡ 4
unfolding bytes bytes_of fields spelled letter_of
long-F p l r = refl

pub long-C : (u : ℕ) → length (bytes_of (C u)) ≡ 2
unfolding bytes bytes_of fields spelled letter_of
long-C u = refl

pub long-K : (u : ℕ) → length (bytes_of (K u)) ≡ 2
unfolding bytes bytes_of fields spelled letter_of
long-K u = refl

pub long-B : (u : ℕ) (ns : List ℕ) → length (bytes_of (B u (map itself ns))) ≡ 4 + 12 * length ns
unfolding bytes bytes_of fields spelled letter_of
long-B u ns = omega (arith, length_spelt ns)

pub four-D : (u v : ℕ) → head_of 68 u ++ bytes 4 v ≡ bytes_of (D u v)
unfolding bytes bytes_of fields spelled letter_of
four-D u v = refl

pub four-E : (u v : ℕ) → head_of 69 u ++ bytes 4 v ≡ bytes_of (E u v)
unfolding bytes bytes_of fields spelled letter_of
four-E u v = refl

pub parts-S : (u v : ℕ) (g : State) → (head_of 83 u ++ bytes 4 v) ++ bytes 1 (state_byte g) ≡ bytes_of (S u v g)
unfolding bytes bytes_of fields spelled letter_of
parts-S u v g = refl

pub parts-G : (u : ℕ) (z : ℤ) → head_of 71 u ++ bytes 8 (complement z) ≡ bytes_of (G u z)
unfolding bytes bytes_of fields spelled letter_of
parts-G u z = refl

pub parts-F : (p l r : ℕ) → (head_of 70 p ++ bytes 1 l) ++ bytes 1 r ≡ bytes_of (F p l r)
unfolding bytes bytes_of fields spelled letter_of
parts-F p l r = refl

pub head-C : (u : ℕ) → head_of 67 u ≡ bytes_of (C u)
unfolding bytes bytes_of fields spelled letter_of
head-C u = refl

pub head-K : (u : ℕ) → head_of 75 u ≡ bytes_of (K u)
unfolding bytes bytes_of fields spelled letter_of
head-K u = refl

pub parts-B : (u k : ℕ) (ns : List ℕ) → length ns ≡ k → (head_of 66 u ++ bytes 2 k) ++ spelt ns ≡ bytes_of (B u (map itself ns))
unfolding bytes bytes_of fields spelled letter_of
parts-B u k ns e = ap (λ (x : ℕ). (head_of 66 u ++ bytes 2 x) ++ spelt ns) (sym e ∙ sym (length-map ns itself))
