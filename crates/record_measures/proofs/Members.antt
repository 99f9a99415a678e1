-- A blossom's members weighed one by one: what is weighed and what is left make the whole. Assumes nothing.
use Rattle.std.specs.Prelude.{Some}
use Prim.Native.Nat.{ℕ, zero, suc, ◌+◌, ◌-◌, ◌*◌, ◌≤◌, ◌<◌}
use native.Mathlib.Omega.{arith}
use mathlib.Core.Path.{◌≡◌, refl, sym, ◌∙◌, ap}
use mathlib.Core.Bool.{Bool, true, false, ◌&&◌, and-true}
use mathlib.Core.List.{List, [], ◌∷◌, map}
use lib.Dec.{eqb, leb}
use lib.ListN.{length}
use borrow.Author.Tests.{le-leb, lt-leb}
use Rattle.ledger_spec.specs.Decimals.{decimal}
use Rattle.ledger_spec.specs.Operations.{B}
use Rattle.record_spec.specs.Operations.{Member, serial_of, line_of_op, self, selves}
use Rattle.record_spec.specs.Reader.{members_good, serials_good, good}
use Rattle.record_spec.specs.Places.{total}
use Rattle.record_measures.specs.declared.Measured.{Measured}
use Rattle.record_measures.specs.declared.blossoms.Weight.{Weight}
use Rattle.record_measures.specs.Measures.{nothing, tried_members, member_at, members_at, member_weight}
use Rattle.record_measures.proofs.Measuring.{bad_measured, good_measured, bytes-B}

and_none : (b : Bool) → b && false ≡ false
and_none true = refl
and_none false = refl

-- ---- one member

abbrev pub serials_of : Member → Bool
serials_of m = leb 1 m.serial && (leb 1 m.first && leb 1 m.second)

abbrev owned : Member → Bool
owned m = eqb m.first m.serial && eqb m.second m.serial

-- one of the three is 0, or none is
module _ (m : Member) where
  pub serial_zero : m.serial ≡ 0 → serials_of m ≡ false
  serial_zero e = rw e

  pub first_zero : m.first ≡ 0 → serials_of m ≡ false
  first_zero e = ap (λ (n : ℕ). leb 1 m.serial && (leb 1 n && leb 1 m.second)) e ∙ and_none (leb 1 m.serial)

  pub second_zero : m.second ≡ 0 → serials_of m ≡ false
  second_zero e = ap (λ (n : ℕ). leb 1 m.serial && (leb 1 m.first && leb 1 n)) e ∙ ap (λ (b : Bool). leb 1 m.serial && b) (and_none (leb 1 m.first)) ∙ and_none (leb 1 m.serial)

  pub none_zero : 1 ≤ m.serial → 1 ≤ m.first → 1 ≤ m.second → serials_of m ≡ true
  none_zero a b c = rw (le-leb 1 m.serial a, le-leb 1 m.first b, le-leb 1 m.second c)

pub weight_bad : (m : Member) → serials_of m ≡ false → record { line = 0; own = true } ≡ member_weight m
unfolding member_weight
weight_bad m e = rw (e, member_weight)

pub weight_good : (m : Member) (d : ℕ) (b : Bool) → serials_of m ≡ true → d ≡ suc (length (decimal m.serial)) → b ≡ owned m → ◌≡◌ {A = Weight} (record { line = d; own = b }) (member_weight m)
unfolding member_weight
weight_good m d b e x y = rw (e, member_weight) (λ i. record { line = x i; own = y i })

-- 0 bytes is no member, anything else its bytes
pub weight_zero : (m : Member) → (member_weight m).line ≡ 0 → serials_of m ≡ false
weight_zero m e = go (serials_of m) refl
  where
    go : (b : Bool) → serials_of m ≡ b → serials_of m ≡ false
    go true p = absurd (omega (arith, e, ap (λ (w : Weight). w.line) (weight_good m (suc (length (decimal m.serial))) (owned m) p refl refl)))
    go false p = p

pub record Weighs (m : Member) : Type 0 where
  pub serials : serials_of m ≡ true
  pub line : (member_weight m).line ≡ suc (length (decimal m.serial))
  pub own : (member_weight m).own ≡ owned m

pub weight_some : (m : Member) → ((member_weight m).line ≡ 0 → ⊥) → Weighs m
weight_some m n = go (serials_of m) refl
  where
    go : (b : Bool) → serials_of m ≡ b → Weighs m
    go true p =
        let e = weight_good m (suc (length (decimal m.serial))) (owned m) p refl refl in
        record { serials = p; line = sym (ap (λ (w : Weight). w.line) e); own = sym (ap (λ (w : Weight). w.own) e) }
    go false p = absurd (n (sym (ap (λ (w : Weight). w.line) (weight_bad m p))))

-- ---- many

abbrev texts : List Member → ℕ
texts ms = total (map decimal (map serial_of ms))

-- of n members from place q on, `left` are left from place p on; the others have so many bytes in the line
pub record Weighing (t : List ℕ) (n q p left line : ℕ) (own : Bool) : Type 0 where
  pub fine : members_good (members_at n t q) ≡ members_good (members_at left t p)
  pub owns : selves (members_at n t q) ≡ own && selves (members_at left t p)
  pub text : texts (members_at n t q) ≡ line + texts (members_at left t p)
  pub few : line + 21 * left ≤ 21 * n

pub weighing : (t : List ℕ) (n q : ℕ) → Weighing t n q q n 0 true
weighing t n q = record { fine = refl; owns = refl; text = omega arith; few = omega arith }

and_assoc : (a b c : Bool) → a && (b && c) ≡ (a && b) && c
and_assoc true b c = refl
and_assoc false b c = refl

module _ (t : List ℕ) (n q p : ℕ) (line : ℕ) (own : Bool) where
  first_of : (left : ℕ) → 0 < left → members_at left t p ≡ member_at t p ∷ members_at (left - 1) t (p + 12)
  unfolding members_at
  first_of zero h = absurd (omega arith)
  first_of (suc k) h = let e : k ≡ suc k - 1 = omega arith in ap (λ (x : ℕ). member_at t p ∷ members_at x t (p + 12)) e

  pub weigh_on : (left : ℕ) (w : Weight) (b : Bool) → Weighing t n q p left line own → 0 < left → w ≡ member_weight (member_at t p) → w.line ≤ 21 → (w.line ≡ 0 → ⊥)
      → b ≡ own && w.own → Weighing t n q (p + 12) (left - 1) (line + w.line) b
  unfolding members_good selves total
  weigh_on left w b c h e l z o =
      let m = member_at t p in
      let ms = members_at (left - 1) t (p + 12) in
      let f = first_of left h in
      let x = weight_some m (λ y. z (ap (λ (v : Weight). v.line) e ∙ y)) in
      let d : w.line ≡ suc (length (decimal m.serial)) = ap (λ (v : Weight). v.line) e ∙ x.line in
      let s : members_good (m ∷ ms) ≡ members_good ms = ap (λ (a : Bool). a && members_good ms) x.serials in
      let k : w.own ≡ owned m = ap (λ (v : Weight). v.own) e ∙ x.own in
      record {
        fine = c.fine ∙ ap members_good f ∙ s;
        owns = c.owns ∙ ap (λ (a : List Member). own && selves a) f ∙ and_assoc own (owned m) (selves ms) ∙ ap (λ (a : Bool). (own && a) && selves ms) (sym k) ∙ ap (λ (a : Bool). a && selves ms) (sym o);
        text = omega (arith, c.text, ap texts f, d);
        few = omega (arith, c.few);
      }

  pub weigh_bad : (left : ℕ) (w : Weight) → Weighing t n q p left line own → 0 < left → w ≡ member_weight (member_at t p) → w.line ≡ 0 → members_good (members_at n t q) ≡ false
  unfolding members_good
  weigh_bad left w c h e z =
      c.fine ∙ ap members_good (first_of left h)
      ∙ ap (λ (a : Bool). a && members_good (members_at (left - 1) t (p + 12))) (weight_zero (member_at t p) (sym (ap (λ (v : Weight). v.line) e) ∙ z))

pub record Weighed (t : List ℕ) (n q line : ℕ) (own : Bool) : Type 0 where
  pub fine : members_good (members_at n t q) ≡ true
  pub owns : own ≡ selves (members_at n t q)
  pub text : texts (members_at n t q) ≡ line

pub weighed : (t : List ℕ) (n q p left line : ℕ) (own : Bool) → Weighing t n q p left line own → left ≤ 0 → Weighed t n q line own
unfolding members_at members_good selves total
weighed t n q p zero line own c h = record { fine = c.fine; owns = sym (and-true own) ∙ sym c.owns; text = omega (arith, c.text) }
weighed t n q p (suc k) line own c h = absurd (omega arith)

-- ---- a blossom

pub members_many : (n : ℕ) (t : List ℕ) (p : ℕ) → length (members_at n t p) ≡ n
unfolding members_at
members_many zero t p = refl
members_many (suc n) t p = ap suc (members_many n t (p + 12))

pub none_tried : (u : ℕ) (t : List ℕ) (q : ℕ) → nothing ≡ tried_members u (members_at 0 t q)
unfolding members_at good serials_good
none_tried u t q = bad_measured (Some (B u [], [])) (B u []) [] refl refl

module _ (u : ℕ) (ms : List Member) where
  pub bad_tried : members_good ms ≡ false → nothing ≡ tried_members u ms
  unfolding good serials_good
  bad_tried e = bad_measured (Some (B u ms, [])) (B u ms) [] refl (ap (λ (b : Bool). (leb 1 (length ms) && b) && leb (length (line_of_op (B u ms))) 1023) e ∙ falls (leb 1 (length ms)) (leb (length (line_of_op (B u ms))) 1023))
    where
      falls : (a b : Bool) → (a && false) && b ≡ false
      falls true b = refl
      falls false b = refl

  pub long_tried : 1023 < length (line_of_op (B u ms)) → nothing ≡ tried_members u ms
  unfolding good
  long_tried h = bad_measured (Some (B u ms, [])) (B u ms) [] refl (ap (λ (b : Bool). serials_good (B u ms) && b) (lt-leb (length (line_of_op (B u ms))) 1023 h) ∙ falls (serials_good (B u ms)))
    where
      falls : (a : Bool) → a && false ≡ false
      falls true = refl
      falls false = refl

  pub good_tried : 1 ≤ length ms → members_good ms ≡ true → length (line_of_op (B u ms)) ≤ 1023 → (a b : ℕ) (c : Bool)
      → a ≡ 4 + 12 * length ms → b ≡ suc (length (line_of_op (B u ms))) → c ≡ selves ms → ◌≡◌ {A = Measured} (record { size = a; line = b; own = c }) (tried_members u ms)
  unfolding good serials_good self
  good_tried k g h a b c x y z =
      good_measured (Some (B u ms, [])) (B u ms) [] refl (rw (le-leb 1 (length ms) k, g, le-leb (length (line_of_op (B u ms))) 1023 h)) a b c (x ∙ sym (bytes-B u ms)) y z
