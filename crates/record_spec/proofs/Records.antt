-- Law (b): a record that was written is read, with the bytes after it; and bytes that read as a record are that record's. Assumes nothing.
use Rattle.std.specs.Prelude.{None, Option, Some}
use Rattle.std.proofs.lemmas.Option.{same_Some, none-some}
use Prim.Native.Nat.{ℕ, zero, suc, ◌+◌, ◌*◌, ◌^◌, ◌<◌}
use native.Mathlib.Omega.{arith}
use native.Mathlib.Decide.{ℕ_discrete}
use mathlib.Core.Path.{◌≡◌, refl, sym, ◌∙◌, ap, subst}
use mathlib.Core.Bool.{Bool, true, false}
use mathlib.Core.List.{List, [], ◌∷◌, ◌++◌, append_assoc}
use lib.ListN.{length}
use borrow.Author.Tests.{ne_eqb}
use Rattle.ledger_spec.specs.Bench.{State, grows, stays, shrinks}
use Rattle.ledger_spec.specs.Operations.{D, B, E, S, G, F, C, K}
use Rattle.text_lines.specs.Texts.{letter_of}
use Rattle.record_spec.specs.Numbers.{Bytes, bytes, then, number, complement, length_in}
use Rattle.record_spec.specs.Operations.{Member, Op, line_said}
use Rattle.record_spec.specs.Records.{state_byte, member_fields, fields, spelled, bytes_of, Writable}
use Rattle.record_spec.specs.Reader.{state_in, members_in, rest, good, record_in}
use Rattle.record_spec.proofs.Numbers.{then_only, then_back, same_value, same_after, number_back, number_only, length_back, complement_small, length_only}
use Rattle.record_spec.proofs.Writable.{Words, Held, writable_held, writable_good, good_writable}

-- ---- one field

next : (k n : ℕ) (fs : List (ℕ × ℕ)) (r : List ℕ) → n < 256 ^ k → number k (spelled ((k, n) ∷ fs) ++ r) ≡ Some (n, spelled fs ++ r)
unfolding spelled
next k n fs r h = ap (number k) (append_assoc (bytes k n) (spelled fs) r) ∙ number_back k n (spelled fs ++ r) h

spell : (k n : ℕ) (fs : List (ℕ × ℕ)) (s t r : List ℕ) → s ≡ bytes k n ++ t → t ≡ spelled fs ++ r → s ≡ spelled ((k, n) ∷ fs) ++ r
unfolding spelled
spell k n fs s t r e p = e ∙ ap (λ (l : List ℕ). bytes k n ++ l) p ∙ sym (append_assoc (bytes k n) (spelled fs) r)

spell_end : (r : List ℕ) → r ≡ spelled [] ++ r
unfolding spelled
spell_end r = refl

one : (c : ℕ) (s : List ℕ) → number 1 (c ∷ s) ≡ Some (c, s)
unfolding number
one c s = let e : c + 256 * 0 ≡ c = omega arith in ap (λ (x : ℕ). Some (x, s)) e

one_only : (c : ℕ) (s : List ℕ) (n : ℕ) (t : List ℕ) → number 1 s ≡ Some (n, t) → s ≡ n ∷ t
unfolding number
one_only c [] n t e = absurd (none-some (n, t) e)
one_only c (b ∷ s) n t e = let p : b + 256 * 0 ≡ b = omega arith in
    λ i. (sym p ∙ same_value (b + 256 * 0) n s t e) i ∷ same_after (b + 256 * 0) n s t e i

state_back : (g : State) → state_in (state_byte g) ≡ Some g
unfolding state_in
state_back grows = refl
state_back stays = refl
state_back shrinks = refl

state_only : (n : ℕ) (g : State) → state_in n ≡ Some g → n ≡ state_byte g
unfolding state_in
state_only n g e = go_0 (ℕ_discrete n 0)
  where
    go_255 : (n ≡ 0 → ⊥) → (n ≡ 1 → ⊥) → Dec (n ≡ 255) → n ≡ state_byte g
    go_255 a b (yes p) = p ∙ ap state_byte (same_Some shrinks g (rw p at e))
    go_255 a b (no p) = absurd (none-some g (rw (ne_eqb n 0 a, ne_eqb n 1 b, ne_eqb n 255 p) at e))

    go_1 : (n ≡ 0 → ⊥) → Dec (n ≡ 1) → n ≡ state_byte g
    go_1 a (yes p) = p ∙ ap state_byte (same_Some grows g (rw p at e))
    go_1 a (no p) = go_255 a p (ℕ_discrete n 255)

    go_0 : Dec (n ≡ 0) → n ≡ state_byte g
    go_0 (yes p) = p ∙ ap state_byte (same_Some stays g (rw p at e))
    go_0 (no p) = go_1 p (ℕ_discrete n 1)

-- ---- members

members_back : (ms : List Member) (r : List ℕ) → Words ms → members_in (length ms) (spelled (member_fields ms) ++ r) ≡ Some (ms, r)
unfolding members_in member_fields
members_back [] r h = ap (λ (l : List ℕ). Some ([], l)) (sym (spell_end r))
members_back (m ∷ ms) r h =
    let fs = member_fields ms in
    let d : List (ℕ × ℕ) = (4, m.second) ∷ member_fields ms in
    let a : List (ℕ × ℕ) = (4, m.first) ∷ (4, m.second) ∷ member_fields ms in
    then_back (number 4 (spelled ((4, m.serial) ∷ a) ++ r))
    (λ k t. then (number 4 t) (λ x v. then (number 4 v) (λ y w. then (members_in (length ms) w) (λ l q. Some (record { serial = k; first = x; second = y } ∷ l, q)))))
    m.serial (spelled a ++ r) (next 4 m.serial a r h.0)
    ∙ then_back (number 4 (spelled a ++ r))
    (λ x v. then (number 4 v) (λ y w. then (members_in (length ms) w) (λ l q. Some (record { serial = m.serial; first = x; second = y } ∷ l, q))))
    m.first (spelled d ++ r) (next 4 m.first d r h.1)
    ∙ then_back (number 4 (spelled d ++ r))
    (λ y w. then (members_in (length ms) w) (λ l q. Some (record { serial = m.serial; first = m.first; second = y } ∷ l, q)))
    m.second (spelled fs ++ r) (next 4 m.second fs r h.2)
    ∙ then_back (members_in (length ms) (spelled fs ++ r)) (λ l q. Some (record { serial = m.serial; first = m.first; second = m.second } ∷ l, q)) ms r
    (members_back ms r h.3)

record ReadMembers (n : ℕ) (s : List ℕ) (ms : List Member) (r : List ℕ) : Type 0 where
  are : s ≡ spelled (member_fields ms) ++ r
  many : length ms ≡ n
  held : Words ms
  left : Bytes r

members_only : (n : ℕ) (s : List ℕ) (ms : List Member) (r : List ℕ) → Bytes s → members_in n s ≡ Some (ms, r) → ReadMembers n s ms r
unfolding members_in member_fields
members_only zero s ms r h e =
    subst (λ (p : List Member × List ℕ). ReadMembers 0 s p.0 p.1) (same_Some ([], s) (ms, r) e)
    (record { are = spell_end s; many = refl; held = tt; left = h })
members_only (suc n) s ms r h e =
    let a = then_only (number 4 s)
    (λ k t. then (number 4 t) (λ x v. then (number 4 v) (λ y w. then (members_in n w) (λ l q. Some (record { serial = k; first = x; second = y } ∷ l, q))))) (ms, r) e in
    let b = then_only (number 4 a.after)
    (λ x v. then (number 4 v) (λ y w. then (members_in n w) (λ l q. Some (record { serial = a.value; first = x; second = y } ∷ l, q)))) (ms, r) a.goes in
    let c = then_only (number 4 b.after) (λ y w. then (members_in n w) (λ l q. Some (record { serial = a.value; first = b.value; second = y } ∷ l, q))) (ms, r) b.goes in
    let d = then_only (members_in n c.after) (λ l q. Some (record { serial = a.value; first = b.value; second = c.value } ∷ l, q)) (ms, r) c.goes in
    step s ms r a.value b.value c.value a.after b.after c.after d.value d.after h a.read b.read c.read d.goes
    (λ (left : Bytes c.after). members_only n c.after d.value d.after left d.read)
  where
    step : (s : List ℕ) (ms : List Member) (r : List ℕ) (k x y : ℕ) (t v w : List ℕ) (l : List Member) (q : List ℕ) → Bytes s
        → number 4 s ≡ Some (k, t) → number 4 t ≡ Some (x, v) → number 4 v ≡ Some (y, w)
        → ◌≡◌ {A = Option (List Member × List ℕ)} (Some (record { serial = k; first = x; second = y } ∷ l, q)) (Some (ms, r))
        → (Bytes w → ReadMembers n w l q) → ReadMembers (suc n) s ms r
    step s ms r k x y t v w l q h e f g o i =
        let a = number_only 4 s k t h e in
        let b = number_only 4 t x v a.left f in
        let c = number_only 4 v y w b.left g in
        let j = i c.left in
        subst (λ (p : List Member × List ℕ). ReadMembers (suc n) s p.0 p.1) (same_Some (record { serial = k; first = x; second = y } ∷ l, q) (ms, r) o) (record {
          are = spell 4 k ((4, x) ∷ (4, y) ∷ member_fields l) s t q a.are (spell 4 x ((4, y) ∷ member_fields l) t v q b.are (spell 4 y (member_fields l) v w q c.are j.are));
          many = ap suc j.many;
          held = (a.small, b.small, c.small, j.held);
          left = j.left;
        })

-- ---- written, then read

-- after the letter and the unit
from_rest : (c u : ℕ) (fs : List (ℕ × ℕ)) (op : Op) (r : List ℕ)
    → u < 256 → good op ≡ true → rest c u (spelled fs ++ r) ≡ Some (op, r) → record_in (c ∷ (spelled ((1, u) ∷ fs) ++ r)) ≡ Some (op, r)
unfolding record_in
from_rest c u fs op r h g e =
    then_back (number 1 (c ∷ (spelled ((1, u) ∷ fs) ++ r))) (λ d t. then (number 1 t) (λ x v. then (rest d x v) kept)) c (spelled ((1, u) ∷ fs) ++ r)
    (one c (spelled ((1, u) ∷ fs) ++ r))
    ∙ then_back (number 1 (spelled ((1, u) ∷ fs) ++ r)) (λ x v. then (rest c x v) kept) u (spelled fs ++ r) (next 1 u fs r h)
    ∙ then_back (rest c u (spelled fs ++ r)) kept op r e
    ∙ rw g
  where
    kept : Op → List ℕ → Option (Op × List ℕ)
    kept o q = elim (good o) [ true ↦ Some (o, q) | false ↦ None ]

written_read : (op : Op) (r : List ℕ) → Held op → good op ≡ true → record_in (bytes_of op ++ r) ≡ Some (op, r)
unfolding bytes_of letter_of fields rest spelled
written_read (D u v) r h g =
    from_rest 68 u ((4, v) ∷ []) (D u v) r h.0 g (then_back (number 4 (spelled ((4, v) ∷ []) ++ r)) (λ x q. Some (D u x, q)) v r (next 4 v [] r h.1))
written_read (B u ms) r h g =
    from_rest 66 u ((2, length ms) ∷ member_fields ms) (B u ms) r h.0 g
    (then_back (number 2 (spelled ((2, length ms) ∷ member_fields ms) ++ r)) (λ n t. then (members_in n t) (λ l q. Some (B u l, q))) (length ms)
    (spelled (member_fields ms) ++ r) (next 2 (length ms) (member_fields ms) r h.1)
    ∙ then_back (members_in (length ms) (spelled (member_fields ms) ++ r)) (λ l q. Some (B u l, q)) ms r (members_back ms r h.2))
written_read (E u k) r h g =
    from_rest 69 u ((4, k) ∷ []) (E u k) r h.0 g (then_back (number 4 (spelled ((4, k) ∷ []) ++ r)) (λ x q. Some (E u x, q)) k r (next 4 k [] r h.1))
written_read (S u k s) r h g =
    from_rest 83 u ((4, k) ∷ (1, state_byte s) ∷ []) (S u k s) r h.0 g
    (then_back (number 4 (spelled ((4, k) ∷ (1, state_byte s) ∷ []) ++ r))
    (λ x t. then (number 1 t) (λ n q. elim (state_in n) [ None ↦ None | Some y ↦ Some (S u x y, q) ])) k (spelled ((1, state_byte s) ∷ []) ++ r)
    (next 4 k ((1, state_byte s) ∷ []) r h.1)
    ∙ then_back (number 1 (spelled ((1, state_byte s) ∷ []) ++ r)) (λ n q. elim (state_in n) [ None ↦ None | Some y ↦ Some (S u k y, q) ]) (state_byte s) r
    (next 1 (state_byte s) [] r (state_small s))
    ∙ rw (state_back s))
  where
    state_small : (g : State) → state_byte g < 256
    state_small grows = omega arith
    state_small stays = omega arith
    state_small shrinks = omega arith
written_read (G u l) r h g =
    from_rest 71 u ((8, complement l) ∷ []) (G u l) r h.0 g
    (then_back (number 8 (spelled ((8, complement l) ∷ []) ++ r)) (λ n q. Some (G u (length_in n), q)) (complement l) r (next 8 (complement l) [] r (complement_small l h.1))
    ∙ rw (length_back l h.1))
written_read (F p a b) r h g =
    from_rest 70 p ((1, a) ∷ (1, b) ∷ []) (F p a b) r h.0 g
    (then_back (number 1 (spelled ((1, a) ∷ (1, b) ∷ []) ++ r)) (λ x t. then (number 1 t) (λ y q. Some (F p x y, q))) a (spelled ((1, b) ∷ []) ++ r)
    (next 1 a ((1, b) ∷ []) r h.1)
    ∙ then_back (number 1 (spelled ((1, b) ∷ []) ++ r)) (λ y q. Some (F p a y, q)) b r (next 1 b [] r h.2))
written_read (C u) r h g = from_rest 67 u [] (C u) r h g refl
written_read (K u) r h g = from_rest 75 u [] (K u) r h g refl

pub record_back : (op : Op) (r : List ℕ) → Writable op → record_in (bytes_of op ++ r) ≡ Some (op, r)
record_back op r w = written_read op r (writable_held op w) (writable_good op w)

-- ---- read, then written

record Rest (c u : ℕ) (s : List ℕ) (op : Op) (r : List ℕ) : Type 0 where
  letters : letter_of (line_said op) ≡ c ∷ []
  are : (t : List ℕ) → t ≡ bytes 1 u ++ s → t ≡ spelled (fields op) ++ r
  held : u < 256 → Held op
  left : Bytes r

module _ (c u : ℕ) (s : List ℕ) (op : Op) (r : List ℕ) (h : Bytes s) where
  -- the operation found, and the bytes after it
  found : (o : Op) (q : List ℕ) → Rest c u s o q → ◌≡◌ {A = Option (Op × List ℕ)} (Some (o, q)) (Some (op, r)) → Rest c u s op r
  found o q x e = subst (λ (p : Op × List ℕ). Rest c u s p.0 p.1) (same_Some (o, q) (op, r) e) x

  only-D : c ≡ 68 → then {B = Op × List ℕ} (number 4 s) (λ v q. Some (D u v, q)) ≡ Some (op, r) → Rest c u s op r
  unfolding letter_of fields
  only-D p e =
      let a = then_only (number 4 s) (λ v q. Some (D u v, q)) (op, r) e in
      let x = number_only 4 s a.value a.after h a.read in
      found (D u a.value) a.after (record {
        letters = ap (λ (d : ℕ). d ∷ []) (sym p);
        are = λ t y. spell 1 u ((4, a.value) ∷ []) t s a.after y (spell 4 a.value [] s a.after a.after x.are (spell_end a.after));
        held = λ z. (z, x.small);
        left = x.left;
      }) a.goes

  only-B : c ≡ 66 → then {B = Op × List ℕ} (number 2 s) (λ n t. then (members_in n t) (λ ms q. Some (B u ms, q))) ≡ Some (op, r) → Rest c u s op r
  unfolding letter_of fields
  only-B p e =
      let a = then_only (number 2 s) (λ n t. then (members_in n t) (λ ms q. Some (B u ms, q))) (op, r) e in
      let b = then_only (members_in a.value a.after) (λ ms q. Some (B u ms, q)) (op, r) a.goes in
      let x = number_only 2 s a.value a.after h a.read in
      let y = members_only a.value a.after b.value b.after x.left b.read in
      let many : length b.value ≡ a.value = y.many in
      let small : a.value < 65536 = x.small in
      found (B u b.value) b.after (record {
        letters = ap (λ (d : ℕ). d ∷ []) (sym p);
        are = λ t z. spell 1 u ((2, length b.value) ∷ member_fields b.value) t s b.after z
            (spell 2 (length b.value) (member_fields b.value) s a.after b.after (x.are ∙ ap (λ (n : ℕ). bytes 2 n ++ a.after) (sym many)) y.are);
        held = λ z. (z, omega arith, y.held);
        left = y.left;
      }) b.goes

  only-E : c ≡ 69 → then {B = Op × List ℕ} (number 4 s) (λ k q. Some (E u k, q)) ≡ Some (op, r) → Rest c u s op r
  unfolding letter_of fields
  only-E p e =
      let a = then_only (number 4 s) (λ k q. Some (E u k, q)) (op, r) e in
      let x = number_only 4 s a.value a.after h a.read in
      found (E u a.value) a.after (record {
        letters = ap (λ (d : ℕ). d ∷ []) (sym p);
        are = λ t y. spell 1 u ((4, a.value) ∷ []) t s a.after y (spell 4 a.value [] s a.after a.after x.are (spell_end a.after));
        held = λ z. (z, x.small);
        left = x.left;
      }) a.goes

  only-S : c ≡ 83 → then {B = Op × List ℕ} (number 4 s) (λ k t. then (number 1 t) (λ n q. elim (state_in n) [ None ↦ None | Some g ↦ Some (S u k g, q) ])) ≡ Some (op, r) → Rest c u s op r
  unfolding letter_of fields
  only-S p e =
      let a = then_only (number 4 s) (λ k t. then (number 1 t) (λ n q. elim (state_in n) [ None ↦ None | Some g ↦ Some (S u k g, q) ])) (op, r) e in
      let b = then_only (number 1 a.after) (λ n q. elim (state_in n) [ None ↦ None | Some g ↦ Some (S u a.value g, q) ]) (op, r) a.goes in
      go a.value a.after b.value b.after a.read b.read (state_in b.value) refl b.goes
    where
      go : (k : ℕ) (t : List ℕ) (n : ℕ) (q : List ℕ) → number 4 s ≡ Some (k, t) → number 1 t ≡ Some (n, q)
          → (o : Option State) → state_in n ≡ o → ◌≡◌ {A = Option (Op × List ℕ)} (elim o [ None ↦ None | Some g ↦ Some (S u k g, q) ]) (Some (op, r)) → Rest c u s op r
      go k t n q e f None i j = absurd (none-some (op, r) j)
      go k t n q e f (Some g) i j =
          let x = number_only 4 s k t h e in
          let y = number_only 1 t n q x.left f in
          found (S u k g) q (record {
            letters = ap (λ (d : ℕ). d ∷ []) (sym p);
            are = λ v z. spell 1 u ((4, k) ∷ (1, state_byte g) ∷ []) v s q z
                (spell 4 k ((1, state_byte g) ∷ []) s t q x.are (spell 1 (state_byte g) [] t q q (y.are ∙ ap (λ (m : ℕ). bytes 1 m ++ q) (state_only n g i)) (spell_end q)));
            held = λ z. (z, x.small);
            left = y.left;
          }) j

  only-G : c ≡ 71 → then {B = Op × List ℕ} (number 8 s) (λ n q. Some (G u (length_in n), q)) ≡ Some (op, r) → Rest c u s op r
  unfolding letter_of fields
  only-G p e =
      let a = then_only (number 8 s) (λ n q. Some (G u (length_in n), q)) (op, r) e in
      let x = number_only 8 s a.value a.after h a.read in
      let y = length_only a.value x.small in
      found (G u (length_in a.value)) a.after (record {
        letters = ap (λ (d : ℕ). d ∷ []) (sym p);
        are = λ t z. spell 1 u ((8, complement (length_in a.value)) ∷ []) t s a.after z
            (spell 8 (complement (length_in a.value)) [] s a.after a.after (x.are ∙ ap (λ (n : ℕ). bytes 8 n ++ a.after) (sym y.0)) (spell_end a.after));
        held = λ z. (z, y.1);
        left = x.left;
      }) a.goes

  only-F : c ≡ 70 → then {B = Op × List ℕ} (number 1 s) (λ a t. then (number 1 t) (λ b q. Some (F u a b, q))) ≡ Some (op, r) → Rest c u s op r
  unfolding letter_of fields
  only-F p e =
      let a = then_only (number 1 s) (λ a t. then (number 1 t) (λ b q. Some (F u a b, q))) (op, r) e in
      let b = then_only (number 1 a.after) (λ b q. Some (F u a.value b, q)) (op, r) a.goes in
      let x = number_only 1 s a.value a.after h a.read in
      let y = number_only 1 a.after b.value b.after x.left b.read in
      found (F u a.value b.value) b.after (record {
        letters = ap (λ (d : ℕ). d ∷ []) (sym p);
        are = λ t z. spell 1 u ((1, a.value) ∷ (1, b.value) ∷ []) t s b.after z
            (spell 1 a.value ((1, b.value) ∷ []) s a.after b.after x.are (spell 1 b.value [] a.after b.after b.after y.are (spell_end b.after)));
        held = λ z. (z, x.small, y.small);
        left = y.left;
      }) b.goes

  only-C : c ≡ 67 → ◌≡◌ {A = Option (Op × List ℕ)} (Some (C u, s)) (Some (op, r)) → Rest c u s op r
  unfolding letter_of fields
  only-C p e = found (C u) s (record { letters = ap (λ (d : ℕ). d ∷ []) (sym p); are = λ t z. spell 1 u [] t s s z (spell_end s); held = λ z. z; left = h }) e

  only-K : c ≡ 75 → ◌≡◌ {A = Option (Op × List ℕ)} (Some (K u, s)) (Some (op, r)) → Rest c u s op r
  unfolding letter_of fields
  only-K p e = found (K u) s (record { letters = ap (λ (d : ℕ). d ∷ []) (sym p); are = λ t z. spell 1 u [] t s s z (spell_end s); held = λ z. z; left = h }) e

  -- the letter says which
  rest_only : rest c u s ≡ Some (op, r) → Rest c u s op r
  unfolding rest
  rest_only e = go-D (ℕ_discrete c 68)
    where
      go-K : (c ≡ 68 → ⊥) → (c ≡ 66 → ⊥) → (c ≡ 69 → ⊥) → (c ≡ 83 → ⊥) → (c ≡ 71 → ⊥) → (c ≡ 70 → ⊥) → (c ≡ 67 → ⊥) → Dec (c ≡ 75) → Rest c u s op r
      go-K d b x y g f k (yes p) = only-K p (rw p at e)
      go-K d b x y g f k (no p) =
          absurd (none-some (op, r) (rw (ne_eqb c 68 d, ne_eqb c 66 b, ne_eqb c 69 x, ne_eqb c 83 y, ne_eqb c 71 g, ne_eqb c 70 f, ne_eqb c 67 k, ne_eqb c 75 p) at e))

      go-C : (c ≡ 68 → ⊥) → (c ≡ 66 → ⊥) → (c ≡ 69 → ⊥) → (c ≡ 83 → ⊥) → (c ≡ 71 → ⊥) → (c ≡ 70 → ⊥) → Dec (c ≡ 67) → Rest c u s op r
      go-C d b x y g f (yes p) = only-C p (rw p at e)
      go-C d b x y g f (no p) = go-K d b x y g f p (ℕ_discrete c 75)

      go-F : (c ≡ 68 → ⊥) → (c ≡ 66 → ⊥) → (c ≡ 69 → ⊥) → (c ≡ 83 → ⊥) → (c ≡ 71 → ⊥) → Dec (c ≡ 70) → Rest c u s op r
      go-F d b x y g (yes p) = only-F p (rw p at e)
      go-F d b x y g (no p) = go-C d b x y g p (ℕ_discrete c 67)

      go-G : (c ≡ 68 → ⊥) → (c ≡ 66 → ⊥) → (c ≡ 69 → ⊥) → (c ≡ 83 → ⊥) → Dec (c ≡ 71) → Rest c u s op r
      go-G d b x y (yes p) = only-G p (rw p at e)
      go-G d b x y (no p) = go-F d b x y p (ℕ_discrete c 70)

      go-S : (c ≡ 68 → ⊥) → (c ≡ 66 → ⊥) → (c ≡ 69 → ⊥) → Dec (c ≡ 83) → Rest c u s op r
      go-S d b x (yes p) = only-S p (rw p at e)
      go-S d b x (no p) = go-G d b x p (ℕ_discrete c 71)

      go-E : (c ≡ 68 → ⊥) → (c ≡ 66 → ⊥) → Dec (c ≡ 69) → Rest c u s op r
      go-E d b (yes p) = only-E p (rw p at e)
      go-E d b (no p) = go-S d b p (ℕ_discrete c 83)

      go-B : (c ≡ 68 → ⊥) → Dec (c ≡ 66) → Rest c u s op r
      go-B d (yes p) = only-B p (rw p at e)
      go-B d (no p) = go-E d p (ℕ_discrete c 69)

      go-D : Dec (c ≡ 68) → Rest c u s op r
      go-D (yes p) = only-D p (rw p at e)
      go-D (no p) = go-B p (ℕ_discrete c 66)

-- bytes that begin with a record
pub record Found (s : List ℕ) (op : Op) (r : List ℕ) : Type 0 where
  pub are : s ≡ bytes_of op ++ r
  pub writable : Writable op
  pub left : Bytes r

pub record_only : (s : List ℕ) (op : Op) (r : List ℕ) → Bytes s → record_in s ≡ Some (op, r) → Found s op r
unfolding record_in bytes_of
record_only s op r h e =
    let a = then_only (number 1 s) (λ c t. then (number 1 t) (λ u v. then (rest c u v) kept)) (op, r) e in
    let b = then_only (number 1 a.after) (λ u v. then (rest a.value u v) kept) (op, r) a.goes in
    let c = then_only (rest a.value b.value b.after) kept (op, r) b.goes in
    go a.value a.after b.value b.after c.value c.after a.read b.read c.read (good c.value) refl c.goes
  where
    kept : Op → List ℕ → Option (Op × List ℕ)
    kept o q = elim (good o) [ true ↦ Some (o, q) | false ↦ None ]

    go : (c : ℕ) (t : List ℕ) (u : ℕ) (v : List ℕ) (o : Op) (q : List ℕ) → number 1 s ≡ Some (c, t) → number 1 t ≡ Some (u, v) → rest c u v ≡ Some (o, q)
        → (g : Bool) → good o ≡ g → ◌≡◌ {A = Option (Op × List ℕ)} (elim g [ true ↦ Some (o, q) | false ↦ None ]) (Some (op, r)) → Found s op r
    go c t u v o q i j k false m n = absurd (none-some (op, r) n)
    go c t u v o q i j k true m n =
        let x = number_only 1 s c t h i in
        let y = number_only 1 t u v x.left j in
        let z = rest_only c u v o q y.left k in
        subst (λ (p : Op × List ℕ). Found s p.0 p.1) (same_Some (o, q) (op, r) n) (record {
          are = one_only c s c t i ∙ ap (λ (l : List ℕ). c ∷ l) (z.are t y.are) ∙ ap (λ (l : List ℕ). (l ++ spelled (fields o)) ++ q) (sym z.letters);
          writable = good_writable o (z.held y.small) m;
          left = z.left;
        })
