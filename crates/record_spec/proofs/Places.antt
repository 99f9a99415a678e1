-- Reading at a place: what a tester that walks the slice once, from place to place, has to know. Assumes nothing.
use Rattle.std.specs.Prelude.{None, Option, Some}
use Rattle.std.proofs.lemmas.Option.{none-some}
use Prim.Native.Nat.{ℕ, zero, suc, ◌+◌, ◌-◌, ◌*◌, ◌≤◌, ◌<◌}
use native.Mathlib.Omega.{arith}
use mathlib.Core.Path.{◌≡◌, refl, sym, ◌∙◌, ap}
use mathlib.Core.Bool.{true, false}
use mathlib.Core.List.{List, [], ◌∷◌}
use lib.ListN.{length, take, drop, get_or, length-append, length-drop}
use lib.Seq.{drop-cons, drop_at}
use borrow.Author.Tests.{ne_eqb, eq-eqb}
use Rattle.record_spec.specs.Numbers.{Bytes, then, number, fours_in}
use Rattle.record_spec.specs.Operations.{Op}
use Rattle.record_spec.specs.Records.{bytes_of}
use Rattle.record_spec.specs.Reader.{record_in}
use Rattle.record_spec.specs.Files.{records_in, fitting, file_ops}
use Rattle.record_spec.specs.Places.{at, fours_at}
use Rattle.record_spec.proofs.Numbers.{same_after, then_only, then_back}
use Rattle.record_spec.proofs.Records.{record_only}
use Rattle.record_spec.proofs.Files.{onto, records_step, inside, fitting_true}

-- ---- a number

pub number_at : (k : ℕ) (s : List ℕ) (p : ℕ) → p + k ≤ length s → number k (drop p s) ≡ Some (at k s p, drop (p + k) s)
unfolding number at
number_at zero s p h = let e : p ≡ p + 0 = omega arith in ap (λ (n : ℕ). Some (0, drop n s)) e
number_at (suc k) s p h =
    let e : suc p + k ≡ p + suc k = omega arith in
    ap (number (suc k)) (drop-cons s p 0 (omega arith))
    ∙ then_back (number k (drop (suc p) s)) (λ n r. Some (get_or s p 0 + 256 * n, r)) (at k s (suc p)) (drop (suc p + k) s) (number_at k s (suc p) (omega arith))
    ∙ ap (λ (n : ℕ). Some (get_or s p 0 + 256 * at k s (suc p), drop n s)) e

pub number_short : (k : ℕ) (s : List ℕ) → length s < k → number k s ≡ None
unfolding number
number_short zero s h = absurd (omega arith)
number_short (suc k) [] h = refl
number_short (suc k) (b ∷ s) h = ap (λ (o : Option (ℕ × List ℕ)). then o (λ n r. Some (b + 256 * n, r))) (number_short k s (omega arith))

pub fours_at_lem : (n : ℕ) (s : List ℕ) (p : ℕ) → p + 4 * n ≤ length s → fours_in n (drop p s) ≡ Some (fours_at n s p, drop (p + 4 * n) s)
unfolding fours_in fours_at
fours_at_lem zero s p h = let e : p ≡ p + 4 * 0 = omega arith in ap (λ (n : ℕ). Some ([], drop n s)) e
fours_at_lem (suc n) s p h =
    let e : p + 4 + 4 * n ≡ p + 4 * suc n = omega arith in
    then_back (number 4 (drop p s)) (λ a t. then (fours_in n t) (λ l q. Some (a ∷ l, q))) (at 4 s p) (drop (p + 4) s) (number_at 4 s p (omega arith))
    ∙ then_back (fours_in n (drop (p + 4) s)) (λ l q. Some (at 4 s p ∷ l, q)) (fours_at n s (p + 4)) (drop (p + 4 + 4 * n) s) (fours_at_lem n s (p + 4) (omega arith))
    ∙ ap (λ (m : ℕ). Some (at 4 s p ∷ fours_at n s (p + 4), drop m s)) e

-- ---- a record: what is left stands at the place after it

pub record_ends : (s : List ℕ) (op : Op) (r : List ℕ) → Bytes s → record_in s ≡ Some (op, r)
    → (r ≡ drop (length (bytes_of op)) s) × (length (bytes_of op) ≤ length s)
record_ends s op r h e =
    let a = record_only s op r h e in (
      sym (ap (drop (length (bytes_of op))) a.are ∙ drop_at (bytes_of op) r (length (bytes_of op)) refl),
      omega (arith, ap length a.are, length-append (bytes_of op) r),
    )

-- ---- the records: a step of the loop, and each way to stop

module _ (t : List ℕ) (p : ℕ) (places : List ℕ) where
  pub loop_step : (op : Op) → record_in (drop p t) ≡ Some (op, drop (p + length (bytes_of op)) t)
      → records_in p (p ∷ places) (drop p t) ≡ onto op (records_in (p + length (bytes_of op)) places (drop (p + length (bytes_of op)) t))
  loop_step op e = records_step p places (drop p t) (drop (p + length (bytes_of op)) t) op e

  pub loop_astray : (a : ℕ) → (a ≡ p → ⊥) → records_in p (a ∷ places) (drop p t) ≡ None
  unfolding records_in
  loop_astray a n = rw (ne_eqb a p n, records_in)

  pub loop_bad : record_in (drop p t) ≡ None → records_in p (p ∷ places) (drop p t) ≡ None
  unfolding records_in
  loop_bad e = rw (eq-eqb p p refl, records_in) (rw e)

pub loop_end : (p : ℕ) → records_in p [] [] ≡ Some []
unfolding records_in
loop_end p = refl

pub loop_more : (p : ℕ) (s : List ℕ) → 0 < length s → records_in p [] s ≡ None
unfolding records_in
loop_more p [] h = absurd (omega arith)
loop_more p (b ∷ s) h = refl

-- ---- the trailer

pub number_length : (k : ℕ) (s : List ℕ) (n : ℕ) (r : List ℕ) → number k s ≡ Some (n, r) → length s ≡ k + length r
unfolding number
number_length zero s n r e = omega (arith, ap length (same_after 0 n s r e))
number_length (suc k) [] n r e = absurd (none-some (n, r) e)
number_length (suc k) (b ∷ s) n r e =
    let t = then_only (number k s) (λ m q. Some (b + 256 * m, q)) (n, r) e in
    omega (arith, number_length k s t.value t.after t.read, ap length (same_after (b + 256 * t.value) n t.after r t.goes))

pub file_short : (s : List ℕ) → length s < 16 → file_ops s ≡ None
unfolding file_ops
file_short s h = go (file_ops s) refl
  where
    go : (o : Option (List Op)) → file_ops s ≡ o → file_ops s ≡ None
    go None e = e
    go (Some ops) e =
        let a = then_only (number 4 (drop (length s - 16) s)) (λ x t. then (number 4 t) (λ y v. then (number 4 v) (λ z w. then (number 4 w) (λ o r. inside s x y z o)))) ops e in
        let b = then_only (number 4 a.after) (λ y v. then (number 4 v) (λ z w. then (number 4 w) (λ o r. inside s a.value y z o))) ops a.goes in
        let c = then_only (number 4 b.after) (λ z w. then (number 4 w) (λ o r. inside s a.value b.value z o)) ops b.goes in
        let d = then_only (number 4 c.after) (λ o r. inside s a.value b.value c.value o) ops c.goes in
        absurd (omega (
          arith,
          length-drop (length s - 16) s,
          number_length 4 (drop (length s - 16) s) a.value a.after a.read,
          number_length 4 a.after b.value b.after b.read,
          number_length 4 b.after c.value c.after c.read,
          number_length 4 c.after d.value d.after d.read,
        ))

pub file_opened : (s : List ℕ) (n : ℕ) → length s ≡ n + 16 → file_ops s ≡ inside s (at 4 s n) (at 4 s (n + 4)) (at 4 s (n + 8)) (at 4 s (n + 12))
unfolding file_ops
file_opened s n e =
    let z : length s - 16 ≡ n = omega arith in
    ap (λ (m : ℕ). then (number 4 (drop m s)) (λ w t. then (number 4 t) (λ x v. then (number 4 v) (λ y u. then (number 4 u) (λ o r. inside s w x y o))))) z
    ∙ then_back (number 4 (drop n s)) (λ w t. then (number 4 t) (λ x v. then (number 4 v) (λ y u. then (number 4 u) (λ o r. inside s w x y o)))) (at 4 s n) (drop (n + 4) s)
    (number_at 4 s n (omega arith))
    ∙ then_back (number 4 (drop (n + 4) s)) (λ x v. then (number 4 v) (λ y u. then (number 4 u) (λ o r. inside s (at 4 s n) x y o))) (at 4 s (n + 4)) (drop (n + 4 + 4) s)
    (number_at 4 s (n + 4) (omega arith))
    ∙ then_back (number 4 (drop (n + 4 + 4) s)) (λ y u. then (number 4 u) (λ o r. inside s (at 4 s n) (at 4 s (n + 4)) y o)) (at 4 s (n + 4 + 4)) (drop (n + 4 + 4 + 4) s)
    (number_at 4 s (n + 4 + 4) (omega arith))
    ∙ then_back (number 4 (drop (n + 4 + 4 + 4) s)) (λ o r. inside s (at 4 s n) (at 4 s (n + 4)) (at 4 s (n + 4 + 4)) o) (at 4 s (n + 4 + 4 + 4)) (drop (n + 4 + 4 + 4 + 4) s)
    (number_at 4 s (n + 4 + 4 + 4) (omega arith))
    ∙ (λ i. inside s (at 4 s n) (at 4 s (n + 4)) (at 4 s (eight i)) (at 4 s (twelve i)))
  where
    eight : n + 4 + 4 ≡ n + 8
    eight = omega arith

    twelve : n + 4 + 4 + 4 ≡ n + 12
    twelve = omega arith

-- a file of n + 16 bytes: the four numbers, and the walk if they fit
module _ (s : List ℕ) (n : ℕ) (long : length s ≡ n + 16) where
  pub file_unfit : fitting (length s) (at 4 s n) (at 4 s (n + 4)) (at 4 s (n + 8)) (at 4 s (n + 12)) ≡ false → file_ops s ≡ None
  file_unfit e = file_opened s n long ∙ rw (e, inside)

  pub file_walk : fitting (length s) (at 4 s n) (at 4 s (n + 4)) (at 4 s (n + 8)) (at 4 s (n + 12)) ≡ true
      → file_ops s ≡ records_in 0 (fours_at (at 4 s (n + 4)) s (at 4 s n)) (take (at 4 s n) s)
  file_walk e =
      let f = fitting_true (length s) (at 4 s n) (at 4 s (n + 4)) (at 4 s (n + 8)) (at 4 s (n + 12)) e in
      file_opened s n long
      ∙ rw (e, inside) (then_back (fours_in (at 4 s (n + 4)) (drop (at 4 s n) s)) (λ places q. records_in 0 places (take (at 4 s n) s)) (fours_at (at 4 s (n + 4)) s (at 4 s n))
      (drop (at 4 s n + 4 * at 4 s (n + 4)) s) (fours_at_lem (at 4 s (n + 4)) s (at 4 s n) (omega (arith, f.lists, f.ends))))
