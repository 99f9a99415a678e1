-- What stands after a letter and a unit, by places: the operation, if there are bytes enough. Assumes nothing.
use Rattle.std.specs.Prelude.{None, Option, Some}
use Prim.Native.Nat.{ℕ, zero, suc, ◌+◌, ◌*◌, ◌≤◌, ◌<◌}
use native.Mathlib.Omega.{arith}
use native.Mathlib.Decide.{dec_le}
use mathlib.Core.Path.{◌≡◌, refl, ◌∙◌, ap}
use mathlib.Core.List.{List, [], ◌∷◌}
use lib.ListN.{length, drop, length-drop}
use borrow.Author.Tests.{ne_eqb}
use Rattle.ledger_spec.specs.Bench.{State}
use Rattle.ledger_spec.specs.Operations.{D, B, E, S, G, F}
use Rattle.record_spec.specs.Numbers.{then, number, length_in}
use Rattle.record_spec.specs.Operations.{Member, Op}
use Rattle.record_spec.specs.Reader.{state_in, members_in, rest}
use Rattle.record_spec.specs.Places.{at}
use Rattle.record_spec.proofs.Numbers.{then_only, then_back, same_after}
use Rattle.record_spec.proofs.Places.{number_at, number_short, number_length}
use Rattle.record_measures.specs.Measures.{member_at, members_at}

-- ---- a number that is not there

no_number : (k : ℕ) (t : List ℕ) (q : ℕ) → 0 < k → length t < q + k → number k (drop q t) ≡ None
no_number k t q z h = number_short k (drop q t) (omega (arith, length-drop q t))

-- ---- members

pub members_at_lem : (n : ℕ) (s : List ℕ) (p : ℕ) → p + 12 * n ≤ length s → members_in n (drop p s) ≡ Some (members_at n s p, drop (p + 12 * n) s)
unfolding members_in members_at
members_at_lem zero s p h = let e : p ≡ p + 12 * 0 = omega arith in ap (λ (n : ℕ). Some ([], drop n s)) e
members_at_lem (suc n) s p h =
    let m = member_at s p in
    let e : p + 4 + 4 ≡ p + 8 = omega arith in
    let f : p + 8 + 4 ≡ p + 12 = omega arith in
    let g : p + 12 + 12 * n ≡ p + 12 * suc n = omega arith in
    then_back (number 4 (drop p s))
    (λ k t. then (number 4 t) (λ x v. then (number 4 v) (λ y w. then (members_in n w) (λ l q. Some (record { serial = k; first = x; second = y } ∷ l, q)))))
    (at 4 s p) (drop (p + 4) s) (number_at 4 s p (omega arith))
    ∙ then_back (number 4 (drop (p + 4) s))
    (λ x v. then (number 4 v) (λ y w. then (members_in n w) (λ l q. Some (record { serial = at 4 s p; first = x; second = y } ∷ l, q))))
    (at 4 s (p + 4)) (drop (p + 8) s) (number_at 4 s (p + 4) (omega arith) ∙ ap (λ (a : ℕ). Some (at 4 s (p + 4), drop a s)) e)
    ∙ then_back (number 4 (drop (p + 8) s))
    (λ y w. then (members_in n w) (λ l q. Some (record { serial = at 4 s p; first = at 4 s (p + 4); second = y } ∷ l, q)))
    (at 4 s (p + 8)) (drop (p + 12) s) (number_at 4 s (p + 8) (omega arith) ∙ ap (λ (a : ℕ). Some (at 4 s (p + 8), drop a s)) f)
    ∙ then_back (members_in n (drop (p + 12) s)) (λ l q. Some (m ∷ l, q)) (members_at n s (p + 12)) (drop (p + 12 + 12 * n) s) (members_at_lem n s (p + 12) (omega arith))
    ∙ ap (λ (a : ℕ). Some (m ∷ members_at n s (p + 12), drop a s)) g

members_length : (n : ℕ) (s : List ℕ) (ms : List Member) (r : List ℕ) → members_in n s ≡ Some (ms, r) → length s ≡ 12 * n + length r
unfolding members_in
members_length zero s ms r e = omega (arith, ap length (same_after [] ms s r e))
members_length (suc n) s ms r e =
    let a = then_only (number 4 s)
    (λ k t. then (number 4 t) (λ x v. then (number 4 v) (λ y w. then (members_in n w) (λ l q. Some (record { serial = k; first = x; second = y } ∷ l, q))))) (ms, r) e in
    let b = then_only (number 4 a.after)
    (λ x v. then (number 4 v) (λ y w. then (members_in n w) (λ l q. Some (record { serial = a.value; first = x; second = y } ∷ l, q)))) (ms, r) a.goes in
    let c = then_only (number 4 b.after) (λ y w. then (members_in n w) (λ l q. Some (record { serial = a.value; first = b.value; second = y } ∷ l, q))) (ms, r) b.goes in
    let d = then_only (members_in n c.after) (λ l q. Some (record { serial = a.value; first = b.value; second = c.value } ∷ l, q)) (ms, r) c.goes in
    let m : Member = record { serial = a.value; first = b.value; second = c.value } in
    omega (
      arith,
      number_length 4 s a.value a.after a.read,
      number_length 4 a.after b.value b.after b.read,
      number_length 4 b.after c.value c.after c.read,
      members_length n c.after d.value d.after d.read,
      ap length (same_after (m ∷ d.value) ms d.after r d.goes),
    )

members_short : (n : ℕ) (s : List ℕ) → length s < 12 * n → members_in n s ≡ None
members_short n s h = go (members_in n s) refl
  where
    go : (o : Option (List Member × List ℕ)) → members_in n s ≡ o → members_in n s ≡ None
    go None e = e
    go (Some p) e = absurd (omega (arith, members_length n s p.0 p.1 e))

-- ---- the letters

-- a state's byte, read
abbrev stated : ℕ → ℕ → Option State → List ℕ → Option (Op × List ℕ)
stated u k o r = elim o [ None ↦ None | Some g ↦ Some (S u k g, r) ]

module _ (t : List ℕ) (q u : ℕ) where
  pub rest-D : q + 4 ≤ length t → rest 68 u (drop q t) ≡ Some (D u (at 4 t q), drop (q + 4) t)
  unfolding rest
  rest-D h = then_back (number 4 (drop q t)) (λ v r. Some (D u v, r)) (at 4 t q) (drop (q + 4) t) (number_at 4 t q h)

  pub short-D : length t < q + 4 → rest 68 u (drop q t) ≡ None
  unfolding rest
  short-D h = ap (λ (o : Option (ℕ × List ℕ)). then {B = Op × List ℕ} o (λ v r. Some (D u v, r))) (no_number 4 t q (omega arith) h)

  pub rest-E : q + 4 ≤ length t → rest 69 u (drop q t) ≡ Some (E u (at 4 t q), drop (q + 4) t)
  unfolding rest
  rest-E h = then_back (number 4 (drop q t)) (λ v r. Some (E u v, r)) (at 4 t q) (drop (q + 4) t) (number_at 4 t q h)

  pub short-E : length t < q + 4 → rest 69 u (drop q t) ≡ None
  unfolding rest
  short-E h = ap (λ (o : Option (ℕ × List ℕ)). then {B = Op × List ℕ} o (λ v r. Some (E u v, r))) (no_number 4 t q (omega arith) h)

  in-S : q + 5 ≤ length t → rest 83 u (drop q t) ≡ stated u (at 4 t q) (state_in (at 1 t (q + 4))) (drop (q + 4 + 1) t)
  unfolding rest
  in-S h =
      then_back (number 4 (drop q t)) (λ k v. then (number 1 v) (λ n r. stated u k (state_in n) r)) (at 4 t q) (drop (q + 4) t) (number_at 4 t q (omega arith))
      ∙ then_back (number 1 (drop (q + 4) t)) (λ n r. stated u (at 4 t q) (state_in n) r) (at 1 t (q + 4)) (drop (q + 4 + 1) t) (number_at 1 t (q + 4) (omega arith))

  pub rest-S : (g : State) → q + 5 ≤ length t → state_in (at 1 t (q + 4)) ≡ Some g → rest 83 u (drop q t) ≡ Some (S u (at 4 t q) g, drop (q + 4 + 1) t)
  rest-S g h e = in-S h ∙ ap (λ (o : Option State). stated u (at 4 t q) o (drop (q + 4 + 1) t)) e

  pub bad-S : q + 5 ≤ length t → state_in (at 1 t (q + 4)) ≡ None → rest 83 u (drop q t) ≡ None
  bad-S h e = in-S h ∙ ap (λ (o : Option State). stated u (at 4 t q) o (drop (q + 4 + 1) t)) e

  pub short-S : length t < q + 5 → rest 83 u (drop q t) ≡ None
  unfolding rest
  short-S h = go (dec_le (q + 4) (length t))
    where
      go : Dec (q + 4 ≤ length t) → then (number 4 (drop q t)) (λ k v. then (number 1 v) (λ n r. stated u k (state_in n) r)) ≡ None
      go (no l) = ap (λ (o : Option (ℕ × List ℕ)). then o (λ k v. then (number 1 v) (λ n r. stated u k (state_in n) r))) (no_number 4 t q (omega arith) (omega arith))
      go (yes l) =
          then_back (number 4 (drop q t)) (λ k v. then (number 1 v) (λ n r. stated u k (state_in n) r)) (at 4 t q) (drop (q + 4) t) (number_at 4 t q l)
          ∙ ap (λ (o : Option (ℕ × List ℕ)). then o (λ n r. stated u (at 4 t q) (state_in n) r)) (no_number 1 t (q + 4) (omega arith) (omega arith))

  pub rest-G : q + 8 ≤ length t → rest 71 u (drop q t) ≡ Some (G u (length_in (at 8 t q)), drop (q + 8) t)
  unfolding rest
  rest-G h = then_back (number 8 (drop q t)) (λ n r. Some (G u (length_in n), r)) (at 8 t q) (drop (q + 8) t) (number_at 8 t q h)

  pub short-G : length t < q + 8 → rest 71 u (drop q t) ≡ None
  unfolding rest
  short-G h = ap (λ (o : Option (ℕ × List ℕ)). then {B = Op × List ℕ} o (λ n r. Some (G u (length_in n), r))) (no_number 8 t q (omega arith) h)

  pub rest-F : q + 2 ≤ length t → rest 70 u (drop q t) ≡ Some (F u (at 1 t q) (at 1 t (q + 1)), drop (q + 1 + 1) t)
  unfolding rest
  rest-F h =
      then_back (number 1 (drop q t)) (λ a v. then (number 1 v) (λ b r. Some (F u a b, r))) (at 1 t q) (drop (q + 1) t) (number_at 1 t q (omega arith))
      ∙ then_back (number 1 (drop (q + 1) t)) (λ b r. Some (F u (at 1 t q) b, r)) (at 1 t (q + 1)) (drop (q + 1 + 1) t) (number_at 1 t (q + 1) (omega arith))

  pub short-F : length t < q + 2 → rest 70 u (drop q t) ≡ None
  unfolding rest
  short-F h = go (dec_le (q + 1) (length t))
    where
      go : Dec (q + 1 ≤ length t) → then {B = Op × List ℕ} (number 1 (drop q t)) (λ a v. then (number 1 v) (λ b r. Some (F u a b, r))) ≡ None
      go (no l) = ap (λ (o : Option (ℕ × List ℕ)). then {B = Op × List ℕ} o (λ a v. then (number 1 v) (λ b r. Some (F u a b, r)))) (no_number 1 t q (omega arith) (omega arith))
      go (yes l) =
          then_back (number 1 (drop q t)) (λ a v. then (number 1 v) (λ b r. Some (F u a b, r))) (at 1 t q) (drop (q + 1) t) (number_at 1 t q l)
          ∙ ap (λ (o : Option (ℕ × List ℕ)). then {B = Op × List ℕ} o (λ b r. Some (F u (at 1 t q) b, r))) (no_number 1 t (q + 1) (omega arith) (omega arith))

  in-B : q + 2 ≤ length t → rest 66 u (drop q t) ≡ then (members_in (at 2 t q) (drop (q + 2) t)) (λ ms r. Some (B u ms, r))
  unfolding rest
  in-B h = then_back (number 2 (drop q t)) (λ n v. then (members_in n v) (λ ms r. Some (B u ms, r))) (at 2 t q) (drop (q + 2) t) (number_at 2 t q h)

  pub rest-B : q + 2 + 12 * at 2 t q ≤ length t → rest 66 u (drop q t) ≡ Some (B u (members_at (at 2 t q) t (q + 2)), drop (q + 2 + 12 * at 2 t q) t)
  rest-B h =
      in-B (omega arith)
      ∙ then_back (members_in (at 2 t q) (drop (q + 2) t)) (λ ms r. Some (B u ms, r)) (members_at (at 2 t q) t (q + 2)) (drop (q + 2 + 12 * at 2 t q) t) (members_at_lem (at 2 t q) t (q + 2) h)

  pub few-B : q + 2 ≤ length t → length t < q + 2 + 12 * at 2 t q → rest 66 u (drop q t) ≡ None
  few-B h l =
      in-B h
      ∙ ap (λ (o : Option (List Member × List ℕ)). then {B = Op × List ℕ} o (λ ms r. Some (B u ms, r))) (members_short (at 2 t q) (drop (q + 2) t) (omega (arith, length-drop (q + 2) t)))

  pub short-B : length t < q + 2 → rest 66 u (drop q t) ≡ None
  unfolding rest
  short-B h = ap (λ (o : Option (ℕ × List ℕ)). then {B = Op × List ℕ} o (λ n v. then (members_in n v) (λ ms r. Some (B u ms, r)))) (no_number 2 t q (omega arith) h)

-- ---- any other letter

pub rest_none : (l u : ℕ) (s : List ℕ) → (l ≡ 68 → ⊥) → (l ≡ 66 → ⊥) → (l ≡ 69 → ⊥) → (l ≡ 83 → ⊥) → (l ≡ 71 → ⊥) → (l ≡ 70 → ⊥) → (l ≡ 67 → ⊥) → (l ≡ 75 → ⊥) → rest l u s ≡ None
unfolding rest
rest_none l u s a b c d e f g h =
    rw (ne_eqb l 68 a, ne_eqb l 66 b, ne_eqb l 69 c, ne_eqb l 83 d, ne_eqb l 71 e, ne_eqb l 70 f, ne_eqb l 67 g, ne_eqb l 75 h)
