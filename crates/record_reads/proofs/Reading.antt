-- The record that is known to stand at a place: by its letter there are bytes enough, and the operation is the one of the numbers there. Assumes nothing.
use Rattle.std.specs.Prelude.{None, Option, Some}
use Rattle.std.proofs.lemmas.Option.{same_Some, none-some}
use Prim.Native.Nat.{ℕ, ◌+◌, ◌*◌, ◌≤◌, ◌<◌}
use native.Mathlib.Omega.{arith}
use native.Mathlib.Decide.{dec_le, ℕ_discrete}
use mathlib.Core.Path.{◌≡◌, refl, sym, ◌∙◌, ap}
use mathlib.Core.Bool.{Bool, true, false}
use mathlib.Core.List.{List}
use lib.Dec.{ltb}
use lib.ListN.{length, drop, get_or, length-drop}
use borrow.Author.Tests.{ne_eqb}
use Rattle.ledger_spec.specs.Bench.{State, grows, stays, shrinks}
use Rattle.ledger_spec.specs.Operations.{D, B, E, S, G, F, C, K}
use Rattle.kinds.specs.declared.GrowState.{GrowState}
use Rattle.kinds.specs.declared.GrowState.TheVariants.{Grow, Stay, Shrink}
use Rattle.text_lines.specs.declared.Line.{Line}
use Rattle.text_lines.specs.declared.Line.TheVariants.{SetState}
use Rattle.text_lines.specs.Shown.{state_shown}
use Rattle.group_lent.specs.Forms.{length_of}
use Rattle.record_spec.specs.Numbers.{length_in}
use Rattle.record_spec.specs.Operations.{Op}
use Rattle.record_spec.specs.Reader.{state_in, rest, good, record_in}
use Rattle.record_spec.specs.Places.{at}
use Rattle.record_measures.specs.Measures.{kept, members_at}
use Rattle.record_measures.proofs.Rests.{rest-D, short-D, rest-E, short-E, rest-S, bad-S, short-S, rest-G, short-G, rest-F, short-F, rest-B, few-B, short-B, rest_none}
use Rattle.record_measures.proofs.Measuring.{opened, too_short, kept_none, kept_good, kept_bad}
use Rattle.record_reads.specs.Reads.{Recorded, line_of_record, line_found, state_of, state_line}

-- ---- numbers

pub one_byte : (s : List ℕ) (p : ℕ) → at 1 s p ≡ get_or s p 0
unfolding at
one_byte s p = omega arith

pub same_length : (n : ℕ) → length_of n ≡ length_in n
unfolding length_in
same_length n = go (ltb n 9223372036854775808) refl
  where
    go : (b : Bool) → ltb n 9223372036854775808 ≡ b → length_of n ≡ length_in n
    go true e = rw (e, length_in)
    go false e = rw (e, length_in)

pub state_0 : (n : ℕ) → n ≡ 0 → Stay ≡ state_of n
unfolding state_of
state_0 n e = rw (e, state_of)

pub state_1 : (n : ℕ) → n ≡ 1 → Grow ≡ state_of n
unfolding state_of
state_1 n e = rw (e, state_of)

pub state_other : (n : ℕ) → (n ≡ 0 → ⊥) → (n ≡ 1 → ⊥) → Shrink ≡ state_of n
unfolding state_of
state_other n a b = rw (ne_eqb n 0 a, ne_eqb n 1 b)

state_known : (n : ℕ) (g : State) → state_in n ≡ Some g → state_of n ≡ state_shown g
unfolding state_in state_of
state_known n g e = zero (ℕ_discrete n 0)
  where
    other : (n ≡ 0 → ⊥) → (n ≡ 1 → ⊥) → Dec (n ≡ 255) → state_of n ≡ state_shown g
    other a b (yes p) = rw (p, state_of) (ap state_shown (same_Some shrinks g (rw p at e)))
    other a b (no p) = absurd (none-some g (rw (ne_eqb n 0 a, ne_eqb n 1 b, ne_eqb n 255 p) at e))

    one : (n ≡ 0 → ⊥) → Dec (n ≡ 1) → state_of n ≡ state_shown g
    one a (yes p) = rw (p, state_of) (ap state_shown (same_Some grows g (rw p at e)))
    one a (no p) = other a p (ℕ_discrete n 255)

    zero : Dec (n ≡ 0) → state_of n ≡ state_shown g
    zero (yes p) = rw (p, state_of) (ap state_shown (same_Some stays g (rw p at e)))
    zero (no p) = one p (ℕ_discrete n 1)

-- ---- what is read is what stands there

kept_only : (o : Option (Op × List ℕ)) (op : Op) (r : List ℕ) → kept o ≡ Some (op, r) → o ≡ Some (op, r)
kept_only None op r e = absurd (none-some (op, r) (sym (sym e ∙ kept_none None refl)))
kept_only (Some x) op r e = go (good x.0) refl
  where
    go : (b : Bool) → good x.0 ≡ b → Some x ≡ Some (op, r)
    go true g = sym (kept_good (Some x) x.0 x.1 refl g) ∙ e
    go false g = absurd (none-some (op, r) (sym (sym e ∙ kept_bad (Some x) x.0 x.1 refl g)))

module _ (s : List ℕ) (p : ℕ) (R : Recorded s p) where
  never : record_in (drop p s) ≡ None → ⊥
  never e = none-some (R.op, R.after) (sym (sym R.read ∙ e))

  pub two : p + 2 ≤ length s
  two = go (dec_le (p + 2) (length s))
    where
      go : Dec (p + 2 ≤ length s) → p + 2 ≤ length s
      go (yes h) = h
      go (no n) = absurd (never (too_short (drop p s) (omega (arith, length-drop p s))))

  abbrev unit : ℕ
  unit = get_or s (p + 1) 0

  -- after the letter and the unit
  rest_is : (l : ℕ) → get_or s p 0 ≡ l → rest l unit (drop (p + 2) s) ≡ Some (R.op, R.after)
  rest_is l e =
      kept_only (rest l unit (drop (p + 2) s)) R.op R.after
      ((λ i. kept (rest (sym (one_byte s p ∙ e) i) (sym (one_byte s (p + 1)) i) (drop (p + 2) s))) ∙ sym (opened s p two) ∙ R.read)

  -- an operation found there
  same_op : (l : ℕ) → get_or s p 0 ≡ l → (op : Op) (r : List ℕ) → rest l unit (drop (p + 2) s) ≡ Some (op, r) → R.op ≡ op
  same_op l e op r q = ap (λ (x : Op × List ℕ). x.0) (same_Some (R.op, R.after) (op, r) (sym (rest_is l e) ∙ q))

  nothing_there : (l : ℕ) → get_or s p 0 ≡ l → rest l unit (drop (p + 2) s) ≡ None → ⊥
  nothing_there l e q = none-some (R.op, R.after) (sym (sym (rest_is l e) ∙ q))

  enough : (l k : ℕ) → get_or s p 0 ≡ l → (length s < p + 2 + k → rest l unit (drop (p + 2) s) ≡ None) → p + 2 + k ≤ length s
  enough l k e q = go (dec_le (p + 2 + k) (length s))
    where
      go : Dec (p + 2 + k ≤ length s) → p + 2 + k ≤ length s
      go (yes h) = h
      go (no n) = absurd (nothing_there l e (q (omega arith)))

  -- the line of what was found
  pub line_is : (x : Line) (op : Op) → R.op ≡ op → x ≡ line_of_record op → x ≡ line_found (record_in (drop p s))
  line_is x op e q = q ∙ ap line_of_record (sym e) ∙ sym (ap line_found R.read)

  pub room-D : get_or s p 0 ≡ 68 → p + 2 + 4 ≤ length s
  room-D e = enough 68 4 e (short-D s (p + 2) unit)

  pub op-D : get_or s p 0 ≡ 68 → R.op ≡ D unit (at 4 s (p + 2))
  op-D e = same_op 68 e (D unit (at 4 s (p + 2))) (drop (p + 2 + 4) s) (rest-D s (p + 2) unit (room-D e))

  pub room-E : get_or s p 0 ≡ 69 → p + 2 + 4 ≤ length s
  room-E e = enough 69 4 e (short-E s (p + 2) unit)

  pub op-E : get_or s p 0 ≡ 69 → R.op ≡ E unit (at 4 s (p + 2))
  op-E e = same_op 69 e (E unit (at 4 s (p + 2))) (drop (p + 2 + 4) s) (rest-E s (p + 2) unit (room-E e))

  pub room-S : get_or s p 0 ≡ 83 → p + 2 + 5 ≤ length s
  room-S e = enough 83 5 e (short-S s (p + 2) unit)

  pub line-S : (x : Line) → get_or s p 0 ≡ 83 → x ≡ state_line unit (at 4 s (p + 2)) (at 1 s (p + 2 + 4)) → x ≡ line_found (record_in (drop p s))
  line-S x e q = go (state_in (at 1 s (p + 2 + 4))) refl
    where
      go : (o : Option State) → state_in (at 1 s (p + 2 + 4)) ≡ o → x ≡ line_found (record_in (drop p s))
      go None i = absurd (nothing_there 83 e (bad-S s (p + 2) unit (room-S e) i))
      go (Some g) i =
          line_is x (S unit (at 4 s (p + 2)) g) (same_op 83 e (S unit (at 4 s (p + 2)) g) (drop (p + 2 + 4 + 1) s) (rest-S s (p + 2) unit g (room-S e) i))
          (q ∙ ap (λ (h : GrowState). SetState unit (record { 0 = at 4 s (p + 2) }) h) (state_known (at 1 s (p + 2 + 4)) g i))

  pub room-G : get_or s p 0 ≡ 71 → p + 2 + 8 ≤ length s
  room-G e = enough 71 8 e (short-G s (p + 2) unit)

  pub op-G : get_or s p 0 ≡ 71 → R.op ≡ G unit (length_in (at 8 s (p + 2)))
  op-G e = same_op 71 e (G unit (length_in (at 8 s (p + 2)))) (drop (p + 2 + 8) s) (rest-G s (p + 2) unit (room-G e))

  pub room-F : get_or s p 0 ≡ 70 → p + 2 + 2 ≤ length s
  room-F e = enough 70 2 e (short-F s (p + 2) unit)

  pub op-F : get_or s p 0 ≡ 70 → R.op ≡ F unit (at 1 s (p + 2)) (at 1 s (p + 2 + 1))
  op-F e = same_op 70 e (F unit (at 1 s (p + 2)) (at 1 s (p + 2 + 1))) (drop (p + 2 + 1 + 1) s) (rest-F s (p + 2) unit (room-F e))

  pub op-C : get_or s p 0 ≡ 67 → R.op ≡ C unit
  unfolding rest
  op-C e = same_op 67 e (C unit) (drop (p + 2) s) refl

  pub op-K : get_or s p 0 ≡ 75 → R.op ≡ K unit
  unfolding rest
  op-K e = same_op 75 e (K unit) (drop (p + 2) s) refl

  pub count-B : get_or s p 0 ≡ 66 → p + 2 + 2 ≤ length s
  count-B e = enough 66 2 e (short-B s (p + 2) unit)

  pub room-B : get_or s p 0 ≡ 66 → p + 2 + 2 + 12 * at 2 s (p + 2) ≤ length s
  room-B e = go (dec_le (p + 2 + 2 + 12 * at 2 s (p + 2)) (length s))
    where
      go : Dec (p + 2 + 2 + 12 * at 2 s (p + 2) ≤ length s) → p + 2 + 2 + 12 * at 2 s (p + 2) ≤ length s
      go (yes h) = h
      go (no n) = absurd (nothing_there 66 e (few-B s (p + 2) unit (count-B e) (omega arith)))

  pub op-B : get_or s p 0 ≡ 66 → R.op ≡ B unit (members_at (at 2 s (p + 2)) s (p + 2 + 2))
  op-B e =
      same_op 66 e (B unit (members_at (at 2 s (p + 2)) s (p + 2 + 2))) (drop (p + 2 + 2 + 12 * at 2 s (p + 2)) s) (rest-B s (p + 2) unit (room-B e))

  pub no_letter : (l : ℕ) → get_or s p 0 ≡ l → (l ≡ 68 → ⊥) → (l ≡ 66 → ⊥) → (l ≡ 69 → ⊥) → (l ≡ 83 → ⊥) → (l ≡ 71 → ⊥) → (l ≡ 70 → ⊥) → (l ≡ 67 → ⊥) → (l ≡ 75 → ⊥) → ⊥
  no_letter l e a b c d g f h k = nothing_there l e (rest_none l unit (drop (p + 2) s) a b c d g f h k)
