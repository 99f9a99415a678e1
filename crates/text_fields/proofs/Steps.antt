-- One field read gives one step of the grammar: what was read, and the fields after it. Assumes nothing.
use Rattle.std.specs.Prelude.{None, Option, Some}
use Prim.Native.Nat.{ℕ, ◌+◌, ◌-◌, ◌≤◌, ◌<◌}
use native.Mathlib.Omega.{arith}
use native.Mathlib.Numerals.{add-one}
use mathlib.Core.Path.{◌≡◌, refl, sym, ◌∙◌, ap, subst}
use mathlib.Core.List.{List, [], ◌∷◌}
use lib.ListN.{length, take, drop}
use Rattle.text_decimals.specs.Read.{number_of}
use Rattle.text_decimals.proofs.Integers.{number_range}
use Rattle.ledger_spec.specs.Decimals.{number_within}
use Rattle.ledger_spec.specs.Fields.{cut}
use Rattle.ledger_spec.specs.Grammar.{Fields, step}
use Rattle.text_fields.specs.Places.{from, Ends, fields_of, Inside, FieldIs, NumberIs}
use Rattle.text_fields.proofs.Ends.{from_more, from_none}

pub step_some : {A : Type 0} (r : List ℕ → Option A) (f : List ℕ) (fs : Fields) (a : A) → r f ≡ Some a → step r (f ∷ fs) ≡ Some (a, fs)
unfolding step
step_some r f fs a e = rw (e, step)

pub step_none : {A : Type 0} (r : List ℕ → Option A) (f : List ℕ) (fs : Fields) → r f ≡ None → step r (f ∷ fs) ≡ None
unfolding step
step_none r f fs e = rw (e, step)

pub step_empty : {A : Type 0} (r : List ℕ → Option A) → step r [] ≡ None
unfolding step
step_empty r = refl

-- ---- the next field

pub field_next : (s : List ℕ) (e z : ℕ) → e < length s → Ends 32 s (e + 1) z → FieldIs s e (Some ((e + 1), z))
field_next s e z h g = record {
  fields = sym (from_more 32 s e h ∙ ap (λ (k : ℕ). cut 32 (drop k s)) (sym (add-one e)) ∙ (λ i. g.part i ∷ g.others i));
  inside = (omega arith, g.low, g.high);
}

pub field_none : (s : List ℕ) (e : ℕ) → length s ≤ e → FieldIs s e None
field_none s e h = record { fields = sym (from_none 32 s e h); inside = tt }

module _ (s : List ℕ) (e : ℕ) (f : Option (ℕ × ℕ)) (q : FieldIs s e f) where
  pub inside_at : (a z : ℕ) → f ≡ Some (a, z) → (e < a) × (a ≤ z) × (z ≤ length s)
  inside_at a z h = subst (λ (g : Option (ℕ × ℕ)). Inside s e g) h q.inside

  fields_at : (a z : ℕ) → f ≡ Some (a, z) → take (z - a) (drop a s) ∷ from s z ≡ from s e
  fields_at a z h = subst (λ (g : Option (ℕ × ℕ)). fields_of s g ≡ from s e) h q.fields

  no_fields : f ≡ None → [] ≡ from s e
  no_fields h = subst (λ (g : Option (ℕ × ℕ)). fields_of s g ≡ from s e) h q.fields

  pub took : {A : Type 0} (r : List ℕ → Option A) (a z : ℕ) (x : A) → f ≡ Some (a, z) → r (take (z - a) (drop a s)) ≡ Some x → Some (x, from s z) ≡ step r (from s e)
  took r a z x h p = sym (ap (step r) (sym (fields_at a z h)) ∙ step_some r (take (z - a) (drop a s)) (from s z) x p)

  pub missed : {A : Type 0} (r : List ℕ → Option A) (a z : ℕ) → f ≡ Some (a, z) → r (take (z - a) (drop a s)) ≡ None → None ≡ step r (from s e)
  missed r a z h p = sym (ap (step r) (sym (fields_at a z h)) ∙ step_none r (take (z - a) (drop a s)) (from s z) p)

  pub ran_out : {A : Type 0} (r : List ℕ → Option A) → f ≡ None → None ≡ step r (from s e)
  ran_out r h = sym (ap (step r) (sym (no_fields h)) ∙ step_empty r)

  -- ---- a number in it

  module _ (least most : ℕ) where
    pub number_none : f ≡ None → NumberIs s e least most None
    number_none h = record { read = ran_out (number_within least most) h; further = tt }

    module _ (a z : ℕ) (h : f ≡ Some (a, z)) (m : Option ℕ) (read : number_of m ≡ number_within least most (take (z - a) (drop a s))) where
      pub number_some : (n : ℕ) → m ≡ Some n → NumberIs s e least most (Some (n, z))
      number_some n k =
          let i = inside_at a z h in
          let b = number_range least most (take (z - a) (drop a s)) m n read k in
          record { read = took (number_within least most) a z n h (sym read ∙ ap number_of k); further = (omega (arith, i.0, i.1), i.2, b.1) }

      pub number_bad : m ≡ None → NumberIs s e least most None
      number_bad k = record { read = missed (number_within least most) a z h (sym read ∙ ap number_of k); further = tt }
