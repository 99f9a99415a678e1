-- Serials written one by one: what is written and what is left make the whole. Assumes nothing.
use Prim.Native.Nat.{ℕ, zero, suc, ◌+◌, ◌-◌, ◌*◌, ◌≤◌, ◌<◌}
use native.Mathlib.Omega.{arith}
use mathlib.Core.Path.{◌≡◌, refl, sym, ◌∙◌, ap}
use mathlib.Core.List.{List, [], ◌∷◌, ◌++◌}
use lib.ListN.{length, length-append}
use lib.Seq.{sets}
use Rattle.ledger_spec.specs.Decimals.{decimal}
use Rattle.text_decimals.specs.Wrote.{Wrote}
use Rattle.text_decimals.proofs.Writes.{sets_append}
use Rattle.record_spec.specs.Places.{at}
use Rattle.record_measures.specs.Measures.{members_at}
use Rattle.record_lines.specs.Lines.{tail, serial_fields}

abbrev serials : ℕ → List ℕ → ℕ → List ℕ
serials n t q = tail (serial_fields n t q)

first_serial : (left : ℕ) (t : List ℕ) (q : ℕ) → 0 < left → serials left t q ≡ (32 ∷ decimal (at 4 t q)) ++ serials (left - 1) t (q + 12)
unfolding members_at tail
first_serial zero t q h = absurd (omega arith)
first_serial (suc k) t q h = let e : k ≡ suc k - 1 = omega arith in ap (λ (x : ℕ). (32 ∷ decimal (at 4 t q)) ++ serials x t (q + 12)) e

no_serial : (left : ℕ) (t : List ℕ) (q : ℕ) → left ≤ 0 → serials left t q ≡ []
unfolding members_at tail
no_serial zero t q h = refl
no_serial (suc k) t q h = absurd (omega arith)

-- of `count` members from q on, `left` are left from `from` on, and belong at `place`
pub record Writing (t : List ℕ) (count q : ℕ) (out₀ : List ℕ) (start : ℕ) (out : List ℕ) (place from left : ℕ) : Type 0 where
  pub long : length out ≡ length out₀
  pub ends : place + length (serials left t from) ≡ start + length (serials count t q)
  pub stands : sets out place (serials left t from) ≡ sets out₀ start (serials count t q)

pub writing : (t : List ℕ) (count q : ℕ) (out : List ℕ) (start : ℕ) → Writing t count q out start out start q count
writing t count q out start = record { long = refl; ends = refl; stands = refl }

module _ (t : List ℕ) (count q : ℕ) (out₀ : List ℕ) (start : ℕ) (out : List ℕ) (place from left : ℕ) (g : Writing t count q out₀ start out place from left) where
  module _ (h : 0 < left) (n : ℕ) (e : n ≡ at 4 t from) where
    split : serials left t from ≡ (32 ∷ decimal n) ++ serials (left - 1) t (from + 12)
    split = first_serial left t from h ∙ ap (λ (k : ℕ). (32 ∷ decimal k) ++ serials (left - 1) t (from + 12)) (sym e)

    sizes : length (serials left t from) ≡ suc (length (decimal n)) + length (serials (left - 1) t (from + 12))
    sizes = ap length split ∙ length-append (32 ∷ decimal n) (serials (left - 1) t (from + 12))

    pub room : start + length (serials count t q) ≤ length out₀ → place + suc (length (decimal n)) ≤ length out
    room r = omega (arith, g.long, g.ends, sizes)

    pub write_on : (out' : List ℕ) (p : ℕ) → length out' ≡ length out → Wrote out place (32 ∷ decimal n) out' p → Writing t count q out₀ start out' p (from + 12) (left - 1)
    write_on out' p l w = record {
      long = l ∙ g.long;
      ends = omega (arith, g.ends, sizes, w.next);
      stands =
          (λ i. sets (w.stands i) (w.next i) (serials (left - 1) t (from + 12)))
          ∙ sym (sets_append (32 ∷ decimal n) (serials (left - 1) t (from + 12)) out place)
          ∙ ap (sets out place) (sym split)
          ∙ g.stands;
    }

  pub written : left ≤ 0 → Wrote out₀ start (serials count t q) out place
  written h =
      let e = no_serial left t from h in
      record { next = omega (arith, g.ends, ap length e); stands = sym (ap (sets out place) e) ∙ g.stands }
