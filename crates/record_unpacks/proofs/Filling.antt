-- The text filled record by record: what is written and what is left make the whole. Assumes nothing.
use Rattle.std.specs.Prelude.{None, Option, Some}
use Rattle.std.proofs.lemmas.Option.{same_Some}
use Prim.Native.Nat.{ℕ, zero, suc, ◌+◌, ◌-◌, ◌*◌, ◌≤◌, ◌<◌}
use native.Mathlib.Omega.{arith}
use mathlib.Core.Path.{◌≡◌, refl, sym, ◌∙◌, ap, subst}
use mathlib.Core.List.{List, [], ◌∷◌, ◌++◌, append_assoc}
use lib.ListN.{length, drop, length-append}
use lib.Seq.{sets}
use Rattle.text_decimals.specs.Wrote.{Wrote}
use Rattle.text_decimals.proofs.Writes.{sets_append}
use Rattle.record_spec.specs.Numbers.{Bytes}
use Rattle.record_spec.specs.Operations.{Op, line_of_op}
use Rattle.record_spec.specs.Records.{bytes_of}
use Rattle.record_spec.specs.Reader.{record_in}
use Rattle.record_spec.specs.Files.{records_in}
use Rattle.record_spec.specs.Moves.{text_of}
use Rattle.record_spec.specs.Places.{at, fours_at}
use Rattle.record_lines.specs.Lines.{line_in, Ready as LineReady}
use Rattle.record_unpacks.specs.Unpacks.{Ready, Filled}
use Rattle.record_unpacks.proofs.Steps.{Step, step, counts}

fours_first : (n : ℕ) (s : List ℕ) (p : ℕ) → 0 < n → fours_at n s p ≡ at 4 s p ∷ fours_at (n - 1) s (p + 4)
unfolding fours_at
fours_first zero s p h = absurd (omega arith)
fours_first (suc n) s p h = let e : n ≡ suc n - 1 = omega arith in ap (λ (k : ℕ). at 4 s p ∷ fours_at k s (p + 4)) e

fours_none : (n : ℕ) (s : List ℕ) (p : ℕ) → n ≤ 0 → length (fours_at n s p) ≡ 0
unfolding fours_at
fours_none zero s p h = refl
fours_none (suc n) s p h = absurd (omega arith)

-- the records from p on are these operations; their starts stand from `entry` on, and their text belongs at `from`
pub record Filling (s t : List ℕ) (list count : ℕ) (out₀ : List ℕ) (entry left from : ℕ) (out : List ℕ) : Type 0 where
  pub rest : List Op
  pub p : ℕ
  pub low : p ≤ length t
  pub records : records_in p (fours_at left s entry) (drop p t) ≡ Some rest
  pub long : length out ≡ length out₀
  pub room : from + length (text_of rest) ≤ length out
  pub stands : (ops : List Op) → records_in 0 (fours_at count s list) t ≡ Some ops → sets out from (text_of rest) ≡ sets out₀ 0 (text_of ops)

pub filling : (s t : List ℕ) (list count : ℕ) (out : List ℕ) → Ready (records_in 0 (fours_at count s list) t) (length out) → Filling s t list count out list count 0 out
filling s t list count out r = go (records_in 0 (fours_at count s list) t) refl r
  where
    go : (o : Option (List Op)) → records_in 0 (fours_at count s list) t ≡ o → Ready o (length out) → Filling s t list count out list count 0 out
    go None e x = absurd x
    go (Some ops) e x = record {
      rest = ops;
      p = 0;
      low = omega arith;
      records = e;
      long = refl;
      room = omega (arith, x);
      stands = λ ops' e'. ap (λ (y : List Op). sets out 0 (text_of y)) (same_Some ops ops' (sym e ∙ e'));
    }

module _ (s t : List ℕ) (list count : ℕ) (out₀ : List ℕ) (entry left from : ℕ) (out : List ℕ) (bytes : Bytes t) (g : Filling s t list count out₀ entry left from out) where
  module _ (h : 0 < left) where
    pub next : Step t g.p (at 4 s entry) (fours_at (left - 1) s (entry + 4)) g.rest
    next =
        step t g.p (at 4 s entry) (fours_at (left - 1) s (entry + 4)) g.rest bytes g.low
        (ap (λ (l : List ℕ). records_in g.p l (drop g.p t)) (sym (fours_first left s entry h)) ∙ g.records)

    abbrev line : List ℕ
    line = line_of_op next.op ++ (10 ∷ [])

    text_splits : text_of g.rest ≡ line ++ text_of next.more
    unfolding text_of
    text_splits = ap text_of next.first ∙ sym (append_assoc (line_of_op next.op) (10 ∷ []) (text_of next.more))

    text_sizes : length (text_of g.rest) ≡ suc (length (line_of_op next.op)) + length (text_of next.more)
    text_sizes = omega (arith, ap length text_splits, length-append line (text_of next.more), length-append (line_of_op next.op) (10 ∷ []))

    module _ (q : ℕ) (e : q ≡ at 4 s entry) where
      stands_there : record_in (drop q t) ≡ Some (next.op, drop (g.p + length (bytes_of next.op)) t)
      stands_there = ap (λ (k : ℕ). record_in (drop k t)) (e ∙ next.place) ∙ next.read

      pub line_ready : LineReady (record_in (drop q t)) from (length out)
      line_ready =
          subst (λ (o : Option (Op × List ℕ)). LineReady o from (length out)) (sym stands_there) (omega (arith, g.room, text_sizes))

      pub fill_on : (out' : List ℕ) (r : ℕ) → length out' ≡ length out → Wrote out from (line_in (record_in (drop q t))) out' r → Filling s t list count out₀ (entry + 4) (left - 1) r out'
      fill_on out' r l w =
          let i : line_in (record_in (drop q t)) ≡ line = ap line_in stands_there in
          let w₁ : r ≡ from + length line = w.next ∙ ap (λ (x : List ℕ). from + length x) i in
          let w₂ : out' ≡ sets out from line = w.stands ∙ ap (sets out from) i in
          record {
            rest = next.more;
            p = g.p + length (bytes_of next.op);
            low = next.fits;
            records = next.after;
            long = l ∙ g.long;
            room = omega (arith, g.room, text_sizes, w₁, l, length-append (line_of_op next.op) (10 ∷ []));
            stands = λ ops o.
                (λ j. sets (w₂ j) (w₁ j) (text_of next.more))
                ∙ sym (sets_append line (text_of next.more) out from)
                ∙ ap (sets out from) (sym text_splits)
                ∙ g.stands ops o;
          }

  pub filled : left ≤ 0 → Filled (records_in 0 (fours_at count s list) t) out₀ out
  unfolding text_of
  filled h = go (records_in 0 (fours_at count s list) t) refl
    where
      no_more : (ops : List Op) → length ops ≡ 0 → sets out from (text_of ops) ≡ out
      no_more [] e = refl
      no_more (op ∷ ops) e = absurd (omega (arith, e))

      go : (o : Option (List Op)) → records_in 0 (fours_at count s list) t ≡ o → Filled o out₀ out
      go None e = tt
      go (Some ops) e =
          let n = counts (fours_at left s entry) t g.p g.rest bytes g.low g.records in
          sym (no_more g.rest (omega (arith, n.0, fours_none left s entry h))) ∙ g.stands ops e
