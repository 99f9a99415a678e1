-- The lines weighed one by one: what is weighed and what is left make the whole. Assumes nothing.
use Rattle.std.specs.Prelude.{None, Option, Some}
use Prim.Native.Nat.{ℕ, ◌+◌, ◌-◌, ◌*◌, ◌≤◌, ◌<◌}
use native.Mathlib.Omega.{arith}
use mathlib.Core.Path.{◌≡◌, refl, sym, ◌∙◌, ap}
use mathlib.Core.Bool.{true}
use mathlib.Core.List.{List}
use lib.ListN.{length, take, drop, length-append}
use borrow.Author.Tests.{le-leb, lt-leb}
use Rattle.ledger_spec.specs.Grammar.{line_of}
use Rattle.ledger_spec.specs.Program.{lines_of}
use Rattle.text_fields.specs.Places.{Ends}
use Rattle.record_spec.specs.Operations.{Op, op_of_line}
use Rattle.record_spec.specs.Records.{bytes_of}
use Rattle.record_spec.specs.Files.{records_of, largest}
use Rattle.record_spec.specs.Moves.{ops_of, text_ops}
use Rattle.record_spec.proofs.Texts.{onto}
use Rattle.record_weights.specs.declared.Weighed.{Weighed}
use Rattle.record_weights.specs.Weights.{not_text, told_by, weighed_of}
use Rattle.record_weights.proofs.Newlines.{ops_line, ops_wrong, ops_unended, ops_none}

pub told_fits : (count size : ℕ) → size + (4 * count + 16) ≤ largest → told_by count size ≡ record { whole = true; count = count; size = size }
unfolding told_by
told_fits count size h = rw (le-leb (size + (4 * count + 16)) largest h, told_by)

pub told_large : (count size : ℕ) → largest < size + (4 * count + 16) → told_by count size ≡ not_text
unfolding told_by
told_large count size h = rw (lt-leb (size + (4 * count + 16)) largest h, told_by)

-- so many records and bytes more
abbrev more : ℕ → ℕ → Option (List Op) → Weighed
more c n None = not_text
more c n (Some ops) = told_by (c + length ops) (n + length (records_of ops))

same_told : (c n c' n' : ℕ) → c ≡ c' → n ≡ n' → told_by c n ≡ told_by c' n'
same_told c n c' n' p q = λ i. told_by (p i) (q i)

more_none : (o : Option (List Op)) → weighed_of o ≡ more 0 0 o
more_none None = refl
more_none (Some ops) = same_told _ _ _ _ (omega arith) (omega arith)

more_onto : (c n : ℕ) (op : Op) (o : Option (List Op)) → more c n (onto op o) ≡ more (c + 1) (n + length (bytes_of op)) o
unfolding onto records_of
more_onto c n op None = refl
more_onto c n op (Some ops) = same_told _ _ _ _ (omega arith) (omega (arith, length-append (bytes_of op) (records_of ops)))

more_large : (c n : ℕ) (o : Option (List Op)) → largest < n + (4 * c + 16) → more c n o ≡ not_text
more_large c n None h = refl
more_large c n (Some ops) h = told_large (c + length ops) (n + length (records_of ops)) (omega arith)

-- the lines before a are so many records of so many bytes
pub record Weighing (s : List ℕ) (a count size : ℕ) : Type 0 where
  pub low : a ≤ length s
  pub whole : weighed_of (text_ops s) ≡ more count size (ops_of (lines_of (drop a s)))
  pub small : size + (4 * count + 16) ≤ largest

pub weighing : (s : List ℕ) → Weighing s 0 0 0
unfolding text_ops
weighing s = record { low = omega arith; whole = more_none (ops_of (lines_of s)); small = omega arith }

module _ (s : List ℕ) (a count size : ℕ) (w : Weighing s a count size) where
  module _ (e : ℕ) (g : Ends 10 s a e) where
    pub unended : a < length s → e ≡ length s → not_text ≡ weighed_of (text_ops s)
    unended l q = sym (w.whole ∙ ap (more count size) (ops_unended s a e g l q))

    module _ (h : e < length s) where
      pub bad_line : op_of_line (line_of (take (e - a) (drop a s))) ≡ None → not_text ≡ weighed_of (text_ops s)
      bad_line q = sym (w.whole ∙ ap (more count size) (ops_wrong s a e g h q))

      module _ (op : Op) (said : op_of_line (line_of (take (e - a) (drop a s))) ≡ Some op) (n : ℕ) (is : n ≡ length (bytes_of op)) where
        step : weighed_of (text_ops s) ≡ more (count + 1) (size + n) (ops_of (lines_of (drop (e + 1) s)))
        step =
            w.whole ∙ ap (more count size) (ops_line s a e g h op said) ∙ more_onto count size op (ops_of (lines_of (drop (e + 1) s)))
            ∙ ap (λ (x : ℕ). more (count + 1) (size + x) (ops_of (lines_of (drop (e + 1) s)))) (sym is)

        pub too_large : largest < size + n + (4 * (count + 1) + 16) → not_text ≡ weighed_of (text_ops s)
        too_large l = sym (step ∙ more_large (count + 1) (size + n) (ops_of (lines_of (drop (e + 1) s))) l)

        pub weigh_on : size + n + (4 * (count + 1) + 16) ≤ largest → Weighing s (e + 1) (count + 1) (size + n)
        weigh_on l = record { low = omega arith; whole = step; small = l }

  pub weighed : length s ≤ a → ◌≡◌ {A = Weighed} (record { whole = true; count = count; size = size }) (weighed_of (text_ops s))
  unfolding records_of
  weighed h =
      sym (w.whole ∙ ap (more count size) (ops_none s a h w.low) ∙ same_told (count + 0) (size + 0) count size (omega arith) (omega arith) ∙ told_fits count size w.small)
