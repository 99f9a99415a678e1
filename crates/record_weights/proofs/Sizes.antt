-- A line's record: how many bytes it takes, by what the code says of the line. Assumes nothing.
use Rattle.std.specs.Prelude.{None, Option, Some}
use Prim.Native.Nat.{ℕ, ◌+◌, ◌*◌, ◌<◌}
use native.Mathlib.Omega.{arith}
use mathlib.Core.Path.{◌≡◌, refl, ◌∙◌, ap}
use mathlib.Core.List.{List, map}
use lib.ListN.{length, length-map}
use Rattle.ledger_spec.specs.Operations.{D, B, E, S, G, F, C, K}
use Rattle.ledger_spec.specs.Grammar.{Line as Said, line_of}
use Rattle.text_lines.specs.declared.Line.{Line}
use Rattle.text_lines.specs.Shown.{line_shown}
use Rattle.text_lines.specs.Texts.{letter_of}
use Rattle.record_spec.specs.Numbers.{bytes}
use Rattle.record_spec.specs.Operations.{Op, itself, op_of_line}
use Rattle.record_spec.specs.Records.{fields, spelled, bytes_of}
use Rattle.record_spec.proofs.Texts.{line_only}
use Rattle.record_spec.proofs.Writable.{writable_held}
use Rattle.record_measures.proofs.Measuring.{bytes-B}
use Rattle.record_weights.specs.Weights.{bytes_said, size_by}

pub size_said : (l : Said) → size_by (line_shown l) ≡ length (bytes_said (op_of_line l))
unfolding bytes_of fields spelled bytes letter_of
size_said (Some (D u v)) = refl
size_said (Some (B u ns)) = omega (arith, bytes-B u (map itself ns), length-map ns itself)
size_said (Some (E u n)) = refl
size_said (Some (S u n g)) = refl
size_said (Some (G u l)) = refl
size_said (Some (F p l r)) = refl
size_said (Some (C u)) = refl
size_said (Some (K u)) = refl
size_said None = refl

pub some_bytes : (op : Op) → 0 < length (bytes_of op)
unfolding bytes_of letter_of
some_bytes (D u v) = omega arith
some_bytes (B u ms) = omega arith
some_bytes (E u k) = omega arith
some_bytes (S u k g) = omega arith
some_bytes (G u l) = omega arith
some_bytes (F q l r) = omega arith
some_bytes (C u) = omega arith
some_bytes (K u) = omega arith

-- few, since a line is short
size_small : (f : List ℕ) (l : Said) → line_of f ≡ l → size_by (line_shown l) < 4294967296
size_small f (Some (D u v)) e = omega arith
size_small f (Some (B u ns)) e =
    let w = line_only f (B u (map itself ns)) (ap op_of_line e) in
    let h = writable_held (B u (map itself ns)) w.writable in
    omega (arith, h.1, length-map ns itself)
size_small f (Some (E u n)) e = omega arith
size_small f (Some (S u n g)) e = omega arith
size_small f (Some (G u l)) e = omega arith
size_small f (Some (F p l r)) e = omega arith
size_small f (Some (C u)) e = omega arith
size_small f (Some (K u)) e = omega arith
size_small f None e = omega arith

-- ---- of a line that was read

module _ (f : List ℕ) (r : Line) (is : r ≡ line_shown (line_of f)) where
  pub read_small : size_by r < 4294967296
  read_small = let h = size_small f (line_of f) refl in omega (arith, h, ap size_by is)

  pub record Has (n : ℕ) : Type 0 where
    pub op : Op
    pub said : op_of_line (line_of f) ≡ Some op
    pub size : n ≡ length (bytes_of op)

  module _ (n : ℕ) (size : n ≡ size_by r) where
    bytes_are : n ≡ length (bytes_said (op_of_line (line_of f)))
    bytes_are = size ∙ ap size_by is ∙ size_said (line_of f)

    pub read_none : n ≡ 0 → op_of_line (line_of f) ≡ None
    read_none z = go (op_of_line (line_of f)) refl
      where
        go : (o : Option Op) → op_of_line (line_of f) ≡ o → op_of_line (line_of f) ≡ None
        go None e = e
        go (Some op) e = absurd (omega (arith, z, bytes_are, ap (λ (x : Option Op). length (bytes_said x)) e, some_bytes op))

    pub read_some : (n ≡ 0 → ⊥) → Has n
    read_some z = go (op_of_line (line_of f)) refl
      where
        go : (o : Option Op) → op_of_line (line_of f) ≡ o → Has n
        go None e = absurd (z (bytes_are ∙ ap (λ (x : Option Op). length (bytes_said x)) e))
        go (Some op) e = record { op = op; said = e; size = bytes_are ∙ ap (λ (x : Option Op). length (bytes_said x)) e }
