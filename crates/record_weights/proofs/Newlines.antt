-- The lines of what is left of a text, by where the first of them ends. Assumes nothing.
use Rattle.std.specs.Prelude.{None, Some}
use Prim.Native.Nat.{ℕ, suc, ◌+◌, ◌-◌, ◌≤◌, ◌<◌}
use native.Mathlib.Omega.{arith}
use mathlib.Core.Path.{◌≡◌, refl, ◌∙◌, ap}
use mathlib.Core.List.{List, [], ◌∷◌}
use lib.ListN.{length, take, drop, length-drop}
use lib.Seq.{drop-length, take_all}
use Rattle.ledger_spec.specs.Fields.{cut}
use Rattle.ledger_spec.specs.Grammar.{Fields, line_of}
use Rattle.ledger_spec.specs.Program.{ended, lines_of}
use Rattle.text_fields.specs.Places.{Ends}
use Rattle.text_fields.proofs.Ends.{from_more, from_none}
use Rattle.record_spec.specs.Operations.{Op, op_of_line}
use Rattle.record_spec.specs.Moves.{ops_of}
use Rattle.record_spec.proofs.Newlines.{cut_none}
use Rattle.record_spec.proofs.Texts.{onto, ops_step}

-- the lines from a on, the first of which ends at e
module _ (s : List ℕ) (a e : ℕ) (g : Ends 10 s a e) where
  line_first : e < length s → lines_of (drop a s) ≡ line_of (take (e - a) (drop a s)) ∷ lines_of (drop (e + 1) s)
  unfolding lines_of ended
  line_first h =
      let p : suc e ≡ e + 1 = omega arith in
      let q = g.others ∙ from_more 10 s e h ∙ ap (λ (k : ℕ). cut 10 (drop k s)) p in
      ap (λ (l : Fields). ended l) (λ i. g.part i ∷ q i)

  -- an operation, and those of the lines after it
  pub ops_line : e < length s → (op : Op) → op_of_line (line_of (take (e - a) (drop a s))) ≡ Some op → ops_of (lines_of (drop a s)) ≡ onto op (ops_of (lines_of (drop (e + 1) s)))
  ops_line h op q = ap ops_of (line_first h) ∙ ops_step (line_of (take (e - a) (drop a s))) (lines_of (drop (e + 1) s)) op q

  pub ops_wrong : e < length s → op_of_line (line_of (take (e - a) (drop a s))) ≡ None → ops_of (lines_of (drop a s)) ≡ None
  unfolding ops_of
  ops_wrong h q = ap ops_of (line_first h) ∙ rw (q, ops_of)

  -- a last line without newline
  pub ops_unended : a < length s → e ≡ length s → ops_of (lines_of (drop a s)) ≡ None
  unfolding lines_of ended ops_of
  ops_unended l q =
      let p = g.part ∙ take_all (e - a) (drop a s) (omega (arith, length-drop a s, q)) in
      let r = g.others ∙ from_none 10 s e (omega (arith, q)) in
      ap (λ (x : Fields). ops_of (ended x)) (λ i. p i ∷ r i) ∙ some_line (drop a s) (omega (arith, length-drop a s))
    where
      some_line : (x : List ℕ) → 0 < length x → ops_of (ended (x ∷ [])) ≡ None
      some_line [] h = absurd (omega arith)
      some_line (c ∷ x) h = refl

pub ops_none : (s : List ℕ) (a : ℕ) → length s ≤ a → a ≤ length s → ops_of (lines_of (drop a s)) ≡ Some []
unfolding lines_of ended ops_of
ops_none s a h l =
    let e : a ≡ length s = omega arith in
    ap (λ (x : List ℕ). ops_of (ended (cut 10 x))) (ap (λ (k : ℕ). drop k s) e ∙ drop-length s) ∙ ap (λ (x : Fields). ops_of (ended x)) cut_none
