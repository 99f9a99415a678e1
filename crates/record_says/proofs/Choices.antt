-- A line that chooses an engine is not of the grammar: no operation has it, and no text that has one, wherever it stands, moves to records. Assumes nothing.
use Rattle.std.specs.Prelude.{None, Option, Some}
use Prim.Native.Nat.{ℕ}
use mathlib.Core.Bool.{Bool, true, false, ◌&&◌, ◌||◌, true≢false}
use mathlib.Core.Path.{◌≡◌, refl, sym, ◌∙◌, ap}
use mathlib.Core.List.{List, [], ◌∷◌}
use lib.Dec.{eqb, leb}
use lib.ListN.{length}
use borrow.Author.Tests.{eqb-true}
use Rattle.ledger_spec.specs.Numbers.{FILE}
use Rattle.ledger_spec.specs.Tests.{is_some}
use Rattle.ledger_spec.specs.Fields.{upto, cut}
use Rattle.ledger_spec.specs.Grammar.{Line, wrong, Fields, line_of}
use Rattle.ledger_spec.specs.Opening.{chosen}
use Rattle.ledger_spec.specs.Program.{ended, lines_of}
use Rattle.ledger_spec.specs.Opened.{run}
use Rattle.ledger_spec.proofs.Knit.{none_some}
use Rattle.record_spec.specs.Operations.{Op, line_said, op_of_line, line_of_op}
use Rattle.record_spec.specs.Files.{AllWritable, file_of, largest}
use Rattle.record_spec.specs.Moves.{ops_of, text_ops, text_of, Moved, refused, written, to_records}
use Rattle.record_spec.proofs.Newlines.{line_free, cut_line}
use Rattle.record_spec.proofs.Lines.{line_reads}

-- ---- either line that chooses is wrong

one_wrong : line_of (77 ∷ 32 ∷ 49 ∷ []) ≡ wrong
unfolding run
one_wrong = refl

nought_wrong : line_of (77 ∷ 32 ∷ 48 ∷ []) ≡ wrong
unfolding run
nought_wrong = refl

pub chosen_wrong : (l : List ℕ) (m : Bool) → chosen l ≡ Some m → line_of l ≡ wrong
unfolding chosen
chosen_wrong [] m e = absurd (none_some refl e)
chosen_wrong (a ∷ []) m e = absurd (none_some refl e)
chosen_wrong (a ∷ s ∷ []) m e = absurd (none_some refl e)
chosen_wrong (a ∷ s ∷ d ∷ []) m e = go (eqb a 77) refl (eqb s 32) refl (eqb d 49) refl (eqb d 48) refl e
  where
    go : (w : Bool) → eqb a 77 ≡ w → (x : Bool) → eqb s 32 ≡ x → (y : Bool) → eqb d 49 ≡ y → (z : Bool) → eqb d 48 ≡ z
        → elim (w && x) as (λ (u : Bool). Option Bool) [ true ↦ elim y as (λ (u : Bool). Option Bool) [ true ↦ Some true | false ↦ elim z as (λ (u : Bool). Option Bool) [ true ↦ Some false | false ↦ None ] ] | false ↦ None ] ≡ Some m
        → line_of (a ∷ s ∷ d ∷ []) ≡ wrong
    go true p true q true r z t h = (λ i. line_of (eqb-true a 77 p i ∷ eqb-true s 32 q i ∷ eqb-true d 49 r i ∷ [])) ∙ one_wrong
    go true p true q false r true t h = (λ i. line_of (eqb-true a 77 p i ∷ eqb-true s 32 q i ∷ eqb-true d 48 t i ∷ [])) ∙ nought_wrong
    go true p true q false r false t h = absurd (none_some refl h)
    go true p false q y r z t h = absurd (none_some refl h)
    go false p x q y r z t h = absurd (none_some refl h)
chosen_wrong (a ∷ s ∷ d ∷ f ∷ l) m e = absurd (none_some refl e)

-- ---- no operation has such a line

line_unchosen : (op : Op) → line_of (line_of_op op) ≡ line_said op → chosen (line_of_op op) ≡ None
line_unchosen op h = go (chosen (line_of_op op)) refl
  where
    go : (o : Option Bool) → chosen (line_of_op op) ≡ o → o ≡ None
    go None e = refl
    go (Some m) e = absurd (none_some (chosen_wrong (line_of_op op) m e) h)

front : Fields → List ℕ
front [] = []
front (l ∷ ls) = l

pub text_unchosen : (ops : List Op) → AllWritable ops → chosen (upto 10 (text_of ops)) ≡ None
unfolding text_of upto chosen front
text_unchosen [] h = refl
text_unchosen (op ∷ ops) h = ap (λ (ls : Fields). chosen (front ls)) (cut_line (line_of_op op) (text_of ops) (line_free op)) ∙ line_unchosen op (line_reads op h.0)

-- ---- and no text with one moves

-- a line among them chooses
pub choosing : Fields → Bool
choosing [] = false
choosing (l ∷ ls) = is_some (chosen l) || choosing ls

wrong_first : (l : Line) (ls : List Line) → l ≡ wrong → ops_of (l ∷ ls) ≡ None
unfolding ops_of
wrong_first l ls e = ap (λ (k : Line). ops_of (k ∷ ls)) e

after_one : (l : Line) (ls : List Line) → ops_of ls ≡ None → ops_of (l ∷ ls) ≡ None
unfolding ops_of
after_one l ls e = go (op_of_line l)
  where
    go : (o : Option Op) → ◌≡◌ {A = Option (List Op)} (elim o as (λ (u : Option Op). Option (List Op)) [
      | None ↦ None
      | Some op ↦ elim (ops_of ls) as (λ (u : Option (List Op)). Option (List Op)) [ None ↦ None | Some ops ↦ Some (op ∷ ops) ]
    ]) None
    go None = refl
    go (Some op) = ap (λ (r : Option (List Op)). elim r as (λ (u : Option (List Op)). Option (List Op)) [ None ↦ None | Some ops ↦ Some (op ∷ ops) ]) e

unmoved : (ls : Fields) → choosing ls ≡ true → ops_of (ended ls) ≡ None
unfolding ended choosing chosen
unmoved [] e = absurd (true≢false (sym e))
unmoved ([] ∷ []) e = absurd (true≢false (sym e))
unmoved ((c ∷ s) ∷ []) e = wrong_first wrong [] refl
unmoved (l ∷ k ∷ ls) e = go (chosen l) refl e (unmoved (k ∷ ls))
  where
    go : (o : Option Bool) → chosen l ≡ o → is_some o || choosing (k ∷ ls) ≡ true → (choosing (k ∷ ls) ≡ true → ops_of (ended (k ∷ ls)) ≡ None) → ops_of (line_of l ∷ ended (k ∷ ls)) ≡ None
    go None f g h = after_one (line_of l) (ended (k ∷ ls)) (h g)
    go (Some m) f g h = wrong_first (line_of l) (ended (k ∷ ls)) (chosen_wrong l m f)

-- THEOREM. FILE for moving a text with an M, wherever it stands.
pub m_is_file : (text out : List ℕ) → choosing (cut 10 text) ≡ true → to_records text out ≡ refused FILE out
unfolding to_records text_ops lines_of
m_is_file text out e = ap (λ (r : Option (List Op)). elim r as (λ (u : Option (List Op)). Moved) [
  | None ↦ refused FILE out
  | Some ops ↦ elim (leb (length (file_of ops)) largest) as (λ (u : Bool). Moved) [ true ↦ written (file_of ops) out | false ↦ refused FILE out ]
]) (unmoved (cut 10 text) e)
