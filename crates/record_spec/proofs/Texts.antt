-- A text whose lines all read is the text of its operations, which are writable with every pair the member itself; and the text of such
-- operations reads as them. Assumes nothing.
use Rattle.std.specs.Prelude.{None, Option, Some}
use Rattle.std.proofs.lemmas.Option.{same_Some, none-some}
use Prim.Native.Nat.{ℕ, ◌≤◌}
use mathlib.Core.Path.{◌≡◌, refl, sym, ◌∙◌, ap, subst}
use mathlib.Core.Bool.{true, ◌&&◌}
use mathlib.Core.List.{List, [], ◌∷◌, ◌++◌, map}
use lib.Dec.{eqb}
use lib.ListN.{length}
use borrow.Author.Tests.{eq-eqb, eqb-true}
use Rattle.ledger_spec.specs.Fields.{upto, parts_after, cut}
use Rattle.ledger_spec.specs.Operations.{Operation, D, B, E, S, G, F, C, K, written_by}
use Rattle.ledger_spec.specs.Grammar.{Line, Fields, line_of}
use Rattle.ledger_spec.specs.Program.{ended, lines_of}
use Rattle.text_lines.specs.Texts.{line_text, Serials, Fit}
use Rattle.text_lines.proofs.Texts.{text_reads}
use Rattle.text_lines.proofs.Spelling.{line_spelt}
use Rattle.record_spec.specs.Operations.{Member, Op, serial_of, line_said, line_of_op, itself, op_of_line, selves, self}
use Rattle.record_spec.specs.Records.{Pairs, PairsOf, Writable}
use Rattle.record_spec.specs.Files.{AllWritable}
use Rattle.record_spec.specs.Moves.{ops_of, text_ops, text_of, all_self}
use Rattle.record_spec.proofs.Writable.{both, joined as joined-tests}
use Rattle.record_spec.proofs.Newlines.{line_free, cut_line, cut_none, joined, joined_cut}

-- ---- an operation and its line

members_back : (ms : List Member) → selves ms ≡ true → map itself (map serial_of ms) ≡ ms
unfolding selves
members_back [] e = refl
members_back (m ∷ ms) e =
    let a = both (eqb m.first m.serial && eqb m.second m.serial) (selves ms) e in
    let b = both (eqb m.first m.serial) (eqb m.second m.serial) a.0 in
    let p = eqb-true m.first m.serial b.0 in
    let q = eqb-true m.second m.serial b.1 in
    λ i. record { serial = m.serial; first = sym p i; second = sym q i } ∷ members_back ms a.1 i

op_back : (op : Op) → self op ≡ true → op_of_line (line_said op) ≡ Some op
unfolding self
op_back (D u v) e = refl
op_back (B u ms) e = ap (λ (l : List Member). Some (B u l)) (members_back ms e)
op_back (E u k) e = refl
op_back (S u k g) e = refl
op_back (G u l) e = refl
op_back (F p l r) e = refl
op_back (C u) e = refl
op_back (K u) e = refl

serials_same : (ks : List ℕ) → map serial_of (map itself ks) ≡ ks
serials_same [] = refl
serials_same (k ∷ ks) = ap (λ (l : List ℕ). k ∷ l) (serials_same ks)

selves_true : (ks : List ℕ) → selves (map itself ks) ≡ true
unfolding selves
selves_true [] = refl
selves_true (k ∷ ks) = joined-tests (eqb k k && eqb k k) (selves (map itself ks)) (joined-tests (eqb k k) (eqb k k) (eq-eqb k k refl) (eq-eqb k k refl)) (selves_true ks)

pairs_fit : (ks : List ℕ) → Serials ks → Pairs (map itself ks)
pairs_fit [] h = tt
pairs_fit (k ∷ ks) h = (h.0, h.0, pairs_fit ks h.1)

record OfLine (l : Line) (op : Op) : Type 0 where
  said : line_said op ≡ l
  own : self op ≡ true
  pairs : Fit l → PairsOf op

op_own : (a : Operation ℕ) → OfLine (Some a) (written_by itself a)
unfolding self
op_own (D u v) = record { said = refl; own = refl; pairs = λ h. tt }
op_own (B u ks) = record { said = ap (λ (l : List ℕ). Some (B u l)) (serials_same ks); own = selves_true ks; pairs = λ h. pairs_fit ks h.2 }
op_own (E u k) = record { said = refl; own = refl; pairs = λ h. tt }
op_own (S u k g) = record { said = refl; own = refl; pairs = λ h. tt }
op_own (G u l) = record { said = refl; own = refl; pairs = λ h. tt }
op_own (F p l r) = record { said = refl; own = refl; pairs = λ h. tt }
op_own (C u) = record { said = refl; own = refl; pairs = λ h. tt }
op_own (K u) = record { said = refl; own = refl; pairs = λ h. tt }

op_only : (l : Line) (op : Op) → op_of_line l ≡ Some op → OfLine l op
op_only None op e = absurd (none-some op e)
op_only (Some a) op e = subst (λ (o : Op). OfLine (Some a) o) (same_Some (written_by itself a) op e) (op_own a)

-- a line that has an operation is its text, byte for byte
pub record Spelt (f : List ℕ) (op : Op) : Type 0 where
  pub are : f ≡ line_of_op op
  pub own : self op ≡ true
  pub writable : Writable op

pub line_only : (f : List ℕ) (op : Op) → op_of_line (line_of f) ≡ Some op → Spelt f op
line_only f op e =
    let a = op_only (line_of f) op e in
    let b = line_spelt f (line_of f) (λ p. none-some op (sym (sym e ∙ ap op_of_line p))) refl in
    let are : f ≡ line_of_op op = b.text ∙ ap line_text (sym a.said) in
    record {
      are = are;
      own = a.own;
      writable = record { fit = subst Fit (sym a.said) b.fit; pairs = a.pairs b.fit; short = subst (λ (l : List ℕ). length l ≤ 1023) are b.short };
    }

-- ---- the text of operations, read

unfoldable pub onto : Op → Option (List Op) → Option (List Op)
onto op None = None
onto op (Some ops) = Some (op ∷ ops)

pub ops_step : (l : Line) (ls : List Line) (op : Op) → op_of_line l ≡ Some op → ops_of (l ∷ ls) ≡ onto op (ops_of ls)
unfolding ops_of onto
ops_step l ls op e = rw (e, ops_of) (go (ops_of ls))
  where
    go : (o : Option (List Op)) → elim o [ None ↦ None | Some ops ↦ Some (op ∷ ops) ] ≡ onto op o
    go None = refl
    go (Some ops) = refl

pub text_back : (ops : List Op) → AllWritable ops → all_self ops ≡ true → text_ops (text_of ops) ≡ Some ops
unfolding text_ops text_of lines_of ended all_self ops_of onto
text_back [] h e = ap (λ (l : Fields). ops_of (ended l)) cut_none
text_back (op ∷ ops) h e =
    let a = both (self op) (all_self ops) e in
    let r : line_of (line_of_op op) ≡ line_said op = text_reads (line_said op) h.0.fit h.0.short in
    ap (λ (l : Fields). ops_of (ended l)) (cut_line (line_of_op op) (text_of ops) (line_free op))
    ∙ ops_step (line_of (line_of_op op)) (ended (cut 10 (text_of ops))) op (ap op_of_line r ∙ op_back op a.0)
    ∙ ap (onto op) (text_back ops h.1 a.1)

-- ---- a text that reads

pub record Text (s : List ℕ) (ops : List Op) : Type 0 where
  pub are : s ≡ text_of ops
  pub each : AllWritable ops
  pub own : all_self ops ≡ true

parts_only : (fs : Fields) (f : List ℕ) (ops : List Op) → ops_of (ended (f ∷ fs)) ≡ Some ops → Text (joined f fs) ops
unfolding ended ops_of joined text_of all_self
parts_only [] [] ops e = subst (λ (l : List Op). Text [] l) (same_Some [] ops e) (record { are = refl; each = tt; own = refl })
parts_only [] (c ∷ s) ops e = absurd (none-some ops e)
parts_only (g ∷ gs) f ops e = go (op_of_line (line_of f)) refl e (parts_only gs g)
  where
    here : (op : Op) → op_of_line (line_of f) ≡ Some op → (o : Option (List Op)) → ops_of (ended (g ∷ gs)) ≡ o
        → elim o [ None ↦ None | Some l ↦ Some (op ∷ l) ] ≡ Some ops
        → ((l : List Op) → ops_of (ended (g ∷ gs)) ≡ Some l → Text (joined g gs) l) → Text (f ++ (10 ∷ joined g gs)) ops
    here op p None q r i = absurd (none-some ops r)
    here op p (Some l) q r i =
        let a = line_only f op p in
        let b = i l q in
        subst (λ (x : List Op). Text (f ++ (10 ∷ joined g gs)) x) (same_Some (op ∷ l) ops r) (record {
          are = λ j. a.are j ++ (10 ∷ b.are j);
          each = (a.writable, b.each);
          own = joined-tests (self op) (all_self l) a.own b.own;
        })

    go : (o : Option Op) → op_of_line (line_of f) ≡ o
        → elim o [ None ↦ None | Some op ↦ elim (ops_of (ended (g ∷ gs))) [ None ↦ None | Some l ↦ Some (op ∷ l) ] ] ≡ Some ops
        → ((l : List Op) → ops_of (ended (g ∷ gs)) ≡ Some l → Text (joined g gs) l) → Text (f ++ (10 ∷ joined g gs)) ops
    go None p q i = absurd (none-some ops q)
    go (Some op) p q i = here op p (ops_of (ended (g ∷ gs))) refl q i

pub text_only : (s : List ℕ) (ops : List Op) → text_ops s ≡ Some ops → Text s ops
unfolding text_ops lines_of
text_only s ops e = subst (λ (l : List ℕ). Text l ops) (joined_cut s) (parts_only (parts_after 10 s) (upto 10 s) ops e)
