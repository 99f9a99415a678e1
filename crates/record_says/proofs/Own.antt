-- Where every pair is the member itself, an operation answers as its line, and a run as the text program on the moved-back file. Assumes nothing.
use Rattle.std.specs.Prelude.{Some}
use Prim.Native.Nat.{ℕ}
use mathlib.Core.Path.{◌≡◌, refl, sym, ◌∙◌, ap}
use mathlib.Core.Bool.{true, ◌&&◌}
use mathlib.Core.List.{List, [], ◌∷◌, map}
use lib.Dec.{eqb}
use lib.IntN.{ℤ}
use borrow.Author.Tests.{eqb-true}
use Rattle.ledger_spec.specs.Bench.{Handle, Bench, set_up}
use Rattle.ledger_spec.specs.Calls.{Blossom}
use Rattle.ledger_spec.specs.Operations.{D, B, E, S, G, F, C, K}
use Rattle.ledger_spec.specs.Grammar.{Line}
use Rattle.ledger_spec.specs.Lines.{LineAnswer, named, calls, says}
use Rattle.ledger_spec.specs.Program.{ended, lines_of, answers, after_lines, texts, program}
use Rattle.ledger_spec.proofs.Openings.{program_lazy}
use Rattle.record_spec.specs.Numbers.{Bytes}
use Rattle.record_spec.specs.Operations.{Member, Op, serial_of, line_said, line_of_op, selves, self}
use Rattle.record_spec.specs.Files.{AllWritable, file_ops}
use Rattle.record_spec.specs.Moves.{text_ops, text_of, all_self}
use Rattle.record_spec.proofs.Writable.{both}
use Rattle.record_spec.proofs.Newlines.{line_free, cut_line, cut_none}
use Rattle.record_spec.proofs.Lines.{line_reads}
use Rattle.record_spec.proofs.Files.{file_only}
use Rattle.record_spec.proofs.Texts.{text_only}
use Rattle.record_says.specs.Says.{member_named, pair_named, says_op, answers_ops, after_ops}
use Rattle.record_says.proofs.Pairs.{twin, same_calls}
use Rattle.record_says.proofs.Choices.{text_unchosen}

-- ---- one operation

members_named : (b : Bench) (ms : List Member) → map (member_named b) ms ≡ map (named b) (map serial_of ms)
members_named b [] = refl
members_named b (m ∷ ms) = ap (λ (hs : List Handle). named b m.serial ∷ hs) (members_named b ms)

pairs_named : (b : Bench) (ms : List Member) → selves ms ≡ true → map (pair_named b) ms ≡ map twin (map (named b) (map serial_of ms))
unfolding selves
pairs_named b [] e = refl
pairs_named b (m ∷ ms) e =
    let x = both (eqb m.first m.serial && eqb m.second m.serial) (selves ms) e in
    let y = both (eqb m.first m.serial) (eqb m.second m.serial) x.0 in
    λ i. (named b (eqb-true m.first m.serial y.0 i), named b (eqb-true m.second m.serial y.1 i)) ∷ pairs_named b ms x.1 i

pub own_says : (b : Bench) (op : Op) → self op ≡ true → says_op b op ≡ says b (line_said op)
unfolding says_op says self
own_says b (D u v) e = refl
own_says b (B u ms) e =
    (λ i. calls b u (Blossom u (members_named b ms i) (pairs_named b ms e i))) ∙ sym (same_calls b u (map (named b) (map serial_of ms)) u)
own_says b (E u k) e = refl
own_says b (S u k g) e = refl
own_says b (G u l) e = refl
own_says b (F p l r) e = refl
own_says b (C u) e = refl
own_says b (K u) e = refl

-- ---- one after the other

pub record AsLines (b : Bench) (ops : List Op) (ls : List Line) : Type 0 where
  pub answers : answers_ops b ops ≡ answers b ls
  pub bench : after_ops b ops ≡ after_lines b ls

pub own_lines : (b : Bench) (ops : List Op) → all_self ops ≡ true → AsLines b ops (map line_said ops)
unfolding answers_ops after_ops answers after_lines all_self
own_lines b [] e = record { answers = refl; bench = refl }
own_lines b (op ∷ ops) e =
    let x = both (self op) (all_self ops) e in
    let p = own_says b op x.0 in
    let i = own_lines (says_op b op).bench ops x.1 in
    record {
      answers = ap (λ (l : List (ℕ × ℕ × ℤ × ℤ)). (says_op b op).numbers ∷ l) i.answers ∙ ap (λ (a : LineAnswer). a.numbers ∷ answers a.bench (map line_said ops)) p;
      bench = i.bench ∙ ap (λ (a : LineAnswer). after_lines a.bench (map line_said ops)) p;
    }

-- ---- the text

pub text_lines : (ops : List Op) → AllWritable ops → lines_of (text_of ops) ≡ map line_said ops
unfolding lines_of ended text_of
text_lines [] h = ap ended cut_none
text_lines (op ∷ ops) h =
    ap ended (cut_line (line_of_op op) (text_of ops) (line_free op))
    ∙ (λ i. line_reads op h.0 i ∷ text_lines ops h.1 i)

-- a file that moves back is run as its text is
pub file_as_text : (b : Bench) (f : List ℕ) (ops : List Op) → Bytes f → file_ops f ≡ Some ops → all_self ops ≡ true → AsLines b ops (lines_of (text_of ops))
file_as_text b f ops h e o = rw (text_lines ops (file_only f ops h e).1.each) (own_lines b ops o)

-- a text that moves to records is answered as they are
pub text_as_file : (b : Bench) (t : List ℕ) (ops : List Op) → text_ops t ≡ Some ops → AsLines b ops (lines_of t)
text_as_file b t ops e =
    let x = text_only t ops e in
    rw (x.are, text_lines ops x.each) (own_lines b ops x.own)

-- the text program on the moved-back file writes the run's answers: no line that an operation has chooses an engine
pub program_as_run : (f : List ℕ) (ops : List Op) → Bytes f → file_ops f ≡ Some ops → all_self ops ≡ true → program (text_of ops) ≡ texts (answers_ops (set_up 1) ops)
program_as_run f ops h e o = program_lazy (text_of ops) (text_unchosen ops (file_only f ops h e).1.each) ∙ ap texts (sym (file_as_text (set_up 1) f ops h e o).answers)
