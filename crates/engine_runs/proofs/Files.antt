-- THEOREM. A run over a file of records, on words whose benches differ in the engine alone: the same number, count and answers, and such words again.
-- Assumes nothing.
use Rattle.std.specs.Prelude.{None, Option, Some}
use Prim.Native.Nat.{ℕ, ◌*◌}
use mathlib.Core.Path.{◌≡◌, refl, sym, ap, subst, ◌∙◌}
use mathlib.Core.Bool.{Bool, true, false}
use mathlib.Core.List.{List, [], ◌∷◌, ◌++◌, map}
use lib.Dec.{leb}
use lib.ListN.{length, drop}
use lib.IntN.{ℤ}
use Rattle.bench_words.specs.Codec.{pick}
use Rattle.ledger_spec.specs.Numbers.{SMALL, FILE}
use Rattle.ledger_spec.specs.Bench.{Bench}
use Rattle.ledger_spec.specs.Calls.{Defect, Blossom, Expand, SetState, Grow, Fuse, Clear}
use Rattle.ledger_spec.specs.Operations.{D, B, E, S, G, F, C, K}
use Rattle.ledger_spec.specs.Lines.{named}
use Rattle.bench_views.specs.View.{view}
use Rattle.bench_views.specs.Fit.{SoundWords}
use Rattle.sound_bench.specs.Sound.{sound_words}
use Rattle.sound_bench.proofs.Theorem.{sound_holds}
use Rattle.record_spec.specs.Operations.{Member, Op}
use Rattle.record_spec.specs.Files.{file_ops}
use Rattle.record_says.specs.Says.{member_named, pair_named, says_op, answers_ops, after_ops}
use Rattle.record_says.specs.Runs.{in_fours, Run, refused, answered, run_ops, run_file}
use Rattle.record_runs.specs.declared.Ran.{Ran as Said}
use Rattle.record_runs.specs.Runs.{RanAs, Refused, RanOf, RanAny}
use Rattle.engine_laws.specs.Engines.{in_engine, line_in}
use Rattle.engine_laws.proofs.Lines.{named_in, calls_in, checks_in}
use Rattle.engine_runs.specs.Alike.{Twins}

-- ---- of the plain ledger
module _ (m : Bool) where
  abbrev run_in : Run → Run
  run_in a = record { number = a.number; count = a.count; bench = in_engine m a.bench; slice = a.slice }

  says_op_lem : (b : Bench) (op : Op) → says_op (in_engine m b) op ≡ line_in m (says_op b op)
  unfolding says_op
  says_op_lem b (D u v) = calls_in m b u (Defect u v) (Defect u v) refl
  says_op_lem b (B u ms) = calls_in m b u (Blossom u (map (member_named (in_engine m b)) ms) (map (pair_named (in_engine m b)) ms)) (Blossom u (map (member_named b) ms) (map (pair_named b) ms))
      (λ i. Blossom u (map (λ (x : Member). named_in m b x.serial i) ms) (map (λ (x : Member). (named_in m b x.first i, named_in m b x.second i)) ms))
  says_op_lem b (E u k) = calls_in m b u (Expand u (named (in_engine m b) k)) (Expand u (named b k)) (λ i. Expand u (named_in m b k i))
  says_op_lem b (S u k s) = calls_in m b u (SetState u (named (in_engine m b) k) s) (SetState u (named b k) s) (λ i. SetState u (named_in m b k i) s)
  says_op_lem b (G u l) = calls_in m b u (Grow u l) (Grow u l) refl
  says_op_lem b (F p l r) = calls_in m b p (Fuse p l r) (Fuse p l r) refl
  says_op_lem b (C u) = calls_in m b u (Clear u) (Clear u) refl
  says_op_lem b (K u) = checks_in m b u

  answers_in : (b : Bench) (ops : List Op) → answers_ops (in_engine m b) ops ≡ answers_ops b ops
  unfolding answers_ops
  answers_in b [] = refl
  answers_in b (op ∷ ops) = (λ i. (says_op_lem b op i).numbers ∷ answers_ops (says_op_lem b op i).bench ops) ∙ ap (◌∷◌ (says_op b op).numbers) (answers_in (says_op b op).bench ops)

  after_in : (b : Bench) (ops : List Op) → after_ops (in_engine m b) ops ≡ in_engine m (after_ops b ops)
  unfolding after_ops
  after_in b [] = refl
  after_in b (op ∷ ops) = (λ i. after_ops (says_op_lem b op i).bench ops) ∙ after_in (says_op b op).bench ops

  module _ (b : Bench) (slice : List ℤ) where
    answered_in : (ops : List Op) → answered (in_engine m b) ops slice ≡ run_in (answered b ops slice)
    unfolding answered
    answered_in ops = λ i. record { number = 0; count = length ops; bench = after_in b ops i; slice = in_fours (answers_in b ops i) ++ drop (4 * length ops) slice }

    ops_in : (ops : List Op) → run_ops (in_engine m b) ops slice ≡ run_in (run_ops b ops slice)
    unfolding run_ops
    ops_in ops = (λ i. choose (leb (4 * length ops) (length slice)) (in_engine m b) (answered_in ops i)) ∙ go (leb (4 * length ops) (length slice))
      where
        choose : Bool → Bench → Run → Run
        choose c d a = elim c [ true ↦ a | false ↦ refused SMALL d slice ]

        go : (c : Bool) → choose c (in_engine m b) (run_in (answered b ops slice)) ≡ run_in (choose c b (answered b ops slice))
        go true = refl
        go false = refl

    pub file_engine : (file : List ℕ) → run_file (in_engine m b) file slice ≡ run_in (run_file b file slice)
    unfolding run_file
    file_engine file = go (file_ops file)
      where
        go : (o : Option (List Op)) → elim o [ None ↦ refused FILE (in_engine m b) slice | Some ops ↦ run_ops (in_engine m b) ops slice ] ≡ run_in (elim o [ None ↦ refused FILE b slice | Some ops ↦ run_ops b ops slice ])
        go None = refl
        go (Some ops) = ops_in ops

-- ---- over stored words
pub record FilesAlike (m : Bool) (r s : Said) (p l : List ℕ) (o o' : List ℤ) : Type 0 where
  pub same : r ≡ s
  pub slices : o ≡ o'
  pub words : Twins m p l

module _ {m : Bool} {p l : List ℕ} (T : Twins m p l) (file : List ℕ) (slice : List ℤ) (r s : Said) (p' l' : List ℕ) (o o' : List ℤ) where
  not_read : (n : ℕ) → Refused n p slice r p' o → Refused n l slice s l' o' → FilesAlike m r s p' l' o o'
  not_read n x y = record {
    same = x.is ∙ sym y.is;
    slices = x.slices ∙ sym y.slices;
    words = record { one = subst SoundWords (sym x.words) T.one; other = subst SoundWords (sym y.words) T.other; seen = ap view x.words ∙ T.seen ∙ sym (ap (λ (w : List ℕ). in_engine m (view w)) y.words) };
  }

  abbrev lazy : Run
  lazy = run_file (view l) file slice

  run_alike : RanAs (run_file (view p) file slice) p r p' o → RanAs lazy l s l' o' → FilesAlike m r s p' l' o o'
  run_alike x y = record {
    same = λ i. record { number = (x.number ∙ ap (λ (a : Run). a.number) e ∙ sym y.number) i; count = (x.count ∙ ap (λ (a : Run). a.count) e ∙ sym y.count) i };
    slices = x.slice ∙ ap (λ (a : Run). a.slice) e ∙ sym y.slice;
    words = record { one = x.words; other = y.words; seen = x.seen ∙ ap (λ (a : Run). a.bench) e ∙ sym (ap (in_engine m) y.seen) };
  }
    where
      e : run_file (view p) file slice ≡ run_in m lazy
      e = ap (λ (d : Bench). run_file d file slice) T.seen ∙ file_engine m (view l) slice file

  pub files_alike : RanAny p file slice r p' o → RanAny l file slice s l' o' → FilesAlike m r s p' l' o o'
  files_alike = go (file_ops file)
    where
      on : {w : List ℕ} {A : Type 0} (Z : Type 0) → SoundWords w → pick (sound_words w) A Z → A
      on {w} {A} Z W x = subst (λ (c : Bool). pick c A Z) (sound_holds w W) x

      go : (f : Option (List Op)) → RanOf f p file slice r p' o → RanOf f l file slice s l' o' → FilesAlike m r s p' l' o o'
      go None x y = not_read 23 x y
      go (Some ops) x y = run_alike (on (Refused 2 p slice r p' o) T.one x) (on (Refused 2 l slice s l' o') T.other y)
