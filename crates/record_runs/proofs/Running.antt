-- What is answered and what is left make the whole run. Assumes nothing.
use Rattle.std.specs.Prelude.{Option, Some}
use Rattle.std.proofs.lemmas.Option.{same_Some}
use Prim.Native.Nat.{ℕ, suc, ◌+◌, ◌*◌, ◌≤◌, ◌<◌}
use native.Mathlib.Omega.{arith}
use mathlib.Core.Path.{◌≡◌, refl, sym, ◌∙◌, ap, subst}
use mathlib.Core.List.{List, [], ◌∷◌, ◌++◌, append_assoc, append-nil}
use lib.IntN.{ℤ, pos}
use lib.ListN.{length, take, drop, take-append-drop}
use lib.Seq.{sets, length-sets, drop-length, drop-drop}
use Rattle.ledger_spec.specs.Bench.{Bench}
use Rattle.bench_views.specs.View.{view}
use Rattle.bench_views.specs.Fit.{SoundWords}
use Rattle.text_numbers.specs.declared.Reply.{Reply}
use Rattle.text_calls.specs.Turned.{Gave}
use Rattle.record_spec.specs.Operations.{Op}
use Rattle.record_spec.specs.Reader.{record_in}
use Rattle.record_spec.specs.Files.{file_ops}
use Rattle.record_says.specs.Says.{says_op, answers_ops, after_ops}
use Rattle.record_says.specs.Runs.{in_fours}
use Rattle.record_calls.specs.Done.{DoneAt}
use Rattle.record_reads.specs.Reads.{Recorded}
use Rattle.record_places.specs.Places.{Listed, Stands, Placed}
use Rattle.record_runs.specs.Runs.{four_of, Ready, AnswersOf, Answers}
use Rattle.record_runs.proofs.Putting.{stored_front, stored_behind}

-- i operations are answered: the rest is what is left of the bench and of the answers
pub record Running (b₀ : List ℕ) (ops : List Op) (slice₀ : List ℤ) (b : List ℕ) (slice : List ℤ) (i : ℕ) : Type 0 where
  pub low : i ≤ length ops
  pub words : SoundWords b
  pub long : length slice ≡ length slice₀
  pub seen : after_ops (view b₀) ops ≡ after_ops (view b) (drop i ops)
  pub told : in_fours (answers_ops (view b₀) ops) ≡ take (4 * i) slice ++ in_fours (answers_ops (view b) (drop i ops))
  pub kept : drop (4 * i) slice ≡ drop (4 * i) slice₀

pub running : (b : List ℕ) (ops : List Op) (slice : List ℤ) → SoundWords b → Running b ops slice b slice 0
running b ops slice W = record { low = omega arith; words = W; long = refl; seen = refl; told = refl; kept = refl }

module _ (b₀ : List ℕ) (ops : List Op) (slice₀ : List ℤ) (b : List ℕ) (slice : List ℤ) (i : ℕ) (w : Running b₀ ops slice₀ b slice i) where
  -- the record that was done, and its answer stored
  pub run_on : i < length ops → 4 * length ops ≤ length slice₀ → (s : List ℕ) (p : ℕ) → Stands s ops i p → (r : Reply) (b' : List ℕ) → DoneAt b (record_in (drop p s)) r b'
      → Running b₀ ops slice₀ b' (sets slice (4 * i) (four_of r)) (i + 1)
  unfolding answers_ops after_ops in_fours
  run_on h room s p S r b' d =
      let g : Gave (says_op (view b) S.op) r b' = subst (λ (o : Option (Op × List ℕ)). DoneAt b o r b') S.read d in
      let one : suc i ≡ i + 1 = omega arith in
      let four : 4 * i + 4 ≡ 4 * (i + 1) = omega arith in
      let fits : 4 * i + length (four_of r) ≤ length slice = omega (arith, w.long) in
      let left : drop i ops ≡ S.op ∷ drop (i + 1) ops = S.is ∙ ap (λ (n : ℕ). S.op ∷ drop n ops) one in
      let told : in_fours (answers_ops (view b) (S.op ∷ drop (i + 1) ops)) ≡ four_of r ++ in_fours (answers_ops (view b') (drop (i + 1) ops)) =
      λ j. pos (sym g.numbers j).0 ∷ pos (sym g.numbers j).1 ∷ (sym g.numbers j).2 ∷ (sym g.numbers j).3 ∷ in_fours (answers_ops (sym g.seen j) (drop (i + 1) ops)) in
      record {
        low = omega arith;
        words = g.words;
        long = length-sets slice (4 * i) (four_of r) ∙ w.long;
        seen = w.seen ∙ ap (after_ops (view b)) left ∙ ap (λ (x : Bench). after_ops x (drop (i + 1) ops)) (sym g.seen);
        told =
            w.told
            ∙ ap (λ (x : List Op). take (4 * i) slice ++ in_fours (answers_ops (view b) x)) left
            ∙ ap (λ (x : List ℤ). take (4 * i) slice ++ x) told
            ∙ sym (append_assoc (take (4 * i) slice) (four_of r) (in_fours (answers_ops (view b') (drop (i + 1) ops))))
            ∙ ap (λ (x : List ℤ). x ++ in_fours (answers_ops (view b') (drop (i + 1) ops))) (sym (stored_front slice (four_of r) (4 * i) fits) ∙ ap (λ (n : ℕ). take n (sets slice (4 * i) (four_of r))) four);
        kept =
            ap (λ (n : ℕ). drop n (sets slice (4 * i) (four_of r))) (sym four)
            ∙ stored_behind slice (four_of r) (4 * i) fits
            ∙ sym (drop-drop 4 (4 * i) slice)
            ∙ ap (drop 4) w.kept
            ∙ drop-drop 4 (4 * i) slice₀
            ∙ ap (λ (n : ℕ). drop n slice₀) four;
      }

  pub run_all : length ops ≤ i → AnswersOf ops b₀ slice₀ b slice
  unfolding answers_ops after_ops in_fours
  run_all h =
      let e : i ≡ length ops = omega (arith, w.low) in
      let none : drop i ops ≡ [] = ap (λ (n : ℕ). drop n ops) e ∙ drop-length ops in
      record {
        words = w.words;
        seen = sym (w.seen ∙ ap (after_ops (view b)) none);
        slices =
            sym (take-append-drop (4 * i) slice)
            ∙ (λ j. sym (w.told ∙ ap (λ (x : List Op). take (4 * i) slice ++ in_fours (answers_ops (view b) x)) none ∙ append-nil (take (4 * i) slice)) j ++ w.kept j)
            ∙ ap (λ (n : ℕ). in_fours (answers_ops (view b₀) ops) ++ drop (4 * n) slice₀) e;
      }

-- ---- a turn of the loop

abbrev pub AllRunning : List ℕ → List ℕ → List ℤ → List ℕ → List ℤ → ℕ → Type 0
AllRunning b₀ file slice₀ b slice i = (ops : List Op) → file_ops file ≡ Some ops → Running b₀ ops slice₀ b slice i

module _ (file : List ℕ) (list count room : ℕ) (y : Ready file list count room) where
  pub listed_at : (i : ℕ) → i < count → Listed file list i
  listed_at i h = record { ops = y.listing.ops; whole = y.listing.whole; starts = y.listing.starts; low = omega (arith, y.listing.many) }

  pub recorded_at : (i p : ℕ) → Placed file i p → Recorded file p
  recorded_at i p q = let s = q y.listing.ops y.listing.whole in record { op = s.op; after = s.after; read = s.read }

  same_many : (ops : List Op) → file_ops file ≡ Some ops → count ≡ length ops
  same_many ops e = y.listing.many ∙ ap length (same_Some y.listing.ops ops (sym y.listing.whole ∙ e))

  module _ (b₀ : List ℕ) (slice₀ : List ℤ) (same : length slice₀ ≡ room) (b : List ℕ) (slice : List ℤ) (i : ℕ) (w : AllRunning b₀ file slice₀ b slice i) where
    pub sound_now : SoundWords b
    sound_now = (w y.listing.ops y.listing.whole).words

    pub still_long : length slice ≡ length slice₀
    still_long = (w y.listing.ops y.listing.whole).long

    pub turn : i < count → (p : ℕ) → Placed file i p → (r : Reply) (b' : List ℕ) → DoneAt b (record_in (drop p file)) r b' → AllRunning b₀ file slice₀ b' (sets slice (4 * i) (four_of r)) (i + 1)
    turn h p q r b' d ops e =
        let n = same_many ops e in
        run_on b₀ ops slice₀ b slice i (w ops e) (omega arith) (omega (arith, y.fits)) file p (q ops e) r b' d

    pub finish : count ≤ i → Answers b₀ file slice₀ b slice
    finish h ops e = let n = same_many ops e in run_all b₀ ops slice₀ b slice i (w ops e) (omega arith)
