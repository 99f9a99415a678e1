-- No second answer: two results that meet the contract of a growth over a recording have one number, one count, one bench, one slice. Assumes nothing.
use Prim.Native.Nat.{ℕ}
use mathlib.Core.Path.{◌≡◌, sym, ◌∙◌, ap}
use mathlib.Core.Bool.{Bool, true, false}
use mathlib.Core.List.{List}
use lib.IntN.{ℤ}
use Rattle.bench_words.specs.Codec.{pick}
use Rattle.sound_bench.specs.Sound.{sound_words}
use Rattle.outcomes.proofs.Outcomes.{sound_words_same}
use Rattle.recorded_steps.specs.declared.Passed.{Passed}
use Rattle.recorded_sound.specs.Answers.{RecordedAs}
use Rattle.recorded_any.specs.Any.{NoBench, RecordedAny}

pub record Same (r q : Passed) (b' b'' out' out'' : List ℕ) : Type 0 where
  pub number : r.number ≡ q.number
  pub taken : r.taken ≡ q.taken
  pub bench : b' ≡ b''
  pub slice : out' ≡ out''

module _ (b : List ℕ) (u : ℕ) (l : ℤ) (ws out : List ℕ) (r q : Passed) (b' b'' out' out'' : List ℕ) where
  pub sound_once : RecordedAs b u l ws out r b' out' → RecordedAs b u l ws out q b'' out'' → Same r q b' b'' out' out''
  sound_once x y = record {
    number = x.number ∙ sym y.number;
    taken = x.taken ∙ sym y.taken;
    bench = sound_words_same x.words y.words (x.seen ∙ sym y.seen);
    slice = x.lengths ∙ sym y.lengths;
  }

  broken_once : NoBench b out r b' out' → NoBench b out q b'' out'' → Same r q b' b'' out' out''
  broken_once x y = record {
    number = ap (λ (z : Passed). z.number) (x.is ∙ sym y.is);
    taken = ap (λ (z : Passed). z.taken) (x.is ∙ sym y.is);
    bench = x.words ∙ sym y.words;
    slice = x.slice ∙ sym y.slice;
  }

  pub any_once : RecordedAny b u l ws out r b' out' → RecordedAny b u l ws out q b'' out'' → Same r q b' b'' out' out''
  any_once = go (sound_words b)
    where
      go : (t : Bool) → pick t (RecordedAs b u l ws out r b' out') (NoBench b out r b' out') → pick t (RecordedAs b u l ws out q b'' out'') (NoBench b out q b'' out'') → Same r q b' b'' out' out''
      go true x y = sound_once x y
      go false x y = broken_once x y
