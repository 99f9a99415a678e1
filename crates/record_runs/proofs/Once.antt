-- No second answer: two results that meet a run's contract have one number, one count, one bench, one slice. Assumes nothing.
use Rattle.std.specs.Prelude.{None, Option, Some}
use Prim.Native.Nat.{ℕ}
use mathlib.Core.Path.{◌≡◌, sym, ◌∙◌, ap}
use mathlib.Core.Bool.{Bool, true, false}
use mathlib.Core.List.{List}
use lib.IntN.{ℤ}
use Rattle.bench_words.specs.Codec.{pick}
use Rattle.bench_views.proofs.Unique.{words_same}
use Rattle.bench_views.proofs.Fits.{fit_of}
use Rattle.sound_bench.specs.Sound.{sound_words}
use Rattle.record_spec.specs.Operations.{Op}
use Rattle.record_spec.specs.Files.{file_ops}
use Rattle.record_says.specs.Runs.{Run}
use Rattle.record_runs.specs.declared.Ran.{Ran as Said}
use Rattle.record_runs.specs.Runs.{RanAs, Ran, Refused, RanOf, RanAny}

pub record Same (r q : Said) (b' b'' : List ℕ) (s' s'' : List ℤ) : Type 0 where
  pub number : r.number ≡ q.number
  pub count : r.count ≡ q.count
  pub bench : b' ≡ b''
  pub slice : s' ≡ s''

as_once : (a : Run) (b : List ℕ) (r q : Said) (b' b'' : List ℕ) (s' s'' : List ℤ) → RanAs a b r b' s' → RanAs a b q b'' s'' → Same r q b' b'' s' s''
as_once a b r q b' b'' s' s'' x y = record {
  number = x.number ∙ sym y.number;
  count = x.count ∙ sym y.count;
  bench = words_same b' b'' x.words.canon y.words.canon (fit_of b' x.words).within (x.seen ∙ sym y.seen);
  slice = x.slice ∙ sym y.slice;
}

refused_once : (n : ℕ) (b : List ℕ) (s : List ℤ) (r q : Said) (b' b'' : List ℕ) (s' s'' : List ℤ) → Refused n b s r b' s' → Refused n b s q b'' s'' → Same r q b' b'' s' s''
refused_once n b s r q b' b'' s' s'' x y = record {
  number = ap (λ (z : Said). z.number) (x.is ∙ sym y.is);
  count = ap (λ (z : Said). z.count) (x.is ∙ sym y.is);
  bench = x.words ∙ sym y.words;
  slice = x.slices ∙ sym y.slices;
}

module _ (b file : List ℕ) (s : List ℤ) (r q : Said) (b' b'' : List ℕ) (s' s'' : List ℤ) where
  pub sound_once : Ran b file s r b' s' → Ran b file s q b'' s'' → Same r q b' b'' s' s''
  sound_once x y = as_once _ b r q b' b'' s' s'' x y

  pub any_once : RanAny b file s r b' s' → RanAny b file s q b'' s'' → Same r q b' b'' s' s''
  any_once = go (file_ops file)
    where
      tested : (t : Bool) → pick t (Ran b file s r b' s') (Refused 2 b s r b' s') → pick t (Ran b file s q b'' s'') (Refused 2 b s q b'' s'') → Same r q b' b'' s' s''
      tested true x y = sound_once x y
      tested false x y = refused_once 2 b s r q b' b'' s' s'' x y

      go : (o : Option (List Op)) → RanOf o b file s r b' s' → RanOf o b file s q b'' s'' → Same r q b' b'' s' s''
      go None x y = refused_once 23 b s r q b' b'' s' s'' x y
      go (Some ops) x y = tested (sound_words b) x y
