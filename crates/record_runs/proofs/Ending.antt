-- A run's answer by what was scanned of the file. Assumes nothing.
use Rattle.std.specs.Prelude.{None, Option, Some}
use Prim.Native.Nat.{ℕ, ◌*◌, ◌/◌, ◌≤◌, ◌<◌}
use native.Mathlib.Omega.{arith}
use mathlib.Core.Path.{◌≡◌, refl, sym, ◌∙◌, ap, subst}
use mathlib.Core.Bool.{true, false, true≢false}
use mathlib.Core.List.{List}
use lib.IntN.{ℤ}
use lib.ListN.{length}
use borrow.Author.Tests.{le-leb, lt-leb}
use Rattle.ledger_spec.specs.Bench.{Bench}
use Rattle.bench_words.specs.Codec.{pick}
use Rattle.bench_views.specs.View.{view}
use Rattle.bench_views.specs.Fit.{SoundWords}
use Rattle.sound_bench.specs.Sound.{sound_words}
use Rattle.record_spec.specs.Operations.{Op}
use Rattle.record_spec.specs.Files.{file_ops}
use Rattle.record_files.specs.declared.Scanned.{Scanned}
use Rattle.record_files.specs.Scans.{scanned_of}
use Rattle.record_says.specs.Runs.{Run, refused, answered, run_ops, run_file}
use Rattle.record_runs.specs.declared.Ran.{Ran as Said}
use Rattle.record_runs.specs.Runs.{RanAs, Ran, Refused, RanOf, RanAny, Listing, Answers}

-- ---- what was scanned

module _ (file : List ℕ) (x : Scanned) (is : x ≡ scanned_of (file_ops file)) where
  pub listing : x.whole ≡ true → Listing file x.start x.count
  listing t = go (file_ops file) refl
    where
      go : (o : Option (List Op)) → file_ops file ≡ o → Listing file x.start x.count
      go None e = absurd (true≢false (sym t ∙ ap (λ (y : Scanned). y.whole) (is ∙ ap scanned_of e)))
      go (Some ops) e =
          let q = is ∙ ap scanned_of e in
          record { ops = ops; whole = e; starts = ap (λ (y : Scanned). y.start) q; many = ap (λ (y : Scanned). y.count) q }

  pub no_file : x.whole ≡ false → file_ops file ≡ None
  no_file t = go (file_ops file) refl
    where
      go : (o : Option (List Op)) → file_ops file ≡ o → file_ops file ≡ None
      go None e = e
      go (Some ops) e = absurd (true≢false (sym (ap (λ (y : Scanned). y.whole) (is ∙ ap scanned_of e)) ∙ t))

-- ---- the run's answer

module _ (b : Bench) (file : List ℕ) (slice : List ℤ) where
  none_run : file_ops file ≡ None → run_file b file slice ≡ refused 23 b slice
  unfolding run_file
  none_run e = rw (e, run_file)

  small_run : (ops : List Op) → file_ops file ≡ Some ops → length slice < 4 * length ops → run_file b file slice ≡ refused 19 b slice
  unfolding run_file run_ops
  small_run ops e h = rw (e, run_file) (rw (lt-leb (4 * length ops) (length slice) h, run_ops))

  whole_run : (ops : List Op) → file_ops file ≡ Some ops → 4 * length ops ≤ length slice → run_file b file slice ≡ answered b ops slice
  unfolding run_file run_ops
  whole_run ops e h = rw (e, run_file) (rw (le-leb (4 * length ops) (length slice) h, run_ops))

module _ (b file : List ℕ) (slice : List ℤ) (W : SoundWords b) where
  stays : (n : ℕ) → (n ≡ 0 → ⊥) → run_file (view b) file slice ≡ refused n (view b) slice → (r : Said) → r ≡ record { number = n; count = 0 } → Ran b file slice r b slice
  stays n z e r q = subst (λ (a : Run). RanAs a b r b slice) (sym e) (record {
    number = ap (λ (y : Said). y.number) q;
    count = ap (λ (y : Said). y.count) q;
    words = W;
    seen = refl;
    slice = refl;
    refused = λ x. refl;
  })

  pub ran_no_file : file_ops file ≡ None → (r : Said) → r ≡ record { number = 23; count = 0 } → Ran b file slice r b slice
  ran_no_file e r q = stays 23 (λ z. omega arith) (none_run (view b) file slice e) r q

  module _ (list count : ℕ) (h : Listing file list count) where
    pub ran_small : length slice / 4 < count → (r : Said) → r ≡ record { number = 19; count = 0 } → Ran b file slice r b slice
    ran_small l r q = let n = h.many in stays 19 (λ z. omega arith) (small_run (view b) file slice h.ops h.whole (omega arith)) r q

    pub ran_all : count ≤ length slice / 4 → (b' : List ℕ) (slice' : List ℤ) → Answers b file slice b' slice' → Ran b file slice (record { number = 0; count = count }) b' slice'
    unfolding answered
    ran_all l b' slice' w =
        let n = h.many in
        let a = w h.ops h.whole in
        subst (λ (y : Run). RanAs y b (record { number = 0; count = count }) b' slice') (sym (whole_run (view b) file slice h.ops h.whole (omega arith))) (record {
          number = refl;
          count = n;
          words = a.words;
          seen = a.seen;
          slice = a.slices;
          refused = λ z. absurd (z refl);
        })

-- ---- on any words

module _ (b file : List ℕ) (slice : List ℤ) where
  pub any_no_file : file_ops file ≡ None → (r : Said) → r ≡ record { number = 23; count = 0 } → RanAny b file slice r b slice
  any_no_file e r q = subst (λ (o : Option (List Op)). RanOf o b file slice r b slice) (sym e) (record { is = q; words = refl; slices = refl })

  module _ (list count : ℕ) (h : Listing file list count) (r : Said) (b' : List ℕ) (slice' : List ℤ) where
    any_some : pick (sound_words b) (Ran b file slice r b' slice') (Refused 2 b slice r b' slice') → RanAny b file slice r b' slice'
    any_some p = subst (λ (o : Option (List Op)). RanOf o b file slice r b' slice') (sym h.whole) p

    pub any_sound : sound_words b ≡ true → Ran b file slice r b' slice' → RanAny b file slice r b' slice'
    any_sound s p = any_some (rw s p)

  pub any_broken : (list count : ℕ) (h : Listing file list count) → sound_words b ≡ false → (r : Said) → r ≡ record { number = 2; count = 0 } → RanAny b file slice r b slice
  any_broken list count h s r q = any_some list count h r b slice (rw s (record { is = q; words = refl; slices = refl }))
