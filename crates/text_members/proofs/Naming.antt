-- What a search finds for a serial, as a packed handle. A serial past 32 bits was never given out. Assumes nothing.
use Rattle.std.specs.Prelude.{None, Some}
use Prim.Native.Nat.{ℕ, ◌+◌, ◌/◌, ◌%◌, ◌<◌, ◌≤◌}
use mathlib.Core.Path.{◌≡◌, refl, sym, ◌∙◌, ap, subst, subst₂}
use mathlib.Core.Logic.{inl, inr, by_cases}
use mathlib.Core.List.{List, ◌++◌}
use native.Mathlib.Omega.{arith}
use native.Mathlib.Decide.{ℕ_discrete}
use lib.ListN.{length, get_or, set, take, drop, length-set, length-append, length-drop, get_or-append}
use lib.Seq.{get_or-set_same, get_or-set_other, get_or-take, length-take-le}
use Rattle.kinds.specs.declared.Handle.{Handle}
use Rattle.bench_words.specs.Codec.{handle_of, handle_word}
use Rattle.bench_words.proofs.Laws.{handle_back}
use Rattle.ledger_spec.specs.Bench.{Bench}
use Rattle.ledger_spec.specs.Look.{node_named}
use Rattle.ledger_spec.specs.Named.{handle_named}
use Rattle.bench_views.specs.View.{view}
use Rattle.bench_views.specs.Fit.{SoundWords}
use Rattle.bench_views.proofs.Fits.{fit_of}
use Rattle.bench_links.proofs.Finding.{out_unit}
use Rattle.bench_views.specs.Given.{nowhere, hand_given}
use Rattle.deed_circles.proofs.Givens.{given_fine}
use Rattle.bench_serials.specs.Seek.{Seeks}
use Rattle.bench_serials.proofs.Scanning.{not_yet, seeks_none}
use Rattle.text_members.specs.Names.{Names, AllNamed}

nobody_given : hand_given 2199023255552 ≡ nowhere
unfolding hand_given
nobody_given = refl

module _ (b : List ℕ) (W : SoundWords b) (k : ℕ) where
  -- no node has the serial
  pub names_none : Seeks b k None → Names (view b) k 2199023255552
  names_none s = inr (
    ap (node_named (view b)) nobody_given ∙ out_unit b nowhere (omega arith),
    ap (node_named (view b)) (sym s.same) ∙ s.finds,
  )

  pub names_late : 4294967295 < k → Names (view b) k 2199023255552
  names_late l =
      let F = fit_of b W in
      names_none (seeks_none b k F (not_yet b k F (omega (arith, F.next))))

  pub names_at : k ≤ 4294967295 → (p : ℕ) → Seeks b k (Some p) → (w : ℕ) → w ≡ handle_word (record { unit = p / 64; slot = p % 64; serial = record { 0 = k } }) → Names (view b) k w
  names_at l p s w q =
      let m = s.finds.low in
      let low : p / 64 < 8 = omega arith in
      let slot : p % 64 < 64 = omega arith in
      let h : Handle = record { unit = p / 64; slot = p % 64; serial = record { 0 = k } } in
      inl (given_fine w (omega arith) ∙ ap (λ (v : ℕ). handle_named (handle_of v)) q ∙ ap handle_named (handle_back h (low, slot, omega arith)) ∙ s.same)

-- ---- one serial after the other: the first i words name what their serials did, the others are serials yet

pub record Passed (b : Bench) (ks ws : List ℕ) (i : ℕ) : Type 0 where
  pub long : length ws ≡ length ks
  pub done : (j : ℕ) → j < i → Names b (get_or ks j 0) (get_or ws j 0)
  pub kept : (j : ℕ) → i ≤ j → get_or ws j 0 ≡ get_or ks j 0

pub passed_none : (b : Bench) (ks : List ℕ) → Passed b ks ks 0
passed_none b ks = record { long = refl; done = λ j l. absurd (omega arith); kept = λ j l. refl }

pub passed_one : (b : Bench) (ks ws : List ℕ) (i : ℕ) → Passed b ks ws i → i < length ks → (w : ℕ) → Names b (get_or ws i 0) w
    → Passed b ks (set ws i w) (i + 1)
passed_one b ks ws i p l w a = record {
  long = length-set ws i w ∙ p.long;
  done = λ j m. by_cases (ℕ_discrete j i)
      (λ (q : j ≡ i). subst₂ (Names b)
      (ap (λ (x : ℕ). get_or ws x 0) (sym q) ∙ p.kept j (omega arith))
      (sym (ap (λ (x : ℕ). get_or (set ws i w) x 0) q ∙ get_or-set_same ws i w 0 (omega (arith, p.long)))) a)
      (λ (q : j ≡ i → ⊥). subst (Names b (get_or ks j 0)) (sym (get_or-set_other ws i j w 0 q)) (p.done j (omega arith)));
  kept = λ j m. get_or-set_other ws i j w 0 (λ e. omega arith) ∙ p.kept j (omega arith);
}

-- the serials that were passed stand in front of others, which stay
pub passed_all : (b : Bench) (ks ws : List ℕ) (n i : ℕ) → n ≤ length ks → Passed b (take n ks) ws i → length (take n ks) ≤ i → AllNamed b n ks (ws ++ drop n ks)
passed_all b ks ws n i h p l =
    let k = length-take-le n ks h in
    record {
      long = omega (arith, length-append ws (drop n ks), length-drop n ks, p.long);
      each = λ j m. subst₂ (Names b) (get_or-take n ks j 0 m) (sym (get_or-append ws (drop n ks) 0 j (omega (arith, p.long)))) (p.done j (omega arith));
    }
