-- A blossom's line by its first 65 serials: fewer are all of them, and with 65 it is refused whatever they are. Assumes nothing.
use Rattle.std.specs.Prelude.{Some}
use Prim.Native.Nat.{ℕ, ◌≤◌, ◌<◌}
use mathlib.Core.Path.{◌≡◌, refl, sym, ◌∙◌, ap}
use mathlib.Core.Logic.{by_cases}
use mathlib.Core.List.{List, [], map}
use native.Mathlib.Decide.{dec_lt}
use native.Mathlib.Omega.{arith}
use lib.ListN.{length, take}
use lib.Seq.{take_all}
use Rattle.kinds.specs.declared.Handle.{Handle}
use Rattle.ledger_spec.specs.Bench.{Bench}
use Rattle.ledger_spec.specs.Calls.{Blossom}
use Rattle.ledger_spec.specs.Operations.{B}
use Rattle.ledger_spec.specs.Lines.{named, says, shown}
use Rattle.bench_views.specs.View.{view}
use Rattle.bench_views.specs.Fit.{SoundWords}
use Rattle.outcomes.specs.Answered.{Answered}
use Rattle.deed_circles.specs.Given.{hands_given, pairs_given}
use Rattle.text_members.specs.Names.{AllNamed}
use Rattle.text_members.proofs.Circles.{same_blossom}
use Rattle.text_chunks.proofs.Circles.{first_65}
use Rattle.text_numbers.specs.declared.Reply.{Reply}
use Rattle.text_numbers.specs.Numbers.{numbers_of}
use Rattle.text_calls.specs.Turned.{Few, TurnedBlossom}
use Rattle.text_calls.proofs.Turning.{turned}

front_says : (b : Bench) (u : ℕ) (ks : List ℕ) (n : ℕ) → Few (length ks) n → says b (Some (B u ks)) ≡ says b (Some (B u (take n ks)))
front_says b u ks n f = by_cases (dec_lt 64 (length ks))
    (λ (l : 64 < length ks). first_65 b u ks l ∙ ap (λ (m : ℕ). says b (Some (B u (take m ks)))) (sym (f.many l)))
    (λ (l : 64 < length ks → ⊥). ap (λ (js : List ℕ). says b (Some (B u js))) (sym (take_all n ks (omega (arith, f.all (omega arith))))))

pub few_low : (count n : ℕ) → Few count n → n ≤ count
few_low count n f = by_cases (dec_lt 64 count) (λ (l : 64 < count). omega (arith, f.many l)) (λ (l : 64 < count → ⊥). omega (arith, f.all (omega arith)))

no_pairs : pairs_given [] ≡ []
unfolding pairs_given
no_pairs = refl

pub turned_blossom : (b : List ℕ) → SoundWords b → (u : ℕ) (stored : List ℕ) (count : ℕ) → 65 ≤ length stored
    → (n : ℕ) → Few count n → (ws : List ℕ) → AllNamed (view b) n stored ws
    → (m : ℕ) (h : Handle) (b' : List ℕ) → Answered b (Blossom u (hands_given (take n ws)) (pairs_given [])) m h b'
    → (r : Reply) → numbers_of r ≡ shown m h.serial.0 (view b') u → TurnedBlossom b u stored count r b'
unfolding says
turned_blossom b W u stored count long n f ws a m h b' A r t ks c front =
    let e : take n stored ≡ take n ks = front n f.most (few_low count n f) in
    turned b W (Some (B u ks)) u (Blossom u (map (named (view b)) (take n stored)) [])
    (front_says (view b) u ks n (rw c f) ∙ ap (λ (js : List ℕ). says (view b) (Some (B u js))) (sym e))
    (Blossom u (hands_given (take n ws)) (pairs_given []))
    (rw no_pairs (same_blossom (view b) u n stored ws (omega (arith, f.most)) a))
    m h b' A r t
