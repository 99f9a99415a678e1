-- Members laid one by one: their serials in front of one slice, their pairs' in front of the other. Assumes nothing.
use Prim.Native.Nat.{ℕ, zero, suc, ◌+◌, ◌*◌, ◌≤◌, ◌<◌}
use native.Mathlib.Omega.{arith}
use mathlib.Core.Path.{◌≡◌, refl, sym, ◌∙◌, ap}
use mathlib.Core.List.{List, [], ◌∷◌, ◌++◌, map, append_assoc}
use lib.ListN.{length, take, set, length-set}
use lib.Seq.{take-suc-set}
use Rattle.record_spec.specs.Operations.{Member, serial_of}
use Rattle.record_spec.specs.Places.{at}
use Rattle.record_measures.specs.Measures.{member_at, members_at}
use Rattle.record_calls.specs.Done.{touches, Laid}

-- ---- one more at the end

members_more : (i : ℕ) (s : List ℕ) (q : ℕ) → members_at (suc i) s q ≡ members_at i s q ++ (member_at s (q + 12 * i) ∷ [])
unfolding members_at
members_more zero s q = let e : q ≡ q + 12 * 0 = omega arith in ap (λ (p : ℕ). member_at s p ∷ []) e
members_more (suc i) s q =
    let e : q + 12 + 12 * i ≡ q + 12 * suc i = omega arith in
    ap (λ (l : List Member). member_at s q ∷ l) (members_more i s (q + 12) ∙ ap (λ (p : ℕ). members_at i s (q + 12) ++ (member_at s p ∷ [])) e)

serials_more : (ms : List Member) (m : Member) → map serial_of (ms ++ (m ∷ [])) ≡ map serial_of ms ++ (m.serial ∷ [])
serials_more [] m = refl
serials_more (x ∷ ms) m = ap (λ (l : List ℕ). x.serial ∷ l) (serials_more ms m)

touches_more : (ms : List Member) (m : Member) → touches (ms ++ (m ∷ [])) ≡ touches ms ++ (m.first ∷ m.second ∷ [])
unfolding touches
touches_more [] m = refl
touches_more (x ∷ ms) m = ap (λ (l : List ℕ). x.first ∷ x.second ∷ l) (touches_more ms m)

-- ---- the loop

pub record Laying (s : List ℕ) (q n : ℕ) (ms₀ ts₀ ms ts : List ℕ) (i : ℕ) : Type 0 where
  pub low : i ≤ n
  pub long : length ms ≡ length ms₀
  pub wide : length ts ≡ length ts₀
  pub serials : take i ms ≡ map serial_of (members_at i s q)
  pub pairs : take (2 * i) ts ≡ touches (members_at i s q)

pub laying : (s : List ℕ) (q n : ℕ) (ms ts : List ℕ) → Laying s q n ms ts ms ts 0
unfolding members_at touches
laying s q n ms ts = record { low = omega arith; long = refl; wide = refl; serials = refl; pairs = refl }

module _ (s : List ℕ) (q n : ℕ) (ms₀ ts₀ ms ts : List ℕ) (i : ℕ) (l : Laying s q n ms₀ ts₀ ms ts i) where
  pub laid_one : i < n → n ≤ length ms₀ → 2 * n ≤ length ts₀ → (k a c : ℕ) → k ≡ at 4 s (q + 12 * i) → a ≡ at 4 s (q + 12 * i + 4) → c ≡ at 4 s (q + 12 * i + 8)
      → Laying s q n ms₀ ts₀ (set ms i k) (set (set ts (2 * i) a) (2 * i + 1) c) (i + 1)
  laid_one h f g k a c k' a' c' =
      let m = member_at s (q + 12 * i) in
      let one : i + 1 ≡ suc i = omega arith in
      let two : 2 * suc i ≡ suc (suc (2 * i)) = omega arith in
      let odd : 2 * i + 1 ≡ suc (2 * i) = omega arith in
      record {
        low = omega arith;
        long = length-set ms i k ∙ l.long;
        wide = length-set (set ts (2 * i) a) (2 * i + 1) c ∙ length-set ts (2 * i) a ∙ l.wide;
        serials =
            ap (λ (j : ℕ). take j (set ms i k)) one
            ∙ take-suc-set ms i k (omega (arith, l.long))
            ∙ (λ j. l.serials j ++ (k' j ∷ []))
            ∙ sym (serials_more (members_at i s q) m)
            ∙ ap (map serial_of) (sym (members_more i s q))
            ∙ ap (λ (j : ℕ). map serial_of (members_at j s q)) (sym one);
        pairs =
            (λ j. take ((ap (λ (v : ℕ). 2 * v) one ∙ two) j) (set (set ts (2 * i) a) (odd j) c))
            ∙ take-suc-set (set ts (2 * i) a) (suc (2 * i)) c (omega (arith, l.wide, length-set ts (2 * i) a))
            ∙ ap (λ (v : List ℕ). v ++ (c ∷ [])) (take-suc-set ts (2 * i) a (omega (arith, l.wide)))
            ∙ append_assoc (take (2 * i) ts) (a ∷ []) (c ∷ [])
            ∙ (λ j. l.pairs j ++ (a' j ∷ c' j ∷ []))
            ∙ sym (touches_more (members_at i s q) m)
            ∙ ap touches (sym (members_more i s q))
            ∙ ap (λ (j : ℕ). touches (members_at j s q)) (sym one);
      }

  pub laid_all : n ≤ i → Laid (members_at n s q) n ms₀ ts₀ ms ts
  laid_all h =
      let e : n ≡ i = omega (arith, l.low) in
      record {
        long = l.long;
        wide = l.wide;
        serials = ap (λ (j : ℕ). take j ms) e ∙ l.serials ∙ ap (λ (j : ℕ). map serial_of (members_at j s q)) (sym e);
        pairs = ap (λ (j : ℕ). take (2 * j) ts) e ∙ l.pairs ∙ ap (λ (j : ℕ). touches (members_at j s q)) (sym e);
      }
