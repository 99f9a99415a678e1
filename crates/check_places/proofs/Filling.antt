-- Numbers written one after the other, and interfaces' slots one after the other: what stands so far is right. Assumes nothing.
use Rattle.std.specs.Prelude.{None}
use Prim.Native.Nat.{ℕ, ◌+◌, ◌-◌, ◌*◌, ◌<◌, ◌≤◌}
use mathlib.Core.Path.{◌≡◌, refl, ap, sym, ◌∙◌, subst}
use mathlib.Core.Logic.{by_cases}
use mathlib.Core.List.{List}
use native.Mathlib.Decide.{ℕ_discrete, dec_lt}
use native.Mathlib.Omega.{arith}
use lib.ListN.{length, get_or, set, length-set}
use lib.Seq.{get_or-set_same, get_or-set_other}
use Rattle.bench_words.specs.Store.{interface_at}
use Rattle.bench_words.specs.declared.Interface.{Interface}
use Rattle.bench_views.specs.Fit.{Fit}
use Rattle.bench_orders.specs.declared.Order.{Order}
use Rattle.bench_orders.specs.Order.{Lists, AtIndex}
use Rattle.bench_orders.proofs.Counting.{slots_left, Counted, unit_low, used_small, at_more, count_on, count_ends, seek_ends}
use Rattle.check_places.specs.Places.{Filled, Places}

-- ---- one number more
module _ (was : List ℕ) (n from : ℕ) where
  pub filled_none : length was ≡ 512 → Filled was n from 0 was (n + 0)
  filled_none l = record { count = refl; long = l; old = λ j h. refl; new = λ j h. absurd (omega arith) }

  pub filled_more : (j : ℕ) (is : List ℕ) → n + j < 512 → Filled was n from j is (n + j) → Filled was n from (j + 1) (set is (n + j) (from + j)) (n + (j + 1))
  filled_more j is h F =
      let l = F.long in
      record {
        count = refl;
        long = length-set is (n + j) (from + j) ∙ F.long;
        old = λ i q. get_or-set_other is (n + j) i (from + j) 0 (λ e. omega arith) ∙ F.old i q;
        new = λ i q. by_cases (ℕ_discrete i j)
            (λ (e : i ≡ j). subst (λ (x : ℕ). get_or (set is (n + j) (from + j)) (n + x) 0 ≡ from + x) (sym e) (get_or-set_same is (n + j) (from + j) 0 (omega arith)))
            (λ (e : i ≡ j → ⊥). get_or-set_other is (n + j) (n + i) (from + j) 0 (λ z. e (omega arith)) ∙ F.new i (omega arith));
      }

-- ---- the slots of i interfaces stand there, and what is left of them comes after
pub record Listing (b : List ℕ) (unit i n : ℕ) (ps : List ℕ) : Type 0 where
  pub counted : Counted b unit i n
  pub long : length ps ≡ 512
  pub past : (r : ℕ) → get_or (slots_left b unit 0) (n + r) (0, 0, None) ≡ get_or (slots_left b unit i) r (0, 0, None)
  pub at : (k : ℕ) → k < n → AtIndex b unit k (get_or ps k 0)

pub listing_starts : (b : List ℕ) (unit : ℕ) (ps : List ℕ) → length ps ≡ 512 → Listing b unit 0 0 ps
listing_starts b unit ps l = record {
  counted = record { sum = omega arith; small = omega arith };
  long = l;
  past = λ r. let e : 0 + r ≡ r = omega arith in ap (λ (x : ℕ). get_or (slots_left b unit 0) x (0, 0, None)) e;
  at = λ k h. absurd (omega arith);
}

module _ (b : List ℕ) (F : Fit b) (unit : ℕ) (lu : unit < 8) (o : Order) (L : Lists b unit o) where
  module _ (i n : ℕ) (ps : List ℕ) (G : Listing b unit i n ps) (u : ℕ) (l : i < o.count) (e : u ≡ get_or o.units i 0) (f : Interface) (g : f ≡ interface_at b u) where
    pub room : n + f.used ≤ 512
    room = omega (arith, used_small b F unit lu o L i u l e f g, G.counted.small, L.few)

    pub reach : u * 64 + f.used ≤ 512
    reach = omega (arith, used_small b F unit lu o L i u l e f g, unit_low b F unit lu o L i u l e)

    pub listing_on : (qs : List ℕ) (r : ℕ) → Filled ps n (u * 64) f.used qs r → Listing b unit (i + 1) r qs
    listing_on qs r W =
        let C : Counted b unit (i + 1) (n + f.used) = count_on b F unit lu o L i u l e f g n G.counted in
        record {
          counted = rw W.count C;
          long = W.long;
          past = λ s.
              let x : r + s ≡ n + (f.used + s) = omega (arith, W.count) in
              let y : f.used + s - f.used ≡ s = omega arith in
              ap (λ (z : ℕ). get_or (slots_left b unit 0) z (0, 0, None)) x ∙ G.past (f.used + s)
              ∙ at_more b F unit lu o L i u l e f g (f.used + s) (omega arith) ∙ ap (λ (z : ℕ). get_or (slots_left b unit (i + 1)) z (0, 0, None)) y;
          at = λ k h. by_cases (dec_lt k n)
              (λ (q : k < n). rw (W.old k q) (G.at k q))
              (λ (q : k < n → ⊥). new k (omega (arith, W.count, h)) (omega arith));
        }
      where
        new : (k : ℕ) → k < n + f.used → n ≤ k → AtIndex b unit k (get_or qs k 0)
        new k h q =
            let s : n + (k - n) ≡ k = omega arith in
            subst (λ (x : ℕ). AtIndex b unit x (get_or qs x 0)) s
            (seek_ends b F unit lu o L i u l e f g (n + (k - n)) (k - n) (get_or qs (n + (k - n)) 0)
            (record { at = G.past (k - n); count = omega (arith, G.counted.sum) }) (omega arith) (W.new (k - n) (omega arith)))

  pub listing_ends : (i n : ℕ) (ps : List ℕ) → i ≡ o.count → Listing b unit i n ps → Places b unit ps n
  listing_ends i n ps l G = record {
    count = count_ends b F unit lu o L i n (omega arith) G.counted;
    few = omega (arith, G.counted.small, L.few);
    long = G.long;
    at = G.at;
  }
