-- What the words of a table say: a node without a parent starts a nest, a word names the outermost blossom, and two words tell that a node is under
-- another. Assumes nothing.
use Rattle.std.specs.Prelude.{None}
use Prim.Native.Nat.{ℕ, ◌+◌, ◌-◌, ◌/◌, ◌%◌, ◌<◌, ◌≤◌}
use mathlib.Core.Path.{◌≡◌, ap, sym, ◌∙◌, subst}
use mathlib.Core.List.{List}
use native.Mathlib.Omega.{arith}
use lib.ListN.{get_or, replicate, length-replicate, get_or-replicate}
use Rattle.bench_words.specs.Store.{node_at}
use Rattle.ledger_spec.specs.Bench.{Handle}
use Rattle.ledger_spec.specs.Look.{node_named}
use Rattle.ledger_spec.specs.Walk.{parent_in, outermost}
use Rattle.ledger_spec.proofs.Chains.{outer_free}
use Rattle.ledger_laws.specs.Clean.{Descends}
use Rattle.bench_views.specs.View.{view, handle_at}
use Rattle.bench_views.specs.Fit.{Fit}
use Rattle.bench_links.specs.Find.{spot, Stands, Held}
use Rattle.bench_links.proofs.Rising.{seen_some}
use Rattle.bench_vertices.specs.Under.{Placed}
use Rattle.bench_vertices.proofs.Circling.{standing}
use Rattle.bench_vertices.proofs.Named.{placed_at}
use Rattle.check_nests.specs.Nest.{Lies, outer, Noted, Nests}
use Rattle.check_nests.proofs.Lying.{lies_outer, lies_under}
use Rattle.check_nests.proofs.Filling.{size_seen}

-- nothing is noted yet
pub nests_fresh : (b : List ℕ) → Nests b (replicate 512 0)
nests_fresh b = record { long = length-replicate {A = ℕ} 512 0; noted = λ k l z. absurd (omega (arith, z, get_or-replicate {A = ℕ} 512 k 0 0 l)) }

-- a handle's position, and back
handle_back : (b : List ℕ) (h : Handle) → Stands b h → handle_at (node_at b) (spot h) ≡ h
handle_back b h S =
    let l = S.low in
    let u : spot h / 64 ≡ h.unit = omega arith in
    let s : spot h % 64 ≡ h.slot = omega arith in
    λ i. record { unit = u i; slot = s i; serial = S.serial i }

pub held_back : (b : List ℕ) (h : Handle) (k : ℕ) → Held b h k → handle_at (node_at b) k ≡ h
held_back b h k H = ap (handle_at (node_at b)) H.place ∙ handle_back b h H.stands

module _ (b : List ℕ) (F : Fit b) where
  -- ---- a node without a parent
  pub root_noted : (k : ℕ) → Placed b k → parent_in (node_named (view b) (handle_at (node_at b) k)) ≡ None → Noted b k (k + 1)
  root_noted k P f =
      let l = P.low in
      let e : (k + 1 - 1) % 512 ≡ k = omega arith in
      let z : (k + 1 - 1) / 512 ≡ 0 = omega arith in
      record {
        here = P;
        root = subst (Placed b) (sym e) P;
        lies = subst (λ (r : ℕ). Lies (view b) (handle_at (node_at b) r) (handle_at (node_at b) k) ((k + 1 - 1) / 512)) (sym e) (outer f z);
      }

  -- the outermost blossom is one
  pub record Root (o : Handle) : Type 0 where
    pub placed : Placed b (spot o)
    pub free : parent_in (node_named (view b) (handle_at (node_at b) (spot o))) ≡ None

  pub root_of : (h o : Handle) → Stands b h → Stands b o → o ≡ outermost (view b) h → Root o
  root_of h o S T e =
      let s = seen_some b h S in
      record {
        placed = placed_at b o T;
        free = ap (λ (g : Handle). parent_in (node_named (view b) g)) (handle_back b o T ∙ e) ∙ outer_free (view b) F.facts h s.0 s.1;
      }

  module _ (t : List ℕ) (N : Nests b t) where
    -- ---- a word is read
    pub outer_read : (k : ℕ) → k < 512 → 0 < get_or t k 0 → (g : Handle) → g ≡ handle_at (node_at b) ((get_or t k 0 - 1) % 512) → (g ≡ outermost (view b) (handle_at (node_at b) k)) × Stands b g
    outer_read k l z g e =
        let n = N.noted k l z in
        (e ∙ sym (lies_outer (view b) F.facts n.lies), subst (Stands b) (sym e) (standing b F ((get_or t k 0 - 1) % 512) n.root))

    -- ---- two words
    pub within : (m k : ℕ) → m < 512 → k < 512 → 0 < get_or t m 0 → get_or t m 0 ≤ get_or t k 0 → (get_or t k 0 - 1) % 512 ≡ (get_or t m 0 - 1) % 512 → (get_or t k 0 - 1) / 512 - (get_or t m 0 - 1) / 512 < (node_at b m).size
        → (node_at b k).serial.0 ≤ (node_at b m).serial.0 → Descends (view b) (handle_at (node_at b) m) (handle_at (node_at b) k)
    within m k i j z l e s o =
        let v = N.noted m i z in
        let w = N.noted k j (omega arith) in
        let n = seen_some b (handle_at (node_at b) k) (standing b F k w.here) in
        lies_under (view b) F.facts n.0 n.1 v.lies (subst (λ (r : ℕ). Lies (view b) (handle_at (node_at b) r) (handle_at (node_at b) k) ((get_or t k 0 - 1) / 512)) e w.lies)
        (omega (arith, l, z)) (omega (arith, l, z, s, size_seen b F m v.here)) o
