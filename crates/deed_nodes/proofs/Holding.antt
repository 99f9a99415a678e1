-- Growth in the plain engine: no T changes, every node of the tree is raised, and no class and no link changes. Assumes nothing.
use Prim.Native.Nat.{ℕ, ◌+◌, ◌-◌, ◌*◌, ◌/◌, ◌<◌, ◌≤◌}
use mathlib.Core.Path.{◌≡◌, refl, ap, sym, ◌∙◌}
use mathlib.Core.Bool.{Bool, true, false}
use mathlib.Core.List.{List}
use native.Mathlib.Decide.{dec_lt}
use native.Mathlib.Omega.{arith}
use lib.Dec.{eqb}
use borrow.Author.Tests.{eq-eqb, ne_eqb}
use lib.IntN.{pos}
use lib.ListN.{get_or}
use Rattle.kinds.specs.declared.GrowState.{GrowState}
use Rattle.kinds.specs.declared.GrowState.TheVariants.{Grow as Growing, Stay, Shrink}
use Rattle.kinds.specs.declared.Class.{Class}
use Rattle.kinds.specs.declared.Class.TheVariants.{Absent, Blossom, Defect}
use Rattle.bench_words.specs.Codec.{pick}
use Rattle.bench_words.specs.Store.{node_at, interface_at, store_interface}
use Rattle.bench_words.proofs.Laws.{good_interface, interface_same, interface_other, store_interface_node}
use Rattle.bench_words.proofs.Maps.{store_interface_map}
use Rattle.bench_words.specs.declared.Node.{Node}
use Rattle.bench_words.specs.declared.Interface.{Interface}
use Rattle.ledger_spec.specs.Tests.{first}
use Rattle.ledger_spec.specs.Look.{climb}
use Rattle.ledger_spec.specs.Refuse.{grow_tests}
use Rattle.ledger_spec.specs.Deeds.{grow_by}
use Rattle.bench_views.specs.Records.{with_growth, no_node}
use Rattle.bench_views.specs.View.{view_in, view, raised, circle_of}
use Rattle.bench_views.specs.Fit.{Fit, Done}
use Rattle.bench_views.proofs.Offsets.{sum_grown}
use Rattle.bench_views.proofs.Sums.{sum_up_le}
use Rattle.bench_views.proofs.Views.{held_view}
use Rattle.bench_views.proofs.Codes.{coded_interface}
use Rattle.bench_views.proofs.Circles.{circle_same}
use Rattle.bench_views.proofs.Ranges.{ranged}
use Rattle.deed_raises.specs.Raises.{Movable, TreeMovable, Raised}
use Rattle.deed_nodes.specs.Steps.{noted}
use Rattle.deed_nodes.proofs.Needs.{Paced, open_paced, Growable, growable}
use Rattle.deed_nodes.proofs.Stores.{stored_part, stored_next, stored_steady}
use Rattle.deed_nodes.proofs.Keeps.{canon_like, halves_kept}

stay_grow : {g : GrowState} → g ≡ Stay → g ≡ Growing → ⊥
stay_grow p q = let z : Stay ≡ Growing = sym p ∙ q in let z2 : ◌≡◌ {A = ℕ} 0 1 = cc in omega arith

stay_shrink : {g : GrowState} → g ≡ Stay → g ≡ Shrink → ⊥
stay_shrink p q = let z : Stay ≡ Shrink = sym p ∙ q in let z2 : ◌≡◌ {A = ℕ} 0 1 = cc in omega arith

not_absent_b : {c : Class} → c ≡ Blossom → c ≡ Absent → ⊥
not_absent_b p q = let z : Blossom ≡ Absent = sym p ∙ q in let z2 : ◌≡◌ {A = ℕ} 0 1 = cc in omega arith

pub movable : (b : List ℕ) (l : ℕ) → Fit b → l ≤ 1099511627776 → TreeMovable b l
movable b l F short v lv s ls = go (node_at b k).class refl
  where
    k : ℕ
    k = v * 64 + s

    present : ((node_at b k).class ≡ Absent → ⊥) → Movable (node_at b k).state (node_at b k).bias l
    present p =
        let x = ranged b F.canon.steady F.within v s lv ls p in
        record { up = λ e. omega (arith, x.most); down = λ e. omega (arith, x.least) }

    go : (c : Class) → (node_at b k).class ≡ c → Movable (node_at b k).state (node_at b k).bias l
    go Absent e =
        let g : (node_at b k).state ≡ Stay = ap (λ (n : Node). n.state) (F.canon.empty k (omega (arith, F.canon.steady.slots v lv)) e) in
        record { up = λ q. absurd (stay_grow g q); down = λ q. absurd (stay_shrink g q) }
    go Blossom e = present (not_absent_b e)
    go (Defect v) e = present (λ a. let z : Absent ≡ Defect v = sym a ∙ e in let z2 : ◌≡◌ {A = ℕ} 0 1 = cc in omega arith)

module _ (b : List ℕ) (u l : ℕ) (F : Fit b) (G : Growable b u l) (held : (interface_at b u).marks.plain ≡ true) (b₁ : List ℕ) (R : Raised b u l b₁ 512) where
  abbrev f₀ : Interface
  f₀ = interface_at b u

  abbrev f₁ : Interface
  f₁ = with_growth f₀ (f₀.progress + l) (f₀.sum + l * f₀.speed - l * 1024)

  abbrev b₂ : List ℕ
  b₂ = store_interface b₁ u f₁

  P : Paced f₀
  P = open_paced b F u G.root

  node_now : (k : ℕ) → node_at b₂ k ≡ node_at b₁ k
  node_now k = store_interface_node b₁ u f₁ R.steady.len G.root.low k

  -- what raising leaves
  part : {X : Type 0} (φ : Node → X) → ((n : Node) → φ (raised l n) ≡ φ n) → (k : ℕ) → φ (node_at b₂ k) ≡ φ (node_at b k)
  part φ e k = ap φ (node_now k) ∙ go (dec_lt k 512)
    where
      both : (c : Bool) → φ (pick c (raised l (node_at b k)) (node_at b k)) ≡ φ (node_at b k)
      both true = e (node_at b k)
      both false = refl

      go : Dec (k < 512) → φ (node_at b₁ k) ≡ φ (node_at b k)
      go (yes lk) = ap φ (R.done k lk) ∙ both (eqb (climb 8 (view b) (k / 64)) u)
      go (no q) = ap φ (R.kept k (omega (arith, q)))

  circles : (k : ℕ) → circle_of (node_at b₂) k ≡ circle_of (node_at b) k
  circles k = circle_same (node_at b) (node_at b₂) k (part (λ n. n.count) (λ n. refl) k) (part (λ n. n.first) (λ n. refl) k)
      (λ p i. record { serial = part (λ n. n.serial) (λ n. refl) p; next = part (λ n. n.next) (λ n. refl) p; left = part (λ n. n.left) (λ n. refl) p; right = part (λ n. n.right) (λ n. refl) p })

  at : (v r : ℕ) → v < 8 → r < (interface_at b v).used → node_at b₂ (v * 64 + r) ≡ pick (eqb (climb 8 (view b) v) u) (raised l (node_at b (v * 64 + r))) (node_at b (v * 64 + r))
  at v r lv lr =
      let few = F.canon.steady.slots v lv in
      let z : (v * 64 + r) / 64 ≡ v = omega arith in
      node_now (v * 64 + r) ∙ R.done (v * 64 + r) (omega arith) ∙ ap (λ (w : ℕ). pick (eqb (climb 8 (view b) w) u) (raised l (node_at b (v * 64 + r))) (node_at b (v * 64 + r))) z

  seen : view b₂ ≡ grow_by (view b) u (pos l)
  seen =
      let st = F.canon.steady in
      let lu = G.root.low in
      let len = R.steady.len in
      let good = good_interface b u in
      let low = P.low in
      let short = G.short in
      ap (λ (m : ℕ). view_in m (interface_at b₂) (node_at b₂)) (stored_next b₁ u f₁ len lu good ∙ R.next)
      ∙ held_view (get_or b 0 0) (interface_at b) (interface_at b₂) (node_at b) (node_at b₂) u l f₁.sum lu held (λ v lv. good_interface b v)
      (interface_same b₁ u f₁ len lu good) (λ v lv ne. interface_other b₁ u f₁ len lu v ne ∙ R.interfaces v lv)
      (sum_grown 4611686018427387904 1024 f₀.sum l f₀.speed (omega arith))
      (λ v r lv lr p. omega (arith, (ranged b st F.within v r lv lr p).least, sum_up_le b st 8 v lv))
      circles
      (λ v r lv lr e. at v r lv lr ∙ ap (λ (c : Bool). pick c (raised l (node_at b (v * 64 + r))) (node_at b (v * 64 + r))) (eq-eqb (climb 8 (view b) v) u e))
      (λ v r lv lr ne. at v r lv lr ∙ ap (λ (c : Bool). pick c (raised l (node_at b (v * 64 + r))) (node_at b (v * 64 + r))) (ne_eqb (climb 8 (view b) v) u ne))

  keeps : (k : ℕ) → (node_at b k).class ≡ Absent → node_at b₂ k ≡ node_at b k
  keeps k e = node_now k ∙ go (dec_lt k 512)
    where
      both : (c : Bool) → node_at b k ≡ no_node → pick c (raised l (node_at b k)) (node_at b k) ≡ node_at b k
      both true q = rw q
      both false q = refl

      go : Dec (k < 512) → node_at b₁ k ≡ node_at b k
      go (yes lk) = R.done k lk ∙ both (eqb (climb 8 (view b) (k / 64)) u) (F.canon.empty k lk e)
      go (no q) = R.kept k (omega (arith, q))

  units : {X : Type 0} (φ : Interface → X) → φ f₁ ≡ φ f₀ → (v : ℕ) → v < 8 → φ (interface_at b₂ v) ≡ φ (interface_at b v)
  units φ e v lv =
      let lu = G.root.low in
      stored_part b₁ u f₁ R.steady.len lu (good_interface b u) φ (e ∙ ap φ (sym (R.interfaces u lu))) v ∙ ap φ (R.interfaces v lv)

  pub held_done : Done b₂ (grow_by (view b) u (pos l))
  held_done =
      let C = F.canon in
      let st = C.steady in
      let lu = G.root.low in
      let len = R.steady.len in
      let good = good_interface b u in
      let h = halves_kept b b₂ C (units (λ x. x.left) refl) (units (λ x. x.right) refl) in
      record {
        canon = canon_like b b₂ C
            (stored_steady b₁ u f₁ len lu good R.steady (st.slots u lu) G.short (ap (λ (x : Interface). x.parent) (sym (R.interfaces u lu))))
            (coded_interface b₁ u f₁ len lu good R.coded)
            (units (λ x. x.marks.plain) refl) (units (λ x. x.used) refl) h.0 h.1 (λ v lv. store_interface_map b₁ u f₁ len lu v ∙ R.maps v lv)
            (λ k. record {
              class = part (λ n. n.class) (λ n. refl) k;
              parent = part (λ n. n.parent) (λ n. refl) k;
              place = part (λ n. n.place) (λ n. refl) k;
              next = part (λ n. n.next) (λ n. refl) k;
              left = part (λ n. n.left) (λ n. refl) k;
              right = part (λ n. n.right) (λ n. refl) k;
              first = part (λ n. n.first) (λ n. refl) k;
              count = part (λ n. n.count) (λ n. refl) k;
            }) keeps;
        seen = seen;
      }

-- ---- as the code has it
module _ (b : List ℕ) (u l : ℕ) (F : Fit b) (t : first (grow_tests (view b) u (pos l)) ≡ 0) where
  pub held_movable : TreeMovable b l
  held_movable = movable b l F (omega (arith, (growable b u l t).short))

  pub held_growth : (interface_at b u).marks.plain ≡ true → {b₁ b' : List ℕ} → Raised b u l b₁ 512 → b' ≡ noted b₁ u l → Done b' (grow_by (view b) u (pos l))
  unfolding noted
  held_growth z {b₁} {b'} R e =
      let G = growable b u l t in
      let q : b' ≡ b₂ b u l F G z b₁ R = e ∙ ap (λ (f : Interface). store_interface b₁ u (with_growth f (f.progress + l) (f.sum + l * f.speed - l * 1024))) (R.interfaces u G.root.low) in
      rw q (held_done b u l F G z b₁ R)
