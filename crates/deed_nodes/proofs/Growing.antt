-- Growth: one interface's words change. Every T above which it stands grows with it, so the view grows; no class and no link changes. Assumes nothing.
use Prim.Native.Nat.{ℕ, ◌+◌, ◌-◌, ◌*◌, ◌<◌, ◌≤◌}
use mathlib.Core.Path.{◌≡◌, refl, ap₂, ◌∙◌, fun_ext}
use mathlib.Core.Bool.{false}
use mathlib.Core.List.{List}
use native.Mathlib.Omega.{arith}
use native.Mathlib.Nat.{mul-le-mul}
use lib.IntN.{pos}
use lib.ListN.{get_or}
use Rattle.bench_words.specs.Store.{node_at, interface_at, store_interface}
use Rattle.bench_words.proofs.Laws.{good_interface, interface_same, interface_other, store_interface_node}
use Rattle.bench_words.proofs.Maps.{store_interface_map}
use Rattle.bench_words.specs.declared.Node.{Node}
use Rattle.bench_words.specs.declared.Interface.{Interface}
use Rattle.ledger_spec.specs.Tests.{first}
use Rattle.ledger_spec.specs.Refuse.{grow_tests}
use Rattle.ledger_spec.specs.Deeds.{grow_by}
use Rattle.bench_views.specs.Records.{with_growth}
use Rattle.bench_views.specs.View.{view_in, view}
use Rattle.bench_views.specs.Fit.{Fit, Done}
use Rattle.bench_views.proofs.Offsets.{sum_grown}
use Rattle.bench_views.proofs.Sums.{sum_up_le}
use Rattle.bench_views.proofs.Views.{grow_view}
use Rattle.bench_views.proofs.Codes.{coded_interface}
use Rattle.bench_views.proofs.Ranges.{ranged}
use Rattle.deed_nodes.specs.Steps.{noted, Room}
use Rattle.deed_nodes.proofs.Needs.{Paced, open_top, open_paced, Growable, growable}
use Rattle.deed_nodes.proofs.Stores.{stored_part, stored_next, stored_steady}
use Rattle.deed_nodes.proofs.Keeps.{sim_self, canon_like, halves_kept}

module _ (b : List ℕ) (u l : ℕ) (F : Fit b) (G : Growable b u l) (lazy : (interface_at b u).marks.plain ≡ false) where
  abbrev f₀ : Interface
  f₀ = interface_at b u

  abbrev f₁ : Interface
  f₁ = with_growth f₀ (f₀.progress + l) (f₀.sum + l * f₀.speed - l * 1024)

  abbrev b₁ : List ℕ
  b₁ = store_interface b u f₁

  P : Paced f₀
  P = open_paced b F u G.root

  seen : view b₁ ≡ grow_by (view b) u (pos l)
  seen =
      let st = F.canon.steady in
      let lu = G.root.low in
      let good = good_interface b u in
      let same : node_at b₁ ≡ node_at b = fun_ext (store_interface_node b u f₁ st.len lu) in
      let low = P.low in
      let short = G.short in
      ap₂ (λ (m : ℕ) (A : ℕ → Node). view_in m (interface_at b₁) A) (stored_next b u f₁ st.len lu good) same
      ∙ grow_view (get_or b 0 0) (interface_at b) (interface_at b₁) (node_at b) u l f₁.sum lu (open_top b F u G.root) lazy (λ v lv. good_interface b v) st.rising
      (interface_same b u f₁ st.len lu good) (λ v lv ne. interface_other b u f₁ st.len lu v ne)
      (sum_grown 4611686018427387904 1024 f₀.sum l f₀.speed (omega arith))
      (λ v r lv lr p. omega (arith, (ranged b st F.within v r lv lr p).least, sum_up_le b st 8 v lv))

  done : Done b₁ (grow_by (view b) u (pos l))
  done =
      let C = F.canon in
      let st = C.steady in
      let lu = G.root.low in
      let good = good_interface b u in
      let h = halves_kept b b₁ C (λ v lv. stored_part b u f₁ st.len lu good (λ x. x.left) refl v) (λ v lv. stored_part b u f₁ st.len lu good (λ x. x.right) refl v) in
      record {
        canon = canon_like b b₁ C (stored_steady b u f₁ st.len lu good st (st.slots u lu) G.short refl) (coded_interface b u f₁ st.len lu good C.coded)
            (λ v lv. stored_part b u f₁ st.len lu good (λ x. x.marks.plain) refl v) (λ v lv. stored_part b u f₁ st.len lu good (λ x. x.used) refl v) h.0 h.1 (λ v lv. store_interface_map b u f₁ st.len lu v)
            (λ k. sim_self (store_interface_node b u f₁ st.len lu k)) (λ k e. store_interface_node b u f₁ st.len lu k);
        seen = seen;
      }

-- ---- as the code has it, from the passed tests
module _ (b : List ℕ) (u l : ℕ) (F : Fit b) (t : first (grow_tests (view b) u (pos l)) ≡ 0) where
  pub growth_low : u < 8
  growth_low = (growable b u l t).root.low

  pub growth_room : Room (interface_at b u) l
  growth_room =
      let G = growable b u l t in
      let P = open_paced b F u G.root in
      let short : l ≤ 1099511627776 = omega (arith, G.short) in
      record { progress = G.short; product = mul-le-mul short P.fast; low = P.low; high = P.high }

  pub growth_done : (interface_at b u).marks.plain ≡ false → {b' : List ℕ} → b' ≡ noted b u l → Done b' (grow_by (view b) u (pos l))
  unfolding noted
  growth_done z {b'} e = rw e (done b u l F (growable b u l t) z)
