-- A mark given: one interface stored with other marks, and every other part as it was. Assumes nothing.
use Prim.Native.Nat.{ℕ, ◌<◌}
use mathlib.Core.Path.{◌≡◌, refl, ap, ap₂, ◌∙◌, fun_ext}
use mathlib.Core.Bool.{Bool, true}
use mathlib.Core.List.{List}
use lib.ListN.{get_or}
use Rattle.bench_words.specs.Codec.{pick}
use Rattle.bench_words.specs.Store.{node_at, interface_at, store_interface, set_marks}
use Rattle.bench_words.proofs.Laws.{good_interface, interface_same, interface_other, store_interface_node}
use Rattle.bench_words.proofs.Maps.{store_interface_map}
use Rattle.bench_words.specs.declared.Node.{Node}
use Rattle.bench_words.specs.declared.Interface.{Interface}
use Rattle.bench_words.specs.declared.Marks.{Marks}
use Rattle.ledger_spec.specs.Bench.{Marking, with_mark, filling, floor}
use Rattle.ledger_spec.specs.Tests.{first}
use Rattle.ledger_spec.specs.Refuse.{mark_tests}
use Rattle.ledger_spec.specs.Deeds.{choose}
use Rattle.ledger_spec.proofs.Accepted.{mark_passed}
use Rattle.bench_views.specs.View.{marks_seen, lag_of, view_in, view}
use Rattle.bench_views.specs.Fit.{Fit, Done}
use Rattle.bench_views.proofs.Sums.{sum_up_same}
use Rattle.bench_views.proofs.Views.{choose_view}
use Rattle.bench_views.proofs.Codes.{coded_interface}
use Rattle.deed_nodes.proofs.Stores.{stored_part, stored_next, stored_steady}
use Rattle.deed_nodes.proofs.Keeps.{sim_self, canon_like, halves_kept}

module _ (b : List ℕ) (u : ℕ) (k : Marking) (m : Marks) (F : Fit b) (lu : u < 8) (with : marks_seen m ≡ with_mark k (marks_seen (interface_at b u).marks)) (same-engine : m.plain ≡ (interface_at b u).marks.plain) where
  abbrev f₁ : Interface
  f₁ = set_marks (interface_at b u) m

  abbrev b₁ : List ℕ
  b₁ = store_interface b u f₁

  part : {X : Type 0} (φ : Interface → X) → φ f₁ ≡ φ (interface_at b u) → (v : ℕ) → v < 8 → φ (interface_at b₁ v) ≡ φ (interface_at b v)
  part φ e v lv = stored_part b u f₁ F.canon.steady.len lu (good_interface b u) φ e v

  seen : view b₁ ≡ choose (view b) u k
  seen =
      let st = F.canon.steady in
      let good = good_interface b u in
      let same : node_at b₁ ≡ node_at b = fun_ext (store_interface_node b u f₁ st.len lu) in
      ap₂ (λ (n : ℕ) (A : ℕ → Node). view_in n (interface_at b₁) A) (stored_next b u f₁ st.len lu good) same
      ∙ choose_view (get_or b 0 0) (interface_at b) (interface_at b₁) (node_at b) u k m lu with same-engine
      (interface_same b u f₁ st.len lu good) (λ v lv ne. interface_other b u f₁ st.len lu v ne)
      (λ v lv. sum_up_same (interface_at b) (interface_at b₁) (λ w lw. good_interface b w) (part (λ x. x.parent) refl) (part (λ x. lag_of x) (ap (λ (p : Bool). pick p 0 (interface_at b u).progress) same-engine)) 8 v lv)

  done : Done b₁ (choose (view b) u k)
  done =
      let C = F.canon in
      let st = C.steady in
      let good = good_interface b u in
      let h = halves_kept b b₁ C (part (λ x. x.left) refl) (part (λ x. x.right) refl) in
      record {
        canon = canon_like b b₁ C (stored_steady b u f₁ st.len lu good st (st.slots u lu) (st.progress u lu) refl) (coded_interface b u f₁ st.len lu good C.coded)
            (part (λ x. x.marks.plain) same-engine) (part (λ x. x.used) refl) h.0 h.1 (λ v lv. store_interface_map b u f₁ st.len lu v)
            (λ k. sim_self (store_interface_node b u f₁ st.len lu k)) (λ k e. store_interface_node b u f₁ st.len lu k);
        seen = seen;
      }

-- ---- as the code has it, from the passed tests
module _ (b : List ℕ) (u : ℕ) (F : Fit b) (t : first (mark_tests (view b) u) ≡ 0) where
  pub mark_low : u < 8
  mark_low = (mark_passed (view b) u t).here.low

  pub filling_done : (U : Interface) {b' : List ℕ} → U ≡ interface_at b u → b' ≡ store_interface b u (set_marks U (record { fills = true; floored = U.marks.floored; plain = U.marks.plain })) → Done b' (choose (view b) u filling)
  filling_done U {b'} e e' =
      let m : Marks = record { fills = true; floored = (interface_at b u).marks.floored; plain = (interface_at b u).marks.plain } in
      let q : b' ≡ b₁ b u filling m F mark_low refl refl = simp (e', e) in
      rw q (done b u filling m F mark_low refl refl)

  pub floor_done : (U : Interface) {b' : List ℕ} → U ≡ interface_at b u → b' ≡ store_interface b u (set_marks U (record { fills = U.marks.fills; floored = true; plain = U.marks.plain })) → Done b' (choose (view b) u floor)
  floor_done U {b'} e e' =
      let m : Marks = record { fills = (interface_at b u).marks.fills; floored = true; plain = (interface_at b u).marks.plain } in
      let q : b' ≡ b₁ b u floor m F mark_low refl refl = simp (e', e) in
      rw q (done b u floor m F mark_low refl refl)
