-- Slots emptied one by one, and an interface reset: each turn stores one empty node, and the other words stay. Assumes nothing.
use Rattle.std.specs.Prelude.{None, Option, Some}
use Prim.Native.Nat.{ℕ, ◌+◌, ◌*◌, ◌<◌}
use mathlib.Core.Path.{◌≡◌, refl, ap, sym, ◌∙◌}
use mathlib.Core.Logic.{by_cases}
use mathlib.Core.List.{List}
use native.Mathlib.Decide.{ℕ_discrete}
use native.Mathlib.Omega.{arith}
use Rattle.bench_words.specs.Store.{interface_at, store_node, store_interface, store_map, no_interface}
use Rattle.bench_words.proofs.Laws.{Good, load_same, load_other, store_node_interface, interface_same, interface_other, store_interface_node, length_store_interface}
use Rattle.bench_words.proofs.Maps.{map_same, map_other, store_map_interface, store_map_node, store_node_map, store_interface_map}
use Rattle.bench_words.specs.declared.Node.{Node}
use Rattle.bench_words.specs.declared.Interface.{Interface}
use Rattle.bench_views.specs.Records.{Steady, no_node}
use Rattle.bench_views.specs.Canon.{Coded}
use Rattle.bench_views.proofs.Codes.{coded_node, coded_interface, coded_map}
use Rattle.deed_raises.proofs.Kept.{node_steady}
use Rattle.deed_nodes.proofs.Stores.{node_next, map_next, map_steady, stored_next}
use Rattle.deed_trees.specs.Empty.{Emptied, Reset}

good_none : Good no_node
good_none = record { serial = omega arith; class = tt; parent = tt; left = (omega arith, omega arith, omega arith); right = (omega arith, omega arith, omega arith) }

pub emptied_none : (b : List ℕ) (u : ℕ) → Steady b → Coded b → Emptied b u b 0
emptied_none b u st co = record { steady = st; coded = co; next = refl; interfaces = λ v l. refl; maps = λ v l. refl; gone = λ s l. absurd (omega arith); kept = λ k off. refl }

pub emptied_more : (b : List ℕ) (u : ℕ) (b₁ b₂ : List ℕ) (n : ℕ) (e : Node) → Emptied b u b₁ n → u < 8 → n < 64 → e ≡ no_node → b₂ ≡ store_node b₁ (u * 64 + n) e → Emptied b u b₂ (n + 1)
emptied_more b u b₁ b₂ n e E lu ln ee e₂ =
    let k = u * 64 + n in
    let lk : k < 512 = omega arith in
    let len = E.steady.len in
    let q : b₂ ≡ store_node b₁ k no_node = e₂ ∙ ap (store_node b₁ k) ee in
    rw q
    (record {
      steady = node_steady b₁ k no_node lk E.steady;
      coded = coded_node b₁ k no_node len lk good_none E.coded;
      next = node_next b₁ k no_node lk good_none len ∙ E.next;
      interfaces = λ v lv. store_node_interface b₁ k no_node len lk v lv ∙ E.interfaces v lv;
      maps = λ v lv. store_node_map b₁ k no_node len lk v lv ∙ E.maps v lv;
      gone = λ s l. by_cases (ℕ_discrete s n)
          (λ (z : s ≡ n). rw z (load_same b₁ k no_node len lk good_none))
          (λ (ne : s ≡ n → ⊥). load_other b₁ k no_node len lk (u * 64 + s) (λ z. ne (omega arith)) ∙ E.gone s (omega arith));
      kept = λ j off. load_other b₁ k no_node len lk j (off n (omega arith)) ∙ E.kept j (λ s l. off s (omega arith));
    })

pub emptied_all : {b : List ℕ} {u : ℕ} {b₁ : List ℕ} {n m : ℕ} → Emptied b u b₁ n → n ≡ m → Emptied b u b₁ m
emptied_all E e = rw (← e) E

pub reset_by : (b : List ℕ) (u : ℕ) (U : Interface) {b₁ b₂ b₃ : List ℕ} {f : Interface} → u < 8 → U ≡ interface_at b u → Emptied b u b₁ U.used → b₂ ≡ store_map b₁ u 0 → f ≡ no_interface U.marks.plain → b₃ ≡ store_interface b₂ u f → Reset b u b₃
reset_by b u U {b₁} {b₂} {b₃} lu eU E e₂ ef e₃ =
    let none = no_interface (interface_at b u).marks.plain in
    let q : b₃ ≡ store_interface (store_map b₁ u 0) u none = e₃ ∙ ap (store_interface b₂ u) (ef ∙ ap (λ (x : Interface). no_interface x.marks.plain) eU) ∙ ap (λ (x : List ℕ). store_interface x u none) e₂ in
    let c = store_map b₁ u 0 in
    let long = E.steady.len in
    let st = map_steady b₁ u 0 lu E.steady in
    let len = st.len in
    let n = ap (λ (x : Interface). x.used) eU in
    rw q
    (record {
      steady = record {
        len = length_store_interface c u none len lu;
        slots = λ v lv. by_cases (ℕ_discrete v u)
            (λ (z : v ≡ u). rw (z, interface_same c u none len lu tt) (omega arith))
            (λ (ne : v ≡ u → ⊥). rw (interface_other c u none len lu v ne) (st.slots v lv));
        progress = λ v lv. by_cases (ℕ_discrete v u)
            (λ (z : v ≡ u). rw (z, interface_same c u none len lu tt) (omega arith))
            (λ (ne : v ≡ u → ⊥). rw (interface_other c u none len lu v ne) (st.progress v lv));
        rising = λ v p lv e. by_cases (ℕ_discrete v u)
            (λ (z : v ≡ u). absurd (not_under (ap (λ (x : ℕ). (interface_at (store_interface c u none) x).parent) (sym z) ∙ e) (ap (λ (x : Interface). x.parent) (interface_same c u none len lu tt))))
            (λ (ne : v ≡ u → ⊥). st.rising v p lv (ap (λ (x : Interface). x.parent) (sym (interface_other c u none len lu v ne)) ∙ e));
      };
      coded = coded_interface c u none len lu tt (coded_map b₁ u 0 long lu E.coded);
      serial = stored_next c u none len lu tt ∙ map_next b₁ u 0 lu long ∙ E.next;
      here = interface_same c u none len lu tt;
      there = λ v lv ne. interface_other c u none len lu v ne ∙ store_map_interface b₁ u 0 long lu v ∙ E.interfaces v lv;
      unmarked = store_interface_map c u none len lu u ∙ map_same b₁ u 0 long lu;
      marked = λ v lv ne. store_interface_map c u none len lu v ∙ map_other b₁ u 0 long lu v ne ∙ E.maps v lv;
      gone = λ s l. store_interface_node c u none len lu (u * 64 + s) ∙ store_map_node b₁ u 0 long lu (u * 64 + s) ∙ E.gone s (rw n l);
      kept = λ k off. store_interface_node c u none len lu k ∙ store_map_node b₁ u 0 long lu k ∙ E.kept k (λ s l. off s (rw n at l));
    })
  where
    not_under : {o : Option ℕ} {p : ℕ} → o ≡ Some p → o ≡ None → ⊥
    not_under {p = p} e z = let y : Some p ≡ None = sym e ∙ z in let y2 : ◌≡◌ {A = ℕ} 0 1 = cc in omega arith
