-- What the words hold after a node is stored, an interface paced, a node pushed: the laws of stores, put together. Assumes nothing.
use Prim.Native.Nat.{ℕ, suc, max, ◌+◌, ◌*◌, ◌<◌, ◌≤◌}
use mathlib.Core.Path.{◌≡◌, refl, ap, sym, ◌∙◌}
use mathlib.Core.Logic.{◌≢◌, by_cases}
use mathlib.Core.Bool.{true}
use mathlib.Core.List.{List}
use native.Mathlib.Decide.{ℕ_discrete}
use native.Mathlib.Omega.{arith}
use lib.ListN.{length, get_or, length-set}
use lib.Seq.{get_or-set_same}
use Rattle.slot_map.specs.Slots.{put}
use Rattle.bench_words.specs.Store.{node_at, interface_at, store_node, store_interface, map_at, store_map, set_speed}
use Rattle.bench_words.proofs.Laws.{Good, GoodUp, good_interface, load_same, load_other, length_store, store_out, store_node_interface, interface_same, interface_other, store_interface_out, store_interface_node, length_store_interface, interface_first, node_first}
use Rattle.bench_words.proofs.Maps.{length_store_map, store_map_out, map_same, map_other, store_map_interface, store_map_node, store_node_map, store_interface_map, map_first}
use Rattle.bench_words.specs.declared.Node.{Node}
use Rattle.bench_words.specs.declared.Interface.{Interface}
use Rattle.bench_views.specs.Records.{with_used, Steady}
use Rattle.bench_views.specs.Canon.{Coded}
use Rattle.bench_views.proofs.Codes.{coded_node, coded_interface, coded_first, coded_map}
use Rattle.deed_raises.proofs.Kept.{node_steady}
use Rattle.deed_nodes.specs.Steps.{paced, pushed}

-- ---- one interface stored
module _ (b : List ℕ) (u : ℕ) (f : Interface) (len : length b ≡ 6273) (lu : u < 8) (good : GoodUp f.parent) where
  -- a part that the new interface has from the old one
  pub stored_part : {X : Type 0} (φ : Interface → X) → φ f ≡ φ (interface_at b u) → (v : ℕ) → φ (interface_at (store_interface b u f) v) ≡ φ (interface_at b v)
  stored_part φ e v = by_cases (ℕ_discrete v u)
      (λ (q : v ≡ u). rw (q, interface_same b u f len lu good) e)
      (λ (q : v ≡ u → ⊥). ap φ (interface_other b u f len lu v q))

  pub stored_next : get_or (store_interface b u f) 0 0 ≡ get_or b 0 0
  stored_next = store_interface_out b u f len lu 0 (λ i l e. omega arith)

  pub stored_steady : Steady b → f.used ≤ 64 → f.progress ≤ 1099511627776 → f.parent ≡ (interface_at b u).parent → Steady (store_interface b u f)
  stored_steady s few short same =
      record {
        len = length_store_interface b u f len lu;
        slots = λ v lv. by_cases (ℕ_discrete v u)
            (λ (q : v ≡ u). rw (q, interface_same b u f len lu good) few)
            (λ (q : v ≡ u → ⊥). rw (interface_other b u f len lu v q) (s.slots v lv));
        progress = λ v lv. by_cases (ℕ_discrete v u)
            (λ (q : v ≡ u). rw (q, interface_same b u f len lu good) short)
            (λ (q : v ≡ u → ⊥). rw (interface_other b u f len lu v q) (s.progress v lv));
        rising = λ v p lv e. s.rising v p lv (sym (stored_part (λ x. x.parent) same v) ∙ e);
      }

-- ---- one node stored
module _ (b : List ℕ) (k : ℕ) (n : Node) (lk : k < 512) (good : Good n) where
  pub node_next : length b ≡ 6273 → get_or (store_node b k n) 0 0 ≡ get_or b 0 0
  node_next len = store_out b k n len lk 0 (λ i l e. omega arith)

-- ---- one map stored
module _ (b : List ℕ) (u w : ℕ) (lu : u < 8) where
  pub map_next : length b ≡ 6273 → get_or (store_map b u w) 0 0 ≡ get_or b 0 0
  map_next len = store_map_out b u w len lu 0 (λ e. omega arith)

  pub map_steady : Steady b → Steady (store_map b u w)
  map_steady s =
      record {
        len = length_store_map b u w s.len lu;
        slots = λ v lv. rw (store_map_interface b u w s.len lu v) (s.slots v lv);
        progress = λ v lv. rw (store_map_interface b u w s.len lu v) (s.progress v lv);
        rising = λ v p lv e. s.rising v p lv (ap (λ (x : Interface). x.parent) (sym (store_map_interface b u w s.len lu v)) ∙ e);
      }

-- ---- a node stored, and interface t paced
module _ (b : List ℕ) (k : ℕ) (n : Node) (t s : ℕ) (st : Steady b) (lk : k < 512) (lt : t < 8) (good : Good n) where
  abbrev B₁ : List ℕ
  B₁ = store_node b k n

  abbrev pub B₂ : List ℕ
  B₂ = paced B₁ t s

  len₁ : length B₁ ≡ 6273
  len₁ = length_store b k n st.len lk

  pub put_next : get_or B₂ 0 0 ≡ get_or b 0 0
  unfolding paced
  put_next = stored_next B₁ t (set_speed (interface_at B₁ t) s) len₁ lt (good_interface B₁ t) ∙ node_next b k n lk good st.len

  pub put_unit_here : interface_at B₂ t ≡ set_speed (interface_at b t) s
  unfolding paced
  put_unit_here = interface_same B₁ t (set_speed (interface_at B₁ t) s) len₁ lt (good_interface B₁ t) ∙ ap (λ (x : Interface). set_speed x s) (store_node_interface b k n st.len lk t lt)

  pub put_unit_there : (v : ℕ) → v < 8 → v ≢ t → interface_at B₂ v ≡ interface_at b v
  unfolding paced
  put_unit_there v lv ne = interface_other B₁ t (set_speed (interface_at B₁ t) s) len₁ lt v ne ∙ store_node_interface b k n st.len lk v lv

  pub put_unit : {X : Type 0} (φ : Interface → X) → ((x : Interface) (z : ℕ) → φ (set_speed x z) ≡ φ x) → (v : ℕ) → v < 8 → φ (interface_at B₂ v) ≡ φ (interface_at b v)
  put_unit φ e v lv = by_cases (ℕ_discrete v t) (λ (q : v ≡ t). rw (q, put_unit_here) (e (interface_at b t) s)) (λ (q : v ≡ t → ⊥). rw (put_unit_there v lv q))

  pub put_node_here : node_at B₂ k ≡ n
  unfolding paced
  put_node_here = store_interface_node B₁ t (set_speed (interface_at B₁ t) s) len₁ lt k ∙ load_same b k n st.len lk good

  pub put_node_there : (j : ℕ) → j ≢ k → node_at B₂ j ≡ node_at b j
  unfolding paced
  put_node_there j ne = store_interface_node B₁ t (set_speed (interface_at B₁ t) s) len₁ lt j ∙ load_other b k n st.len lk j ne

  pub put_map : (v : ℕ) → v < 8 → map_at B₂ v ≡ map_at b v
  unfolding paced
  put_map v lv = store_interface_map B₁ t (set_speed (interface_at B₁ t) s) len₁ lt v ∙ store_node_map b k n st.len lk v lv

  pub put_steady : Steady B₂
  unfolding paced
  put_steady =
      let s₁ = node_steady b k n lk st in
      stored_steady B₁ t (set_speed (interface_at B₁ t) s) len₁ lt (good_interface B₁ t) s₁ (s₁.slots t lt) (s₁.progress t lt) refl

  pub put_coded : Coded b → Coded B₂
  unfolding paced
  put_coded c = coded_interface B₁ t (set_speed (interface_at B₁ t) s) len₁ lt (good_interface B₁ t) (coded_node b k n st.len lk good c)

-- ---- a node pushed
module _ (b : List ℕ) (u k : ℕ) (n : Node) (s : ℕ) (st : Steady b) (lu : u < 8) (room : k < 64) (good : Good n) where
  abbrev K₃ : ℕ
  K₃ = u * 64 + k

  abbrev W₃ : Interface
  W₃ = with_used (interface_at b u) (max (interface_at b u).used (suc k)) s

  abbrev P₁ : List ℕ
  P₁ = store_node b K₃ n

  abbrev P₂ : List ℕ
  P₂ = store_interface P₁ u W₃

  abbrev M₃ : ℕ
  M₃ = put (map_at b u) k true

  abbrev Q₂ : List ℕ
  Q₂ = store_map P₂ u M₃

  abbrev pub P₃ : List ℕ
  P₃ = pushed b u k n s

  lk₃ : K₃ < 512
  lk₃ = omega arith

  long₁ : length P₁ ≡ 6273
  long₁ = length_store b K₃ n st.len lk₃

  long₂ : length P₂ ≡ 6273
  long₂ = length_store_interface P₁ u W₃ long₁ lu

  long₃ : length Q₂ ≡ 6273
  long₃ = length_store_map P₂ u M₃ long₂ lu

  pub push_unit_here : interface_at P₃ u ≡ W₃
  unfolding pushed
  push_unit_here = interface_first Q₂ _ u ∙ store_map_interface P₂ u M₃ long₂ lu u ∙ interface_same P₁ u W₃ long₁ lu (good_interface b u)

  pub push_unit_there : (v : ℕ) → v < 8 → v ≢ u → interface_at P₃ v ≡ interface_at b v
  unfolding pushed
  push_unit_there v lv ne = interface_first Q₂ _ v ∙ store_map_interface P₂ u M₃ long₂ lu v ∙ interface_other P₁ u W₃ long₁ lu v ne ∙ store_node_interface b K₃ n st.len lk₃ v lv

  pub push_unit : {X : Type 0} (φ : Interface → X) → ((x : Interface) (m z : ℕ) → φ (with_used x m z) ≡ φ x) → (v : ℕ) → v < 8 → φ (interface_at P₃ v) ≡ φ (interface_at b v)
  push_unit φ e v lv = by_cases (ℕ_discrete v u) (λ (q : v ≡ u). rw (q, push_unit_here) (e (interface_at b u) _ _)) (λ (q : v ≡ u → ⊥). rw (push_unit_there v lv q))

  pub push_node_here : node_at P₃ K₃ ≡ n
  unfolding pushed
  push_node_here = node_first Q₂ _ K₃ ∙ store_map_node P₂ u M₃ long₂ lu K₃ ∙ store_interface_node P₁ u W₃ long₁ lu K₃ ∙ load_same b K₃ n st.len lk₃ good

  pub push_node_there : (j : ℕ) → j ≢ K₃ → node_at P₃ j ≡ node_at b j
  unfolding pushed
  push_node_there j ne = node_first Q₂ _ j ∙ store_map_node P₂ u M₃ long₂ lu j ∙ store_interface_node P₁ u W₃ long₁ lu j ∙ load_other b K₃ n st.len lk₃ j ne

  pub push_map_here : map_at P₃ u ≡ M₃
  unfolding pushed
  push_map_here = map_first Q₂ _ u ∙ map_same P₂ u M₃ long₂ lu

  pub push_map_there : (v : ℕ) → v < 8 → v ≢ u → map_at P₃ v ≡ map_at b v
  unfolding pushed
  push_map_there v lv ne = map_first Q₂ _ v ∙ map_other P₂ u M₃ long₂ lu v ne ∙ store_interface_map P₁ u W₃ long₁ lu v ∙ store_node_map b K₃ n st.len lk₃ v lv

  pub push_next : get_or P₃ 0 0 ≡ suc (get_or b 0 0)
  unfolding pushed
  push_next = get_or-set_same Q₂ 0 _ 0 (omega (arith, long₃))

  pub push_coded : Coded b → Coded P₃
  unfolding pushed
  push_coded c = coded_first Q₂ _ (coded_map P₂ u M₃ long₂ lu (coded_interface P₁ u W₃ long₁ lu (good_interface b u) (coded_node b K₃ n st.len lk₃ good c)))

  pushed_length : length P₃ ≡ 6273
  unfolding pushed
  pushed_length = length-set Q₂ 0 _ ∙ long₃

  pub push_steady : Steady P₃
  push_steady =
      record {
        len = pushed_length;
        slots = λ v lv. by_cases (ℕ_discrete v u) (λ (q : v ≡ u). rw (q, push_unit_here) (omega (arith, room, st.slots u lu))) (λ (q : v ≡ u → ⊥). rw (push_unit_there v lv q) (st.slots v lv));
        progress = λ v lv. rw (push_unit (λ x. x.progress) (λ x m z. refl) v lv) (st.progress v lv);
        rising = λ v p lv e. st.rising v p lv (sym (push_unit (λ x. x.parent) (λ x m z. refl) v lv) ∙ e);
      }
