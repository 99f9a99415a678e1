-- Maps of slots: they go by the classes of the nodes alone, and one slot filled or emptied is one bit put. Assumes nothing.
use Prim.Native.Nat.{ℕ, ◌+◌, ◌*◌, ◌<◌}
use mathlib.Core.Path.{◌≡◌, refl, ap, sym, ◌∙◌}
use mathlib.Core.Logic.{◌≢◌, by_cases}
use mathlib.Core.Bool.{Bool, true, false}
use mathlib.Core.List.{List}
use native.Mathlib.Decide.{ℕ_discrete}
use native.Mathlib.Omega.{arith}
use Rattle.slot_map.specs.Slots.{map_of, put}
use Rattle.slot_map.proofs.Maps.{map_same, put_map}
use Rattle.slot_map.proofs.Bits.{map_none}
use Rattle.kinds.specs.declared.Class.{Class}
use Rattle.kinds.specs.declared.Class.TheVariants.{Absent, Blossom, Defect}
use Rattle.bench_words.specs.Store.{node_at, map_at}
use Rattle.bench_words.specs.declared.Node.{Node}
use Rattle.bench_views.specs.Canon.{is_held, held_in}

-- ---- one slot
pub held_absent : {c : Class} → c ≡ Absent → is_held c ≡ false
unfolding is_held
held_absent e = ap is_held e

pub held_present : (c : Class) → (c ≡ Absent → ⊥) → is_held c ≡ true
unfolding is_held
held_present Absent h = absurd (h refl)
held_present Blossom h = refl
held_present (Defect v) h = refl

-- ---- the slots of an interface
pub maps_same : (A A' : ℕ → Node) (u : ℕ) → ((s : ℕ) → s < 64 → (A' (u * 64 + s)).class ≡ (A (u * 64 + s)).class) → map_of (held_in A u) 64 ≡ map_of (held_in A' u) 64
maps_same A A' u e = map_same (held_in A u) (held_in A' u) 64 (λ s l. ap is_held (sym (e s l)))

pub map_bare : (A : ℕ → Node) (u : ℕ) → ((s : ℕ) → s < 64 → (A (u * 64 + s)).class ≡ Absent) → map_of (held_in A u) 64 ≡ 0
map_bare A u e = map_none (held_in A u) 64 (λ s l. held_absent (e s l))

-- ---- words whose maps are those of their slots
abbrev pub Mapped : List ℕ → Type 0
Mapped b = (u : ℕ) → u < 8 → map_at b u ≡ map_of (held_in (node_at b) u) 64

-- every class and every map as it was
pub mapped_like : (b b' : List ℕ) → Mapped b → ((u : ℕ) → u < 8 → map_at b' u ≡ map_at b u) → ((k : ℕ) → k < 512 → (node_at b' k).class ≡ (node_at b k).class) → Mapped b'
mapped_like b b' M same e u lu = same u lu ∙ M u lu ∙ maps_same (node_at b) (node_at b') u (λ s l. e (u * 64 + s) (omega arith))

-- one slot filled or emptied, and its bit put
module _ (b b' : List ℕ) (u s : ℕ) (t : Bool) (M : Mapped b) (lu : u < 8) (ls : s < 64) (here : map_at b' u ≡ put (map_at b u) s t) (there : (v : ℕ) → v < 8 → v ≢ u → map_at b' v ≡ map_at b v)
    (now : is_held (node_at b' (u * 64 + s)).class ≡ t) (else : (k : ℕ) → k < 512 → k ≢ u * 64 + s → (node_at b' k).class ≡ (node_at b k).class) where
  pub mapped_put : Mapped b'
  mapped_put v lv = by_cases (ℕ_discrete v u)
      (λ (e : v ≡ u). rw e
      (here ∙ ap (λ (w : ℕ). put w s t) (M u lu)
      ∙ put_map (held_in (node_at b) u) (held_in (node_at b') u) 64 s t (omega arith) ls now (λ r l ne. ap is_held (else (u * 64 + r) (omega arith) (λ q. ne (omega arith))))))
      (λ (ne : v ≡ u → ⊥). there v lv ne ∙ M v lv ∙ maps_same (node_at b) (node_at b') v (λ r l. else (v * 64 + r) (omega arith) (λ q. ne (omega arith))))
