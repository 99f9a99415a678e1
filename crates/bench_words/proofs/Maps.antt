-- The map of an interface stands beside every record: what its store gives back and leaves, and that no other store touches it. Assumes nothing.
use Prim.Native.Nat.{ℕ, ◌+◌, ◌<◌}
use mathlib.Core.Path.{◌≡◌, ◌∙◌}
use mathlib.Core.List.{List}
use native.Mathlib.Omega.{arith}
use lib.ListN.{length, get_or, set, length-set}
use lib.Seq.{get_or-set_same, get_or-set_other}
use Rattle.bench_words.specs.Store.{base, ibase, node_at, store_node, interface_at, store_interface, map_at, store_map}
use Rattle.bench_words.specs.declared.Node.{Node}
use Rattle.bench_words.specs.declared.Interface.{Interface}
use Rattle.bench_words.proofs.Laws.{store_out, store_interface_eighth}

-- ---- a map stored
module _ (b : List ℕ) (u w : ℕ) (len : length b ≡ 6273) (lu : u < 8) where
  pub length_store_map : length (store_map b u w) ≡ 6273
  unfolding store_map
  length_store_map = length-set b (ibase u + 8) w ∙ len

  pub store_map_out : (m : ℕ) → (m ≡ ibase u + 8 → ⊥) → get_or (store_map b u w) m 0 ≡ get_or b m 0
  unfolding store_map
  store_map_out m ne = get_or-set_other b (ibase u + 8) m w 0 ne

  pub map_same : map_at (store_map b u w) u ≡ w
  unfolding map_at store_map
  map_same = get_or-set_same b (ibase u + 8) w 0 (omega arith)

  pub map_other : (v : ℕ) → (v ≡ u → ⊥) → map_at (store_map b u w) v ≡ map_at b v
  unfolding map_at
  map_other v ne = store_map_out (ibase v + 8) (λ e. omega arith)

  pub store_map_interface : (v : ℕ) → interface_at (store_map b u w) v ≡ interface_at b v
  unfolding interface_at
  store_map_interface v =
      let o : (f : ℕ) → f < 10 → (f ≡ 8 → ⊥) → get_or (store_map b u w) (ibase v + f) 0 ≡ get_or b (ibase v + f) 0 = λ f l ne. store_map_out (ibase v + f) (λ e. ne (omega arith)) in
      simp
      (o 1 (omega arith) (λ e. omega arith), o 2 (omega arith) (λ e. omega arith), o 3 (omega arith) (λ e. omega arith), o 4 (omega arith) (λ e. omega arith), o 5 (omega arith) (λ e. omega arith), o 6 (omega arith) (λ e. omega arith), o 7 (omega arith) (λ e. omega arith), o 9 (omega arith) (λ e. omega arith))

  pub store_map_node : (k : ℕ) → node_at (store_map b u w) k ≡ node_at b k
  unfolding node_at
  store_map_node k =
      let o : (f : ℕ) → get_or (store_map b u w) (base k + f) 0 ≡ get_or b (base k + f) 0 = λ f. store_map_out (base k + f) (λ e. omega arith) in
      simp (o 1, o 2, o 3, o 4, o 5, o 6, o 7, o 8, o 9, o 10, o 11, o 12)

-- ---- what leaves the maps as they were
pub store_node_map : (b : List ℕ) (k : ℕ) (n : Node) → length b ≡ 6273 → k < 512 → (u : ℕ) → u < 8 → map_at (store_node b k n) u ≡ map_at b u
unfolding map_at
store_node_map b k n len lk u lu = store_out b k n len lk (ibase u + 8) (λ g l e. omega arith)

pub store_interface_map : (b : List ℕ) (v : ℕ) (n : Interface) → length b ≡ 6273 → v < 8 → (u : ℕ) → map_at (store_interface b v n) u ≡ map_at b u
unfolding map_at
store_interface_map b v n len lv u = store_interface_eighth b v n len lv u

pub map_first : (b : List ℕ) (x u : ℕ) → map_at (set b 0 x) u ≡ map_at b u
unfolding map_at
map_first b x u = get_or-set_other b 0 (ibase u + 8) x 0 (λ e. omega arith)
