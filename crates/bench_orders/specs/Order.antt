-- The interfaces of a tree in the order of the index, and where an index leads. Assumes nothing.
use Rattle.std.specs.Prelude.{None, Option, Some, ℕ, ◌+◌, ◌/◌, ◌%◌, ◌<◌, ◌≤◌, ◌≡◌, List, ◌++◌, length, take, get_or}
use Rattle.bench_words.specs.Store.{interface_at}
use Rattle.ledger_spec.specs.Look.{slot_of, tree}
use Rattle.ledger_spec.specs.Reads.{slots_of}
use Rattle.bench_views.specs.View.{view}
use Rattle.bench_orders.specs.declared.Order.{Order}

abbrev pub listed : Order → List ℕ
listed o = take o.count o.units

-- r lists the interfaces us after those of o
pub record Longer (o : Order) (us : List ℕ) (r : Order) : Type 0 where
  pub list : listed r ≡ listed o ++ us
  pub count : r.count ≡ o.count + length us
  pub long : length r.units ≡ length o.units

-- the tree under an interface: left half, right half, itself
pub record Lists (b : List ℕ) (unit : ℕ) (o : Order) : Type 0 where
  pub list : listed o ≡ tree 8 (view b) unit
  pub few : o.count ≤ 8
  pub long : length o.units ≡ 8

-- position k is what stands at an index of the tree
pub record AtIndex (b : List ℕ) (unit index k : ℕ) : Type 0 where
  pub inside : index < length (slots_of (view b) unit)
  pub at : get_or (slots_of (view b) unit) index (0, 0, None) ≡ (k / 64, k % 64, slot_of (view b) (k / 64) (k % 64))
  pub low : k / 64 < 8
  pub used : k % 64 < (interface_at b (k / 64)).used

abbrev pub Locates : List ℕ → ℕ → ℕ → Option ℕ → Type 0
Locates b unit index (Some k) = AtIndex b unit index k
Locates b unit index None = length (slots_of (view b) unit) ≤ index
