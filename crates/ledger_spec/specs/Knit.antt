-- How the nodes of a bench are knit together, as facts: serials, and member and parent linked both ways. `Knit` speaks of what stands where (`at`)
-- and of no bench; `Sewn` says it of a bench. Assumes nothing.
use Rattle.std.specs.Prelude.{ℕ, ◌≤◌, ◌<◌, ◌≡◌, List, ◌∷◌, map, Option, Some}
use Rattle.ledger_spec.specs.Bench.{Handle, stays, Member, blossom, Node, Bench}
use Rattle.ledger_spec.specs.Look.{slot_of, top, same_handle}
use Rattle.ledger_spec.specs.SoundTree.{tally}

abbrev pub At : Type 0
At = ℕ → ℕ → Option Node

abbrev pub mk : ℕ → ℕ → Node → Handle
mk u s n = record { unit = u; slot = s; serial = n.serial }

abbrev pub nodes : List Member → List Handle
nodes ms = map (λ (m : Member). m.node) ms

-- h is one of a list
pub data In {A : Type 0} (h : A) : List A → Type 0 where
  here : {g : A} {hs : List A} → h ≡ g → In h (g ∷ hs)
  there : {g : A} {hs : List A} → In h hs → In h (g ∷ hs)

-- a handle names a node that stands in its slot
pub record Has (at : At) (h : Handle) (n : Node) : Type 0 where
  pub stands : at h.unit h.slot ≡ Some n
  pub serial : n.serial ≡ h.serial

-- the node n of slot s of interface u has the parent q: a blossom of higher serial in the same tree, which has it in its circle once; n stays
pub record Up (at : At) (tp : ℕ → ℕ) (u s : ℕ) (n : Node) (q : Handle) : Type 0 where
  pub over : Node
  pub ms : List Member
  pub has : Has at q over
  pub ring : over.class ≡ blossom ms
  pub once : tally (same_handle (mk u s n)) (nodes ms) ≡ 1
  pub still : n.state ≡ stays
  pub older : n.serial < q.serial
  pub near : tp u ≡ tp q.unit

-- the member g of a circle names a node whose parent is the blossom h
pub record Down (at : At) (g h : Handle) : Type 0 where
  pub node : Node
  pub has : Has at g node
  pub parent : node.parent ≡ Some h

pub record Knit (at : At) (next : ℕ) (tp : ℕ → ℕ) : Type 0 where
  pub low : (u s : ℕ) (n : Node) → at u s ≡ Some n → (1 ≤ n.serial) × (n.serial < next)
  pub one : (u s u' s' : ℕ) (n n' : Node) → at u s ≡ Some n → at u' s' ≡ Some n' → n.serial ≡ n'.serial → (u ≡ u') × (s ≡ s')
  pub up : (u s : ℕ) (n : Node) (q : Handle) → at u s ≡ Some n → n.parent ≡ Some q → Up at tp u s n q
  pub down : (u s : ℕ) (m : Node) (ms : List Member) (g : Handle) → at u s ≡ Some m → m.class ≡ blossom ms → In g (nodes ms) → Down at g (mk u s m)

pub record Sewn (b : Bench) : Type 0 where
  pub begun : 1 ≤ b.next
  pub knit : Knit (slot_of b) b.next (top b)
