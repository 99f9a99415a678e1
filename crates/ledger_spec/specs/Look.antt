-- Looking into a bench: an interface by its number, a node by its handle, the tree that an interface stands in. Assumes nothing.
use Rattle.std.specs.Prelude.{ℕ, zero, suc, Bool, true, false, ◌&&◌, List, [], ◌∷◌, ◌++◌, length, get_or, eqb, None, Option, Some}
use Rattle.ledger_spec.specs.Bench.{Handle, Node, Interface, Bench, fresh}

abbrev pub interface : Bench → ℕ → Interface
interface b u = get_or b.interfaces u fresh

abbrev pub slot_of : Bench → ℕ → ℕ → Option Node
slot_of b u s = get_or (interface b u).slots s None

-- the lowest empty slot of a list, or the one after its end
unfoldable pub gap : List (Option Node) → ℕ
gap [] = 0
gap (None ∷ xs) = 0
gap (Some n ∷ xs) = suc (gap xs)

-- the slot that a new node takes: the lowest empty one if the interface fills, else the first that was not used yet
unfoldable pub free_slot : Bench → ℕ → ℕ
free_slot b u = elim (interface b u).marks.fills [ true ↦ gap (interface b u).slots | false ↦ length (interface b u).slots ]

-- what a slot holds, if it has that serial
unfoldable pub if_serial : ℕ → Option Node → Option Node
if_serial k None = None
if_serial k (Some n) = elim (eqb k n.serial) [ true ↦ Some n | false ↦ None ]

-- the present node that a handle names
unfoldable pub node_named : Bench → Handle → Option Node
node_named b h = if_serial h.serial (slot_of b h.unit h.slot)

-- the interface without a parent at the top of u's tree: parents have higher numbers, so 8 steps are enough
unfoldable pub climb : ℕ → Bench → ℕ → ℕ
climb zero b u = u
climb (suc k) b u = elim (interface b u).parent [ None ↦ u | Some p ↦ climb k b p ]

abbrev pub top : Bench → ℕ → ℕ
top b u = climb 8 b u

-- the interfaces of the tree under u in the order of the index: left half, right half, itself
unfoldable pub tree : ℕ → Bench → ℕ → List ℕ
tree zero b u = u ∷ []
tree (suc k) b u = elim (interface b u).halves [ None ↦ u ∷ [] | Some lr ↦ (tree k b lr.0 ++ tree k b lr.1) ++ (u ∷ []) ]

abbrev pub same_handle : Handle → Handle → Bool
same_handle g h = (eqb g.unit h.unit && eqb g.slot h.slot) && eqb g.serial h.serial
