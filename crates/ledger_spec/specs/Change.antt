-- The four ways in which a call changes a bench: a node put where there was one (or taken away), a node added, an interface replaced,
-- and the speed that follows. Every call that touches nodes is made of these. Assumes nothing.
use Rattle.std.specs.Prelude.{ℕ, zero, suc, List, [], ◌∷◌, set, ℤ, pos, ◌+ℤ◌, ◌-ℤ◌, None, Option, Some}
use Rattle.ledger_spec.specs.Bench.{Handle, State, rate, Node, Interface, Bench, with_slots, with_speed}
use Rattle.ledger_spec.specs.Look.{interface, slot_of, top}

-- what a slot adds to the speed, and its value
abbrev pub share : Option Node → ℤ
share None = pos 0
share (Some n) = rate n.state

abbrev pub worth : Option Node → ℤ
worth None = pos 0
worth (Some n) = n.value

-- a node with a state and a parent; a bench with an interface
abbrev pub with_node : Node → State → Option Handle → Node
with_node n s p = record { serial = n.serial; class = n.class; state = s; parent = p; value = n.value; size = n.size }

abbrev pub with_interface : Bench → ℕ → Interface → Bench
with_interface b u f = record { next = b.next; interfaces = set b.interfaces u f; plain = b.plain }

-- the speed of interface u goes up by v
unfoldable pub faster : Bench → ℕ → ℤ → Bench
faster b u v = with_interface b u (with_speed (interface b u) ((interface b u).speed +ℤ v))

-- slot s of interface u now holds y, and the speed of the tree follows
unfoldable pub place : Bench → ℕ → ℕ → Option Node → Bench
place b u s y = faster (with_interface b u (with_slots (interface b u) (set (interface b u).slots s y))) (top b u) (share y -ℤ share (slot_of b u s))

-- n put at slot s: in the place of what it held, or at the end
unfoldable pub put : List (Option Node) → ℕ → Node → List (Option Node)
put [] s n = Some n ∷ []
put (x ∷ xs) zero n = Some n ∷ xs
put (x ∷ xs) (suc s) n = x ∷ put xs s n

-- the free slot s of interface u now holds n, which takes the next serial, and the speed of u follows
unfoldable pub push : Bench → ℕ → ℕ → Node → Bench
push b u s n = faster (record { next = suc b.next; interfaces = set b.interfaces u (with_slots (interface b u) (put (interface b u).slots s n)); plain = b.plain }) u (rate n.state)

-- the node of a slot gets a state and a parent
abbrev pub restate : Option Node → State → Option Handle → Option Node
restate None s p = None
restate (Some n) s p = Some (with_node n s p)

unfoldable pub mark : Bench → Handle → State → Option Handle → Bench
mark b h s p = place b h.unit h.slot (restate (slot_of b h.unit h.slot) s p)

unfoldable pub mark_all : Bench → List Handle → State → Option Handle → Bench
mark_all b [] s p = b
mark_all b (h ∷ hs) s p = mark_all (mark b h s p) hs s p
