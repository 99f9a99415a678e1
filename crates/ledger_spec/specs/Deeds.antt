-- What each call of the plain ledger does where it is accepted. Assumes nothing.
use Rattle.std.specs.Prelude.{ℕ, suc, ◌+◌, true, false, List, [], ◌∷◌, map, eqb, ℤ, pos, ◌+ℤ◌, ◌*ℤ◌, None, Option, Some}
use Rattle.ledger_spec.specs.Bench.{Handle, grows, stays, rate, Member, defect, blossom, Node, Marking, with_floor, with_mark, Interface, Bench, fresh, with_slots, with_progress, with_sum, with_speed, with_parent, with_halves, with_marks}
use Rattle.ledger_spec.specs.Look.{interface, free_slot, node_named, top}
use Rattle.ledger_spec.specs.Change.{with_interface, place, push, mark_all}

abbrev pub new_handle : Bench → ℕ → Handle
new_handle b u = record { unit = u; slot = free_slot b u; serial = b.next }

unfoldable pub add_defect : Bench → ℕ → ℕ → Bench
add_defect b u v = push b u (free_slot b u) (record { serial = b.next; class = defect v; state = grows; parent = None; value = pos 0; size = 1 })

-- a blossom's circle: an empty touching list means each member twice
unfoldable pub circle : List Handle → List (Handle × Handle) → List Member
circle [] ts = []
circle (h ∷ hs) [] = record { node = h; touch = (h, h) } ∷ circle hs []
circle (h ∷ hs) (t ∷ ts) = record { node = h; touch = t } ∷ circle hs ts

abbrev pub size_of : Option Node → ℕ
size_of None = 0
size_of (Some n) = n.size

unfoldable pub sizes : Bench → List Handle → ℕ
sizes b [] = 0
sizes b (h ∷ hs) = size_of (node_named b h) + sizes b hs

unfoldable pub add_blossom : Bench → ℕ → List Handle → List (Handle × Handle) → Bench
add_blossom b u hs ts = push (mark_all b hs stays (Some (new_handle b u))) u (free_slot b u)
    (record { serial = b.next; class = blossom (circle hs ts); state = grows; parent = None; value = pos 0; size = sizes b hs })

abbrev pub members : Option Node → List Handle
members None = []
members (Some n) = elim n.class [ defect v ↦ [] | blossom ms ↦ map (λ (m : Member). m.node) ms ]

unfoldable pub remove_blossom : Bench → Handle → Bench
remove_blossom b h = mark_all (place b h.unit h.slot None) (members (node_named b h)) grows None

-- every node of a slot grows, stays or shrinks by l
unfoldable pub grow_slot : ℤ → Option Node → Option Node
grow_slot l None = None
grow_slot l (Some n) = Some (record { serial = n.serial; class = n.class; state = n.state; parent = n.parent; value = n.value +ℤ l *ℤ rate n.state; size = n.size })

-- f at every interface of u's tree, with its number
unfoldable pub across : (Interface → Interface) → Bench → ℕ → ℕ → List Interface → List Interface
across f b u k [] = []
across f b u k (x ∷ xs) = elim (eqb (top b k) u) [ true ↦ f x | false ↦ x ] ∷ across f b u (suc k) xs

abbrev pub booked : Interface → ℤ → Interface
booked f l = with_sum (with_progress f (f.progress +ℤ l)) (f.sum +ℤ l *ℤ f.speed)

unfoldable pub grow_by : Bench → ℕ → ℤ → Bench
grow_by b u l =
    let b₁ : Bench = record { next = b.next; interfaces = across (λ f. with_slots f (map (grow_slot l) f.slots)) b u 0 b.interfaces; plain = b.plain } in
    with_interface b₁ u (booked (interface b₁ u) l)

-- the parent of a fuse: both sums and both speeds, progress 0, no parent, the two as its halves, and their floor; its way to fill is its own
abbrev pub fused_parent : Bench → ℕ → ℕ → ℕ → Interface
fused_parent b p l r =
    with_marks
    (with_halves
    (with_speed (with_sum (with_progress (with_parent (interface b p) None) (pos 0)) ((interface b l).sum +ℤ (interface b r).sum)) ((interface b l).speed +ℤ (interface b r).speed))
    (Some (l, r)))
    (with_floor (interface b p).marks (interface b l).marks.floored)

unfoldable pub join : Bench → ℕ → ℕ → ℕ → Bench
join b p l r =
    with_interface (with_interface (with_interface b l (with_parent (interface b l) (Some p))) r (with_parent (interface b r) (Some p))) p (fused_parent b p l r)

-- interface u gets a mark
unfoldable pub choose : Bench → ℕ → Marking → Bench
choose b u k = with_interface b u (with_marks (interface b u) (with_mark k (interface b u).marks))

unfoldable pub wipe : Bench → ℕ → Bench
wipe b u = record { next = b.next; interfaces = across (λ f. fresh) b u 0 b.interfaces; plain = b.plain }
