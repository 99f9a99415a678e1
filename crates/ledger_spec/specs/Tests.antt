-- The tests behind the numbers of the manual's table (docs/MANUAL.md, Refusals), each of one thing: an interface's number, a handle, a list. Assumes nothing.
use Rattle.std.specs.Prelude.{ℕ, Bool, true, false, ◌||◌, ◌&&◌, not, List, [], ◌∷◌, eqb, leb, ℤ, nat_abs, None, Option, Some}
use Rattle.std.specs.Int.Signed.{lt_z}
use Rattle.ledger_spec.specs.Numbers.{slot_limit, serial_limit}
use Rattle.ledger_spec.specs.Bench.{Handle, State, grows, stays, shrinks, Node, Interface, Bench, defect, blossom}
use Rattle.ledger_spec.specs.Look.{interface, free_slot, node_named, top, same_handle}
use Rattle.ledger_spec.specs.SoundTree.{units}

unfoldable pub first : List (Bool × ℕ) → ℕ
first [] = 0
first (t ∷ ts) = elim t.0 [ true ↦ t.1 | false ↦ first ts ]

unfoldable pub any : {A : Type 0} → (A → Bool) → List A → Bool
any p [] = false
any p (x ∷ xs) = p x || any p xs

abbrev pub is_some : {A : Type 0} → Option A → Bool
is_some None = false
is_some (Some a) = true

abbrev pub empty : {A : Type 0} → List A → Bool
empty [] = true
empty (x ∷ xs) = false

-- UNIT, CHILD: the interface's number, its parent
abbrev pub outside : ℕ → Bool
outside u = leb 8 u

abbrev pub child : Bench → ℕ → Bool
child b u = is_some (interface b u).parent

-- STALE, FOREIGN, KIND, INSIDE: of a handle; TWICE: of several
abbrev pub stale : Bench → Handle → Bool
stale b h = not (is_some (node_named b h))

abbrev pub foreign : Bench → ℕ → Handle → Bool
foreign b u h = not (eqb (top b h.unit) u)

abbrev pub is_defect : Option Node → Bool
is_defect None = false
is_defect (Some n) = elim n.class [ defect v ↦ true | blossom ms ↦ false ]

abbrev pub has_parent : Option Node → Bool
has_parent None = false
has_parent (Some n) = is_some n.parent

unfoldable pub twice : List Handle → Bool
twice [] = false
twice (h ∷ hs) = any (same_handle h) hs || twice hs

-- FULL, WORN, USED
abbrev pub full : Bench → ℕ → Bool
full b u = leb slot_limit (free_slot b u)

abbrev pub worn : Bench → Bool
worn b = leb serial_limit b.next

abbrev pub used : Interface → Bool
used f = not (empty f.slots) || (not (eqb (nat_abs f.progress) 0) || is_some f.halves)

-- BELOW: a shrinking node of u's tree has a value below l
abbrev pub is_shrink : State → Bool
is_shrink grows = false
is_shrink stays = false
is_shrink shrinks = true

abbrev pub sinks : ℤ → Option Node → Bool
sinks l None = false
sinks l (Some n) = is_shrink n.state && lt_z n.value l

abbrev pub floored : Bench → ℕ → Bool
floored b u = (interface b u).marks.floored

unfoldable pub below : Bench → ℕ → ℤ → Bool
below b u l = floored b u && any (λ w. eqb (top b w) u && any (sinks l) (interface b w).slots) units

-- MARK: halves of which one is floored; too late for a mark
abbrev pub same : Bool → Bool → Bool
same true c = c
same false c = not c

abbrev pub late : Interface → Bool
late f = not (empty f.slots) || is_some f.halves

-- the two handles of each touching pair
unfoldable pub both : List (Handle × Handle) → List Handle
both [] = []
both (t ∷ ts) = t.0 ∷ t.1 ∷ both ts
