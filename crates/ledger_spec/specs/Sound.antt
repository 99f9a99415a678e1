-- A sound bench, as a test that computes: the rules of docs/MANUAL.md, A sound bench, of the plain bench. Slots past the used ones are empty by form,
-- and there is no cached progress to go wrong. Assumes nothing.
use Rattle.std.specs.Prelude.{ℕ, ◌*◌, Bool, true, false, not, ◌&&◌, ◌||◌, List, [], ◌∷◌, map, length, eqb, leb, ltb, ℤ, pos, ◌+ℤ◌, ◌-ℤ◌, nat_abs, None, Option, Some}
use Rattle.std.specs.Int.Signed.{le_z}
use Rattle.ledger_spec.specs.Numbers.{serial_limit, circle_limit}
use Rattle.ledger_spec.specs.Bench.{Handle, State, grows, stays, shrinks, Member, Class, defect, blossom, Node, Bench}
use Rattle.ledger_spec.specs.Look.{interface, node_named, top, tree, same_handle}
use Rattle.ledger_spec.specs.Change.{share}
use Rattle.ledger_spec.specs.Tests.{floored, same}
use Rattle.ledger_spec.specs.Deeds.{sizes, members}
use Rattle.ledger_spec.specs.Reads.{gather, slots_of}
use Rattle.ledger_spec.specs.SoundTree.{all, units, tally, sound_interface, reach}

abbrev pub is_stay : State → Bool
is_stay grows = false
is_stay stays = true
is_stay shrinks = false

abbrev pub same_parent : Option Node → Handle → Bool
same_parent None h = false
same_parent (Some n) h = elim n.parent [ None ↦ false | Some q ↦ same_handle q h ]

-- a touching handle
abbrev pub sound_touch : Bench → Handle → Bool
sound_touch b t = (leb t.unit 7 && leb t.slot 63) && ltb t.serial b.next

unfoldable pub sound_class : Bench → Handle → Class → ℕ → Bool
sound_class b h (defect v) size = eqb size 1
sound_class b h (blossom ms) size = ((leb 1 (length ms) && leb (length ms) circle_limit) && eqb size (sizes b (map (λ (m : Member). m.node) ms)))
    && all (λ (m : Member). same_parent (node_named b m.node) h && (sound_touch b m.touch.0 && sound_touch b m.touch.1)) ms

-- a node's parent: a blossom of higher serial in the same tree, which has it in its circle exactly once
unfoldable pub sound_parent : Bench → Handle → Node → Bool
sound_parent b h n = elim n.parent [
  | None ↦ true
  | Some q ↦ ((is_stay n.state && ltb n.serial q.serial) && eqb (top b q.unit) (top b h.unit)) && eqb (tally (same_handle h) (members (node_named b q))) 1
]

unfoldable pub sound_slot : Bench → ℕ → ℕ × ℕ × Option Node → Bool
sound_slot b w t = elim t.2 [
  | None ↦ true
  | Some n ↦ let h : Handle = record { unit = t.0; slot = t.1; serial = n.serial } in
      ((leb 1 n.serial && ltb n.serial b.next) && leb (nat_abs n.value) w) && (sound_parent b h n && sound_class b h n.class n.size)
]

unfoldable pub rates : List (ℕ × ℕ × Option Node) → ℤ
rates [] = pos 0
rates (t ∷ ts) = share t.2 +ℤ rates ts

-- of an interface without a parent: its nodes, its sum, its speed
unfoldable pub sound_top : Bench → ℕ → Bool
sound_top b u = elim (interface b u).parent [
  | Some p ↦ true
  | None ↦ let w : ℕ = reach b (tree 8 b u) in
      all (sound_slot b w) (slots_of b u) && (leb (nat_abs (interface b u).sum) (512 * w) && eqb (nat_abs ((interface b u).speed -ℤ rates (slots_of b u))) 0)
]

unfoldable pub serials : List (ℕ × ℕ × Option Node) → List ℕ
serials [] = []
serials (t ∷ ts) = elim t.2 [ None ↦ serials ts | Some n ↦ n.serial ∷ serials ts ]

unfoldable pub different : List ℕ → Bool
different [] = true
different (x ∷ xs) = eqb (tally (eqb x) xs) 0 && different xs

-- ---- floors: an interface bears the mark of its parent, and where it is floored no value is negative
abbrev pub afloat : Option Node → Bool
afloat None = true
afloat (Some n) = le_z (pos 0) n.value

unfoldable pub sound_floor : Bench → ℕ → Bool
sound_floor b u = elim (interface b u).parent [ None ↦ true | Some p ↦ same (floored b u) (floored b p) ] && (not (floored b u) || all afloat (interface b u).slots)

-- all the rules but the floors'
unfoldable pub sound_plain : Bench → Bool
sound_plain b = ((leb 1 b.next && leb b.next serial_limit) && eqb (length b.interfaces) 8)
    && ((all (sound_interface b) units && all (sound_top b) units) && different (serials (gather b units)))

unfoldable pub sound : Bench → Bool
sound b = sound_plain b && all (sound_floor b) units
