-- How a state, a class, a handle, a parent and an interface's parent are written as words. Assumes nothing.
use Rattle.std.specs.Prelude.{None, Option, Some, ℕ, ◌+◌, ◌-◌, ◌*◌, ◌/◌, ◌%◌, Bool, true, false, eqb, ltb}
use Rattle.kinds.specs.declared.GrowState.{GrowState}
use Rattle.kinds.specs.declared.GrowState.TheVariants.{Grow, Stay, Shrink}
use Rattle.kinds.specs.declared.Class.{Class}
use Rattle.kinds.specs.declared.Class.TheVariants.{Absent, Blossom, Defect}
use Rattle.kinds.specs.declared.Handle.{Handle}
use Rattle.bench_words.specs.declared.Marks.{Marks}

-- ---- limits by name: the first word that is no handle's; how much higher than they are a value, a sum and a speed stand in the words

abbrev pub past_handles : ℕ
past_handles = 2199023255552

abbrev pub value_offset : ℕ
value_offset = 1152921504606846976

abbrev pub sum_offset : ℕ
sum_offset = 4611686018427387904

abbrev pub speed_offset : ℕ
speed_offset = 1024

-- `if`: the Bool that a test gives picks
abbrev pub pick {ℓ} : {A : Type ℓ} → Bool → A → A → A
pick true a b = a
pick false a b = b

-- 0 stays, so that an empty slot is all zero
abbrev pub state_of : ℕ → GrowState
state_of w = pick (eqb w 0) Stay (pick (eqb w 1) Grow Shrink)

abbrev pub state_word : GrowState → ℕ
state_word Grow = 1
state_word Stay = 0
state_word Shrink = 2

abbrev pub handle_of : ℕ → Handle
handle_of w = record { unit = w % 8; slot = w / 8 % 64; serial = record { 0 = w / 8 / 64 % 4294967296 } }

-- a handle of an interface that no bench has
abbrev pub nowhere_code : Handle
nowhere_code = record { unit = 8; slot = 0; serial = record { 0 = 0 } }

-- the handle that any word gives: serials are below 2^32, so a packed handle is below 2^41
unfoldable pub hand_of : ℕ → Handle
hand_of w = pick (ltb w past_handles) (handle_of w) nowhere_code

abbrev pub handle_word : Handle → ℕ
handle_word h = (h.serial.0 * 64 + h.slot) * 8 + h.unit

abbrev pub class_of : ℕ → Class
class_of w = pick (eqb w 0) Absent (pick (eqb w 1) Blossom (Defect (record { 0 = (w - 2) % 4294967296 })))

abbrev pub class_word : Class → ℕ
class_word Absent = 0
class_word Blossom = 1
class_word (Defect v) = v.0 + 2

abbrev pub parent_of : ℕ → Option Handle
parent_of w = pick (eqb w 0) None (Some (handle_of (w - 1)))

abbrev pub parent_word : Option Handle → ℕ
parent_word None = 0
parent_word (Some h) = handle_word h + 1

abbrev pub up_of : ℕ → Option ℕ
up_of w = pick (eqb w 0) None (Some ((w - 1) % 8))

abbrev pub up_word : Option ℕ → ℕ
up_word None = 0
up_word (Some p) = p + 1

-- the marks of an interface, a bit each: 1 fills, 2 floored, 4 plain
abbrev pub marks_of : ℕ → Marks
marks_of w = record { fills = eqb (w % 2) 1; floored = eqb (w / 2 % 2) 1; plain = eqb (w / 4 % 2) 1 }

abbrev pub marks_word : Marks → ℕ
marks_word m = pick m.fills 1 0 + pick m.floored 2 0 + pick m.plain 4 0
