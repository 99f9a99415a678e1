-- What a sound bench is, as facts: `sound b ≡ true` says all of this and no more (proofs: Says, Holds). Assumes nothing.
use Rattle.std.specs.Prelude.{ℕ, ◌*◌, ◌≤◌, ◌<◌, ◌≡◌, true, List, length, pos, nat_abs, None, Some}
use Rattle.ledger_spec.specs.Numbers.{progress_limit, serial_limit, slot_limit, circle_limit}
use Rattle.ledger_spec.specs.Bench.{Handle, Member, defect, blossom, Node, Bench}
use Rattle.ledger_spec.specs.Look.{interface, slot_of, top, tree}
use Rattle.ledger_spec.specs.Deeds.{sizes}
use Rattle.ledger_spec.specs.SoundTree.{reach}
use Rattle.ledger_spec.specs.Tests.{floored}
use Rattle.ledger_spec.specs.Sound.{afloat}
use Rattle.ledger_spec.specs.Frame.{Frame}
use Rattle.ledger_spec.specs.Knit.{nodes, In, Sewn}
use Rattle.ledger_spec.specs.Account.{tree_sum, rates_in}

-- W: the progress of interface i and of all below it
abbrev pub W : Bench → ℕ → ℕ
W b i = reach b (tree 8 b i)

-- a touching handle in range
pub record Touching (b : Bench) (t : Handle) : Type 0 where
  pub unit : t.unit ≤ 7
  pub slot : t.slot ≤ 63
  pub serial : t.serial < b.next

-- a blossom's circle and size
pub record Circle (b : Bench) (n : Node) (ms : List Member) : Type 0 where
  pub least : 1 ≤ length ms
  pub most : length ms ≤ circle_limit
  pub size : n.size ≡ sizes b (nodes ms)
  pub touching : (m : Member) → In m ms → Touching b m.touch.0 × Touching b m.touch.1

-- a node's class and size
pub record Ring (b : Bench) (n : Node) : Type 0 where
  pub single : (v : ℕ) → n.class ≡ defect v → n.size ≡ 1
  pub circle : (ms : List Member) → n.class ≡ blossom ms → Circle b n ms

-- an interface bears the floor mark of its parent, and where it is floored no value is negative
pub record Floors (b : Bench) : Type 0 where
  pub level : (u p : ℕ) → (interface b u).parent ≡ Some p → floored b u ≡ floored b p
  pub values : (u s : ℕ) → floored b u ≡ true → afloat (slot_of b u s) ≡ true

pub record Sound (b : Bench) : Type 0 where
  pub frame : Frame b
  pub few : (u : ℕ) → length (interface b u).slots ≤ slot_limit
  pub forward : (u : ℕ) → (interface b u).progress ≡ pos (nat_abs (interface b u).progress)
  pub limit : (u : ℕ) → nat_abs (interface b u).progress ≤ progress_limit
  pub worn : b.next ≤ serial_limit
  pub sewn : Sewn b
  pub rings : (u s : ℕ) (n : Node) → slot_of b u s ≡ Some n → Ring b n
  pub values : (u s : ℕ) (n : Node) → slot_of b u s ≡ Some n → nat_abs n.value ≤ W b (top b u)
  pub sums : (i : ℕ) → i < 8 → (interface b i).parent ≡ None → nat_abs (interface b i).sum ≤ 512 * W b i
  pub speeds : (i : ℕ) → i < 8 → (interface b i).parent ≡ None → (interface b i).speed ≡ tree_sum (top b) (rates_in b) i
  pub floors : Floors b
