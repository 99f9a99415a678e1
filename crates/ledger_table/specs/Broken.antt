-- The sound bench, rule by rule: a bench made by calls, one thing in it changed, and whether it is still sound. Each rule of docs/MANUAL.md, A sound bench, is
-- broken and, where it has a limit, kept just at it; BROKEN is what every call then answers. Assumes nothing.
use Rattle.std.specs.Prelude.{ℕ, suc, ◌≡◌, refl, Bool, true, false, not, List, [], ◌∷◌, ◌++◌, map, eqb, get_or, set, replicate, take, ℤ, pos, negsuc, None, Option, Some}
use Rattle.ledger_spec.specs.Numbers.{progress_limit, BROKEN}
use Rattle.ledger_spec.specs.Bench.{Handle, State, grows, stays, shrinks, Member, Class, blossom, Node, Interface, Bench, set_up, with_slots, with_progress, with_sum, with_speed, with_parent, with_halves}
use Rattle.ledger_spec.specs.Look.{interface}
use Rattle.ledger_spec.specs.Change.{with_interface}
use Rattle.ledger_spec.specs.Calls.{Grow}
use Rattle.ledger_spec.specs.Sound.{sound}
use Rattle.ledger_spec.specs.Answers.{answer}
use Rattle.ledger_spec.specs.Opened.{run, ran}

-- serials 1 to 3 in blossom 4 of interface 0, 5 in interface 1, both fused into 2, where 6 stands; W is 8 + 3 + 1
unfoldable pub made : Bench
unfolding run ran
made = ran (set_up 1) "D 0 3\nD 0 8\nD 0 9\nG 0 5\nB 0 1 2 3\nG 0 2\nS 0 4 -1\nG 0 1\nD 1 7\nG 1 3\nF 2 0 1\nD 2 4\nG 2 1\n"

-- ---- one thing changed

abbrev pub next : ℕ → Bench → Bench
next n b = record { next = n; interfaces = b.interfaces; plain = b.plain }

abbrev pub face : ℕ → (Interface → Interface) → Bench → Bench
face u f b = with_interface b u (f (interface b u))

abbrev pub progress : ℤ → Interface → Interface
progress p f = with_progress f p

abbrev pub sum : ℤ → Interface → Interface
sum s f = with_sum f s

abbrev pub speed : ℤ → Interface → Interface
speed v f = with_speed f v

abbrev pub parent : Option ℕ → Interface → Interface
parent p f = with_parent f p

abbrev pub halves : Option (ℕ × ℕ) → Interface → Interface
halves h f = with_halves f h

abbrev pub empties : ℕ → Interface → Interface
empties n f = with_slots f (f.slots ++ replicate n None)

abbrev pub lose : ℕ → Interface → Interface
lose s f = with_slots f (set f.slots s None)

abbrev pub changed : (Node → Node) → Option Node → Option Node
changed g None = None
changed g (Some n) = Some (g n)

abbrev pub node : ℕ → (Node → Node) → Interface → Interface
node s g f = with_slots f (set f.slots s (changed g (get_or f.slots s None)))

abbrev pub serial : ℕ → Node → Node
serial k n = record { serial = k; class = n.class; state = n.state; parent = n.parent; value = n.value; size = n.size }

abbrev pub class : Class → Node → Node
class c n = record { serial = n.serial; class = c; state = n.state; parent = n.parent; value = n.value; size = n.size }

abbrev pub state : State → Node → Node
state s n = record { serial = n.serial; class = n.class; state = s; parent = n.parent; value = n.value; size = n.size }

abbrev pub inside : Option Handle → Node → Node
inside p n = record { serial = n.serial; class = n.class; state = n.state; parent = p; value = n.value; size = n.size }

abbrev pub value : ℤ → Node → Node
value v n = record { serial = n.serial; class = n.class; state = n.state; parent = n.parent; value = v; size = n.size }

abbrev pub size : ℕ → Node → Node
size k n = record { serial = n.serial; class = n.class; state = n.state; parent = n.parent; value = n.value; size = k }

abbrev pub h : ℕ → ℕ → ℕ → Handle
h u s k = record { unit = u; slot = s; serial = k }

abbrev pub m : Handle → Handle → Handle → Member
m n a b = record { node = n; touch = (a, b) }

-- blossom 4 with a circle
abbrev pub ring : List Member → Bench → Bench
ring ms b = face 0 (node 3 (class (blossom ms))) b

abbrev pub own : ℕ → Member
own s = m (h 0 s (suc s)) (h 0 s (suc s)) (h 0 s (suc s))

abbrev pub touched : Handle → Bench → Bench
touched t b = ring (m (h 0 0 1) t (h 0 0 1) ∷ own 1 ∷ own 2 ∷ []) b

abbrev pub rows : List ((Bench → Bench) × Bool)
rows =
    (λ b. b, true)
    -- next serial
    ∷ (next 7, true) ∷ (next 6, false) ∷ (next 0, false) ∷ (next 4294967296, true) ∷ (next 4294967297, false)
    -- used slots, progress
    ∷ (face 1 (empties 63), true) ∷ (face 1 (empties 64), false) ∷ (face 7 (empties 64), true) ∷ (face 7 (empties 65), false)
    ∷ (face 7 (progress (pos progress_limit)), true) ∷ (face 7 (progress (pos (suc progress_limit))), false) ∷ (face 7 (progress (negsuc 0)), false)
    ∷ (face 0 (progress (pos 1)), true) ∷ (face 0 (progress (pos 0)), false) ∷ (face 0 (progress (pos 100)), true) ∷ (face 1 (progress (negsuc 0)), false)
    -- children
    ∷ (face 2 (halves None), false) ∷ (face 2 (halves (Some (1, 0))), true) ∷ (face 2 (halves (Some (0, 0))), false)
    ∷ (face 2 (halves (Some (0, 3))), false) ∷ (face 2 (halves (Some (0, 2))), false) ∷ (face 0 (parent None), false) ∷ (face 0 (parent (Some 3)), false)
    ∷ (face 0 (parent (Some 1)), false) ∷ (face 3 (parent (Some 4)), false) ∷ (face 3 (parent (Some 8)), false) ∷ (face 7 (halves (Some (3, 4))), false)
    -- serials
    ∷ (face 1 (node 0 (serial 7)), false) ∷ (face 1 (node 0 (serial 0)), false) ∷ (face 1 (node 0 (serial 6)), false) ∷ (face 0 (node 0 (serial 2)), false)
    ∷ (λ b. next 100 (face 1 (node 0 (serial 99)) b), true)
    -- member and parent
    ∷ (face 0 (node 0 (inside None)), false) ∷ (face 0 (node 0 (inside (Some (h 0 3 5)))), false) ∷ (face 0 (node 0 (inside (Some (h 0 1 2)))), false)
    ∷ (face 1 (node 0 (inside (Some (h 0 3 4)))), false) ∷ (face 2 (node 0 (inside (Some (h 0 3 4)))), false) ∷ (face 0 (node 0 (state grows)), false)
    ∷ (face 0 (node 0 (state shrinks)), false) ∷ (ring (own 0 ∷ own 1 ∷ []), false) ∷ (ring (own 0 ∷ own 1 ∷ own 1 ∷ []), false)
    ∷ (ring (own 2 ∷ own 0 ∷ own 1 ∷ []), true) ∷ (ring (own 0 ∷ own 1 ∷ own 2 ∷ own 0 ∷ []), false) ∷ (ring [], false) ∷ (face 0 (lose 1), false) ∷ (face 0 (lose 3), false)
    ∷ (λ b. next 100 (face 0 (node 0 (serial 50)) (ring (m (h 0 0 50) (h 0 0 1) (h 0 0 1) ∷ own 1 ∷ own 2 ∷ []) b)), false)
    -- sizes
    ∷ (face 0 (node 3 (size 2)), false) ∷ (face 0 (node 3 (size 4)), false) ∷ (face 0 (node 0 (size 2)), false) ∷ (face 1 (node 0 (size 0)), false)
    -- touching handles: in range, serials below the next; they need not name anything, and 0 is below the next
    ∷ (touched (h 7 63 6), true) ∷ (touched (h 0 0 0), true) ∷ (touched (h 8 0 1), false) ∷ (touched (h 0 64 1), false) ∷ (touched (h 0 0 7), false)
    -- values within W of the top, 12 here
    ∷ (face 1 (node 0 (value (pos 12))), true) ∷ (face 1 (node 0 (value (pos 13))), false) ∷ (face 1 (node 0 (value (negsuc 11))), true) ∷ (face 1 (node 0 (value (negsuc 12))), false)
    ∷ (face 0 (node 0 (value (pos 12))), true) ∷ (face 0 (node 0 (value (pos 13))), false)
    -- the top's sum within 512 W and its speed; a child's own are free
    ∷ (face 2 (sum (pos 6144)), true) ∷ (face 2 (sum (pos 6145)), false) ∷ (face 2 (sum (negsuc 6143)), true) ∷ (face 2 (sum (negsuc 6144)), false) ∷ (face 0 (sum (pos 6145)), true)
    ∷ (face 2 (speed (pos 2)), false) ∷ (face 2 (speed (pos 0)), false) ∷ (face 0 (speed (pos 9)), true) ∷ (face 7 (speed (pos 1)), false) ∷ (face 1 (node 0 (state stays)), false)
    ∷ (λ b. face 2 (speed (pos 0)) (face 1 (node 0 (state stays)) b), true)
    -- 8 interfaces
    ∷ (λ b. record { next = b.next; interfaces = take 7 b.interfaces; plain = b.plain }, false)
    ∷ []

pub verdicts : map (λ (r : (Bench → Bench) × Bool). sound (r.0 made)) rows ≡ map (λ (r : (Bench → Bench) × Bool). r.1) rows
unfolding run ran made
verdicts = refl

-- what a call answers then: 2 exactly where the bench is not sound
abbrev pub is_two : ℕ → Bool
is_two n = not (eqb n BROKEN)

pub broken : map (λ (r : (Bench → Bench) × Bool). is_two (answer (r.0 made) (Grow 2 (pos 0))).number) rows ≡ map (λ (r : (Bench → Bench) × Bool). r.1) rows
unfolding run ran made
broken = refl
