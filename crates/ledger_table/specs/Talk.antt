-- The recordings' line language (oracle/README.md), answered by a ledger: a letter and numbers in, numbers out. Assumes nothing.
use Rattle.std.specs.Prelude.{None, Some, Option, ℕ, zero, suc, ◌+◌, Bool, true, false, List, [], ◌∷◌, ◌++◌, map, length, get_or, set, replicate, drop, eqb, ℤ, pos, negsuc, nat_abs}
use Prim.Native.Char.{Char, code}
use Rattle.kinds.specs.declared.Handle.{Handle as Code}
use Rattle.kinds.specs.declared.Pair.{Pair}
use Rattle.kinds.specs.declared.Entry.{Entry}
use Rattle.kinds.specs.declared.Stop.{Stop}
use Rattle.kinds.specs.declared.Obstacle.{Obstacle}
use Rattle.kinds.specs.declared.Obstacle.TheVariants.{NonZeroGrow, Conflicting, TouchingVirtual, BlossomNeedExpand, VertexShrinkStop}
use Rattle.ledger_spec.specs.Bench.{Handle, State, grows, stays, shrinks, rate, Member, defect, blossom, Node, Bench}
use Rattle.ledger_spec.specs.Calls.{set_up_call, Call, Defect, Blossom, Expand, SetState, Grow, Fuse, Clear}
use Rattle.ledger_spec.specs.Notices.{Notice, defect_added, state_set, shrink_prepared, blossom_added, blossom_removed, grown}
use Rattle.ledger_spec.specs.Reads.{slots_of}
use Rattle.ledger_spec.specs.Answers.{Answer, answer, ask, Read, sum_read, speed_read, count_read, index_read, belongs_read, value_read, outer_read, below_read, first_read, vertices_read, check_read, strict_read}
use Rattle.ledger_spec.specs.Lines.{named, shown}
use Rattle.ledger_spec.specs.Groups.{Group, growth, conflicts, empty_group}
use Rattle.ledger_spec.specs.GroupCalls.{is_empty, is_active, growth_of, peek, pop, add, extend}

-- who answers: calls, reads, and the two calls on groups that are lent a bench
pub record Ledger : Type 1 where
  pub answer : Bench → Call → Answer
  pub ask : {A : Type 0} → Bench → A → ℕ × A → ℕ × A
  pub add : Bench → Group → Obstacle → ℕ × Group
  pub extend : Bench → Group → Group → ℕ × Group

-- the plain ledger, with BROKEN in front of every answer
abbrev pub plain : Ledger
plain = record { answer = answer; ask = ask; add = add; extend = extend }

-- a bench and four groups
pub record Desk : Type 0 where
  pub bench : Bench
  pub groups : List Group

abbrev pub new_desk : Bench → Desk
new_desk b = record { bench = b; groups = replicate 4 empty_group }

-- what is answered, and the desk after it
pub record Turn : Type 0 where
  pub says : List ℤ
  pub desk : Desk

-- ---- numbers

abbrev pub bit : Bool → ℤ
bit true = pos 1
bit false = pos 0

abbrev pub num : ℕ → ℤ
num n = pos n

abbrev pub arg : List ℤ → ℕ → ℤ
arg l k = get_or l k (pos 0)

abbrev pub nat : List ℤ → ℕ → ℕ
nat l k = nat_abs (arg l k)

abbrev pub flag : ℤ → Bool
flag z = eqb (nat_abs z) 1

abbrev pub state_said : ℤ → State
state_said (pos zero) = stays
state_said (pos (suc n)) = grows
state_said (negsuc n) = shrinks

unfoldable pub flattened : {A : Type 0} → (A → List ℤ) → List A → List ℤ
flattened f [] = []
flattened f (x ∷ xs) = f x ++ flattened f xs

-- a row of numbers by threes and twos
unfoldable pub serials_said : ℕ → List ℤ → List ℕ
serials_said zero l = []
serials_said (suc k) l = nat_abs (get_or l 0 (pos 0)) ∷ serials_said k (drop 1 l)

unfoldable pub triples : ℕ → List ℤ → List (ℕ × ℕ × ℕ)
triples zero l = []
triples (suc k) [] = []
triples (suc k) (a ∷ l) = (nat_abs a, nat_abs (get_or l 0 (pos 0)), nat_abs (get_or l 1 (pos 0))) ∷ triples k (drop 2 l)

unfoldable pub pairs : ℕ → List ℤ → List (ℕ × ℕ)
pairs zero l = []
pairs (suc k) [] = []
pairs (suc k) (a ∷ l) = (nat_abs a, nat_abs (get_or l 0 (pos 0))) ∷ pairs k (drop 1 l)

-- ---- what is shown of nodes, notices, obstacles, groups

abbrev pub shown_notice : Notice → List ℤ
shown_notice (defect_added h) = pos 1 ∷ num h.serial ∷ []
shown_notice (state_set h s) = pos 2 ∷ num h.serial ∷ rate s ∷ []
shown_notice (shrink_prepared hs) = pos 3 ∷ num (length hs) ∷ map (λ (h : Handle). num h.serial) hs
shown_notice (blossom_added h) = pos 4 ∷ num h.serial ∷ []
shown_notice (blossom_removed h) = pos 5 ∷ num h.serial ∷ []
shown_notice (grown l) = pos 6 ∷ l ∷ []

abbrev pub parent_serial : Option Handle → ℤ
parent_serial None = pos 0
parent_serial (Some h) = num h.serial

abbrev pub shown_member : Member → List ℤ
shown_member m = num m.node.serial ∷ num m.touch.0.serial ∷ num m.touch.1.serial ∷ []

unfoldable pub shown_slot : ℕ × ℕ × Option Node → List ℤ
shown_slot t = elim t.2 [
  | None ↦ pos 0 ∷ []
  | Some n ↦ elim n.class [
    | defect v ↦ pos 1 ∷ num n.serial ∷ rate n.state ∷ parent_serial n.parent ∷ num n.size ∷ n.value ∷ num v ∷ []
    | blossom ms ↦ pos 2 ∷ num n.serial ∷ rate n.state ∷ parent_serial n.parent ∷ num n.size ∷ n.value ∷ num (length ms) ∷ flattened shown_member ms
  ]
]

abbrev pub ser : Code → ℤ
ser h = num h.serial.0

abbrev pub shown_obstacle : Obstacle → List ℤ
shown_obstacle (NonZeroGrow l f) = pos 1 ∷ l ∷ bit f ∷ []
shown_obstacle (Conflicting p q) = pos 2 ∷ ser p.node ∷ ser p.touching ∷ ser q.node ∷ ser q.touching ∷ []
shown_obstacle (TouchingVirtual p v m) = pos 3 ∷ ser p.node ∷ ser p.touching ∷ num v.0 ∷ bit m ∷ []
shown_obstacle (BlossomNeedExpand n) = pos 4 ∷ ser n ∷ []
shown_obstacle (VertexShrinkStop n None) = pos 5 ∷ ser n ∷ []
shown_obstacle (VertexShrinkStop n (Some p)) = pos 6 ∷ ser n ∷ ser p.node ∷ ser p.touching ∷ []

abbrev pub shown_taken : Option Obstacle → List ℤ
shown_taken None = pos 0 ∷ []
shown_taken (Some o) = shown_obstacle o

abbrev pub shown_group : Group → List ℤ
shown_group (growth l f) = pos 1 ∷ l ∷ bit f ∷ []
shown_group (conflicts l s) = pos 2 ∷ num (length l) ∷ (flattened (λ (e : Entry). shown_obstacle e.obstacle) l
    ++ (num (length s) ∷ flattened (λ (x : Stop). num x.vertex.0 ∷ shown_obstacle x.obstacle) s))

abbrev pub shown_length : Option ℤ → List ℤ
shown_length None = pos 0 ∷ pos 0 ∷ []
shown_length (Some l) = pos 1 ∷ l ∷ []

abbrev pub shown_handle : Option Handle → List ℤ
shown_handle None = pos 0 ∷ pos 0 ∷ pos 0 ∷ []
shown_handle (Some h) = num h.serial ∷ num h.unit ∷ num h.slot ∷ []

-- ---- calls

abbrev pub four : ℕ × ℕ × ℤ × ℤ → List ℤ
four t = num t.0 ∷ num t.1 ∷ t.2 ∷ t.3 ∷ []

-- a call that names interface u: four numbers, then its notices
unfoldable pub acts : Ledger → Desk → ℕ → Call → Turn
acts L k u c = let a : Answer = L.answer k.bench c in record {
  says = four (shown a.number a.node.serial a.bench u) ++ (num (length a.notices) ∷ flattened shown_notice a.notices);
  desk = record { bench = a.bench; groups = k.groups };
}

-- what each letter calls, with the numbers l behind it
unfoldable pub calls_said : Bench → List ℤ → List (Char × Call)
calls_said b l =
    let u : ℕ = nat l 0 in
    let t : List (ℕ × ℕ × ℕ) = triples 400 (drop 1 l) in
    ("D", Defect u (nat l 1))
    ∷ ("B", Blossom u (map (λ (z : ℤ). named b (nat_abs z)) (drop 1 l)) [])
    ∷ ("b", Blossom u (map (λ (x : ℕ × ℕ × ℕ). named b x.0) t) (map (λ (x : ℕ × ℕ × ℕ). (named b x.1, named b x.2)) t))
    ∷ ("t", Blossom u (map (named b) (serials_said (nat l 1) (drop 2 l))) (map (λ (x : ℕ × ℕ). (named b x.0, named b x.1)) (pairs 400 (drop (2 + nat l 1) l))))
    ∷ ("E", Expand u (named b (nat l 1)))
    ∷ ("S", SetState u (named b (nat l 1)) (state_said (arg l 2)))
    ∷ ("G", Grow u (arg l 1))
    ∷ ("F", Fuse u (nat l 1) (nat l 2))
    ∷ ("C", Clear u)
    ∷ []

-- ---- groups: what is said, and the group after it

abbrev pub group : Desk → ℕ → Group
group k g = get_or k.groups g empty_group

abbrev pub code' : Bench → ℕ → Code
code' b n = let h : Handle = named b n in record { unit = h.unit; slot = h.slot; serial = record { 0 = h.serial } }

unfoldable pub adds : Ledger → Desk → ℕ → Obstacle → List ℤ × Group
adds L k g o = let r : ℕ × Group = L.add k.bench (group k g) o in (num r.0 ∷ [], r.1)

unfoldable pub extends : Ledger → Desk → ℕ → ℕ → List ℤ × Group
extends L k g h = let r : ℕ × Group = L.extend k.bench (group k g) (group k h) in (num r.0 ∷ [], r.1)

unfoldable pub pops_one : Group → List ℤ × Group
pops_one g = let r : ℕ × (Option Obstacle × Group) = pop g in (num r.0 ∷ shown_taken r.1.0, r.1.1)

unfoldable pub changes : Ledger → Desk → List ℤ → List (Char × (List ℤ × Group))
changes L k l =
    let g : ℕ = nat l 0 in
    let n : ℕ → Code = λ i. code' k.bench (nat l i) in
    let p : ℕ → ℕ → Pair = λ i j. record { node = n i; touching = n j } in
    ("e", (pos 0 ∷ [], empty_group))
    ∷ ("g", adds L k g (NonZeroGrow (arg l 1) (flag (arg l 2))))
    ∷ ("c", adds L k g (Conflicting (p 1 2) (p 3 4)))
    ∷ ("w", adds L k g (TouchingVirtual (p 1 2) (record { 0 = nat l 3 }) (flag (arg l 4))))
    ∷ ("x", adds L k g (BlossomNeedExpand (n 1)))
    ∷ ("q", adds L k g (VertexShrinkStop (n 1) None))
    ∷ ("r", adds L k g (VertexShrinkStop (n 1) (Some (p 2 3))))
    ∷ ("j", extends L k g (nat l 1))
    ∷ ("z", pops_one (group k g))
    ∷ []

-- ---- reads

-- a number, and what stands behind it
unfoldable pub shows : {A : Type 0} → (A → List ℤ) → ℕ × A → List ℤ
shows f r = num r.0 ∷ f r.1

-- a read, by this ledger
abbrev pub asks : {A : Type 0} → Ledger → Bench → Read A → ℕ × A
asks L b r = L.ask b r.zero r.own

unfoldable pub checked : Ledger → Bench → ℕ → List ℤ
checked L b u = let r : ℕ × (ℕ × ℕ) = asks L b (check_read b u) in four (shown r.0 r.1.0 b u) ++ (num r.1.1 ∷ [])

unfoldable pub dumped : Ledger → Bench → ℕ → List ℤ
dumped L b u = elim (asks L b (count_read b u)).0 [
  | zero ↦ pos 0 ∷ num (length (slots_of b u)) ∷ flattened shown_slot (slots_of b u)
  | suc n ↦ num (suc n) ∷ pos 0 ∷ []
]

-- all vertices, into so many entries that hold 77
unfoldable pub vertices : Ledger → Bench → Handle → ℕ → List ℤ
vertices L b h room =
    shows (λ (r : ℕ × List ℕ). num r.0 ∷ map num r.1) (asks L b (vertices_read b h (replicate room 77)))

unfoldable pub group_asked : Group → List ℤ
group_asked g = pos 0 ∷ bit (is_empty g).1 ∷ bit (is_active g).1 ∷ shows shown_length (growth_of g)

unfoldable pub reads : Ledger → Desk → List ℤ → List (Char × List ℤ)
reads L k l =
    let b : Bench = k.bench in
    let u : ℕ = nat l 0 in
    let h : Handle = named b (nat l 0) in
    let g : Group = group k (nat l 0) in
    ("K", checked L b u)
    ∷ ("k", shows (λ (r : ℕ × ℕ). num r.0 ∷ num r.1 ∷ []) (asks L b (strict_read b u)))
    ∷ ("s", shows (λ (z : ℤ). z ∷ []) (asks L b (sum_read b u)))
    ∷ ("p", shows (λ (z : ℤ). z ∷ []) (asks L b (speed_read b u)))
    ∷ ("n", shows (λ (n : ℕ). num n ∷ []) (asks L b (count_read b u)))
    ∷ ("h", shows shown_handle (asks L b (index_read b u (nat l 1))))
    ∷ ("i", shows (λ (f : Bool). bit f ∷ []) (asks L b (belongs_read b u (named b (nat l 1)))))
    ∷ ("d", dumped L b u)
    ∷ ("v", shows (λ (z : ℤ). z ∷ []) (asks L b (value_read b h)))
    ∷ ("o", shows (λ (r : Handle × ℕ). num r.0.serial ∷ num r.1 ∷ []) (asks L b (outer_read b h)))
    ∷ ("u", shows (λ (g : Handle). num g.serial ∷ []) (asks L b (below_read b h)))
    ∷ ("f", shows (λ (n : ℕ). num n ∷ []) (asks L b (first_read b h)))
    ∷ ("a", vertices L b h (nat l 1))
    ∷ ("y", group_asked g)
    ∷ ("l", shows shown_taken (peek g))
    ∷ ("m", pos 0 ∷ shown_group g)
    ∷ []

-- ---- a line

-- what stands under a letter
unfoldable pub by_letter : {A : Type 0} → ℕ → List (Char × A) → Option A
by_letter c [] = None
by_letter c (r ∷ rs) = elim (eqb c (code r.0)) [ true ↦ Some r.1 | false ↦ by_letter c rs ]

-- a letter that stands nowhere says nothing
abbrev pub or_nothing : Option (List ℤ) → List ℤ
or_nothing None = []
or_nothing (Some l) = l

unfoldable pub regroups : Ledger → Desk → ℕ → List ℤ → Option (List ℤ × Group) → Turn
regroups L k c l None = record { says = or_nothing (by_letter c (reads L k l)); desk = k }
regroups L k c l (Some r) = record { says = r.0; desk = record { bench = k.bench; groups = set k.groups (nat l 0) r.1 } }

unfoldable pub performs : Ledger → Desk → ℕ → List ℤ → Option Call → Turn
performs L k c l None = regroups L k c l (by_letter c (changes L k l))
performs L k c l (Some x) = acts L k (nat l 0) x

unfoldable pub opens : Ledger → Desk → ℕ → List ℤ → Bool → Turn
opens L k c l true = record { says = num (set_up_call (nat l 0)).number ∷ []; desk = new_desk (set_up_call (nat l 0)).bench }
opens L k c l false = performs L k c l (by_letter c (calls_said k.bench l))

-- N sets up; the other letters stand for calls, changes of groups and reads
unfoldable pub desk_turn : Ledger → Desk → ℕ → List ℤ → Turn
desk_turn L k c l = opens L k c l (eqb c (code "N"))
