-- What the patch asks of either bench is answered alike. Assumes nothing.
use Rattle.std.specs.Prelude.{None, Option, Some}
use Prim.Native.Nat.{ℕ, suc}
use mathlib.Core.Path.{◌≡◌, refl, sym, ◌∙◌, subst, ap, ap₂}
use mathlib.Core.Bool.{Bool, true, false, ◌&&◌, not}
use mathlib.Core.List.{List, [], ◌∷◌, ◌++◌, map}
use lib.Dec.{eqb, leb, ltb}
use lib.ListN.{get_or, drop, length, length-map, get_or-map}
use lib.IntN.{pos}
use Rattle.kinds.specs.Names.{same_code}
use Rattle.kinds.specs.declared.Handle.{Handle as Code}
use Rattle.kinds.specs.declared.Obstacle.{Obstacle}
use Rattle.kinds.specs.declared.Obstacle.TheVariants.{NonZeroGrow, Conflicting, TouchingVirtual, BlossomNeedExpand, VertexShrinkStop}
use Rattle.ledger_spec.specs.Named.{handle_named}
use Rattle.ledger_spec.specs.Sound.{sound}
use Rattle.ledger_spec.specs.Groups.{Group, sound_group, added, extended}
use Rattle.ledger_spec.specs.GroupCalls.{is_empty, is_active, growth_of, peek, pop, handles_of, group_handles, stale_code, vertex_of, or_else, add, extend}
use Rattle.ledger_spec.proofs.Lists.{map_in}
use Rattle.ledger_spec.specs.Bench.{Handle, Node, Interface, Bench}
use Rattle.ledger_spec.specs.Look.{interface, node_named}
use Rattle.ledger_spec.specs.Change.{worth}
use Rattle.ledger_spec.specs.Tests.{first, any, is_some as present, outside, floored}
use Rattle.ledger_spec.specs.Refuse.{unit_tests}
use Rattle.ledger_spec.specs.Reads.{said, slots_of, as_handle, sum_of, speed_of, count_of, fills_of, floored_of, index_tests, handle_at_index, node_tests, value_of, belongs}
use Rattle.ledger_spec.specs.Walk.{parent_in, outermost, links_from, below_from, vertices_of, outer_of, below_tests, below_of, first_vertex, size_tests, vertices_into}
use Rattle.ledger_spec.specs.Deeds.{size_of}
use Rattle.ledger_spec.specs.Calls.{nobody}
use Rattle.ledger_spec.specs.Check.{verdict, strict_verdict, check_of, strict_of}
use Rattle.ledger_spec.specs.Answers.{ask, read, check_read}
use Rattle.ledger_spec.specs.Knit.{here, In}
use Rattle.ledger_spec.proofs.Holds.{holds}
use Rattle.ledger_laws.proofs.Asked.{ask_true}
use Rattle.ledger_sparing.specs.Sparing.{pop_sparing}
use Rattle.bench_words.specs.Codec.{pick}
use Rattle.read_present.specs.Present.{present_in, or_else as or_next, next_from, present_of, next_of}
use Rattle.picture_spec.specs.Picture.{picture, picture_tests, picture_into}
use Rattle.patch_laws.specs.Patch.{Patch, mine, Table, given, Name, name_of}
use Rattle.patch_laws.specs.Runs.{Read, Value, Outer, Below, First, Vertices, Belongs, At, Next, Sum, Speed, Count, Present, Fills, Floored, Check, Strict, Picture, Empty, Active, Growth, Peek, Pop, Spare, Add, Extend, Seen, amount, counted, truth, named, linked, indexed, found, listed, judged, measured, peeked, taken, kept, name_in, lent, back, Side, read_by, told}
use Rattle.patch_laws.specs.Statement.{read_of}
use Rattle.patch_laws.proofs.Renamed.{re_parent, re_slot, re_worth, re_size}
use Rattle.patch_laws.proofs.Alike.{Each, any_map, Names, node_faces, stale_faces, foreign_faces, child_faces, floored_faces, unit_faces}
use Rattle.patch_laws.proofs.Rising.{by, rising_above, rising_one, rising_names, name_same}
use Rattle.patch_laws.proofs.Links.{Link, given_mine, given_faces}
use Rattle.patch_laws.proofs.Gathered.{Entry, re_entry, slots_faces, present_faces}
use Rattle.patch_laws.proofs.Upward.{up_faces, outer_faces, links_faces, under_faces, vertices_faces}
use Rattle.patch_laws.specs.Obstacles.{map_obstacle, map_taken, map_group, coded, given_code, name_code, number_code}
use Rattle.patch_laws.proofs.Obstacles.{said_map, obstacle_twice, group_twice, taken_twice, handles_map, group_map, sound_map, empty_map, active_map, growth_map, peek_map, map_popped, pop_map, spare_map, mapped, added_map, extended_map}
use Rattle.patch_laws.proofs.Checks.{verdict_faces, strict_verdict_lem}
use Rattle.patch_laws.proofs.Pictures.{picture_faces}

re_some : (ρ : ℕ → ℕ) (o : Option Handle) → present (re_parent (by ρ) o) ≡ present o
re_some ρ None = refl
re_some ρ (Some h) = refl

-- ---- a slot's handle, and the next present one
re_as : (ρ : ℕ → ℕ) (t : Entry) (o : Option Node) → as_handle (t.0, t.1, re_slot (by ρ) o) ≡ re_parent (by ρ) (as_handle (t.0, t.1, o))
re_as ρ t None = refl
re_as ρ t (Some n) = refl

abbrev re_found : (ℕ → ℕ) → ℕ × Option Handle → ℕ × Option Handle
re_found ρ x = (x.0, re_parent (by ρ) x.1)

next_faces : (ρ : ℕ → ℕ) (i k : ℕ) (ts : List Entry) → next_from i k (map (re_entry (by ρ)) ts) ≡ re_found ρ (next_from i k ts)
unfolding next_from
next_faces ρ i k [] = refl
next_faces ρ i k (t ∷ ts) = ap₂ (λ (o : Option Handle) (r : ℕ × Option Handle). or_next o i r) (here_or (leb k i)) (next_faces ρ (suc i) k ts) ∙ joined (pick (leb k i) (as_handle t) None) (next_from (suc i) k ts)
  where
    here_or : (c : Bool) → pick c (as_handle (re_entry (by ρ) t)) None ≡ re_parent (by ρ) (pick c (as_handle t) None)
    here_or true = re_as ρ t t.2
    here_or false = refl

    joined : (o : Option Handle) (r : ℕ × Option Handle) → or_next (re_parent (by ρ) o) i (re_found ρ r) ≡ re_found ρ (or_next o i r)
    joined None r = refl
    joined (Some h) r = refl

module _ (p : Patch) (ρ : ℕ → ℕ) (k₀ k : Side) (L : Link p ρ k₀ k) where
  abbrev s : Bench
  s = k₀.bench

  abbrev b : Bench
  b = k.bench

  N : Names p (by ρ)
  N = rising_names ρ s.next b.next L.rising p

  -- neither bench is broken
  asked_same : {A : Type 0} (z : A) (r r₀ : ℕ × A) → r ≡ r₀ → ask b z r ≡ ask s z r₀
  asked_same z r r₀ e = ask_true b z r (holds b L.sound) ∙ e ∙ sym (ask_true s z r₀ (holds s L.sound₀))

  value_same : (h : Handle) → mine p h.unit ≡ true → value_of b ((by ρ).handle h) ≡ value_of s h
  unfolding value_of node_tests
  value_same h m = λ i. said (first ((stale_faces p (by ρ) s b L.closed L.faces N h m i, 8) ∷ [])) ((ap worth (node_faces p (by ρ) s b L.closed L.faces N h m) ∙ re_worth (by ρ) (node_named s h)) i) (pos 0)

  one : (i j : ℕ) → eqb (ρ i) (ρ j) ≡ eqb i j
  one = rising_one ρ s.next b.next L.rising

  name_was : (h : Handle) → name_of k.table ((by ρ).handle h) ≡ name_of k₀.table h
  name_was h = ap (λ (t : Table). name_of t ((by ρ).handle h)) L.table ∙ name_same ρ one k₀.table h

  nobody_was : nobody ≡ (by ρ).handle nobody
  nobody_was = λ i. record { unit = 0; slot = 0; serial = sym L.rising.origin i }

  -- ---- of a node
  module _ (h : Handle) (m : mine p h.unit ≡ true) where
    stale_was : first (node_tests b ((by ρ).handle h)) ≡ first (node_tests s h)
    unfolding node_tests
    stale_was = λ i. first ((stale_faces p (by ρ) s b L.closed L.faces N h m i, 8) ∷ [])

    vertices_was : vertices_of b ((by ρ).handle h) ≡ vertices_of s h
    vertices_was = vertices_faces p ρ s b L.closed L.faces N L.held L.sound₀ (rising_above ρ s.next b.next L.rising) h m

    size_was : size_of (node_named b ((by ρ).handle h)) ≡ size_of (node_named s h)
    size_was = ap size_of (node_faces p (by ρ) s b L.closed L.faces N h m) ∙ re_size (by ρ) (node_named s h)

    outer_same : outer_of b ((by ρ).handle h) ≡ ((outer_of s h).0, ((by ρ).handle (outer_of s h).1.0, (outer_of s h).1.1))
    unfolding outer_of
    outer_same = (λ i. said (stale_was i) ((outer_faces p ρ s b L.closed L.faces N L.held 512 h m).0 i, links_faces p ρ s b L.closed L.faces N L.held 512 h m i) (nobody_was i, 0))
        ∙ said_map (λ (x : Handle × ℕ). ((by ρ).handle x.0, x.1)) (first (node_tests s h)) (outermost s h, links_from 512 s h) (nobody, 0)

    below_same : below_of b ((by ρ).handle h) ≡ ((below_of s h).0, (by ρ).handle (below_of s h).1)
    unfolding below_of below_tests
    below_same = (λ i. said (first ((stale_faces p (by ρ) s b L.closed L.faces N h m i, 8) ∷ (not (orphan i), 12) ∷ [])) (under_faces p ρ s b L.closed L.faces N L.held 512 h h m i) (nobody_was i))
        ∙ said_map (by ρ).handle (first (below_tests s h)) (below_from 512 s h h) nobody
      where
        orphan : present (parent_in (node_named b ((by ρ).handle h))) ≡ present (parent_in (node_named s h))
        orphan = ap present (up_faces p ρ s b L.closed L.faces N L.held h m) ∙ re_some ρ (parent_in (node_named s h))

    first_same : first_vertex b ((by ρ).handle h) ≡ first_vertex s h
    unfolding first_vertex
    first_same = λ i. said (stale_was i) (get_or (vertices_was i) 0 0) 0

    vertices_same : (out : List ℕ) → vertices_into b ((by ρ).handle h) out ≡ vertices_into s h out
    unfolding vertices_into size_tests
    vertices_same out = λ i. said (first ((stale_faces p (by ρ) s b L.closed L.faces N h m i, 8) ∷ (ltb (length out) (size_was i), 19) ∷ [])) (length (vertices_was i), vertices_was i ++ drop (length (vertices_was i)) out) (0, out)

  -- ---- of an interface
  module _ (u : ℕ) (m : mine p u ≡ true) where
    -- a read of an interface, by what it says
    unit_same : {A : Type 0} (x y z : A) → x ≡ y → said (first (unit_tests b u)) x z ≡ said (first (unit_tests s u)) y z
    unit_same x y z e = λ i. said (first (unit_faces p (by ρ) s b L.closed L.faces N u m i)) (e i) z

    sum_same : sum_of b u ≡ sum_of s u
    unfolding sum_of
    sum_same = unit_same (interface b u).sum (interface s u).sum (pos 0) (ap (λ (f : Interface). f.sum) (L.faces.face u m))

    speed_same : speed_of b u ≡ speed_of s u
    unfolding speed_of
    speed_same = unit_same (interface b u).speed (interface s u).speed (pos 0) (ap (λ (f : Interface). f.speed) (L.faces.face u m))

    count_same : count_of b u ≡ count_of s u
    unfolding count_of
    count_same = unit_same (length (slots_of b u)) (length (slots_of s u)) 0 (ap length (slots_faces p (by ρ) s b L.closed L.faces u m) ∙ length-map (slots_of s u) (re_entry (by ρ)))

    fills_same : fills_of b u ≡ fills_of s u
    unfolding fills_of
    fills_same = unit_same (interface b u).marks.fills (interface s u).marks.fills false (ap (λ (f : Interface). f.marks.fills) (L.faces.face u m))

    floored_same : floored_of b u ≡ floored_of s u
    unfolding floored_of
    floored_same = unit_same (floored b u) (floored s u) false (floored_faces p (by ρ) s b L.closed L.faces N u m)

    check_same : check_of b u ≡ check_of s u
    unfolding check_of
    check_same = unit_same (verdict b u) (verdict s u) (0, 0) (verdict_faces p ρ s b L.closed L.faces N L.held L.rising.origin u m)

    pub check_was : read b (check_read b u) ≡ read s (check_read s u)
    check_was = asked_same (0, 0) (check_of b u) (check_of s u) check_same

    strict_same : strict_of b u ≡ strict_of s u
    unfolding strict_of
    strict_same = unit_same (strict_verdict b u) (strict_verdict s u) (0, 0) (strict_verdict_lem p ρ s b L.closed L.faces N L.held L.rising.origin u m)

    belongs_same : (h : Handle) → mine p h.unit ≡ true → belongs b u ((by ρ).handle h) ≡ belongs s u h
    unfolding belongs
    belongs_same h x = unit_same _ _ false (λ i. not (stale_faces p (by ρ) s b L.closed L.faces N h x i) && not (foreign_faces p (by ρ) s b L.closed L.faces N u h x i))

    present_same : present_of b u ≡ present_of s u
    unfolding present_of
    present_same = unit_same (present_in (slots_of b u)) (present_in (slots_of s u)) 0 (ap present_in (slots_faces p (by ρ) s b L.closed L.faces u m) ∙ present_faces (by ρ) (slots_of s u))

    -- ---- by an index
    index_was : (k : ℕ) → first (index_tests b u k) ≡ first (index_tests s u k)
    unfolding index_tests
    index_was k = λ i. first ((outside u, 3) ∷ (child_faces p (by ρ) s b L.closed L.faces N u m i, 4) ∷ (leb (count_was i) k, 18) ∷ [])
      where
        count_was : length (slots_of b u) ≡ length (slots_of s u)
        count_was = ap length (slots_faces p (by ρ) s b L.closed L.faces u m) ∙ length-map (slots_of s u) (re_entry (by ρ))

    index_same : (k : ℕ) → handle_at_index b u k ≡ ((handle_at_index s u k).0, re_parent (by ρ) (handle_at_index s u k).1)
    unfolding handle_at_index
    index_same k = (λ i. said (index_was k i) (handle_was i) None) ∙ said_map (re_parent (by ρ)) (first (index_tests s u k)) (as_handle (get_or (slots_of s u) k (0, 0, None))) None
      where
        handle_was : as_handle (get_or (slots_of b u) k (0, 0, None)) ≡ re_parent (by ρ) (as_handle (get_or (slots_of s u) k (0, 0, None)))
        handle_was = ap (λ (l : List Entry). as_handle (get_or l k (0, 0, None))) (slots_faces p (by ρ) s b L.closed L.faces u m) ∙ ap as_handle (get_or-map (re_entry (by ρ)) (slots_of s u) k (0, 0, None))
            ∙ re_as ρ (get_or (slots_of s u) k (0, 0, None)) (get_or (slots_of s u) k (0, 0, None)).2

    next_same : (k : ℕ) → next_of b u k ≡ ((next_of s u k).0, re_found ρ (next_of s u k).1)
    unfolding next_of
    next_same k = (λ i. said (index_was k i) (next_was i) (0, None)) ∙ said_map (re_found ρ) (first (index_tests s u k)) (next_from 0 k (slots_of s u)) (0, None)
      where
        next_was : next_from 0 k (slots_of b u) ≡ re_found ρ (next_from 0 k (slots_of s u))
        next_was = ap (next_from 0 k) (slots_faces p (by ρ) s b L.closed L.faces u m) ∙ next_faces ρ 0 k (slots_of s u)

    picture_same : (a : Bool) (out : List ℕ) → picture_into b u a out ≡ picture_into s u a out
    unfolding picture_into picture_tests
    picture_same a out = λ i. said (first (
        (outside u, 3)
        ∷ (child_faces p (by ρ) s b L.closed L.faces N u m i, 4)
        ∷ (not (eqb (verdict_faces p ρ s b L.closed L.faces N L.held L.rising.origin u m i).0 0), 24)
        ∷ (ltb (length out) (length (drawn i)), 19)
        ∷ [])) (length (drawn i), drawn i ++ drop (length (drawn i)) out) (0, out)
      where
        drawn : picture b u a ≡ picture s u a
        drawn = picture_faces p ρ s b L.closed L.faces u m a

  -- ---- the calls on groups
  F : Code → Code
  F c = record { unit = c.unit; slot = c.slot; serial = record { 0 = ρ c.serial.0 } }

  apart : (g h : Code) → same_code (F g) (F h) ≡ same_code g h
  unfolding F
  apart g h = ap (λ (c : Bool). eqb g.unit h.unit && (eqb g.slot h.slot && c)) (one g.serial.0 h.serial.0)

  not_broken : sound b ≡ sound s
  not_broken = holds b L.sound ∙ sym (holds s L.sound₀)

  gone_all : (l : List Code) → ((c : Code) → In c l → mine p c.unit ≡ true) → any (stale_code b) (map F l) ≡ any (stale_code s) l
  unfolding F
  gone_all l m = any_map (stale_code b) F (stale_code s) l (λ c i. stale_faces p (by ρ) s b L.closed L.faces N (handle_named c) (m c i))

  vertex_was : (o : Obstacle) → ((c : Code) → In c (handles_of o) → mine p c.unit ≡ true) → vertex_of b (map_obstacle F o) ≡ vertex_of s o
  unfolding F handles_of
  vertex_was (NonZeroGrow l f) m = refl
  vertex_was (Conflicting q r) m = refl
  vertex_was (TouchingVirtual q v f) m = refl
  vertex_was (BlossomNeedExpand n) m = refl
  vertex_was (VertexShrinkStop n q) m = ap (λ (r : ℕ × ℕ). r.1) (first_same (handle_named n) (m n (here refl)))

  -- a group, or the one that was there
  present_map : (o : Option Group) → present (mapped F apart o) ≡ present o
  present_map None = refl
  present_map (Some g) = refl

  else_map : (o : Option Group) (g : Group) → or_else (mapped F apart o) (map_group F g) ≡ map_group F (or_else o g)
  else_map None g = refl
  else_map (Some h) g = refl

  add_same : (g : Group) (o : Obstacle) → ((c : Code) → In c (handles_of o) → mine p c.unit ≡ true) → add b (map_group F g) (map_obstacle F o) ≡ ((add s g o).0, map_group F (add s g o).1)
  unfolding add
  add_same g o m = (λ i. said (first ((not (not_broken i && sound_map F g i), 2) ∷ (all_gone i, 8) ∷ (not ((ap present made ∙ present_map new) i), 20) ∷ []))
      ((ap (λ (x : Option Group). or_else x (map_group F g)) made ∙ else_map new g) i) (map_group F g))
      ∙ said_map (map_group F) (first ((not (sound s && sound_group g), 2) ∷ (any (stale_code s) (handles_of o), 8) ∷ (not (present new), 20) ∷ [])) (or_else new g) g
    where
      new : Option Group
      new = added g o (vertex_of s o)

      made : added (map_group F g) (map_obstacle F o) (vertex_of b (map_obstacle F o)) ≡ mapped F apart new
      made = ap (added (map_group F g) (map_obstacle F o)) (vertex_was o m) ∙ added_map F apart g o (vertex_of s o)

      all_gone : any (stale_code b) (handles_of (map_obstacle F o)) ≡ any (stale_code s) (handles_of o)
      all_gone = ap (any (stale_code b)) (handles_map F o) ∙ gone_all (handles_of o) m

  extend_same : (g h : Group) → ((c : Code) → In c (group_handles h) → mine p c.unit ≡ true) → extend b (map_group F g) (map_group F h) ≡ ((extend s g h).0, map_group F (extend s g h).1)
  unfolding extend
  extend_same g h m = (λ i. said (first ((not (not_broken i && (sound_map F g i && sound_map F h i)), 2) ∷ (all_gone i, 8) ∷ (not ((ap present made ∙ present_map new) i), 20) ∷ []))
      ((ap (λ (x : Option Group). or_else x (map_group F g)) made ∙ else_map new g) i) (map_group F g))
      ∙ said_map (map_group F) (first ((not (sound s && (sound_group g && sound_group h)), 2) ∷ (any (stale_code s) (group_handles h), 8) ∷ (not (present new), 20) ∷ [])) (or_else new g) g
    where
      new : Option Group
      new = extended g h

      made : extended (map_group F g) (map_group F h) ≡ mapped F apart new
      made = extended_map F apart g h

      all_gone : any (stale_code b) (group_handles (map_group F h)) ≡ any (stale_code s) (group_handles h)
      all_gone = ap (any (stale_code b)) (group_map F h) ∙ gone_all (group_handles h) m

  -- ---- every read
  node_was : (n : ℕ) → given k.table n ≡ (by ρ).handle (given k₀.table n)
  node_was n = ap (λ (t : Table). given t n) L.table ∙ given_faces ρ L.rising.origin k₀.table n

  mine_was : (n : ℕ) → mine p (given k₀.table n).unit ≡ true
  mine_was n = given_mine p k₀.table L.places n

  -- a read that answers handles, by their numbers
  asked_by : {A B : Type 0} (z : A) (f : A → A) (g g₀ : A → B) → ((x : A) → g (f x) ≡ g₀ x) → (r r₀ : ℕ × A) → r ≡ (r₀.0, f r₀.1) → ((ask b z r).0 ≡ (ask s z r₀).0) × (g (ask b z r).1 ≡ g₀ (ask s z r₀).1)
  asked_by {A} z f g g₀ e r r₀ q = (ap (λ (x : ℕ × A). x.0) (x ∙ q) ∙ ap (λ (x : ℕ × A). x.0) (sym y), ap (λ (x : ℕ × A). g x.1) (x ∙ q) ∙ e r₀.1 ∙ ap (λ (x : ℕ × A). g₀ x.1) (sym y))
    where
      x : ask b z r ≡ r
      x = ask_true b z r (holds b L.sound)

      y : ask s z r₀ ≡ r₀
      y = ask_true s z r₀ (holds s L.sound₀)

  in_was : (o : Option Handle) → name_in k.table (re_parent (by ρ) o) ≡ name_in k₀.table o
  in_was None = refl
  in_was (Some h) = ap Some (name_was h)

  -- a group by numbers, on either side
  group_was : (g : Group) → map_group (given_code k.table) g ≡ map_group F (map_group (given_code k₀.table) g)
  unfolding F
  group_was g = sym (group_twice F (given_code k₀.table) (given_code k.table) (λ c. ap coded (sym (node_was c.serial.0))) g)

  obstacle_was : (o : Obstacle) → map_obstacle (given_code k.table) o ≡ map_obstacle F (map_obstacle (given_code k₀.table) o)
  unfolding F
  obstacle_was o = sym (obstacle_twice F (given_code k₀.table) (given_code k.table) (λ c. ap coded (sym (node_was c.serial.0))) o)

  shown_was : (g : Group) → map_group (number_code k.table) (map_group F g) ≡ map_group (number_code k₀.table) g
  unfolding F
  shown_was g = group_twice (number_code k.table) F (number_code k₀.table) (λ c. ap name_code (name_was (handle_named c))) g

  codes_mine : (l : List Code) (c : Code) → In c (map (given_code k₀.table) l) → mine p c.unit ≡ true
  codes_mine l c i = let x = map_in (given_code k₀.table) l i in subst (λ (d : Code). mine p d.unit ≡ true) (sym x.2) (mine_was x.0.serial.0)

  kept_same : (z : Group) (r r₀ : ℕ × Group) → r ≡ (r₀.0, map_group F r₀.1) → (z₀ : Group)
      → kept ((ask b z r).0, map_group (number_code k.table) (ask b z r).1) ≡ kept ((ask s z₀ r₀).0, map_group (number_code k₀.table) (ask s z₀ r₀).1)
  kept_same z r r₀ e z₀ = ap show (ask_true b z r (holds b L.sound) ∙ e) ∙ ap (λ (x : Group). kept (r₀.0, x)) (shown_was r₀.1) ∙ ap show₀ (sym (ask_true s z₀ r₀ (holds s L.sound₀)))
    where
      show : ℕ × Group → Seen
      show x = kept (x.0, map_group (number_code k.table) x.1)

      show₀ : ℕ × Group → Seen
      show₀ x = kept (x.0, map_group (number_code k₀.table) x.1)

  taken_was : (o : Option Obstacle) → map_taken (number_code k.table) (map_taken F o) ≡ map_taken (number_code k₀.table) o
  unfolding F
  taken_was o = taken_twice (number_code k.table) F (number_code k₀.table) (λ c. ap name_code (name_was (handle_named c))) o

  popped_same : (r r₀ : ℕ × (Option Obstacle × Group)) → r ≡ (r₀.0, map_popped F r₀.1)
      → taken (r.0, (map_taken (number_code k.table) r.1.0, back k.table r.1.1)) ≡ taken (r₀.0, (map_taken (number_code k₀.table) r₀.1.0, back k₀.table r₀.1.1))
  popped_same r r₀ e = ap (λ (x : ℕ × (Option Obstacle × Group)). taken (x.0, (map_taken (number_code k.table) x.1.0, back k.table x.1.1))) e
      ∙ ap₂ (λ (o : Option Obstacle) (g : Group). taken (r₀.0, (o, g))) (taken_was r₀.1.0) (shown_was r₀.1.1)

  pub told_same : (r : Read) → Each p (read_of r) → told k r ≡ told k₀ r
  unfolding read_by
  told_same (Value n) w = ap amount (asked_same (pos 0) _ _ (ap (value_of b) (node_was n) ∙ value_same (given k₀.table n) (mine_was n)))
  told_same (Outer n) w = let q = asked_by {A = Handle × ℕ} {B = Name × ℕ} (nobody, 0) (λ x. ((by ρ).handle x.0, x.1)) (λ x. (name_of k.table x.0, x.1)) (λ x. (name_of k₀.table x.0, x.1)) (λ x i. (name_was x.0 i, x.1))
      (outer_of b (given k.table n)) (outer_of s (given k₀.table n)) (ap (outer_of b) (node_was n) ∙ outer_same (given k₀.table n) (mine_was n)) in λ i. linked (q.0 i, q.1 i)
  told_same (Below n) w = let q = asked_by nobody (by ρ).handle (name_of k.table) (name_of k₀.table) name_was (below_of b (given k.table n)) (below_of s (given k₀.table n)) (ap (below_of b) (node_was n) ∙ below_same (given k₀.table n) (mine_was n)) in
      λ i. named (q.0 i, q.1 i)
  told_same (First n) w = ap counted (asked_same 0 _ _ (ap (first_vertex b) (node_was n) ∙ first_same (given k₀.table n) (mine_was n)))
  told_same (Vertices n out) w = ap listed (asked_same (0, out) _ _ (ap (λ (h : Handle). vertices_into b h out) (node_was n) ∙ vertices_same (given k₀.table n) (mine_was n) out))
  told_same (Belongs u n) w = ap truth (asked_same false _ _ (ap (belongs b u) (node_was n) ∙ belongs_same u (w u (here refl)) (given k₀.table n) (mine_was n)))
  told_same (At u j) w = let q = asked_by None (re_parent (by ρ)) (name_in k.table) (name_in k₀.table) in_was (handle_at_index b u j) (handle_at_index s u j) (index_same u (w u (here refl)) j) in λ i. indexed (q.0 i, q.1 i)
  told_same (Next u j) w = let q = asked_by {A = ℕ × Option Handle} {B = ℕ × Option Name} (0, None) (re_found ρ) (λ x. (x.0, name_in k.table x.1)) (λ x. (x.0, name_in k₀.table x.1)) (λ x i. (x.0, in_was x.1 i))
      (next_of b u j) (next_of s u j) (next_same u (w u (here refl)) j) in λ i. found (q.0 i, q.1 i)
  told_same (Sum u) w = ap amount (asked_same (pos 0) _ _ (sum_same u (w u (here refl))))
  told_same (Speed u) w = ap amount (asked_same (pos 0) _ _ (speed_same u (w u (here refl))))
  told_same (Count u) w = ap counted (asked_same 0 _ _ (count_same u (w u (here refl))))
  told_same (Present u) w = ap counted (asked_same 0 _ _ (present_same u (w u (here refl))))
  told_same (Fills u) w = ap truth (asked_same false _ _ (fills_same u (w u (here refl))))
  told_same (Floored u) w = ap truth (asked_same false _ _ (floored_same u (w u (here refl))))
  told_same (Check u) w = ap judged (asked_same (0, 0) _ _ (check_same u (w u (here refl))))
  told_same (Strict u) w = ap judged (asked_same (0, 0) _ _ (strict_same u (w u (here refl))))
  told_same (Picture u a out) w = ap listed (asked_same (0, out) _ _ (picture_same u (w u (here refl)) a out))
  told_same (Empty g) w = ap truth (ap is_empty (group_was g) ∙ empty_map F (lent k₀.table g))
  told_same (Active g) w = ap truth (ap is_active (group_was g) ∙ active_map F (lent k₀.table g))
  told_same (Growth g) w = ap measured (ap growth_of (group_was g) ∙ growth_map F (lent k₀.table g))
  told_same (Peek g) w = let q = ap peek (group_was g) ∙ peek_map F (lent k₀.table g) in
      ap (λ (x : ℕ × Option Obstacle). peeked (x.0, map_taken (number_code k.table) x.1)) q ∙ ap (λ (o : Option Obstacle). peeked ((peek (lent k₀.table g)).0, o)) (taken_was (peek (lent k₀.table g)).1)
  told_same (Pop g) w = popped_same _ (pop (lent k₀.table g)) (ap pop (group_was g) ∙ pop_map F (lent k₀.table g))
  told_same (Spare g) w = popped_same _ (pop_sparing (lent k₀.table g)) (ap pop_sparing (group_was g) ∙ spare_map F (lent k₀.table g))
  told_same (Add g o) w = kept_same _ _ (add s (map_group (given_code k₀.table) g) (map_obstacle (given_code k₀.table) o)) (ap₂ (add b) (group_was g) (obstacle_was o) ∙ add_same (map_group (given_code k₀.table) g) (map_obstacle (given_code k₀.table) o)
      (λ c i. codes_mine (handles_of o) c (subst (In c) (handles_map (given_code k₀.table) o) i))) _
  told_same (Extend g h) w = kept_same _ _ (extend s (map_group (given_code k₀.table) g) (map_group (given_code k₀.table) h)) (ap₂ (extend b) (group_was g) (group_was h) ∙ extend_same (map_group (given_code k₀.table) g) (map_group (given_code k₀.table) h)
      (λ c i. codes_mine (group_handles h) c (subst (In c) (group_map (given_code k₀.table) h) i))) _
