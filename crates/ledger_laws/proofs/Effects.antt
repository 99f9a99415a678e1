-- What each accepted call leaves, as facts about its answer: the handle and where its node stands, and every slot and field, also those that it does
-- not touch. Read off the deeds; no two of these need each other. Assumes nothing.
use Rattle.std.specs.Prelude.{None, Option, Some}
use Prim.Native.Nat.{ℕ, suc, ◌<◌, max}
use mathlib.Core.Path.{◌≡◌, refl, sym, ◌∙◌, ap, ap₂, subst}
use mathlib.Core.Logic.{◌≢◌}
use mathlib.Core.List.{List}
use native.Mathlib.Omega.{arith}
use native.Mathlib.Decide.{ℕ_discrete}
use lib.ListN.{length}
use lib.IntN.{ℤ, pos, ◌+ℤ◌, ◌-ℤ◌, ◌*ℤ◌}
use Rattle.ledger_spec.specs.Bench.{Handle, State, rate, stays, grows, Node, Marking, with_mark, Bench, fresh}
use Rattle.ledger_spec.specs.Look.{interface, free_slot, slot_of, if_serial, node_named, top}
use Rattle.ledger_spec.specs.Change.{share, restate, with_node, mark}
use Rattle.ledger_spec.specs.Deeds.{new_handle, members, add_defect, add_blossom, remove_blossom, grow_slot, grow_by, fused_parent}
use Rattle.ledger_spec.specs.Calls.{nobody, Defect, Blossom, Expand, SetState, Grow, Fuse, Clear, Mark}
use Rattle.ledger_spec.specs.Answers.{answer}
use Rattle.ledger_spec.specs.Knit.{In}
use Rattle.ledger_spec.specs.Facts.{Sound}
use Rattle.ledger_spec.proofs.Passed.{Fusable, fusable, serial_none, serial_other, node_has, has_node}
use Rattle.ledger_spec.proofs.Accepted.{defect_passed, BlossomPassed, blossom_passed, ExpandPassed, expand_passed, StatePassed, state_passed, grow_passed, mark_passed}
use Rattle.ledger_spec.proofs.Says.{says}
use Rattle.ledger_spec.proofs.Readings.{mark_field, mark_at, mark_off, mark_next, mark_count, mark_slow, mark_fast, push_fast}
use Rattle.ledger_spec.proofs.DeedReadings.{bare, defect_node, defect_is, defect_count, defect_count_else, blossom_count, blossom_count_else, defect_field, defect_at, defect_off, defect_next, blossom_node, blossom_field, blossom_at, blossom_member, blossom_off, blossom_next, expand_field, expand_at, expand_member, expand_off, expand_next, expand_count}
use Rattle.ledger_spec.proofs.TreeReadings.{Joins, joins, grown_node, grow_node, grow_parent, grow_halves, grow_marks, grow_speed, grow_at, grow_off, grow_next, grow_count, grow_sum, grow_sum_else, grow_progress, grow_progress_else, join_slots, join_kept, join_l, join_r, join_p, join_rest, join_next, wipe_next, wipe_under, wipe_else, choose_field, choose_here, choose_else, choose_next}
use Rattle.ledger_laws.proofs.Quiet.{Quiet, defect_quiet, blossom_quiet, expand_quiet, mark_quiet, choose_quiet}
use Rattle.ledger_laws.proofs.Paced.{inside}
use Rattle.ledger_laws.proofs.Sewn.{away, far}
use Rattle.ledger_laws.proofs.Answered.{tests_of, deed_of, node_of, zero_sound, zero_tests, zero_bench, zero_node}

-- a handle of an older serial names what it named, also one of the slot that is filled
older_names : (b b' : Bench) (u : ℕ) (n : Node) → n.serial ≡ b.next → slot_of b u (free_slot b u) ≡ None → slot_of b' u (free_slot b u) ≡ Some n
    → ((w s : ℕ) → (w ≡ u → s ≡ free_slot b u → ⊥) → slot_of b' w s ≡ slot_of b w s) → (g : Handle) → g.serial < b.next → node_named b' g ≡ node_named b g
unfolding node_named
older_names b b' u n k none-was new off g h = go (ℕ_discrete g.unit u) (ℕ_discrete g.slot (free_slot b u))
  where
    go : Dec (g.unit ≡ u) → Dec (g.slot ≡ free_slot b u) → if_serial g.serial (slot_of b' g.unit g.slot) ≡ if_serial g.serial (slot_of b g.unit g.slot)
    go (yes x) (yes y) = ap (if_serial g.serial) (ap₂ (slot_of b') x y ∙ new) ∙ serial_other g.serial n (λ e. omega (arith, e, k, h)) ∙ sym (ap (if_serial g.serial) (ap₂ (slot_of b) x y ∙ none-was) ∙ serial_none g.serial)
    go (yes x) (no y) = ap (if_serial g.serial) (off g.unit g.slot (λ a c. y c))
    go (no x) y = ap (if_serial g.serial) (off g.unit g.slot (λ a c. x a))

-- ---- defect: one slot more, which holds the new node; links, progress and sums as they were; the speed up 1
pub record DefectLeaves (b : Bench) (u v : ℕ) (h : Handle) (b' : Bench) : Type 0 where
  pub handle : h ≡ new_handle b u
  pub new : node_named b' (new_handle b u) ≡ Some (defect_node b v)
  pub others : (w s : ℕ) → (w ≡ u → s ≡ free_slot b u → ⊥) → slot_of b' w s ≡ slot_of b w s
  pub quiet : Quiet b b'
  pub marks : (w : ℕ) → (interface b' w).marks ≡ (interface b w).marks
  pub speed : (interface b' u).speed ≡ (interface b u).speed +ℤ pos 1
  pub next : b'.next ≡ suc b.next
  pub count : length (interface b' u).slots ≡ max (length (interface b u).slots) (suc (free_slot b u))
  pub count_else : (w : ℕ) → w ≢ u → length (interface b' w).slots ≡ length (interface b w).slots
  pub older : (g : Handle) → g.serial < b.next → node_named b' g ≡ node_named b g

pub defect_leaves : (b : Bench) (u v : ℕ) → (answer b (Defect u v)).number ≡ 0 → DefectLeaves b u v (answer b (Defect u v)).node (answer b (Defect u v)).bench
unfolding tests_of deed_of node_of
defect_leaves b u v z = subst (DefectLeaves b u v (answer b (Defect u v)).node) (sym (zero_bench b (Defect u v) z)) (record {
  handle = zero_node b (Defect u v) z;
  new = has_node (add_defect b u v) (new_handle b u) (defect_node b v) (record { stands = defect_at b u v low; serial = refl });
  others = defect_off b u v low;
  quiet = defect_quiet b u v;
  marks = defect_field b u v (λ f. f.marks) (λ f l. refl) (λ f x. refl);
  speed = ap (λ (c : Bench). (interface c u).speed) (defect_is b u v) ∙ push_fast b u (free_slot b u) (defect_node b v) low;
  next = defect_next b u v;
  count = defect_count b u v low;
  count_else = defect_count_else b u v;
  older = older_names b (add_defect b u v) u (defect_node b v) refl (bare b u) (defect_at b u v low) (defect_off b u v low);
})
  where
    low : u < length b.interfaces
    low = inside b (says b (zero_sound b (Defect u v) z)).frame (defect_passed b u (zero_tests b (Defect u v) z)).here.low

-- ---- blossom: one slot more, which holds the new node; its members stay and have it for parent; all else as it was
pub record BlossomLeaves (b : Bench) (u : ℕ) (hs : List Handle) (ts : List (Handle × Handle)) (h : Handle) (b' : Bench) : Type 0 where
  pub handle : h ≡ new_handle b u
  pub new : node_named b' (new_handle b u) ≡ Some (blossom_node b hs ts)
  pub members : (g : Handle) (n : Node) → In g hs → node_named b g ≡ Some n → node_named b' g ≡ Some (with_node n stays (Some (new_handle b u)))
  pub others : (w s : ℕ) → ((g : Handle) → In g hs → g.unit ≡ w → g.slot ≡ s → ⊥) → (w ≡ u → s ≡ free_slot b u → ⊥) → slot_of b' w s ≡ slot_of b w s
  pub quiet : Quiet b b'
  pub marks : (w : ℕ) → (interface b' w).marks ≡ (interface b w).marks
  pub next : b'.next ≡ suc b.next
  pub count : length (interface b' u).slots ≡ max (length (interface b u).slots) (suc (free_slot b u))
  pub count_else : (w : ℕ) → w ≢ u → length (interface b' w).slots ≡ length (interface b w).slots

pub blossom_leaves : (b : Bench) (u : ℕ) (hs : List Handle) (ts : List (Handle × Handle)) → (answer b (Blossom u hs ts)).number ≡ 0 → BlossomLeaves b u hs ts (answer b (Blossom u hs ts)).node (answer b (Blossom u hs ts)).bench
unfolding tests_of deed_of node_of
blossom_leaves b u hs ts z = subst (BlossomLeaves b u hs ts (answer b (Blossom u hs ts)).node) (sym (zero_bench b (Blossom u hs ts) z)) (record {
  handle = zero_node b (Blossom u hs ts) z;
  new = has_node (add_blossom b u hs ts) (new_handle b u) (blossom_node b hs ts) (record { stands = blossom_at b u hs ts low; serial = refl });
  members = taken;
  others = blossom_off b u hs ts low;
  quiet = blossom_quiet b u hs ts;
  marks = blossom_field b u hs ts (λ f. f.marks) (λ f l. refl) (λ f x. refl);
  next = blossom_next b u hs ts;
  count = blossom_count b u hs ts low;
  count_else = blossom_count_else b u hs ts;
})
  where
    P : BlossomPassed b u hs ts
    P = blossom_passed b u hs ts (zero_tests b (Blossom u hs ts) z)

    low : u < length b.interfaces
    low = inside b (says b (zero_sound b (Blossom u hs ts) z)).frame P.here.low

    taken : (g : Handle) (n : Node) → In g hs → node_named b g ≡ Some n → node_named (add_blossom b u hs ts) g ≡ Some (with_node n stays (Some (new_handle b u)))
    taken g n i e = let H = node_has b g n e in
        has_node (add_blossom b u hs ts) g (with_node n stays (Some (new_handle b u))) (record { stands = blossom_member b u hs ts low g i (away b u hs ts P g i) ∙ ap (λ (o : Option Node). restate o stays (Some (new_handle b u))) H.stands; serial = H.serial })

-- ---- expand: its slot is empty; its members grow and have no parent; all else as it was, the sum and the next serial too
pub record ExpandLeaves (b : Bench) (h g : Handle) (b' : Bench) : Type 0 where
  pub handle : g ≡ h
  pub gone : slot_of b' h.unit h.slot ≡ None
  pub freed : (k : Handle) (n : Node) → In k (members (node_named b h)) → node_named b k ≡ Some n → node_named b' k ≡ Some (with_node n grows None)
  pub others : (w s : ℕ) → ((k : Handle) → In k (members (node_named b h)) → k.unit ≡ w → k.slot ≡ s → ⊥) → (h.unit ≡ w → h.slot ≡ s → ⊥) → slot_of b' w s ≡ slot_of b w s
  pub quiet : Quiet b b'
  pub marks : (w : ℕ) → (interface b' w).marks ≡ (interface b w).marks
  pub next : b'.next ≡ b.next
  pub count : (w : ℕ) → length (interface b' w).slots ≡ length (interface b w).slots

pub expand_leaves : (b : Bench) (u : ℕ) (h : Handle) → (answer b (Expand u h)).number ≡ 0 → ExpandLeaves b h (answer b (Expand u h)).node (answer b (Expand u h)).bench
unfolding tests_of deed_of node_of
expand_leaves b u h z = subst (ExpandLeaves b h (answer b (Expand u h)).node) (sym (zero_bench b (Expand u h) z)) (record {
  handle = zero_node b (Expand u h) z;
  gone = expand_at b h (λ g i x y. far b S.sewn u h P g i (sym x) (sym y));
  freed = free;
  others = expand_off b h;
  quiet = expand_quiet b h;
  marks = expand_field b h (λ f. f.marks) (λ f l. refl) (λ f x. refl);
  next = expand_next b h;
  count = expand_count b h;
})
  where
    S : Sound b
    S = says b (zero_sound b (Expand u h) z)

    P : ExpandPassed b u h
    P = expand_passed b u h (zero_tests b (Expand u h) z)

    free : (k : Handle) (n : Node) → In k (members (node_named b h)) → node_named b k ≡ Some n → node_named (remove_blossom b h) k ≡ Some (with_node n grows None)
    free k n i e = let H = node_has b k n e in
        has_node (remove_blossom b h) k (with_node n grows None) (record { stands = expand_member b h k i (far b S.sewn u h P k i) ∙ ap (λ (o : Option Node). restate o grows None) H.stands; serial = H.serial })

-- ---- set state: one node's state, and the speed of its tree; all else as it was
pub record StateLeaves (b : Bench) (u : ℕ) (h : Handle) (s : State) (g : Handle) (b' : Bench) : Type 0 where
  pub handle : g ≡ h
  pub node : Node
  pub was : node_named b h ≡ Some node
  pub now : node_named b' h ≡ Some (with_node node s node.parent)
  pub others : (w t : ℕ) → (h.unit ≡ w → h.slot ≡ t → ⊥) → slot_of b' w t ≡ slot_of b w t
  pub quiet : Quiet b b'
  pub marks : (w : ℕ) → (interface b' w).marks ≡ (interface b w).marks
  pub speed : (interface b' u).speed ≡ (interface b u).speed +ℤ (rate s -ℤ rate node.state)
  pub speed_else : (w : ℕ) → w ≢ u → (interface b' w).speed ≡ (interface b w).speed
  pub next : b'.next ≡ b.next
  pub count : (w : ℕ) → length (interface b' w).slots ≡ length (interface b w).slots

pub state_leaves : (b : Bench) (u : ℕ) (h : Handle) (s : State) → (answer b (SetState u h s)).number ≡ 0 → StateLeaves b u h s (answer b (SetState u h s)).node (answer b (SetState u h s)).bench
unfolding tests_of deed_of node_of
state_leaves b u h s z = subst (StateLeaves b u h s (answer b (SetState u h s)).node) (sym (zero_bench b (SetState u h s) z)) (record {
  handle = zero_node b (SetState u h s) z;
  node = n;
  was = P.named.is;
  now = has_node (mark b h s None) h (with_node n s n.parent) (record { stands = mark_at b h s None ∙ ap (λ (o : Option Node). restate o s None) P.named.has.stands ∙ ap (λ (q : Option Handle). Some (with_node n s q)) (sym P.orphan); serial = P.named.has.serial });
  others = mark_off b h s None;
  quiet = mark_quiet b h s None;
  marks = mark_field b h s None (λ f. f.marks) (λ f l. refl) (λ f x. refl);
  speed = subst (λ (t : ℕ). (interface (mark b h s None) t).speed ≡ (interface b t).speed +ℤ (rate s -ℤ rate n.state)) P.named.near
      (mark_fast b h s None (subst (λ (t : ℕ). t < length b.interfaces) (sym P.named.near) (inside b S.frame P.here.low))
      ∙ ap (λ (o : Option Node). (interface b (top b h.unit)).speed +ℤ (share (restate o s None) -ℤ share o)) P.named.has.stands);
  speed_else = λ w q. mark_slow b h s None w (λ e. q (e ∙ P.named.near));
  next = mark_next b h s None;
  count = mark_count b h s None;
})
  where
    S : Sound b
    S = says b (zero_sound b (SetState u h s) z)

    P : StatePassed b u h
    P = state_passed b u h (zero_tests b (SetState u h s) z)

    n : Node
    n = P.named.node

-- ---- grow: the values of the tree, the sum and the progress of its top; links, states, sizes and serials as they were
pub record GrowLeaves (b : Bench) (u : ℕ) (l : ℤ) (h : Handle) (b' : Bench) : Type 0 where
  pub handle : h ≡ nobody
  pub inside : (w s : ℕ) → top b w ≡ u → slot_of b' w s ≡ grow_slot l (slot_of b w s)
  pub named : (g : Handle) (n : Node) → top b g.unit ≡ u → node_named b g ≡ Some n → node_named b' g ≡ Some (grown_node l n)
  pub outside : (w s : ℕ) → top b w ≢ u → slot_of b' w s ≡ slot_of b w s
  pub sum : (interface b' u).sum ≡ (interface b u).sum +ℤ l *ℤ (interface b u).speed
  pub sum_else : (w : ℕ) → w ≢ u → (interface b' w).sum ≡ (interface b w).sum
  pub progress : (interface b' u).progress ≡ (interface b u).progress +ℤ l
  pub progress_else : (w : ℕ) → w ≢ u → (interface b' w).progress ≡ (interface b w).progress
  pub speed : (w : ℕ) → (interface b' w).speed ≡ (interface b w).speed
  pub parent : (w : ℕ) → (interface b' w).parent ≡ (interface b w).parent
  pub halves : (w : ℕ) → (interface b' w).halves ≡ (interface b w).halves
  pub marks : (w : ℕ) → (interface b' w).marks ≡ (interface b w).marks
  pub next : b'.next ≡ b.next
  pub count : (w : ℕ) → length (interface b' w).slots ≡ length (interface b w).slots

pub grow_leaves : (b : Bench) (u : ℕ) (l : ℤ) → (answer b (Grow u l)).number ≡ 0 → GrowLeaves b u l (answer b (Grow u l)).node (answer b (Grow u l)).bench
unfolding tests_of deed_of node_of
grow_leaves b u l z = subst (GrowLeaves b u l (answer b (Grow u l)).node) (sym (zero_bench b (Grow u l) z)) (record {
  handle = zero_node b (Grow u l) z;
  inside = grow_at b u l;
  named = λ g n e k. let H = node_has b g n k in has_node (grow_by b u l) g (grown_node l n) (record { stands = grow_node b u l g.unit g.slot n e H.stands; serial = H.serial });
  outside = grow_off b u l;
  sum = grow_sum b u l low;
  sum_else = grow_sum_else b u l;
  progress = grow_progress b u l low;
  progress_else = grow_progress_else b u l;
  speed = grow_speed b u l;
  parent = grow_parent b u l;
  halves = grow_halves b u l;
  marks = grow_marks b u l;
  next = grow_next b u l;
  count = grow_count b u l;
})
  where
    low : u < length b.interfaces
    low = inside b (says b (zero_sound b (Grow u l) z)).frame (grow_passed b u l (zero_tests b (Grow u l) z)).here.low

-- ---- fuse: no slot changes, only the three interfaces' links, and the parent's sum, speed and progress
pub record FuseLeaves (b : Bench) (p l r : ℕ) (h : Handle) (b' : Bench) : Type 0 where
  pub handle : h ≡ nobody
  pub slots : (w : ℕ) → (interface b' w).slots ≡ (interface b w).slots
  pub left : (interface b' l).parent ≡ Some p
  pub right : (interface b' r).parent ≡ Some p
  pub parent : (w : ℕ) → w ≢ l → w ≢ r → (interface b' w).parent ≡ (interface b w).parent
  pub top : interface b' p ≡ fused_parent b p l r
  pub sum : (w : ℕ) → w ≢ p → (interface b' w).sum ≡ (interface b w).sum
  pub speed : (w : ℕ) → w ≢ p → (interface b' w).speed ≡ (interface b w).speed
  pub progress : (w : ℕ) → w ≢ p → (interface b' w).progress ≡ (interface b w).progress
  pub halves : (w : ℕ) → w ≢ p → (interface b' w).halves ≡ (interface b w).halves
  pub marks : (w : ℕ) → w ≢ p → (interface b' w).marks ≡ (interface b w).marks
  pub next : b'.next ≡ b.next

pub fuse_leaves : (b : Bench) (p l r : ℕ) → (answer b (Fuse p l r)).number ≡ 0 → FuseLeaves b p l r (answer b (Fuse p l r)).node (answer b (Fuse p l r)).bench
unfolding tests_of deed_of node_of
fuse_leaves b p l r z = subst (FuseLeaves b p l r (answer b (Fuse p l r)).node) (sym (zero_bench b (Fuse p l r) z)) (record {
  handle = zero_node b (Fuse p l r) z;
  slots = join_slots b p l r j;
  left = join_l b p l r j;
  right = join_r b p l r j;
  parent = join_rest b p l r j f.p_none;
  top = join_p b p l r j;
  sum = join_kept b p l r j (λ g. g.sum) (λ g q. refl);
  speed = join_kept b p l r j (λ g. g.speed) (λ g q. refl);
  progress = join_kept b p l r j (λ g. g.progress) (λ g q. refl);
  halves = join_kept b p l r j (λ g. g.halves) (λ g q. refl);
  marks = join_kept b p l r j (λ g. g.marks) (λ g q. refl);
  next = join_next b p l r j;
})
  where
    f : Fusable b p l r
    f = fusable b p l r (zero_tests b (Fuse p l r) z)

    j : Joins b p l r
    j = joins (says b (zero_sound b (Fuse p l r) z)).frame f

-- ---- clear: the tree as at set-up, the others and the next serial as they were
pub record ClearLeaves (b : Bench) (u : ℕ) (h : Handle) (b' : Bench) : Type 0 where
  pub handle : h ≡ nobody
  pub inside : (w : ℕ) → top b w ≡ u → interface b' w ≡ fresh
  pub outside : (w : ℕ) → top b w ≢ u → interface b' w ≡ interface b w
  pub next : b'.next ≡ b.next

pub clear_leaves : (b : Bench) (u : ℕ) → (answer b (Clear u)).number ≡ 0 → ClearLeaves b u (answer b (Clear u)).node (answer b (Clear u)).bench
unfolding tests_of deed_of node_of
clear_leaves b u z = subst (ClearLeaves b u (answer b (Clear u)).node) (sym (zero_bench b (Clear u) z)) (record {
  handle = zero_node b (Clear u) z;
  inside = wipe_under b u;
  outside = wipe_else b u;
  next = wipe_next b u;
})

-- ---- mark: the marks of one interface; all else as it was
pub record MarkLeaves (b : Bench) (u : ℕ) (k : Marking) (h : Handle) (b' : Bench) : Type 0 where
  pub handle : h ≡ nobody
  pub marked : (interface b' u).marks ≡ with_mark k (interface b u).marks
  pub others : (w : ℕ) → w ≢ u → interface b' w ≡ interface b w
  pub slots : (w : ℕ) → (interface b' w).slots ≡ (interface b w).slots
  pub quiet : Quiet b b'
  pub speed : (w : ℕ) → (interface b' w).speed ≡ (interface b w).speed
  pub next : b'.next ≡ b.next

pub mark_leaves : (b : Bench) (u : ℕ) (k : Marking) → (answer b (Mark u k)).number ≡ 0 → MarkLeaves b u k (answer b (Mark u k)).node (answer b (Mark u k)).bench
unfolding tests_of deed_of node_of
mark_leaves b u k z = subst (MarkLeaves b u k (answer b (Mark u k)).node) (sym (zero_bench b (Mark u k) z)) (record {
  handle = zero_node b (Mark u k) z;
  marked = choose_here b u k (inside b (says b (zero_sound b (Mark u k) z)).frame (mark_passed b u (zero_tests b (Mark u k) z)).here.low);
  others = choose_else b u k;
  slots = choose_field b u k (λ f. f.slots) (λ f m. refl);
  quiet = choose_quiet b u k;
  speed = choose_field b u k (λ f. f.speed) (λ f m. refl);
  next = choose_next b u k;
})
