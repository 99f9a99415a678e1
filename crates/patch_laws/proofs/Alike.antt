-- A call of the patch meets the same tests on two benches whose interfaces of the patch are alike, but for WORN. Assumes nothing.
use Rattle.std.specs.Prelude.{None, Option, Some}
use Prim.Native.Nat.{ℕ, ◌+◌, ◌^◌}
use mathlib.Core.Path.{◌≡◌, refl, sym, ◌∙◌, ap, ap₂}
use mathlib.Core.Logic.{◌≢◌}
use mathlib.Core.Bool.{Bool, true, false, ◌&&◌, ◌||◌, not, true≢false}
use mathlib.Core.List.{List, [], ◌∷◌, ◌++◌, map, map-append}
use lib.Dec.{eqb, leb, ltb}
use lib.ListN.{length, length-map}
use lib.IntN.{nat_abs, ℤ, pos, ◌+ℤ◌}
use lib.Signed.{lt_z}
use borrow.Author.Tests.{ne_eqb}
use Rattle.ledger_spec.specs.Bench.{Handle, Node, Interface, Bench}
use Rattle.ledger_spec.specs.Look.{interface, gap, free_slot, slot_of, if_serial, node_named, top, same_handle}
use Rattle.ledger_spec.specs.Tests.{first, any, is_some, empty, outside, child, stale, foreign, is_defect, has_parent, twice, full, worn, used, floored, sinks, below, same, late, both}
use Rattle.ledger_spec.specs.Refuse.{unit_tests, defect_tests, blossom_tests, expand_tests, state_tests, grow_tests, fuse_tests, mark_tests}
use Rattle.ledger_spec.specs.Deeds.{sizes, size_of}
use Rattle.ledger_spec.specs.Calls.{Call, Defect, Blossom, Expand, SetState, Grow, Fuse, Clear, Mark}
use Rattle.ledger_spec.specs.SoundTree.{units}
use Rattle.ledger_spec.specs.Frame.{Frame}
use Rattle.ledger_spec.specs.Knit.{In, here, there}
use Rattle.ledger_spec.proofs.Lists.{in_left}
use Rattle.ledger_laws.proofs.Answered.{tests_of}
use Rattle.patch_laws.specs.Patch.{Patch, mine, units_named}
use Rattle.patch_laws.proofs.Renamed.{Renaming, re_pair, re_node, re_slot, re_size, re_sinks, re_gap, re_given, re_orphan, re_defect, re_both}
use Rattle.patch_laws.proofs.Faces.{Faces, Plain, Closed, top_faces, climb_back, slot_faces}

-- ---- a call with its handles renamed, and the handles that it names
abbrev pub re_call : Renaming → Call → Call
re_call R (Defect u v) = Defect u v
re_call R (Blossom u hs ts) = Blossom u (map R.handle hs) (map (re_pair R) ts)
re_call R (Expand u h) = Expand u (R.handle h)
re_call R (SetState u h t) = SetState u (R.handle h) t
re_call R (Grow u l) = Grow u l
re_call R (Fuse q l r) = Fuse q l r
re_call R (Clear u) = Clear u
re_call R (Mark u k) = Mark u k

abbrev pub handles_of : Call → List Handle
handles_of (Defect u v) = []
handles_of (Blossom u hs ts) = hs ++ both ts
handles_of (Expand u h) = h ∷ []
handles_of (SetState u h t) = h ∷ []
handles_of (Grow u l) = []
handles_of (Fuse q l r) = []
handles_of (Clear u) = []
handles_of (Mark u k) = []

-- all of a list of interfaces
abbrev pub Each : Patch → List ℕ → Type 0
Each p us = (u : ℕ) → In u us → mine p u ≡ true

-- a call whose interfaces and handles are the patch's
pub record Own (p : Patch) (c : Call) : Type 0 where
  pub units : Each p (units_named c)
  pub handles : (h : Handle) → In h (handles_of c) → mine p h.unit ≡ true

-- a renaming that keeps the places of the patch's handles, and serials apart
pub record Names (p : Patch) (R : Renaming) : Type 0 where
  pub plain : Plain p R
  pub one : (i j : ℕ) → eqb (R.serial i) (R.serial j) ≡ eqb i j

-- ---- lists
pub any_map : {A B : Type 0} (f : B → Bool) (g : A → B) (h : A → Bool) (l : List A) → ((x : A) → In x l → f (g x) ≡ h x) → any f (map g l) ≡ any h l
unfolding any
any_map f g h [] e = refl
any_map f g h (x ∷ xs) e = ap₂ ◌||◌ (e x (here refl)) (any_map f g h xs (λ y i. e y (there i)))

empty_map : {A B : Type 0} (g : A → B) (l : List A) → empty (map g l) ≡ empty l
empty_map g [] = refl
empty_map g (x ∷ xs) = refl

-- two lists of tests that differ in the last one only, for WORN, which is not what the first answers
worn_last : (ts : List (Bool × ℕ)) (x y : Bool) → (y ≡ true → x ≡ true) → first (ts ++ ((x, 15) ∷ [])) ≢ 15 → first (ts ++ ((x, 15) ∷ [])) ≡ first (ts ++ ((y, 15) ∷ []))
unfolding first
worn_last [] true y w q = absurd (q refl)
worn_last [] false true w q = absurd (true≢false (sym (w refl)))
worn_last [] false false w q = refl
worn_last (t ∷ ts) x y w q = go t.0 q (worn_last ts x y w)
  where
    won : Bool → Bool → ℕ
    won z c = elim c [ true ↦ t.1 | false ↦ first (ts ++ ((z, 15) ∷ [])) ]

    go : (c : Bool) → won x c ≢ 15 → (first (ts ++ ((x, 15) ∷ [])) ≢ 15 → first (ts ++ ((x, 15) ∷ [])) ≡ first (ts ++ ((y, 15) ∷ []))) → won x c ≡ won y c
    go true q ih = refl
    go false q ih = ih q

module _ (p : Patch) (R : Renaming) (s b : Bench) (C : Closed p s) (F : Faces p R s b) (N : Names p R) where
  -- ---- a node
  pub node_faces : (h : Handle) → mine p h.unit ≡ true → node_named b (R.handle h) ≡ re_slot R (node_named s h)
  unfolding node_named if_serial
  node_faces h k = ap (node_named b) (N.plain h k) ∙ ap (if_serial (R.serial h.serial)) (slot_faces p R s b F h.unit h.slot k) ∙ go (slot_of s h.unit h.slot)
    where
      pick : Bool → Node → Option Node
      pick c n = elim c [ true ↦ Some n | false ↦ None ]

      picked : (c : Bool) (n : Node) → pick c (re_node R n) ≡ re_slot R (pick c n)
      picked true n = refl
      picked false n = refl

      go : (o : Option Node) → if_serial (R.serial h.serial) (re_slot R o) ≡ re_slot R (if_serial h.serial o)
      go None = refl
      go (Some n) = ap (λ (c : Bool). pick c (re_node R n)) (N.one h.serial n.serial) ∙ picked (eqb h.serial n.serial) n

  pub stale_faces : (h : Handle) → mine p h.unit ≡ true → stale b (R.handle h) ≡ stale s h
  stale_faces h k = ap (λ (o : Option Node). not (is_some o)) (node_faces h k) ∙ ap not (re_given R (node_named s h))

  pub foreign_faces : (u : ℕ) (h : Handle) → mine p h.unit ≡ true → foreign b u (R.handle h) ≡ foreign s u h
  foreign_faces u h k = ap (λ (g : Handle). not (eqb (top b g.unit) u)) (N.plain h k) ∙ ap (λ (t : ℕ). not (eqb t u)) (top_faces p R s b C F h.unit k)

  pub same_faces : (g h : Handle) → mine p g.unit ≡ true → mine p h.unit ≡ true → same_handle (R.handle g) (R.handle h) ≡ same_handle g h
  same_faces g h j k = ap₂ same_handle (N.plain g j) (N.plain h k) ∙ ap (λ (c : Bool). (eqb g.unit h.unit && eqb g.slot h.slot) && c) (N.one g.serial h.serial)

  twice_faces : (hs : List Handle) → ((h : Handle) → In h hs → mine p h.unit ≡ true) → twice (map R.handle hs) ≡ twice hs
  unfolding twice
  twice_faces [] k = refl
  twice_faces (h ∷ hs) k = ap₂ ◌||◌ (any_map (same_handle (R.handle h)) R.handle (same_handle h) hs (λ g i. same_faces h g (k h (here refl)) (k g (there i)))) (twice_faces hs (λ g i. k g (there i)))

  pub sizes_faces : (hs : List Handle) → ((h : Handle) → In h hs → mine p h.unit ≡ true) → sizes b (map R.handle hs) ≡ sizes s hs
  unfolding sizes
  sizes_faces [] k = refl
  sizes_faces (h ∷ hs) k = ap₂ ◌+◌ (ap size_of (node_faces h (k h (here refl))) ∙ re_size R (node_named s h)) (sizes_faces hs (λ g i. k g (there i)))

  -- ---- an interface
  module _ (u : ℕ) (m : mine p u ≡ true) where
    pub child_faces : child b u ≡ child s u
    child_faces = ap (λ (f : Interface). is_some f.parent) (F.face u m)

    pub count_faces : length (interface b u).slots ≡ length (interface s u).slots
    count_faces = ap (λ (f : Interface). length f.slots) (F.face u m) ∙ length-map (interface s u).slots (re_slot R)

    pub free_faces : free_slot b u ≡ free_slot s u
    unfolding free_slot
    free_faces = (λ i. pick (F.face u m i).marks.fills (gap (F.face u m i).slots) (length (F.face u m i).slots)) ∙ ap₂ (pick (interface s u).marks.fills) (re_gap R (interface s u).slots) (length-map (interface s u).slots (re_slot R))
      where
        pick : Bool → ℕ → ℕ → ℕ
        pick c x y = elim c as (λ z. ℕ) [ true ↦ x | false ↦ y ]

    full_faces : full b u ≡ full s u
    full_faces = ap (leb 64) free_faces

    pub floored_faces : floored b u ≡ floored s u
    floored_faces = ap (λ (f : Interface). f.marks.floored) (F.face u m)

    late_faces : late (interface b u) ≡ late (interface s u)
    late_faces = ap late (F.face u m) ∙ ap (λ (c : Bool). not c || is_some (interface s u).halves) (empty_map (re_slot R) (interface s u).slots)

    used_faces : used (interface b u) ≡ used (interface s u)
    used_faces = ap used (F.face u m) ∙ ap (λ (c : Bool). not c || (not (eqb (nat_abs (interface s u).progress) 0) || is_some (interface s u).halves)) (empty_map (re_slot R) (interface s u).slots)

    pub unit_faces : unit_tests b u ≡ unit_tests s u
    unfolding unit_tests
    unit_faces = λ i. (outside u, 3) ∷ (child_faces i, 4) ∷ []

  -- ---- the tests of each call
  module _ (wear : worn s ≡ true → worn b ≡ true) (fs : Frame s) (fb : Frame b) where
    defect_tests_lem : (u : ℕ) → mine p u ≡ true → first (defect_tests b u) ≢ 15 → first (defect_tests b u) ≡ first (defect_tests s u)
    unfolding defect_tests
    defect_tests_lem u m q = worn_last ((outside u, 3) ∷ (child b u, 4) ∷ (full b u, 14) ∷ []) (worn b) (worn s) wear q
        ∙ (λ i. first ((outside u, 3) ∷ (child_faces u m i, 4) ∷ (full_faces u m i, 14) ∷ (worn s, 15) ∷ []))

    blossom_tests_lem : (u : ℕ) (hs : List Handle) (ts : List (Handle × Handle)) → mine p u ≡ true → ((h : Handle) → In h (hs ++ both ts) → mine p h.unit ≡ true)
        → first (blossom_tests b u (map R.handle hs) (map (re_pair R) ts)) ≢ 15 → first (blossom_tests b u (map R.handle hs) (map (re_pair R) ts)) ≡ first (blossom_tests s u hs ts)
    unfolding blossom_tests
    blossom_tests_lem u hs ts m k q = worn_last (
        (outside u, 3)
        ∷ (child b u, 4)
        ∷ (empty hs' || ltb 64 (length hs'), 6)
        ∷ (not (empty ts') && not (eqb (length ts') (length hs')), 7)
        ∷ (any (stale b) (hs' ++ both ts'), 8)
        ∷ (any (foreign b u) (hs' ++ both ts'), 9)
        ∷ (any (λ h. has_parent (node_named b h)) hs', 11)
        ∷ (twice hs', 13)
        ∷ (full b u, 14)
        ∷ []) (worn b) (worn s) wear q
        ∙ (λ i. first (
        (outside u, 3)
        ∷ (child_faces u m i, 4)
        ∷ (empty_map R.handle hs i || ltb 64 (length-map hs R.handle i), 6)
        ∷ (not (empty_map (re_pair R) ts i) && not (eqb (length-map ts (re_pair R) i) (length-map hs R.handle i)), 7)
        ∷ (stales i, 8)
        ∷ (foreigns i, 9)
        ∷ (orphans i, 11)
        ∷ (twice_faces hs (λ h j. k h (in_left (both ts) j)) i, 13)
        ∷ (full_faces u m i, 14)
        ∷ (worn s, 15)
        ∷ []))
      where
        hs' : List Handle
        hs' = map R.handle hs

        ts' : List (Handle × Handle)
        ts' = map (re_pair R) ts

        all_is : hs' ++ both ts' ≡ map R.handle (hs ++ both ts)
        all_is = ap {B = List Handle} (λ x. hs' ++ x) (re_both R ts) ∙ sym (map-append R.handle hs (both ts))

        stales : any (stale b) (hs' ++ both ts') ≡ any (stale s) (hs ++ both ts)
        stales = ap (any (stale b)) all_is ∙ any_map (stale b) R.handle (stale s) (hs ++ both ts) (λ h j. stale_faces h (k h j))

        foreigns : any (foreign b u) (hs' ++ both ts') ≡ any (foreign s u) (hs ++ both ts)
        foreigns = ap (any (foreign b u)) all_is ∙ any_map (foreign b u) R.handle (foreign s u) (hs ++ both ts) (λ h j. foreign_faces u h (k h j))

        orphans : any (λ h. has_parent (node_named b h)) hs' ≡ any (λ h. has_parent (node_named s h)) hs
        orphans = any_map (λ h. has_parent (node_named b h)) R.handle (λ h. has_parent (node_named s h)) hs (λ h j. ap has_parent (node_faces h (k h (in_left (both ts) j))) ∙ re_orphan R (node_named s h))

    expand_tests_lem : (u : ℕ) (h : Handle) → mine p u ≡ true → mine p h.unit ≡ true → expand_tests b u (R.handle h) ≡ expand_tests s u h
    unfolding expand_tests
    expand_tests_lem u h m k = λ i. (outside u, 3) ∷ (child_faces u m i, 4) ∷ (stale_faces h k i, 8) ∷ (foreign_faces u h k i, 9)
        ∷ ((ap is_defect (node_faces h k) ∙ re_defect R (node_named s h)) i, 10) ∷ ((ap has_parent (node_faces h k) ∙ re_orphan R (node_named s h)) i, 11) ∷ []

    state_tests_lem : (u : ℕ) (h : Handle) → mine p u ≡ true → mine p h.unit ≡ true → state_tests b u (R.handle h) ≡ state_tests s u h
    unfolding state_tests
    state_tests_lem u h m k = λ i. (outside u, 3) ∷ (child_faces u m i, 4) ∷ (stale_faces h k i, 8) ∷ (foreign_faces u h k i, 9) ∷ ((ap has_parent (node_faces h k) ∙ re_orphan R (node_named s h)) i, 11) ∷ []

    -- whose top is an interface of the patch, is the patch's: so a node of another patch is never one that would sink
    top_back : (w : ℕ) → (mine p (top s w) ≡ true → mine p w ≡ true) × (mine p (top b w) ≡ true → mine p w ≡ true)
    top_back w = (
      climb_back p s fs (λ q l r k e. (C.left q l r k e, C.right q l r k e)) 8 w,
      climb_back p b fb (λ q l r k e. let f = sym (ap (λ (f : Interface). f.halves) (F.face q k)) ∙ e in (C.left q l r k f, C.right q l r k f)) 8 w,
    )

    below_faces : (u : ℕ) → mine p u ≡ true → (l : ℤ) → below b u l ≡ below s u l
    unfolding below any
    below_faces u m l = ap₂ ◌&&◌ (floored_faces u m) (any_all units)
      where
        sunk : Bench → ℕ → Bool
        sunk d w = eqb (top d w) u && any (sinks l) (interface d w).slots

        other : (d : Bench) (w : ℕ) → (mine p (top d w) ≡ true → mine p w ≡ true) → mine p w ≡ false → sunk d w ≡ false
        other d w back z = ap (λ (c : Bool). c && any (sinks l) (interface d w).slots) (ne_eqb (top d w) u (λ e. true≢false (sym (back (ap (mine p) e ∙ m)) ∙ z)))

        each : (w : ℕ) (c : Bool) → mine p w ≡ c → sunk b w ≡ sunk s w
        each w true z = ap₂ ◌&&◌ (ap (λ (t : ℕ). eqb t u) (top_faces p R s b C F w z)) (ap (λ (f : Interface). any (sinks l) f.slots) (F.face w z) ∙ any_map (sinks l) (re_slot R) (sinks l) (interface s w).slots (λ o i. re_sinks R l o))
        each w false z = other b w (top_back w).1 z ∙ sym (other s w (top_back w).0 z)

        any_all : (ws : List ℕ) → any (sunk b) ws ≡ any (sunk s) ws
        any_all [] = refl
        any_all (w ∷ ws) = ap₂ ◌||◌ (each w (mine p w) refl) (any_all ws)

    grow_tests_lem : (u : ℕ) (l : ℤ) → mine p u ≡ true → grow_tests b u l ≡ grow_tests s u l
    unfolding grow_tests
    grow_tests_lem u l m = λ i. (outside u, 3) ∷ (child_faces u m i, 4) ∷ (lt_z l (pos 0) || lt_z (pos (2 ^ 40)) ((F.face u m i).progress +ℤ l), 5) ∷ (below_faces u m l i, 25) ∷ []

    fuse_tests_lem : (q l r : ℕ) → mine p q ≡ true → mine p l ≡ true → mine p r ≡ true → fuse_tests b q l r ≡ fuse_tests s q l r
    unfolding fuse_tests
    fuse_tests_lem q l r mq ml mr = λ i. (outside q || (outside l || outside r), 3) ∷ (child_faces q mq i || (child_faces l ml i || child_faces r mr i), 4)
        ∷ (eqb l r || (leb q l || leb q r), 16) ∷ (used_faces q mq i, 17) ∷ (not (same (floored_faces l ml i) (floored_faces r mr i)), 26) ∷ []

    mark_tests_lem : (u : ℕ) → mine p u ≡ true → mark_tests b u ≡ mark_tests s u
    unfolding mark_tests
    mark_tests_lem u m = λ i. (outside u, 3) ∷ (child_faces u m i, 4) ∷ (late_faces u m i, 26) ∷ []

    pub tests_faces : (c : Call) → Own p c → first (tests_of b (re_call R c)) ≢ 15 → first (tests_of b (re_call R c)) ≡ first (tests_of s c)
    unfolding tests_of
    tests_faces (Defect u v) k q = defect_tests_lem u (k.units u (here refl)) q
    tests_faces (Blossom u hs ts) k q = blossom_tests_lem u hs ts (k.units u (here refl)) k.handles q
    tests_faces (Expand u h) k q = ap first (expand_tests_lem u h (k.units u (here refl)) (k.handles h (here refl)))
    tests_faces (SetState u h t) k q = ap first (state_tests_lem u h (k.units u (here refl)) (k.handles h (here refl)))
    tests_faces (Grow u l) k q = ap first (grow_tests_lem u l (k.units u (here refl)))
    tests_faces (Fuse f l r) k q = ap first (fuse_tests_lem f l r (k.units f (here refl)) (k.units l (there (here refl))) (k.units r (there (there (here refl)))))
    tests_faces (Clear u) k q = ap first (unit_faces u (k.units u (here refl)))
    tests_faces (Mark u t) k q = ap first (mark_tests_lem u (k.units u (here refl)))
