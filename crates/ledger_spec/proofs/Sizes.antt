-- A defect size is at most 512, the number of slots: over the nodes without a parent the sizes add up to the number of defects, and a member's
-- size is part of its parent's. Assumes nothing.
use Rattle.std.specs.Prelude.{None, Option, Some}
use Prim.Native.Nat.{ℕ, zero, suc, ◌+◌, ◌*◌, ◌/◌, ◌%◌, ◌≤◌, ◌<◌}
use mathlib.Core.Path.{◌≡◌, refl, sym, ◌∙◌, ap, ap₂, subst}
use mathlib.Core.Bool.{Bool, true, false, true≢false}
use mathlib.Core.List.{List, [], ◌∷◌, map}
use native.Mathlib.Omega.{arith}
use native.Mathlib.Decide.{ℕ_discrete, dec_lt}
use lib.Dec.{eqb}
use borrow.Author.Tests.{eq-eqb, ne_eqb}
use lib.ListN.{length, get_or-eq_default}
use Rattle.ledger_spec.specs.Bench.{Handle, Member, Class, defect, blossom, Node, Bench}
use Rattle.ledger_spec.specs.Look.{interface, slot_of, node_named, if_serial, top, same_handle}
use Rattle.ledger_spec.specs.Tests.{is_some, has_parent}
use Rattle.ledger_spec.specs.Deeds.{size_of, sizes, members}
use Rattle.ledger_spec.specs.SoundTree.{tally}
use Rattle.ledger_spec.proofs.Counts.{sum_to, sum_of, one, rest, count, Below, sum_one, sum_zero, sum_has, sum_most, list_has, family}
use Rattle.ledger_spec.specs.Knit.{mk, nodes, In, here, there, Up, Sewn}
use Rattle.ledger_spec.proofs.Knit.{none_some, some_eq, same_handle_lem, same_self}
use Rattle.ledger_spec.proofs.Lists.{tally_yes, tally_no}
use Rattle.ledger_spec.proofs.Readings.{slot_out}

-- a handle's position among the 512 slots
abbrev pub spot : Handle → ℕ
spot h = h.unit * 64 + h.slot

-- ---- positions in a list of handles
below_all : (gs : List Handle) → ((g : Handle) → In g gs → spot g < 512) → Below 512 (map spot gs)
below_all [] h = tt
below_all (g ∷ gs) h = (h g (here refl), below_all gs (λ k i. h k (there i)))

count_none : (p : ℕ) (gs : List Handle) → ((g : Handle) → In g gs → spot g ≡ p → ⊥) → count p (map spot gs) ≡ 0
unfolding count
count_none p [] h = refl
count_none p (g ∷ gs) h = ap₂ (λ (c : Bool) (m : ℕ). one c + m) (ne_eqb p (spot g) (λ e. h g (here refl) (sym e))) (count_none p gs (λ k i. h k (there i)))

count_tally : (p : ℕ) (h : Handle) (gs : List Handle) → spot h ≡ p → ((g : Handle) → In g gs → spot g ≡ p → g ≡ h) → count p (map spot gs) ≡ tally (same_handle h) gs
unfolding count tally
count_tally p h [] e f = refl
count_tally p h (g ∷ gs) e f = go (ℕ_discrete p (spot g)) (count_tally p h gs e (λ k i. f k (there i)))
  where
    apart : (p ≡ spot g → ⊥) → (c : Bool) → same_handle h g ≡ c → c ≡ false
    apart n true z = absurd (n (sym e ∙ ap spot (same_handle_lem h g z)))
    apart n false z = refl

    go : Dec (p ≡ spot g) → count p (map spot gs) ≡ tally (same_handle h) gs → one (eqb p (spot g)) + count p (map spot gs) ≡ tally (same_handle h) (g ∷ gs)
    go (yes z) ih = omega (arith, ih, ap one (eq-eqb p (spot g) z), tally_yes (same_handle h) g gs (ap (same_handle h) (f g (here refl) (sym z)) ∙ same_self h))
    go (no z) ih = omega (arith, ih, ap one (ne_eqb p (spot g) z), tally_no (same_handle h) g gs (apart z (same_handle h g) refl))

-- ---- what a slot has of its own
abbrev pub own_class : Class → ℕ
own_class (defect v) = 1
own_class (blossom ms) = 0

abbrev pub own_of : Option Node → ℕ
own_of None = 0
own_of (Some n) = own_class n.class

own_small : (o : Option Node) → own_of o ≤ 1
own_small None = omega arith
own_small (Some n) = go n.class
  where
    go : (c : Class) → own_class c ≤ 1
    go (defect v) = omega arith
    go (blossom ms) = omega arith

pub record Adds (b : Bench) : Type 0 where
  pub eight : length b.interfaces ≡ 8
  pub few : (u : ℕ) → length (interface b u).slots ≤ 64
  pub single : (u s : ℕ) (n : Node) (v : ℕ) → slot_of b u s ≡ Some n → n.class ≡ defect v → n.size ≡ 1
  pub added : (u s : ℕ) (n : Node) (ms : List Member) → slot_of b u s ≡ Some n → n.class ≡ blossom ms → n.size ≡ sizes b (nodes ms)

module _ (b : Bench) (S : Sewn b) (A : Adds b) where
  pub in_range : (u s : ℕ) (n : Node) → slot_of b u s ≡ Some n → (u < 8) × (s < 64)
  in_range u s n e = (go (dec_lt u 8), ho (dec_lt s 64))
    where
      go : Dec (u < 8) → u < 8
      go (yes l) = l
      go (no l) = absurd (none_some (slot_out b u s (omega (arith, l, A.eight))) e)

      ho : Dec (s < 64) → s < 64
      ho (yes l) = l
      ho (no l) = absurd (none_some (get_or-eq_default (interface b u).slots None (omega (arith, l, A.few u))) e)

  abbrev at : ℕ → Option Node
  at p = slot_of b (p / 64) (p % 64)

  abbrev kids : ℕ → List ℕ
  kids p = map spot (members (at p))

  -- the slot that a position names is the one that a handle names
  at_spot : (h : Handle) → h.slot < 64 → at (spot h) ≡ slot_of b h.unit h.slot
  at_spot h l =
      let u : spot h / 64 ≡ h.unit = omega arith in
      let s : spot h % 64 ≡ h.slot = omega arith in
      ap₂ (slot_of b) u s

  -- the members of a node, as its class has them
  members_of : (o : Option Node) (n : Node) (ms : List Member) → o ≡ Some n → n.class ≡ blossom ms → members o ≡ nodes ms
  members_of o n ms e f = rw (e, f)

  no_members : (o : Option Node) (n : Node) (v : ℕ) → o ≡ Some n → n.class ≡ defect v → members o ≡ []
  no_members o n v e f = rw (e, f)

  pub record Kid (q : ℕ) (g : Handle) : Type 0 where
    pub node : Node
    pub over : Node
    pub stands : slot_of b g.unit g.slot ≡ Some node
    pub serial : node.serial ≡ g.serial
    pub above : at q ≡ Some over
    pub parent : node.parent ≡ Some (mk (q / 64) (q % 64) over)

  kid : (q : ℕ) (g : Handle) → In g (members (at q)) → Kid q g
  kid q g i = go (at q) refl i
    where
      nothing : {g : Handle} → In g [] → ⊥
      nothing x = elim x [ ]

      go : (o : Option Node) → at q ≡ o → In g (members o) → Kid q g
      go None e i = absurd (nothing i)
      go (Some m) e i = ho m.class refl i
        where
          ho : (c : Class) → m.class ≡ c → In g (members (Some m)) → Kid q g
          ho (defect v) f i = absurd (nothing (subst (In g) (no_members (Some m) m v refl f) i))
          ho (blossom ms) f i =
              let D = S.knit.down (q / 64) (q % 64) m ms g e f (subst (In g) (members_of (Some m) m ms refl f) i) in
              record { node = D.node; over = m; stands = D.has.stands; serial = D.has.serial; above = e; parent = D.parent }

  kid_low : (q : ℕ) (g : Handle) → Kid q g → spot g < 512
  kid_low q g k = let r = in_range g.unit g.slot k.node k.stands in omega arith

  below : (q : ℕ) → q < 512 → Below 512 (kids q)
  below q l = below_all (members (at q)) (λ g i. kid_low q g (kid q g i))

  -- ---- sizes add up
  size_at : (q : ℕ) (g : Handle) → Kid q g → size_of (node_named b g) ≡ size_of (at (spot g))
  unfolding node_named if_serial
  size_at q g k =
      let r = in_range g.unit g.slot k.node k.stands in
      ap (λ (o : Option Node). size_of (if_serial g.serial o)) k.stands ∙ held k.node k.serial ∙ sym (ap size_of (at_spot g r.1 ∙ k.stands))
    where
      held : (n : Node) → n.serial ≡ g.serial → size_of (if_serial g.serial (Some n)) ≡ n.size
      held n e = rw (eq-eqb g.serial n.serial (sym e), if_serial)

  sizes_at : (q : ℕ) (gs : List Handle) → ((g : Handle) → In g gs → Kid q g) → sizes b gs ≡ sum_of (λ p. size_of (at p)) (map spot gs)
  unfolding sizes sum_of
  sizes_at q [] h = refl
  sizes_at q (g ∷ gs) h = ap₂ ◌+◌ (size_at q g (h g (here refl))) (sizes_at q gs (λ k i. h k (there i)))

  adds : (q : ℕ) → q < 512 → size_of (at q) ≡ own_of (at q) + sum_of (λ p. size_of (at p)) (kids q)
  unfolding sum_of
  adds q l = go (at q) refl (λ g i. kid q g i)
    where
      go : (o : Option Node) → at q ≡ o → ((g : Handle) → In g (members o) → Kid q g) → size_of o ≡ own_of o + sum_of (λ p. size_of (at p)) (map spot (members o))
      go None e h = refl
      go (Some n) e h = ho n.class refl
        where
          ho : (c : Class) → n.class ≡ c → n.size ≡ own_class n.class + sum_of (λ p. size_of (at p)) (map spot (members (Some n)))
          ho (defect v) f = A.single (q / 64) (q % 64) n v e f ∙ sym (rw f)
          ho (blossom ms) f =
              let m : members (Some n) ≡ nodes ms = members_of (Some n) n ms refl f in
              let whole = A.added (q / 64) (q % 64) n ms e f ∙ ap (sizes b) (sym m) ∙ sizes_at q (members (Some n)) h in
              omega (arith, whole, ap own_class f)

  -- ---- each node stands once in its parent's circle, and in no other
  pub record Same (p : ℕ) (n : Node) (g : Handle) (q : ℕ) (k : Kid q g) : Type 0 where
    pub node : k.node ≡ n
    pub handle : g ≡ mk (p / 64) (p % 64) n

  same : (p : ℕ) (n : Node) → at p ≡ Some n → (q : ℕ) (g : Handle) (k : Kid q g) → spot g ≡ p → Same p n g q k
  same p n e q g k z =
      let r = in_range g.unit g.slot k.node k.stands in
      let m : k.node ≡ n = some_eq k.stands (sym (at_spot g r.1) ∙ ap at z ∙ e) in
      let u : g.unit ≡ p / 64 = omega arith in
      let s : g.slot ≡ p % 64 = omega arith in
      let x : g.serial ≡ n.serial = sym k.serial ∙ ap (λ (w : Node). w.serial) m in
      record { node = m; handle = λ i. record { unit = u i; slot = s i; serial = x i } }

  module _ (p : ℕ) (l : p < 512) (n : Node) (e : at p ≡ Some n) (qh : Handle) (f : n.parent ≡ Some qh) where
    up : Up (slot_of b) (top b) (p / 64) (p % 64) n qh
    up = S.knit.up (p / 64) (p % 64) n qh e f

    q_range : (qh.unit < 8) × (qh.slot < 64)
    q_range = in_range qh.unit qh.slot up.over up.has.stands

    q_at : at (spot qh) ≡ Some up.over
    q_at = at_spot qh q_range.1 ∙ up.has.stands

    q_kids : members (at (spot qh)) ≡ nodes up.ms
    q_kids = members_of (at (spot qh)) up.over up.ms q_at up.ring

    here_once : count p (kids (spot qh)) ≡ 1
    here_once =
        let back : p / 64 * 64 + p % 64 ≡ p = omega arith in
        count_tally p (mk (p / 64) (p % 64) n) (members (at (spot qh))) back (λ g i z. (same p n e (spot qh) g (kid (spot qh) g i) z).handle)
        ∙ ap (tally (same_handle (mk (p / 64) (p % 64) n))) q_kids ∙ up.once

    elsewhere : (q : ℕ) → (q ≡ spot qh → ⊥) → count p (kids q) ≡ 0
    elsewhere q ne = count_none p (members (at q)) (λ g i z. wrong g (kid q g i) z)
      where
        wrong : (g : Handle) (k : Kid q g) → spot g ≡ p → ⊥
        wrong g k z =
            let h : qh ≡ mk (q / 64) (q % 64) k.over = some_eq f (sym (ap (λ (w : Node). w.parent) (same p n e q g k z).node) ∙ k.parent) in
            ne (sym (ap spot h ∙ back))
          where
            back : q / 64 * 64 + q % 64 ≡ q
            back = omega arith

    once : sum_to 512 (λ q. count p (kids q)) ≡ 1
    once = sum_one 512 (spot qh) (λ q. count p (kids q)) (let r = q_range in omega arith) (λ q m ne. elsewhere q ne) ∙ here_once

  child_once : (p : ℕ) → p < 512 → has_parent (at p) ≡ true → sum_to 512 (λ q. count p (kids q)) ≡ 1
  child_once p l c = go (at p) refl c
    where
      go : (o : Option Node) → at p ≡ o → has_parent o ≡ true → sum_to 512 (λ q. count p (kids q)) ≡ 1
      go None e c = absurd (true≢false (sym c))
      go (Some n) e c = ho n.parent refl c
        where
          ho : (h : Option Handle) → n.parent ≡ h → is_some h ≡ true → sum_to 512 (λ q. count p (kids q)) ≡ 1
          ho None f c = absurd (true≢false (sym c))
          ho (Some qh) f c = once p l n e qh f

  free_never : (p : ℕ) → p < 512 → has_parent (at p) ≡ false → sum_to 512 (λ q. count p (kids q)) ≡ 0
  free_never p l c = sum_zero 512 (λ q. count p (kids q)) (λ q m. count_none p (members (at q)) (λ g i z. wrong q g (kid q g i) z))
    where
      wrong : (q : ℕ) (g : Handle) → Kid q g → spot g ≡ p → ⊥
      wrong q g k z =
          let r = in_range g.unit g.slot k.node k.stands in
          true≢false (sym (ap has_parent (sym (ap at z) ∙ at_spot g r.1 ∙ k.stands) ∙ ap is_some k.parent) ∙ c)

  -- ---- no size above 512
  all_free : sum_to 512 (λ p. rest (has_parent (at p)) (size_of (at p))) ≤ 512
  all_free = omega (
    arith,
    family 512 (λ p. own_of (at p)) (λ p. size_of (at p)) kids (λ p. has_parent (at p)) below adds child_once free_never,
    sum_most 512 (λ p. own_of (at p)) (λ p l. own_small (at p)),
  )

  bounded : (k p : ℕ) (n : Node) → p < 512 → at p ≡ Some n → b.next ≤ n.serial + k → n.size ≤ 512
  bounded zero p n l e h = absurd (let x = S.knit.low (p / 64) (p % 64) n e in omega arith)
  bounded (suc k) p n l e h = go n.parent refl (bounded k)
    where
      go : (o : Option Handle) → n.parent ≡ o → ((p : ℕ) (n : Node) → p < 512 → at p ≡ Some n → b.next ≤ n.serial + k → n.size ≤ 512) → n.size ≤ 512
      go None f ih =
          let x = sum_has 512 p (λ q. rest (has_parent (at q)) (size_of (at q))) l in
          let y : rest (has_parent (at p)) (size_of (at p)) ≡ n.size = ap (λ (o : Option Node). rest (has_parent o) (size_of o)) e ∙ ap (λ (h : Option Handle). rest (is_some h) n.size) f in
          omega (arith, x, y, all_free)
      go (Some qh) f ih =
          let U = up p l n e qh f in
          let r = q_range p l n e qh f in
          let q< : spot qh < 512 = omega arith in
          let more = ih (spot qh) U.over q< (q_at p l n e qh f) (omega (arith, h, U.older, U.has.serial)) in
          let part = list_has (λ p. size_of (at p)) p (kids (spot qh)) 0 (here_once p l n e qh f) in
          omega (arith, more, part, adds (spot qh) q<, ap size_of e, ap size_of (q_at p l n e qh f))

  pub small_size : (u s : ℕ) (n : Node) → slot_of b u s ≡ Some n → n.size ≤ 512
  small_size u s n e =
      let r = in_range u s n e in
      let p< : u * 64 + s < 512 = omega arith in
      let x : (u * 64 + s) / 64 ≡ u = omega arith in
      let y : (u * 64 + s) % 64 ≡ s = omega arith in
      bounded b.next (u * 64 + s) n p< (ap₂ (slot_of b) x y ∙ e) (omega arith)
