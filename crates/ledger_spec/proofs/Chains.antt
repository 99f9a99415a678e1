-- The walk to the outermost blossom, on a sound bench: each parent is a blossom of the tree with a higher serial, so the blossoms above a node are
-- fewer at each link. The chain ends, 512 links are enough, and the links are no more than the tree's blossoms. Assumes nothing.
use Rattle.std.specs.Prelude.{None, Option, Some}
use Prim.Native.Nat.{ℕ, zero, suc, ◌+◌, ◌≤◌, ◌<◌}
use mathlib.Core.Path.{◌≡◌, refl, sym, ◌∙◌, ap, subst}
use mathlib.Core.Bool.{Bool, true, false, ◌&&◌}
use mathlib.Core.List.{List, [], ◌∷◌}
use native.Mathlib.Omega.{arith}
use lib.Dec.{ltb}
use borrow.Author.Tests.{ltb-true, lt-ltb, le-ltb}
use lib.ListN.{length}
use lib.IntN.{ℤ, pos, nat_abs, ◌+ℤ◌}
use Rattle.ledger_spec.specs.Bench.{Handle, Member, Class, defect, blossom, Node, Bench}
use Rattle.ledger_spec.specs.Look.{interface, slot_of, node_named, top, tree}
use Rattle.ledger_spec.specs.Reads.{gather, slots_of}
use Rattle.ledger_spec.specs.SoundTree.{tally}
use Rattle.ledger_spec.specs.Walk.{parent_in, outer_from, links_from, below_from, outermost}
use Rattle.ledger_spec.specs.Knit.{Has, Up}
use Rattle.ledger_spec.specs.Facts.{Sound}
use Rattle.ledger_spec.specs.Chain.{Chain, end, link, is_blossom, blossoms_in}
use Rattle.ledger_spec.proofs.Lists.{and_true, both_true, tally_most, tally_mono, tally_less}
use Rattle.ledger_spec.proofs.Knit.{none_some}
use Rattle.ledger_spec.proofs.Tops.{top_root, below}
use Rattle.ledger_spec.proofs.Trees.{along, tree_sum_lem}
use Rattle.ledger_spec.proofs.Passed.{node_has, has_node}
use Rattle.ledger_spec.proofs.Gathered.{held_unit, held_in}
use Rattle.ledger_spec.proofs.Indices.{gather_length}
use Rattle.ledger_spec.proofs.Bounds.{under_bound}

-- ---- a walk with fuel enough follows the chain
module _ (b : Bench) where
  pub outer_none : (k : ℕ) (h : Handle) → parent_in (node_named b h) ≡ None → outer_from k b h ≡ h
  unfolding outer_from
  outer_none zero h e = refl
  outer_none (suc k) h e = rw (e, outer_from)

  pub outer_some : (k : ℕ) (h p : Handle) → parent_in (node_named b h) ≡ Some p → outer_from (suc k) b h ≡ outer_from k b p
  unfolding outer_from
  outer_some k h p e = rw (e, outer_from)

  pub links_none : (k : ℕ) (h : Handle) → parent_in (node_named b h) ≡ None → links_from k b h ≡ 0
  unfolding links_from
  links_none zero h e = refl
  links_none (suc k) h e = rw (e, links_from)

  links_start : (h : Handle) → links_from zero b h ≡ 0
  unfolding links_from
  links_start h = refl

  pub links_some : (k : ℕ) (h p : Handle) → parent_in (node_named b h) ≡ Some p → links_from (suc k) b h ≡ suc (links_from k b p)
  unfolding links_from
  links_some k h p e = rw (e, links_from)

  pub under_none : (k : ℕ) (g h : Handle) → parent_in (node_named b h) ≡ None → below_from k b g h ≡ g
  unfolding below_from
  under_none zero g h e = refl
  under_none (suc k) g h e = rw (e, below_from)

  pub under_some : (k : ℕ) (g h p : Handle) → parent_in (node_named b h) ≡ Some p → below_from (suc k) b g h ≡ below_from k b h p
  unfolding below_from
  under_some k g h p e = rw (e, below_from)

  pub chain_outer : {h t : Handle} {k : ℕ} → Chain b h k t → (m : ℕ) → k ≤ m → outer_from m b h ≡ t
  chain_outer (end {h} e) m x = outer_none m h e
  chain_outer (link {h} p e c) zero x = absurd (omega arith)
  chain_outer (link {h} p e c) (suc m) x = outer_some m h p e ∙ chain_outer c m (omega arith)

  pub chain_links : {h t : Handle} {k : ℕ} → Chain b h k t → (m : ℕ) → k ≤ m → links_from m b h ≡ k
  chain_links (end {h} e) m x = links_none m h e
  chain_links (link {h} p e c) zero x = absurd (omega arith)
  chain_links (link {h} p e c) (suc m) x = links_some m h p e ∙ ap suc (chain_links c m (omega arith))

  pub links_most : (k : ℕ) (h : Handle) → links_from k b h ≤ k
  links_most zero h = subst (λ (n : ℕ). n ≤ 0) (sym (links_start h)) (omega arith)
  links_most (suc k) h = go (parent_in (node_named b h)) refl (links_most k)
    where
      go : (q : Option Handle) → parent_in (node_named b h) ≡ q → ((p : Handle) → links_from k b p ≤ k) → links_from (suc k) b h ≤ suc k
      go None e ih = omega (arith, links_none (suc k) h e)
      go (Some p) e ih = omega (arith, links_some k h p e, ih p)

  -- the chain's end has no parent
  pub chain_end : {h t : Handle} {k : ℕ} → Chain b h k t → parent_in (node_named b t) ≡ None
  chain_end (end e) = e
  chain_end (link p e c) = chain_end c

  unlink : {h t : Handle} {k : ℕ} → Chain b h (suc k) t → (p : Handle) × (parent_in (node_named b h) ≡ Some p) × Chain b p k t
  unlink (link p e c) = (p, e, c)

  ended : {h t : Handle} → Chain b h 0 t → (parent_in (node_named b h) ≡ None) × (h ≡ t)
  ended (end e) = (e, refl)

  -- with at least one link, the node before the end has it for parent
  pub chain_under : (m k : ℕ) (g h t : Handle) → Chain b h (suc k) t → suc k ≤ m → parent_in (node_named b (below_from m b g h)) ≡ Some t
  chain_under zero k g h t c x = absurd (omega arith)
  chain_under (suc m) zero g h t c x =
      let u = unlink c in
      let d = ended u.2 in
      ap (λ (z : Handle). parent_in (node_named b z)) (under_some m g h u.0 u.1 ∙ under_none m h u.0 d.0) ∙ u.1 ∙ ap Some d.1
  chain_under (suc m) (suc k) g h t c x =
      let u = unlink c in
      ap (λ (z : Handle). parent_in (node_named b z)) (under_some m g h u.0 u.1) ∙ chain_under m k h u.0 t u.2 (omega arith)

  -- there is one chain
  pub chain_one : {h t t' : Handle} {k k' : ℕ} → Chain b h k t → Chain b h k' t' → (k ≡ k') × (t ≡ t')
  chain_one {h} {t} {t'} {k} {k'} c d = (
    sym (chain_links c (k + k') (omega arith)) ∙ chain_links d (k + k') (omega arith),
    sym (chain_outer c (k + k') (omega arith)) ∙ chain_outer d (k + k') (omega arith),
  )

-- ---- the parent of a present node: present, a blossom, of higher serial, in the same tree
pub record Outer (b : Bench) (h p : Handle) : Type 0 where
  pub node : Node
  pub is : node_named b p ≡ Some node
  pub ms : List Member
  pub ring : node.class ≡ blossom ms
  pub older : h.serial < p.serial
  pub near : top b h.unit ≡ top b p.unit

pub outer : (b : Bench) → Sound b → (h p : Handle) (n : Node) → node_named b h ≡ Some n → n.parent ≡ Some p → Outer b h p
outer b S h p n e f = record { node = U.over; is = has_node b p U.over U.has; ms = U.ms; ring = U.ring; older = omega (arith, U.older, H.serial); near = U.near }
  where
    H : Has (slot_of b) h n
    H = node_has b h n e

    U : Up (slot_of b) (top b) h.unit h.slot n p
    U = S.sewn.knit.up h.unit h.slot n p H.stands f

-- ---- a sound bench: slots of a tree are at most 512
length_along : (b : Bench) (us : List ℕ) → pos (length (gather b us)) ≡ along (λ u. pos (length (interface b u).slots)) us
unfolding gather along
length_along b [] = refl
length_along b (u ∷ us) = ap pos (gather_length b u us) ∙ ap (λ (z : ℤ). pos (length (interface b u).slots) +ℤ z) (length_along b us)

-- a blossom of serial above k
abbrev Entry : Type 0
Entry = ℕ × ℕ × Option Node

ring_above : ℕ → Option Node → Bool
ring_above k None = false
ring_above k (Some n) = is_blossom (Some n) && ltb k n.serial

above : Bench → ℕ → ℕ → ℕ
above b k i = tally (λ (t : Entry). ring_above k t.2) (slots_of b i)

ring_yes : (k : ℕ) (n : Node) (ms : List Member) → n.class ≡ blossom ms → k < n.serial → ring_above k (Some n) ≡ true
unfolding ring_above is_blossom
ring_yes k n ms r h = both_true (ap test r) (lt-ltb k n.serial h)
  where
    test : Class → Bool
    test c = elim c [ defect v ↦ false | blossom ms ↦ true ]

ring_no : (k : ℕ) (n : Node) → n.serial ≤ k → ring_above k (Some n) ≡ false
unfolding ring_above
ring_no k n h = ap (λ (c : Bool). is_blossom (Some n) && c) (le-ltb k n.serial h) ∙ go (is_blossom (Some n))
  where
    go : (c : Bool) → (c && false) ≡ false
    go true = refl
    go false = refl

ring_lower : (k j : ℕ) → k ≤ j → (o : Option Node) → ring_above j o ≡ true → ring_above k o ≡ true
unfolding ring_above
ring_lower k j h None e = e
ring_lower k j h (Some n) e = let t = and_true (is_blossom (Some n)) (ltb j n.serial) e in both_true t.0 (lt-ltb k n.serial (omega (arith, ltb-true j n.serial t.1, h)))

ring_is : (k : ℕ) (o : Option Node) → ring_above k o ≡ true → is_blossom o ≡ true
unfolding ring_above is_blossom
ring_is k None e = e
ring_is k (Some n) e = (and_true (is_blossom (Some n)) (ltb k n.serial) e).0

module _ (b : Bench) (S : Sound b) where
  pub slots_most : (i : ℕ) → i < 8 → (interface b i).parent ≡ None → length (slots_of b i) ≤ 512
  slots_most i h free = subst (λ (z : ℤ). nat_abs z ≤ 512) (sym (length_along b (tree 8 b i) ∙ tree_sum_lem b S.frame (λ u. pos (length (interface b u).slots)) i h free))
      (under_bound (top b) (λ u. pos (length (interface b u).slots)) 64 i (λ w. S.few w))

  -- at each link the blossoms above are fewer
  fewer : (h p : Handle) (n : Node) → node_named b h ≡ Some n → n.parent ≡ Some p → suc (above b p.serial (top b p.unit)) ≤ above b h.serial (top b h.unit)
  unfolding above
  fewer h p n e f = subst (λ (i : ℕ). suc (tally (λ (t : Entry). ring_above p.serial t.2) (slots_of b (top b p.unit))) ≤ tally (λ (t : Entry). ring_above h.serial t.2) (slots_of b i)) (sym O.near)
      (tally_less (λ (t : Entry). ring_above p.serial t.2) (λ (t : Entry). ring_above h.serial t.2) (slots_of b (top b p.unit)) (λ t k. ring_lower h.serial p.serial (omega (arith, O.older)) t.2 k)
      (held_in b S.frame p.unit p.slot O.node H.stands) (ring_yes h.serial O.node O.ms O.ring (omega (arith, O.older, H.serial))) (ring_no p.serial O.node (omega (arith, H.serial))))
    where
      O : Outer b h p
      O = outer b S h p n e f

      H : Has (slot_of b) p O.node
      H = node_has b p O.node O.is

  -- with as much fuel as there are blossoms above, the walk is the chain
  walked : (k : ℕ) (h : Handle) (n : Node) → node_named b h ≡ Some n → above b h.serial (top b h.unit) ≤ k → Chain b h (links_from k b h) (outer_from k b h)
  walked zero h n e x = go n.parent refl
    where
      go : (q : Option Handle) → n.parent ≡ q → Chain b h (links_from zero b h) (outer_from zero b h)
      go None f = let g : parent_in (node_named b h) ≡ None = ap parent_in e ∙ f in subst (λ (t : Handle). Chain b h (links_from zero b h) t) (sym (outer_none b zero h g)) (subst (λ (j : ℕ). Chain b h j h) (sym (links_none b zero h g)) (end g))
      go (Some p) f = absurd (omega (arith, x, fewer h p n e f))
  walked (suc k) h n e x = go n.parent refl (walked k)
    where
      go : (q : Option Handle) → n.parent ≡ q → ((g : Handle) (m : Node) → node_named b g ≡ Some m → above b g.serial (top b g.unit) ≤ k → Chain b g (links_from k b g) (outer_from k b g)) → Chain b h (links_from (suc k) b h) (outer_from (suc k) b h)
      go None f ih = let g : parent_in (node_named b h) ≡ None = ap parent_in e ∙ f in subst (λ (t : Handle). Chain b h (links_from (suc k) b h) t) (sym (outer_none b (suc k) h g)) (subst (λ (j : ℕ). Chain b h j h) (sym (links_none b (suc k) h g)) (end g))
      go (Some p) f ih = let g : parent_in (node_named b h) ≡ Some p = ap parent_in e ∙ f in
          subst (λ (t : Handle). Chain b h (links_from (suc k) b h) t) (sym (outer_some b k h p g)) (subst (λ (j : ℕ). Chain b h j (outer_from k b p)) (sym (links_some b k h p g))
          (link p g (ih p O.node O.is (omega (arith, x, fewer h p n e f)))))
        where
          O : Outer b h p
          O = outer b S h p n e f

  above_all : (k i : ℕ) → above b k i ≤ blossoms_in b i
  unfolding above blossoms_in
  above_all k i = tally_mono (λ (t : Entry). ring_above k t.2) (λ (t : Entry). is_blossom t.2) (slots_of b i) (λ t e. ring_is k t.2 e)

  few_blossoms : (i : ℕ) → i < 8 → (interface b i).parent ≡ None → blossoms_in b i ≤ 512
  unfolding blossoms_in
  few_blossoms i h free = omega (arith, tally_most (λ (t : Entry). is_blossom t.2) (slots_of b i), slots_most i h free)

  -- a chain from a present node: no longer than the blossoms above, and to a present node of the same tree
  chain_bound : {h t : Handle} {k : ℕ} → Chain b h k t → (n : Node) → node_named b h ≡ Some n → k ≤ above b h.serial (top b h.unit)
  chain_bound (end e) n f = omega arith
  chain_bound (link {h} p e c) n f = let O : Outer b h p = outer b S h p n f (ap parent_in (sym f) ∙ e) in omega (arith, fewer h p n f (ap parent_in (sym f) ∙ e), chain_bound c O.node O.is)

  chain_present : {h t : Handle} {k : ℕ} → Chain b h k t → (n : Node) → node_named b h ≡ Some n → (o : Node) × (node_named b t ≡ Some o) × (top b h.unit ≡ top b t.unit)
  chain_present (end e) n f = (n, f, refl)
  chain_present (link {h} p e c) n f = let O : Outer b h p = outer b S h p n f (ap parent_in (sym f) ∙ e) in let r = chain_present c O.node O.is in (r.0, r.1, O.near ∙ r.2)

  -- ---- the walk of the manual: from a present node, within 512 links, to a node without a parent
  module _ (h : Handle) (n : Node) (e : node_named b h ≡ Some n) where
    i<8 : top b h.unit < 8
    i<8 = below b S.frame 8 h.unit (held_unit b S.frame h.unit h.slot n (node_has b h n e).stands)

    pub chain : Chain b h (links_from 512 b h) (outermost b h)
    chain = walked 512 h n e (omega (arith, above_all h.serial (top b h.unit), few_blossoms (top b h.unit) i<8 (top_root b S.frame h.unit)))

    pub outer_free : parent_in (node_named b (outermost b h)) ≡ None
    outer_free = chain_end b chain

    -- more fuel changes nothing
    pub outer_more : (m : ℕ) → 512 ≤ m → outer_from m b h ≡ outermost b h
    outer_more m x = chain_outer b chain m (omega (arith, x, links_most b 512 h))

    pub links_more : (m : ℕ) → 512 ≤ m → links_from m b h ≡ links_from 512 b h
    links_more m x = chain_links b chain m (omega (arith, x, links_most b 512 h))

    -- no more links than present blossoms of the tree
    pub links_few : links_from 512 b h ≤ blossoms_in b (top b h.unit)
    links_few = omega (arith, chain_bound chain n e, above_all h.serial (top b h.unit))

    -- the outermost blossom is present, and of the same tree
    pub outer_present : (o : Node) × (node_named b (outermost b h) ≡ Some o) × (o.parent ≡ None) × (top b h.unit ≡ top b (outermost b h).unit)
    outer_present = let r = chain_present chain n e in (r.0, r.1, ap parent_in (sym r.1) ∙ outer_free, r.2)

    -- the node below it: where h has a parent, the one on the way whose parent is the outermost blossom
    pub under_parent : (p : Handle) → n.parent ≡ Some p → parent_in (node_named b (below_from 512 b h h)) ≡ Some (outermost b h)
    under_parent p f = go (links_from 512 b h) refl
      where
        go : (k : ℕ) → links_from 512 b h ≡ k → parent_in (node_named b (below_from 512 b h h)) ≡ Some (outermost b h)
        go zero k = absurd (none_some (ended b (subst (λ (j : ℕ). Chain b h j (outermost b h)) k chain)).0 (ap parent_in e ∙ f))
        go (suc j) k = chain_under b 512 j h h (outermost b h) (subst (λ (j : ℕ). Chain b h j (outermost b h)) k chain) (omega (arith, k, links_most b 512 h))
