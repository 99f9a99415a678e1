-- Two nodes of one outermost blossom that share a vertex stand one under the other, and the one with the lower serial is the one below: circles split
-- a blossom's vertices among its members, in circle order. Assumes nothing.
use Rattle.std.specs.Prelude.{None, Option, Some}
use Prim.Native.Nat.{ℕ, ◌+◌, ◌-◌, ◌≤◌, ◌<◌}
use mathlib.Core.Path.{◌≡◌, refl, sym, ◌∙◌, ap, subst}
use mathlib.Core.Logic.{◌⊎◌, inl, inr}
use mathlib.Core.Bool.{Bool, true, false, true≢false}
use mathlib.Core.List.{List, [], ◌∷◌}
use native.Mathlib.Omega.{arith}
use Rattle.ledger_spec.specs.Bench.{Handle, Node, Bench}
use Rattle.ledger_spec.specs.Look.{node_named, slot_of, top, same_handle}
use Rattle.ledger_spec.specs.Deeds.{size_of, sizes, members}
use Rattle.ledger_spec.specs.Walk.{parent_in, outermost}
use Rattle.ledger_spec.specs.SoundTree.{tally}
use Rattle.ledger_spec.specs.Knit.{mk, nodes, In, Has, Up}
use Rattle.ledger_spec.specs.Facts.{Sound}
use Rattle.ledger_spec.proofs.Lists.{not_in_nil, in_cases}
use Rattle.ledger_spec.proofs.Knit.{some_eq, none_some, same_handle_lem, same_self, tally_in}
use Rattle.ledger_spec.proofs.Passed.{node_has, has_node}
use Rattle.ledger_spec.proofs.Walks.{size_least}
use Rattle.ledger_spec.proofs.Chains.{outer_none, outer_some, outer_more}
use Rattle.ledger_laws.specs.Clean.{Descends, itself, inside}
use Rattle.check_nests.specs.Nest.{before, Lies, outer, inner}

-- ---- a circle's members one after the other
module _ (b : Bench) where
  abbrev size : Handle → ℕ
  size h = size_of (node_named b h)

  pub before_here : (h g : Handle) (gs : List Handle) → same_handle h g ≡ true → before b h (g ∷ gs) ≡ 0
  unfolding before
  before_here h g gs e = rw (e, before)

  pub before_past : (h g : Handle) (gs : List Handle) → same_handle h g ≡ false → before b h (g ∷ gs) ≡ size g + before b h gs
  unfolding before
  before_past h g gs e = rw (e, before)

  sizes_more : (g : Handle) (gs : List Handle) → sizes b (g ∷ gs) ≡ size g + sizes b gs
  unfolding sizes
  sizes_more g gs = refl

  later : (h g : Handle) (gs : List Handle) → same_handle h g ≡ false → In h (g ∷ gs) → In h gs
  later h g gs e i = go (in_cases i)
    where
      go : (h ≡ g) ⊎ In h gs → In h gs
      go (inl q) = absurd (true≢false (sym (same_self h) ∙ ap (same_handle h) q ∙ e))
      go (inr j) = j

  before_in : (h : Handle) (hs : List Handle) → In h hs → before b h hs + size h ≤ sizes b hs
  before_in h [] i = absurd (not_in_nil i)
  before_in h (g ∷ gs) i = go (same_handle h g) refl (before_in h gs)
    where
      go : (c : Bool) → same_handle h g ≡ c → (In h gs → before b h gs + size h ≤ sizes b gs) → before b h (g ∷ gs) + size h ≤ sizes b (g ∷ gs)
      go true e ih = omega (arith, before_here h g gs e, sizes_more g gs, ap size (same_handle_lem h g e))
      go false e ih = omega (arith, before_past h g gs e, sizes_more g gs, ih (later h g gs e i))

  -- what is before z in two of them is one
  apart : (c m : Handle) (hs : List Handle) (z : ℕ) → In c hs → In m hs → before b c hs ≤ z → z < before b c hs + size c → before b m hs ≤ z → z < before b m hs + size m → c ≡ m
  apart c m [] z i j p q s t = absurd (not_in_nil i)
  apart c m (g ∷ gs) z i j p q s t = go (same_handle c g) refl (same_handle m g) refl (apart c m gs (z - size g))
    where
      go : (x : Bool) → same_handle c g ≡ x → (y : Bool) → same_handle m g ≡ y
          → (In c gs → In m gs → before b c gs ≤ z - size g → z - size g < before b c gs + size c → before b m gs ≤ z - size g → z - size g < before b m gs + size m → c ≡ m) → c ≡ m
      go true x true y ih = same_handle_lem c g x ∙ sym (same_handle_lem m g y)
      go true x false y ih = absurd (omega (arith, q, s, before_here c g gs x, before_past m g gs y, ap size (same_handle_lem c g x)))
      go false x true y ih = absurd (omega (arith, p, t, before_here m g gs y, before_past c g gs x, ap size (same_handle_lem m g y)))
      go false x false y ih =
          let d = before_past c g gs x in
          let e = before_past m g gs y in
          ih (later c g gs x i) (later m g gs y j) (omega (arith, d, p)) (omega (arith, d, p, q)) (omega (arith, e, s)) (omega (arith, e, s, t))

-- ---- a node and its parent
pub record Part (b : Bench) (h p : Handle) : Type 0 where
  pub listed : In h (members (node_named b p))
  pub once : tally (same_handle h) (members (node_named b p)) ≡ 1
  pub within : before b h (members (node_named b p)) + size_of (node_named b h) ≤ size_of (node_named b p)
  pub older : h.serial < p.serial

module _ (b : Bench) (S : Sound b) where
  pub part : (h p : Handle) → parent_in (node_named b h) ≡ Some p → Part b h p
  part h p f = go (node_named b h) refl
    where
      go : (o : Option Node) → node_named b h ≡ o → Part b h p
      go None e = absurd (none_some (ap parent_in e) f)
      go (Some n) e = record {
        listed = tally_in h (members (node_named b p)) 0 once;
        once = once;
        within = omega (arith, before_in b h (members (node_named b p)) (tally_in h (members (node_named b p)) 0 once), ap (sizes b) circle, ap size_of over, ((S.rings p.unit p.slot U.over U.has.stands).circle U.ms U.ring).size);
        older = omega (arith, U.older, H.serial);
      }
        where
          H : Has (slot_of b) h n
          H = node_has b h n e

          U : Up (slot_of b) (top b) h.unit h.slot n p
          U = S.sewn.knit.up h.unit h.slot n p H.stands (sym (ap parent_in e) ∙ f)

          over : node_named b p ≡ Some U.over
          over = has_node b p U.over U.has

          circle : members (node_named b p) ≡ nodes U.ms
          circle = rw (over, U.ring, members)

          self : mk h.unit h.slot n ≡ h
          self = ap (λ (z : ℕ). record { unit = h.unit; slot = h.slot; serial = z }) H.serial

          once : tally (same_handle h) (members (node_named b p)) ≡ 1
          once = ap (tally (same_handle h)) circle ∙ subst (λ (x : Handle). tally (same_handle x) (nodes U.ms) ≡ 1) self U.once

  -- ---- where a node lies: in one place, within its outermost blossom
  lies_one : {r q h : Handle} {x y : ℕ} → Lies b r h x → Lies b q h y → x ≡ y
  lies_one (outer f e) (outer g d) = e ∙ sym d
  lies_one (outer f e) (inner p g M d) = absurd (none_some f g)
  lies_one (inner p f L e) (outer g d) = absurd (none_some g f)
  lies_one {r} {q} {h} (inner {y = u} p f L e) (inner {y = v} s g M d) =
      let w : s ≡ p = some_eq g f in
      omega (arith, e, d, lies_one L (subst (λ (k : Handle). Lies b q k v) w M), ap (λ (k : Handle). before b h (members (node_named b k))) w)

  pub lies_within : {r h : Handle} {x : ℕ} → Lies b r h x → x + size_of (node_named b h) ≤ size_of (node_named b r)
  lies_within (outer f e) = omega (arith, e)
  lies_within (inner {h} p f L e) = omega (arith, e, (part h p f).within, lies_within L)

  lies_descends : {r h : Handle} {x : ℕ} → Lies b r h x → Descends b r h
  lies_descends (outer f e) = itself
  lies_descends (inner p f L e) = inside p f (lies_descends L)

  pub lies_outer : {r h : Handle} {x : ℕ} → Lies b r h x → outermost b h ≡ r
  lies_outer {r} (outer f e) = outer_none b 512 r f
  lies_outer (inner {h} p f L e) = up (node_named b h) refl ∙ lies_outer L
    where
      up : (o : Option Node) → node_named b h ≡ o → outermost b h ≡ outermost b p
      up None q = absurd (none_some (ap parent_in q) f)
      up (Some n) q = sym (outer_more b S h n q 513 (omega arith)) ∙ outer_some b 512 h p f

  -- ---- t under p by the member c, with the vertex z
  record Through (r p t : Handle) (z : ℕ) : Type 0 where
    c : Handle
    at : ℕ
    parent : parent_in (node_named b c) ≡ Some p
    lies : Lies b r c at
    low : at ≤ z
    high : z < at + size_of (node_named b c)
    under : Descends b c t

  through : {r p t : Handle} {x : ℕ} (z : ℕ) → Descends b p t → Lies b r t x → x ≤ z → z < x + size_of (node_named b t) → (t ≡ p) ⊎ Through r p t z
  through z itself L l h = inl refl
  through z (inside q f d) (outer g e) l h = absurd (none_some g f)
  through {r} {p} {t} {x} z (inside q f d) (inner {y = y} s g L e) l h = go (through z d lies (omega (arith, e, l)) (omega (arith, e, h, (part t q f).within, ap (λ (k : Handle). before b t (members (node_named b k))) w)))
    where
      w : s ≡ q
      w = some_eq g f

      lies : Lies b r q y
      lies = subst (λ (k : Handle). Lies b r k y) w L

      go : (q ≡ p) ⊎ Through r p q z → (t ≡ p) ⊎ Through r p t z
      go (inl k) = inr (record { c = t; at = x; parent = f ∙ ap Some k; lies = inner s g L e; low = l; high = h; under = itself })
      go (inr T) = inr (record { c = T.c; at = T.at; parent = T.parent; lies = T.lies; low = T.low; high = T.high; under = inside q f T.under })

  -- ---- nodes that share the vertex z
  shared : {r m t : Handle} {x y : ℕ} (z : ℕ) → Lies b r m y → Lies b r t x → x ≤ z → z < x + size_of (node_named b t) → y ≤ z → z < y + size_of (node_named b m) → Descends b m t ⊎ Descends b t m
  shared z (outer f e) L l h i j = inl (lies_descends L)
  shared {r} {m} {t} z (inner {y = v} p f M e) L l h i j = go (shared z M L l h (omega (arith, e, i)) (omega (arith, e, j, P.within)))
    where
      P : Part b m p
      P = part m p f

      ring : {c : Handle} {a : ℕ} → parent_in (node_named b c) ≡ Some p → Lies b r c a → a ≤ z → z < a + size_of (node_named b c) → c ≡ m
      ring q (outer g d) k n = absurd (none_some g q)
      ring {c} q (inner {y = u} s g K d) k n =
          let w : s ≡ p = some_eq g q in
          let one : u ≡ v = lies_one K (subst (λ (x : Handle). Lies b r x v) (sym w) M) in
          let same = ap (λ (x : Handle). before b c (members (node_named b x))) w in
          apart b c m (members (node_named b p)) (z - v) (part c p q).listed P.listed
          (omega (arith, d, k, one, same)) (omega (arith, d, k, n, one, same)) (omega (arith, e, i)) (omega (arith, e, i, j))

      go : Descends b p t ⊎ Descends b t p → Descends b m t ⊎ Descends b t m
      go (inr d) = inr (inside p f d)
      go (inl d) = met (through z d L l h)
        where
          met : (t ≡ p) ⊎ Through r p t z → Descends b m t ⊎ Descends b t m
          met (inl q) = inr (inside p f (subst (λ (k : Handle). Descends b t k) q itself))
          met (inr T) = inl (subst (λ (k : Handle). Descends b k t) (ring T.parent T.lies T.low T.high) T.under)

  younger : {t m : Handle} → Descends b t m → (m ≡ t) ⊎ (m.serial < t.serial)
  younger itself = inl refl
  younger {t} (inside {t = m} p f d) = inr (go (younger d))
    where
      go : (p ≡ t) ⊎ (p.serial < t.serial) → m.serial < t.serial
      go (inl q) = omega (arith, (part m p f).older, ap (λ (k : Handle). k.serial) q)
      go (inr l) = omega (arith, (part m p f).older, l)

  pub lies_under : {r m t : Handle} {x y : ℕ} (n : Node) → node_named b t ≡ Some n → Lies b r m y → Lies b r t x → y ≤ x → x < y + size_of (node_named b m) → t.serial ≤ m.serial → Descends b m t
  lies_under {r} {m} {t} {x} {y} n e M L l h s = go (shared x M L (omega arith) (omega (arith, ap size_of e, size_least b S t n e)) l h)
    where
      go : Descends b m t ⊎ Descends b t m → Descends b m t
      go (inl d) = d
      go (inr d) = order (younger d)
        where
          order : (m ≡ t) ⊎ (m.serial < t.serial) → Descends b m t
          order (inl q) = subst (λ (k : Handle). Descends b m k) q itself
          order (inr g) = absurd (omega arith)
