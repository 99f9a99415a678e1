-- What a call's passed tests say of the words: a handle that is not stale names a node in a used slot, whose words are in range; an interface that
-- may be named has its speed and sum in range. The ledger's own readings of the tests, carried through the view. Assumes nothing.
use Rattle.std.specs.Prelude.{None, Option, Some}
use Rattle.kinds.specs.declared.Handle.{Handle as Packed}
use Prim.Native.Nat.{ℕ, ◌+◌, ◌*◌, ◌<◌, ◌≤◌}
use mathlib.Core.Path.{◌≡◌, refl, ap, sym, ◌∙◌, subst}
use mathlib.Core.Bool.{false}
use mathlib.Core.List.{List}
use native.Mathlib.Decide.{dec_lt}
use native.Mathlib.Omega.{arith}
use lib.IntN.{pos, nat_abs, ◌+ℤ◌}
use lib.Signed.{lt_z}
use lib.ListN.{get_or}
use borrow.Author.Tests.{ltb-false}
use Rattle.bench_words.specs.Store.{node_at, interface_at}
use Rattle.kinds.specs.declared.Class.{Class}
use Rattle.kinds.specs.declared.Class.TheVariants.{Absent, Blossom, Defect}
use Rattle.bench_words.specs.declared.Node.{Node}
use Rattle.bench_words.specs.declared.Interface.{Interface}
use Rattle.ledger_spec.specs.Bench.{Handle, Member, defect, blossom}
use Rattle.ledger_spec.specs.Bench as plain
use Rattle.ledger_spec.specs.Look.{climb, free_slot}
use Rattle.ledger_spec.specs.Look as look
use Rattle.ledger_spec.specs.Tests.{first}
use Rattle.ledger_spec.specs.Refuse.{defect_tests, state_tests, grow_tests}
use Rattle.ledger_spec.specs.Named.{parent_named}
use Rattle.ledger_spec.proofs.Knit.{none_some, some_eq}
use Rattle.ledger_spec.proofs.Passed.{Open}
use Rattle.ledger_spec.proofs.Accepted.{Named, grow_passed, state_passed, defect_passed}
use Rattle.bench_views.specs.View.{lag_of, view, up_seen, slot_in, slot_seen, sum_up, circle_of}
use Rattle.bench_views.specs.Records.{Ranged}
use Rattle.bench_views.specs.Fit.{Fit}
use Rattle.bench_views.proofs.Sums.{sum_up_step}
use Rattle.bench_views.proofs.Views.{interface_in_lem, view_slot, view_past, view_out, view_parent, view_next}
use Rattle.bench_views.proofs.Rings.{Shows, slot_shows}
use Rattle.bench_views.proofs.Ranges.{off_range, ranged}
use Rattle.bench_slots.proofs.Free.{free_low, free_bare}

-- ---- an interface that may be named
pub record Paced (f : Interface) : Type 0 where
  pub slow : 512 ≤ f.speed
  pub fast : f.speed ≤ 1536
  pub low : 4607182418800017408 ≤ f.sum
  pub high : f.sum ≤ 4616189618054758400

-- a slot that a new node can take
pub record Vacant (b : List ℕ) (u s : ℕ) : Type 0 where
  pub room : s < 64
  pub low : s ≤ (interface_at b u).used
  pub bare : (node_at b (u * 64 + s)).class ≡ Absent

up_none : (p : Option ℕ) → up_seen p ≡ None → p ≡ None
up_none None e = refl
up_none (Some p) e = absurd (none_some e refl)

module _ (b : List ℕ) (F : Fit b) (u : ℕ) (o : Open (view b) u) where
  pub open_top : (interface_at b u).parent ≡ None
  open_top = up_none (interface_at b u).parent (sym (view_parent (get_or b 0 0) (interface_at b) (node_at b) u o.low) ∙ o.free)

  -- T of a top is its own progress
  pub open_total : sum_up 8 (interface_at b) u ≡ lag_of (interface_at b u)
  open_total =
      let e : sum_up 8 (interface_at b) u ≡ lag_of (interface_at b u) + 0 = sum_up_step 8 (interface_at b) u (omega arith) ∙ rw open_top in
      omega arith

  pub open_paced : Paced (interface_at b u)
  open_paced =
      let seen = interface_in_lem (get_or b 0 0) (interface_at b) (node_at b) u o.low in
      let v = off_range 1023 (interface_at b u).speed 512 (subst (λ (f : plain.Interface). nat_abs f.speed ≤ 512) seen (F.speed u o.low o.free)) in
      let s = off_range 4611686018427387903 (interface_at b u).sum 4503599627370496 (subst (λ (f : plain.Interface). nat_abs f.sum ≤ 4503599627370496) seen (F.sum u o.low o.free)) in
      record { slow = omega arith; fast = omega arith; low = omega arith; high = omega arith }

  -- the slot for one more node, and a serial for it
  pub open_slot : free_slot (view b) u < 64 → Vacant b u (free_slot (view b) u)
  open_slot l = record { room = l; low = free_low b F.canon u o.low; bare = free_bare b F.canon u o.low l }

  pub open_next : (view b).next < 4294967296 → get_or b 0 0 < 4294967296
  open_next l = omega (arith, l, view_next (get_or b 0 0) (interface_at b) (node_at b))

-- ---- a handle that names a node
pub record Stands (b : List ℕ) (h : Handle) : Type 0 where
  pub unit : h.unit < 8
  pub slot : h.slot < (interface_at b h.unit).used
  pub low : h.unit * 64 + h.slot < 512
  pub node : plain.Node
  pub named : look.node_named (view b) h ≡ Some node
  pub seen : slot_in (interface_at b) (node_at b) h.unit h.slot ≡ Some node
  pub shows : Shows (node_at b (h.unit * 64 + h.slot)) node
  pub serial : (node_at b (h.unit * 64 + h.slot)).serial.0 ≡ h.serial
  pub size : (node_at b (h.unit * 64 + h.slot)).size ≤ 512
  pub ranged : Ranged (node_at b (h.unit * 64 + h.slot))

module _ (b : List ℕ) (F : Fit b) {u : ℕ} (h : Handle) where
  pub stands : Named (view b) u h → Stands b h
  stands N = go (dec_lt h.unit 8) (dec_lt h.slot (interface_at b h.unit).used)
    where
      go : Dec (h.unit < 8) → Dec (h.slot < (interface_at b h.unit).used) → Stands b h
      go (no q) w = absurd (none_some (view_out (get_or b 0 0) (interface_at b) (node_at b) h.unit h.slot (omega arith)) N.has.stands)
      go (yes q) (no w) = absurd (none_some (view_past (get_or b 0 0) (interface_at b) (node_at b) h.unit h.slot q (omega arith)) N.has.stands)
      go (yes q) (yes w) =
          let k = h.unit * 64 + h.slot in
          let n = N.node in
          let seen : slot_in (interface_at b) (node_at b) h.unit h.slot ≡ Some n = sym (view_slot (get_or b 0 0) (interface_at b) (node_at b) h.unit h.slot q w) ∙ N.has.stands in
          let sh : Shows (node_at b k) n = slot_shows (node_at b k) (sum_up 8 (interface_at b) h.unit) (circle_of (node_at b) k) n seen in
          record {
            unit = q;
            slot = w;
            low = omega (arith, F.canon.steady.slots h.unit q);
            node = n;
            named = N.is;
            seen = seen;
            shows = sh;
            serial = sym sh.serial ∙ N.has.serial;
            size = omega (arith, sh.size, F.size h.unit h.slot n N.has.stands);
            ranged = ranged b F.canon.steady F.within h.unit h.slot q w sh.present;
          }

parent_none : (p : Option Packed) → parent_named p ≡ None → p ≡ None
parent_none None e = refl
parent_none (Some q) e = absurd (none_some e refl)

pub stands_free : {b : List ℕ} {h : Handle} {n : plain.Node} → Stands b h → look.node_named (view b) h ≡ Some n → n.parent ≡ None → (node_at b (h.unit * 64 + h.slot)).parent ≡ None
stands_free {b} {h} s e o = parent_none (node_at b (h.unit * 64 + h.slot)).parent (sym s.shows.parent ∙ ap (λ (x : plain.Node). x.parent) (some_eq s.named e) ∙ o)

not_both : {c : plain.Class} {v : ℕ} {ms : List Member} → c ≡ defect v → c ≡ blossom ms → ⊥
not_both {v = v} {ms = ms} p q = let z : defect v ≡ blossom ms = sym p ∙ q in let z2 : ◌≡◌ {A = ℕ} 0 1 = cc in omega arith

kind : (n : Node) (t : ℕ) (ms ns : List Member) (m : plain.Node) → slot_seen n t ms ≡ Some m → m.class ≡ blossom ns → n.class ≡ Blossom
unfolding slot_seen
kind n t ms ns m h q = go n.class refl
  where
    go : (c : Class) → n.class ≡ c → n.class ≡ Blossom
    go Absent e = absurd (none_some refl (rw e at h))
    go Blossom e = e
    go (Defect v) e =
        let h2 = rw e at h in
        let d : m.class ≡ defect v.0 = cc in
        absurd (not_both d q)

pub stands_blossom : {b : List ℕ} {h : Handle} {n : plain.Node} {ms : List Member} → Stands b h → look.node_named (view b) h ≡ Some n → n.class ≡ blossom ms → (node_at b (h.unit * 64 + h.slot)).class ≡ Blossom
stands_blossom {b} {h} {ms = ms} s e r =
    kind (node_at b (h.unit * 64 + h.slot)) (sum_up 8 (interface_at b) h.unit) (circle_of (node_at b) (h.unit * 64 + h.slot)) ms s.node s.seen (ap (λ (x : plain.Node). x.class) (some_eq s.named e) ∙ r)

-- ---- the tests of each call, passed
pub record Growable (b : List ℕ) (u l : ℕ) : Type 0 where
  pub root : Open (view b) u
  pub short : (interface_at b u).progress + l ≤ 1099511627776

pub growable : (b : List ℕ) (u l : ℕ) → first (grow_tests (view b) u (pos l)) ≡ 0 → Growable b u l
growable b u l e =
    let P = grow_passed (view b) u (pos l) e in
    let seen = interface_in_lem (get_or b 0 0) (interface_at b) (node_at b) u P.here.low in
    record {
      root = P.here;
      short = ltb-false 1099511627776 ((interface_at b u).progress + l) (subst (λ (f : plain.Interface). lt_z (pos 1099511627776) (f.progress +ℤ pos l) ≡ false) seen P.limit);
    }

pub record Settable (b : List ℕ) (u : ℕ) (h : Handle) : Type 0 where
  pub root : Open (view b) u
  pub stands : Stands b h
  pub under : climb 8 (view b) h.unit ≡ u
  pub free : (node_at b (h.unit * 64 + h.slot)).parent ≡ None

pub settable : (b : List ℕ) (u : ℕ) (h : Handle) → Fit b → first (state_tests (view b) u h) ≡ 0 → Settable b u h
settable b u h F e =
    let P = state_passed (view b) u h e in
    let s = stands b F h P.named in
    record { root = P.here; stands = s; under = P.named.near; free = stands_free s P.named.is P.orphan }

pub record Pushable (b : List ℕ) (u : ℕ) : Type 0 where
  pub root : Open (view b) u
  pub slot : Vacant b u (free_slot (view b) u)
  pub next : get_or b 0 0 < 4294967296

pub pushable : (b : List ℕ) (u : ℕ) → Fit b → first (defect_tests (view b) u) ≡ 0 → Pushable b u
pushable b u F e =
    let P = defect_passed (view b) u e in
    record { root = P.here; slot = open_slot b F u P.here P.room; next = open_next b F u P.here P.unworn }
