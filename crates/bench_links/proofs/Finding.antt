-- A handle names a node exactly where its slot holds one of its serial: past the used slots every slot is empty, so a present node's slot is used.
-- Assumes nothing.
use Rattle.std.specs.Prelude.{None, Option, Some}
use Prim.Native.Nat.{ℕ, ◌<◌, ◌≤◌}
use mathlib.Core.Path.{◌≡◌, refl, ap, sym, ◌∙◌, subst}
use mathlib.Core.Logic.{by_cases}
use mathlib.Core.Bool.{Bool, true, false}
use mathlib.Core.List.{List}
use native.Mathlib.Decide.{dec_lt}
use native.Mathlib.Omega.{arith}
use borrow.Author.Tests.{ne_eqb, le-ltb, lt-ltb}
use lib.ListN.{get_or}
use Rattle.bench_words.specs.Codec.{handle_of}
use Rattle.bench_words.specs.Store.{node_at, interface_at}
use Rattle.bench_words.specs.declared.Node.{Node}
use Rattle.kinds.specs.declared.Class.{Class}
use Rattle.kinds.specs.declared.Class.TheVariants.{Absent, Blossom, Defect}
use Rattle.ledger_spec.specs.Bench.{Handle}
use Rattle.ledger_spec.specs.Bench as plain
use Rattle.ledger_spec.specs.Look.{slot_of, if_serial, node_named}
use Rattle.ledger_spec.specs.Named.{handle_named}
use Rattle.ledger_spec.proofs.Knit.{none_some}
use Rattle.ledger_spec.proofs.Passed.{has_node}
use Rattle.bench_views.specs.View.{view, slot_seen, node_seen, sum_up, circle_of}
use Rattle.bench_views.specs.Canon.{Canon}
use Rattle.bench_views.proofs.Views.{view_slot, view_past, view_out}
use Rattle.bench_views.proofs.Rings.{slot_held, Shows, slot_shows}
use Rattle.bench_views.proofs.Slots.{slot_absent}
use Rattle.bench_links.specs.Find.{absent_of, spot, Stands, Held, Finds}
use Rattle.bench_views.specs.Given.{hand_given}

-- ---- the ledger's node by a handle
module _ (B : plain.Bench) (h : Handle) where
  pub named_none : slot_of B h.unit h.slot ≡ None → node_named B h ≡ None
  unfolding node_named if_serial
  named_none e = rw e

  pub named_some : (n : plain.Node) → slot_of B h.unit h.slot ≡ Some n → n.serial ≡ h.serial → node_named B h ≡ Some n
  named_some n e s = has_node B h n (record { stands = e; serial = s })

  pub named_other : (n : plain.Node) → slot_of B h.unit h.slot ≡ Some n → (n.serial ≡ h.serial → ⊥) → node_named B h ≡ None
  unfolding node_named if_serial
  named_other n e s = rw (e, ne_eqb h.serial n.serial (λ q. s (sym q)), if_serial)

pub absent_yes : (c : Class) → absent_of c ≡ true → c ≡ Absent
absent_yes Absent e = refl
absent_yes Blossom e = absurd (let z : ◌≡◌ {A = ℕ} 0 1 = cc in omega arith)
absent_yes (Defect v) e = absurd (let z : ◌≡◌ {A = ℕ} 0 1 = cc in omega arith)

pub absent_no : {c : Class} → absent_of c ≡ false → c ≡ Absent → ⊥
absent_no {c} e q = let z : ◌≡◌ {A = ℕ} 0 1 = cc in omega arith

-- ---- in words
module _ (b : List ℕ) (h : Handle) where
  abbrev here : Node
  here = node_at b (spot h)

  abbrev shown : Option plain.Node
  shown = slot_seen here (sum_up 8 (interface_at b) h.unit) (circle_of (node_at b) (spot h))

  pub out_unit : 8 ≤ h.unit → node_named (view b) h ≡ None
  out_unit l = named_none (view b) h (view_out (get_or b 0 0) (interface_at b) (node_at b) h.unit h.slot l)

  past : h.unit < 8 → (interface_at b h.unit).used ≤ h.slot → node_named (view b) h ≡ None
  past l k = named_none (view b) h (view_past (get_or b 0 0) (interface_at b) (node_at b) h.unit h.slot l k)

  pub out_slot : Canon b → h.unit < 8 → 64 ≤ h.slot → node_named (view b) h ≡ None
  out_slot C l k = past l (omega (arith, C.steady.slots h.unit l))

  module _ (lu : h.unit < 8) (used : h.slot < (interface_at b h.unit).used) where
    in_slot : slot_of (view b) h.unit h.slot ≡ shown
    in_slot = view_slot (get_or b 0 0) (interface_at b) (node_at b) h.unit h.slot lu used

    seen_none : here.class ≡ Absent → node_named (view b) h ≡ None
    seen_none e = named_none (view b) h (in_slot ∙ slot_absent here (sum_up 8 (interface_at b) h.unit) (circle_of (node_at b) (spot h)) e)

    module _ (present : here.class ≡ Absent → ⊥) where
      seen_other : (here.serial.0 ≡ h.serial → ⊥) → node_named (view b) h ≡ None
      seen_other s =
          let k = slot_held here (sum_up 8 (interface_at b) h.unit) (circle_of (node_at b) (spot h)) present in
          named_other (view b) h (node_seen here (sum_up 8 (interface_at b) h.unit) k.0) (in_slot ∙ k.1) s

      seen_some : here.serial.0 ≡ h.serial → node_named (view b) h ≡ shown
      seen_some s =
          let k = slot_held here (sum_up 8 (interface_at b) h.unit) (circle_of (node_at b) (spot h)) present in
          named_some (view b) h (node_seen here (sum_up 8 (interface_at b) h.unit) k.0) (in_slot ∙ k.1) s ∙ sym k.1

  module _ (C : Canon b) (lu : h.unit < 8) (ls : h.slot < 64) where
    pub find_absent : here.class ≡ Absent → node_named (view b) h ≡ None
    find_absent e = by_cases (dec_lt h.slot (interface_at b h.unit).used)
        (λ (k : h.slot < (interface_at b h.unit).used). seen_none lu k e)
        (λ (k : h.slot < (interface_at b h.unit).used → ⊥). past lu (omega arith))

    -- what is present stands in a used slot
    used_slot : (here.class ≡ Absent → ⊥) → h.slot < (interface_at b h.unit).used
    used_slot p = by_cases (dec_lt h.slot (interface_at b h.unit).used)
        (λ (k : h.slot < (interface_at b h.unit).used). k)
        (λ (k : h.slot < (interface_at b h.unit).used → ⊥). absurd (p (ap (λ (n : Node). n.class) (C.past h.unit h.slot lu ls (omega arith)))))

    pub find_other : (here.class ≡ Absent → ⊥) → (here.serial.0 ≡ h.serial → ⊥) → node_named (view b) h ≡ None
    find_other p s = seen_other lu (used_slot p) p s

    pub find_there : (k : ℕ) → k ≡ spot h → (here.class ≡ Absent → ⊥) → here.serial.0 ≡ h.serial → Held b h k
    find_there k e p s = record {
      place = e;
      low = omega arith;
      stands = record { unit = lu; slot = used_slot p; low = ls; present = p; serial = s; seen = seen_some lu (used_slot p) p s };
    }

-- a handle by which the ledger has a node in its slot stands
pub stands_by : (b : List ℕ) → Canon b → (h : Handle) (n : plain.Node) → slot_of (view b) h.unit h.slot ≡ Some n → n.serial ≡ h.serial → Stands b h
stands_by b C h n e s = go (dec_lt h.unit 8) (dec_lt h.slot (interface_at b h.unit).used)
  where
    go : Dec (h.unit < 8) → Dec (h.slot < (interface_at b h.unit).used) → Stands b h
    go (no q) w = absurd (none_some (view_out (get_or b 0 0) (interface_at b) (node_at b) h.unit h.slot (omega arith)) e)
    go (yes q) (no w) = absurd (none_some (view_past (get_or b 0 0) (interface_at b) (node_at b) h.unit h.slot q (omega arith)) e)
    go (yes q) (yes w) =
        let k : Shows (here b h) n = slot_shows (here b h) (sum_up 8 (interface_at b) h.unit) (circle_of (node_at b) (spot h)) n (sym (in_slot b h q w) ∙ e) in
        let u = C.steady.slots h.unit q in
        record {
          unit = q;
          slot = w;
          low = omega arith;
          present = k.present;
          serial = sym k.serial ∙ s;
          seen = seen_some b h q w k.present (sym k.serial ∙ s);
        }

-- ---- by what is loaded from the slot
module _ (b : List ℕ) (C : Canon b) (h : Handle) (n : Node) (e : n ≡ node_at b (spot h)) (lu : h.unit < 8) (ls : h.slot < 64) {t : Bool} (a : t ≡ absent_of n.class) where
  pub gone : t ≡ true → node_named (view b) h ≡ None
  gone q = find_absent b h C lu ls (sym (ap (λ (x : Node). x.class) e) ∙ absent_yes n.class (sym a ∙ q))

  module _ (q : t ≡ false) where
    there : (node_at b (spot h)).class ≡ Absent → ⊥
    there z = absent_no (sym a ∙ q) (ap (λ (x : Node). x.class) e ∙ z)

    pub renamed : (n.serial.0 ≡ h.serial → ⊥) → node_named (view b) h ≡ None
    renamed s = find_other b h C lu ls there (λ z. s (ap (λ (x : Node). x.serial.0) e ∙ z))

    pub found : n.serial.0 ≡ h.serial → (k : ℕ) → k ≡ spot h → Held b h k
    found s k p = find_there b h C lu ls k p there (sym (ap (λ (x : Node). x.serial.0) e) ∙ s)

-- ---- by a packed word
pub no_handle : (b : List ℕ) (w : ℕ) → 2199023255552 ≤ w → node_named (view b) (hand_given w) ≡ None
unfolding hand_given
no_handle b w l = rw (le-ltb w 2199023255552 l) (out_unit b (record { unit = 8; slot = 0; serial = 0 }) (omega arith))

pub is_handle : (w : ℕ) → w < 2199023255552 → handle_named (handle_of w) ≡ hand_given w
unfolding hand_given
is_handle w l = rw (lt-ltb w 2199023255552 l)

-- ---- by what was found
module _ (b : List ℕ) (h : Handle) {r : Option ℕ} (f : Finds b h r) where
  pub found_at : (k : ℕ) → r ≡ Some k → Held b h k
  found_at k e = subst (λ (x : Option ℕ). Finds b h x) e f

  pub found_none : r ≡ None → node_named (view b) h ≡ None
  found_none e = subst (λ (x : Option ℕ). Finds b h x) e f
