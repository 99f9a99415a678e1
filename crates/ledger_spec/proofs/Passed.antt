-- What an accepted call's tests say: number 0 means that each test failed. Assumes nothing.
use Rattle.std.specs.Prelude.{None, Option, Some}
use Prim.Native.Nat.{ℕ, ◌<◌}
use mathlib.Core.Path.{◌≡◌, refl, sym, ◌∙◌, ap, ap₂}
use mathlib.Core.Logic.{◌≢◌}
use mathlib.Core.Bool.{Bool, true, false, ◌||◌, ◌&&◌, not, true≢false}
use mathlib.Core.List.{List, [], ◌∷◌}
use native.Mathlib.Omega.{arith}
use lib.Dec.{T, eqb, leb, ltb, ltb→lt}
use lib.IntN.{nat_abs}
use borrow.Author.Tests.{lt-leb, ne_eqb, eqb-true, eq-eqb, leb-false, eqb-false, not-false}
use Rattle.ledger_spec.specs.Bench.{Handle, Node, Bench}
use Rattle.ledger_spec.specs.Look.{interface, slot_of, node_named, if_serial}
use Rattle.ledger_spec.specs.Knit.{Has}
use Rattle.ledger_spec.proofs.Lists.{or_false, same_eq, eq_same}
use Rattle.ledger_spec.proofs.Knit.{some_eq, none_some}
use Rattle.ledger_spec.specs.Tests.{first, is_some, empty, outside, child, stale, floored, same}
use Rattle.ledger_spec.specs.Refuse.{fuse_tests}

-- each test of a list failed; and no number of it is 0, which is computed
abbrev pub Failed : List (Bool × ℕ) → Type 0
Failed [] = Unit {0}
Failed (t ∷ ts) = (t.0 ≡ false) × Failed ts

abbrev numbered : List (Bool × ℕ) → Bool
numbered [] = true
numbered (t ∷ ts) = ltb 0 t.1 && numbered ts

pub passed : (ts : List (Bool × ℕ)) → T (numbered ts) → first ts ≡ 0 → Failed ts
unfolding first
passed [] p e = tt
passed (t ∷ ts) p e = go t.0 refl e (passed ts (more (ltb 0 t.1) (numbered ts) p).1)
  where
    more : (c d : Bool) → T (c && d) → T c × T d
    more true d p = (tt, p)
    more false d p = absurd p

    won : Bool → ℕ
    won c = elim c [ true ↦ t.1 | false ↦ first ts ]

    go : (c : Bool) → t.0 ≡ c → won c ≡ 0 → (first ts ≡ 0 → Failed ts) → (t.0 ≡ false) × Failed ts
    go true q e ih = absurd (omega (arith, e, ltb→lt 0 t.1 (more (ltb 0 t.1) (numbered ts) p).0))
    go false q e ih = (q, ih e)

pub failed : (ts : List (Bool × ℕ)) → Failed ts → first ts ≡ 0
unfolding first
failed [] f = refl
failed (t ∷ ts) f = go t.0 f.0 (failed ts f.1)
  where
    won : Bool → ℕ
    won c = elim c [ true ↦ t.1 | false ↦ first ts ]

    go : (c : Bool) → c ≡ false → first ts ≡ 0 → won c ≡ 0
    go true e h = absurd (true≢false e)
    go false e h = h

pub given_false : {A : Type 0} (o : Option A) → is_some o ≡ false → o ≡ None
given_false None e = refl
given_false (Some a) e = absurd (true≢false e)

pub empty_true : {A : Type 0} (l : List A) → empty l ≡ true → l ≡ []
empty_true [] e = refl
empty_true (x ∷ xs) e = absurd (true≢false (sym e))

-- an interface that a call may name
pub record Open (b : Bench) (u : ℕ) : Type 0 where
  pub low : u < 8
  pub free : (interface b u).parent ≡ None

pub open_of : (b : Bench) (u : ℕ) → outside u ≡ false → child b u ≡ false → Open b u
open_of b u x y = record { low = leb-false 8 u x; free = given_false (interface b u).parent y }

-- ---- the node that a handle names stands in its slot, under its serial
serial_some : (k : ℕ) (o : Option Node) (n : Node) → if_serial k o ≡ Some n → (o ≡ Some n) × (n.serial ≡ k)
unfolding if_serial
serial_some k None n e = absurd (none_some refl e)
serial_some k (Some m) n e = go (eqb k m.serial) refl e
  where
    pick : Bool → Option Node
    pick c = elim c [ true ↦ Some m | false ↦ None ]

    go : (c : Bool) → eqb k m.serial ≡ c → pick c ≡ Some n → (Some m ≡ Some n) × (n.serial ≡ k)
    go true t e = (e, ap (λ (x : Node). x.serial) (sym (some_eq refl e)) ∙ sym (eqb-true k m.serial t))
    go false t e = absurd (none_some refl e)

serial_is : (k : ℕ) (n : Node) → n.serial ≡ k → if_serial k (Some n) ≡ Some n
unfolding if_serial
serial_is k n e = go (eq-eqb k n.serial (sym e))
  where
    go : eqb k n.serial ≡ true → if_serial k (Some n) ≡ Some n
    go t = rw (t, if_serial)

pub serial_none : (k : ℕ) → if_serial k None ≡ None
unfolding if_serial
serial_none k = refl

pub serial_other : (k : ℕ) (n : Node) → k ≢ n.serial → if_serial k (Some n) ≡ None
unfolding if_serial
serial_other k n q = go (ne_eqb k n.serial q)
  where
    go : eqb k n.serial ≡ false → if_serial k (Some n) ≡ None
    go t = rw (t, if_serial)

pub node_has : (b : Bench) (h : Handle) (n : Node) → node_named b h ≡ Some n → Has (slot_of b) h n
unfolding node_named
node_has b h n e = let r = serial_some h.serial (slot_of b h.unit h.slot) n e in record { stands = r.0; serial = r.1 }

pub has_node : (b : Bench) (h : Handle) (n : Node) → Has (slot_of b) h n → node_named b h ≡ Some n
unfolding node_named
has_node b h n H = ap (if_serial h.serial) H.stands ∙ serial_is h.serial n H.serial

-- a handle that is not stale
pub has_of : (b : Bench) (h : Handle) → stale b h ≡ false → (n : Node) × Has (slot_of b) h n × (node_named b h ≡ Some n)
has_of b h e = go (node_named b h) refl
  where
    go : (o : Option Node) → node_named b h ≡ o → (n : Node) × Has (slot_of b) h n × (node_named b h ≡ Some n)
    go None k = absurd (true≢false (sym (ap (λ (o : Option Node). not (is_some o)) k) ∙ e))
    go (Some n) k = (n, node_has b h n k, k)

pub record Fusable (b : Bench) (p l r : ℕ) : Type 0 where
  pub p<8 : p < 8
  pub l<p : l < p
  pub r<p : r < p
  pub l≢r : l ≢ r
  pub l_none : (interface b l).parent ≡ None
  pub r_none : (interface b r).parent ≡ None
  pub p_none : (interface b p).parent ≡ None
  pub no_slots : (interface b p).slots ≡ []
  pub no_progress : nat_abs (interface b p).progress ≡ 0
  pub no_halves : is_some (interface b p).halves ≡ false
  pub alike : floored b l ≡ floored b r

pub fusable : (b : Bench) (p l r : ℕ) → first (fuse_tests b p l r) ≡ 0 → Fusable b p l r
unfolding fuse_tests
fusable b p l r e =
    let t = passed (fuse_tests b p l r) tt e in
    let c₁ = or_false (child b p) (child b l || child b r) t.1.0 in
    let c₂ = or_false (child b l) (child b r) c₁.1 in
    let q₁ = or_false (eqb l r) (leb p l || leb p r) t.1.1.0 in
    let q₂ = or_false (leb p l) (leb p r) q₁.1 in
    let u₁ = or_false (not (empty (interface b p).slots)) (not (eqb (nat_abs (interface b p).progress) 0) || is_some (interface b p).halves) t.1.1.1.0 in
    let u₂ = or_false (not (eqb (nat_abs (interface b p).progress) 0)) (is_some (interface b p).halves) u₁.1 in
    record {
      p<8 = leb-false 8 p (or_false (outside p) (outside l || outside r) t.0).0;
      l<p = leb-false p l q₂.0;
      r<p = leb-false p r q₂.1;
      l≢r = eqb-false l r q₁.0;
      p_none = given_false (interface b p).parent c₁.0;
      l_none = given_false (interface b l).parent c₂.0;
      r_none = given_false (interface b r).parent c₂.1;
      no_slots = empty_true (interface b p).slots (not-false (empty (interface b p).slots) u₁.0);
      no_progress = eqb-true (nat_abs (interface b p).progress) 0 (not-false (eqb (nat_abs (interface b p).progress) 0) u₂.0);
      no_halves = u₂.1;
      alike = same_eq (floored b l) (floored b r) (not-false (same (floored b l) (floored b r)) t.1.1.1.1.0);
    }

-- and back: what can be fused is
pub fusable_tests : (b : Bench) (p l r : ℕ) → Fusable b p l r → first (fuse_tests b p l r) ≡ 0
unfolding fuse_tests
fusable_tests b p l r f = failed (fuse_tests b p l r) (
  ap₂ ◌||◌ (lt-leb 8 p f.p<8) (ap₂ ◌||◌ (lt-leb 8 l (omega arith)) (lt-leb 8 r (omega arith))),
  (
    ap₂ ◌||◌ (ap is_some f.p_none) (ap₂ ◌||◌ (ap is_some f.l_none) (ap is_some f.r_none)),
    (
      ap₂ ◌||◌ (ne_eqb l r f.l≢r) (ap₂ ◌||◌ (lt-leb p l f.l<p) (lt-leb p r f.r<p)),
      (ap₂ ◌||◌ (ap (λ (x : List (Option Node)). not (empty x)) f.no_slots) (ap₂ ◌||◌ (ap (λ (z : ℕ). not (eqb z 0)) f.no_progress) f.no_halves), (ap not (eq_same (floored b l) (floored b r) f.alike), tt)),
    ),
  ),
)
