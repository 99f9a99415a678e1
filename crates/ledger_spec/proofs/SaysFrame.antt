-- What the test `sound` says of a bench's interfaces: the test in its parts, the bounds of each interface, and the links between them as a frame.
-- Assumes nothing.
use Rattle.std.specs.Prelude.{None, Option, Some}
use Prim.Native.Nat.{ℕ, ◌≤◌, ◌<◌, ◌^◌}
use mathlib.Core.Path.{◌≡◌, refl, sym, ◌∙◌, ap, subst}
use mathlib.Core.Logic.{◌≢◌, ◌⊎◌, inl, inr}
use mathlib.Core.Bool.{Bool, true, false, not, ◌&&◌, ◌||◌, true≢false}
use native.Mathlib.Omega.{arith}
use native.Mathlib.Decide.{dec_lt}
use lib.Dec.{eqb, leb, ltb}
use borrow.Author.Tests.{leb-true, ltb-true, eqb-true, eqb-false, not-true}
use lib.ListN.{length, get_or-eq_default}
use lib.IntN.{ℤ, pos, negsuc, nat_abs}
use lib.Signed.{le_z}
use Rattle.ledger_spec.specs.Bench.{Interface, Bench, fresh}
use Rattle.ledger_spec.specs.Look.{interface}
use Rattle.ledger_spec.specs.Tests.{is_some}
use Rattle.ledger_spec.specs.Reads.{gather}
use Rattle.ledger_spec.specs.SoundTree.{all, units, is_parent, is_half, links_up, links_down, sound_interface}
use Rattle.ledger_spec.specs.Sound.{sound_top, serials, different, sound_floor, sound_plain, sound}
use Rattle.ledger_spec.specs.Frame.{Frame}
use Rattle.ledger_spec.proofs.Lists.{and_true, all_in}
use Rattle.ledger_spec.proofs.Knit.{none_some}
use Rattle.ledger_spec.proofs.Gathered.{in_units}
use Rattle.ledger_spec.proofs.SoundParts.{up_open, down_open}

-- ---- the test in parts
pub record Parts (b : Bench) : Type 0 where
  pub begun : 1 ≤ b.next
  pub worn : b.next ≤ 2 ^ 32
  pub eight : length b.interfaces ≡ 8
  pub each : (u : ℕ) → u < 8 → sound_interface b u ≡ true
  pub tops : (u : ℕ) → u < 8 → sound_top b u ≡ true
  pub apart : different (serials (gather b units)) ≡ true
  pub floor : (u : ℕ) → u < 8 → sound_floor b u ≡ true

pub parts : (b : Bench) → sound b ≡ true → Parts b
unfolding sound sound_plain
parts b e =
    let z = and_true (sound_plain b) (all (sound_floor b) units) e in
    let a = and_true ((leb 1 b.next && leb b.next (2 ^ 32)) && eqb (length b.interfaces) 8)
    ((all (sound_interface b) units && all (sound_top b) units) && different (serials (gather b units))) z.0 in
    let n = and_true (leb 1 b.next && leb b.next (2 ^ 32)) (eqb (length b.interfaces) 8) a.0 in
    let r = and_true (leb 1 b.next) (leb b.next (2 ^ 32)) n.0 in
    let t = and_true (all (sound_interface b) units && all (sound_top b) units) (different (serials (gather b units))) a.1 in
    let f = and_true (all (sound_interface b) units) (all (sound_top b) units) t.0 in
    record {
      begun = leb-true 1 b.next r.0;
      worn = leb-true b.next (2 ^ 32) r.1;
      eight = eqb-true (length b.interfaces) 8 n.1;
      each = λ u h. all_in (sound_interface b) units f.0 (in_units u h);
      tops = λ u h. all_in (sound_top b) units f.1 (in_units u h);
      apart = t.1;
      floor = λ u h. all_in (sound_floor b) units z.1 (in_units u h);
    }

-- ---- an interface
ahead : (z : ℤ) (m : ℕ) → le_z (pos 0) z ≡ true → le_z z (pos m) ≡ true → (z ≡ pos (nat_abs z)) × (nat_abs z ≤ m)
ahead (pos n) m h k = (refl, leb-true n m k)
ahead (negsuc n) m h k = absurd (true≢false (sym h))

half_given : (q : Option (ℕ × ℕ)) (u : ℕ) → is_half q u ≡ true → is_some q ≡ true
half_given None u e = absurd (true≢false (sym e))
half_given (Some lr) u e = refl

or_either : (a b : Bool) → (a || b) ≡ true → (a ≡ true) ⊎ (b ≡ true)
or_either true b e = inl refl
or_either false b e = inr e

half_of : (q : Option (ℕ × ℕ)) (u l r : ℕ) → q ≡ Some (l, r) → is_half q u ≡ true → (u ≡ l) ⊎ (u ≡ r)
half_of q u l r e h = go (or_either (eqb l u) (eqb r u) (ap (λ (o : Option (ℕ × ℕ)). is_half o u) (sym e) ∙ h))
  where
    go : (eqb l u ≡ true) ⊎ (eqb r u ≡ true) → (u ≡ l) ⊎ (u ≡ r)
    go (inl t) = inl (sym (eqb-true l u t))
    go (inr t) = inr (sym (eqb-true r u t))

parent_of : (q : Option ℕ) (u : ℕ) → is_parent q u ≡ true → q ≡ Some u
parent_of None u e = absurd (true≢false (sym e))
parent_of (Some p) u e = ap Some (eqb-true p u e)

pub record Linked (b : Bench) (u : ℕ) : Type 0 where
  pub few : length (interface b u).slots ≤ 64
  pub forward : (interface b u).progress ≡ pos (nat_abs (interface b u).progress)
  pub limit : nat_abs (interface b u).progress ≤ 2 ^ 40
  pub ups : (p : ℕ) → (interface b u).parent ≡ Some p → (u < p) × (p < 8) × (is_half (interface b p).halves u ≡ true)
  pub downs : (l r : ℕ) → (interface b u).halves ≡ Some (l, r) → (l ≢ r) × ((interface b l).parent ≡ Some u) × ((interface b r).parent ≡ Some u)

-- past the eighth there is nothing to say
none_linked : (b : Bench) (u : ℕ) → interface b u ≡ fresh → Linked b u
none_linked b u e = record {
  few = subst (λ (f : Interface). length f.slots ≤ 64) (sym e) (omega arith);
  forward = subst (λ (f : Interface). f.progress ≡ pos (nat_abs f.progress)) (sym e) refl;
  limit = subst (λ (f : Interface). nat_abs f.progress ≤ 2 ^ 40) (sym e) (omega arith);
  ups = λ p f. absurd (none_some (ap (λ (g : Interface). g.parent) e) f);
  downs = λ l r f. absurd (none_some (ap (λ (g : Interface). g.halves) e) f);
}

linked : (b : Bench) (u : ℕ) → sound_interface b u ≡ true → Linked b u
unfolding sound_interface
linked b u e =
    let a = and_true (leb (length (interface b u).slots) 64 && (le_z (pos 0) (interface b u).progress && le_z (interface b u).progress (pos (2 ^ 40)))) (links_up b u && links_down b u) e in
    let f = and_true (leb (length (interface b u).slots) 64) (le_z (pos 0) (interface b u).progress && le_z (interface b u).progress (pos (2 ^ 40))) a.0 in
    let z = and_true (le_z (pos 0) (interface b u).progress) (le_z (interface b u).progress (pos (2 ^ 40))) f.1 in
    let l = and_true (links_up b u) (links_down b u) a.1 in
    let g = ahead (interface b u).progress (2 ^ 40) z.0 z.1 in
    record {
      few = leb-true (length (interface b u).slots) 64 f.0;
      forward = g.0;
      limit = g.1;
      ups = λ p q. up_facts p (sym (up_open b u p q) ∙ l.0);
      downs = λ c d q. down_facts (c, d) (sym (down_open b u (c, d) q) ∙ l.1);
    }
  where
    up_facts : (p : ℕ) → (ltb u p && (leb p 7 && is_half (interface b p).halves u)) ≡ true → (u < p) × (p < 8) × (is_half (interface b p).halves u ≡ true)
    up_facts p h =
        let x = and_true (ltb u p) (leb p 7 && is_half (interface b p).halves u) h in
        let y = and_true (leb p 7) (is_half (interface b p).halves u) x.1 in
        (ltb-true u p x.0, omega (arith, leb-true p 7 y.0), y.1)

    down_facts : (lr : ℕ × ℕ) → ((not (eqb lr.0 lr.1) && (ltb lr.0 u && ltb lr.1 u)) && (is_parent (interface b lr.0).parent u && is_parent (interface b lr.1).parent u)) ≡ true
        → (lr.0 ≢ lr.1) × ((interface b lr.0).parent ≡ Some u) × ((interface b lr.1).parent ≡ Some u)
    down_facts lr h =
        let x = and_true (not (eqb lr.0 lr.1) && (ltb lr.0 u && ltb lr.1 u)) (is_parent (interface b lr.0).parent u && is_parent (interface b lr.1).parent u) h in
        let y = and_true (not (eqb lr.0 lr.1)) (ltb lr.0 u && ltb lr.1 u) x.0 in
        let w = and_true (is_parent (interface b lr.0).parent u) (is_parent (interface b lr.1).parent u) x.1 in
        (eqb-false lr.0 lr.1 (not-true (eqb lr.0 lr.1) y.0), parent_of (interface b lr.0).parent u w.0, parent_of (interface b lr.1).parent u w.1)

pub every_linked : (b : Bench) → Parts b → (u : ℕ) → Linked b u
every_linked b P u = go (dec_lt u 8)
  where
    go : Dec (u < 8) → Linked b u
    go (yes h) = linked b u (P.each u h)
    go (no h) = none_linked b u (get_or-eq_default b.interfaces fresh (omega (arith, h, P.eight)))

pub framed : (b : Bench) → Parts b → Frame b
framed b P = record {
  eight = P.eight;
  rising = λ u p e. let x = (L u).ups p e in (x.0, x.1);
  linked = λ u p e. half_given (interface b p).halves u ((L u).ups p e).2;
  up = λ w u l r e f. half_of (interface b u).halves w l r f ((L w).ups u e).2;
  left = λ u l r f. ((L u).downs l r f).1;
  right = λ u l r f. ((L u).downs l r f).2;
  apart = λ u l r f. ((L u).downs l r f).0;
}
  where
    L : (u : ℕ) → Linked b u
    L = every_linked b P
