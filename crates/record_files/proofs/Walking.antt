-- The walk from record to record: what is scanned and what is left make the whole. Assumes nothing.
use Rattle.std.specs.Prelude.{None, Option, Some}
use Prim.Native.Nat.{ℕ, zero, suc, ◌+◌, ◌-◌, ◌*◌, ◌≤◌, ◌<◌}
use native.Mathlib.Omega.{arith}
use mathlib.Core.Path.{◌≡◌, refl, sym, ◌∙◌, ap}
use mathlib.Core.Bool.{Bool, true, ◌&&◌}
use mathlib.Core.List.{List, [], ◌∷◌}
use lib.ListN.{length, drop, length-drop}
use lib.Seq.{drop-drop, drop-length}
use Rattle.ledger_spec.specs.Operations.{D, B, E, S, G, F, C, K}
use Rattle.text_lines.specs.Texts.{letter_of}
use Rattle.record_spec.specs.Numbers.{Bytes}
use Rattle.record_spec.specs.Operations.{Op, line_of_op, self}
use Rattle.record_spec.specs.Records.{bytes_of}
use Rattle.record_spec.specs.Reader.{record_in}
use Rattle.record_spec.specs.Files.{records_in}
use Rattle.record_spec.specs.Places.{at, fours_at}
use Rattle.record_spec.proofs.Records.{record_only}
use Rattle.record_spec.proofs.Places.{record_ends, loop_step, loop_astray, loop_bad, loop_end, loop_more}
use Rattle.record_measures.specs.declared.Measured.{Measured}
use Rattle.record_measures.specs.Measures.{sizes, measured_of}
use Rattle.record_files.specs.declared.Scanned.{Scanned}
use Rattle.record_files.specs.Scans.{not_file, scanned_of}
use Rattle.record_files.proofs.Adding.{more, more_none, more_onto, more_end}

-- ---- a record that was measured

some_bytes : (op : Op) → 0 < length (bytes_of op)
unfolding bytes_of letter_of
some_bytes (D u v) = omega arith
some_bytes (B u ms) = omega arith
some_bytes (E u k) = omega arith
some_bytes (S u k g) = omega arith
some_bytes (G u l) = omega arith
some_bytes (F q l r) = omega arith
some_bytes (C u) = omega arith
some_bytes (K u) = omega arith

pub record Stands (t : List ℕ) (p : ℕ) (m : Measured) : Type 0 where
  pub op : Op
  pub read : record_in (drop p t) ≡ Some (op, drop (p + length (bytes_of op)) t)
  pub fits : p + length (bytes_of op) ≤ length t
  pub short : length (line_of_op op) ≤ 1023
  pub is : m ≡ sizes op

module _ (t : List ℕ) (p : ℕ) (m : Measured) (is : m ≡ measured_of (record_in (drop p t))) where
  pub stands : p ≤ length t → Bytes (drop p t) → (m.size ≡ 0 → ⊥) → Stands t p m
  stands l h n = go (record_in (drop p t)) refl
    where
      go : (o : Option (Op × List ℕ)) → record_in (drop p t) ≡ o → Stands t p m
      go None e = absurd (n (ap (λ (x : Measured). x.size) (is ∙ ap measured_of e)))
      go (Some r) e =
          let a = record_ends (drop p t) r.0 r.1 h e in
          let b = record_only (drop p t) r.0 r.1 h e in
          let f : r.1 ≡ drop (p + length (bytes_of r.0)) t = a.0 ∙ drop-drop (length (bytes_of r.0)) p t in
          record {
            op = r.0;
            read = e ∙ ap (λ (x : List ℕ). Some (r.0, x)) f;
            fits = omega (arith, a.1, length-drop p t);
            short = b.writable.short;
            is = is ∙ ap measured_of e;
          }

  pub stands_not : m.size ≡ 0 → record_in (drop p t) ≡ None
  stands_not z = go (record_in (drop p t)) refl
    where
      go : (o : Option (Op × List ℕ)) → record_in (drop p t) ≡ o → record_in (drop p t) ≡ None
      go None e = e
      go (Some r) e = absurd (omega (arith, z, ap (λ (x : Measured). x.size) (is ∙ ap measured_of e), some_bytes r.0))

-- ---- the walk

-- of `count` starts from `list` on, `left` are left from `entry` on; the others' records end at p and have so many bytes of text
pub record Walking (s t : List ℕ) (list count p entry left text : ℕ) (own : Bool) : Type 0 where
  pub low : p ≤ length t
  pub few : left ≤ count
  pub whole : scanned_of (records_in 0 (fours_at count s list) t) ≡ more (count - left) p text own (records_in p (fours_at left s entry) (drop p t))
  pub short : text + 1024 * left ≤ 1024 * count

pub walking : (s t : List ℕ) (list count : ℕ) → Walking s t list count 0 list count 0 true
walking s t list count =
    let e : 0 ≡ count - count = omega arith in
    record {
      low = omega arith;
      few = omega arith;
      whole = more_none (records_in 0 (fours_at count s list) t) ∙ ap (λ (n : ℕ). more n 0 0 true (records_in 0 (fours_at count s list) t)) e;
      short = omega arith;
    }

module _ (s t : List ℕ) (list count p entry left text : ℕ) (own : Bool) (w : Walking s t list count p entry left text own) where
  first_start : 0 < left → fours_at left s entry ≡ at 4 s entry ∷ fours_at (left - 1) s (entry + 4)
  unfolding fours_at
  first_start h = go left h
    where
      unfolded : (n : ℕ) → fours_at (suc n) s entry ≡ at 4 s entry ∷ fours_at n s (entry + 4)
      unfolded n = refl

      go : (n : ℕ) → 0 < n → fours_at n s entry ≡ at 4 s entry ∷ fours_at (n - 1) s (entry + 4)
      go zero h = absurd (omega arith)
      go (suc n) h = let e : n ≡ suc n - 1 = omega arith in unfolded n ∙ ap (λ (k : ℕ). at 4 s entry ∷ fours_at k s (entry + 4)) e

  pub astray : 0 < left → (start : ℕ) → start ≡ at 4 s entry → (start ≡ p → ⊥) → not_file ≡ scanned_of (records_in 0 (fours_at count s list) t)
  astray h start e n =
      sym (w.whole ∙ ap (more (count - left) p text own) (ap (λ (l : List ℕ). records_in p l (drop p t)) (first_start h) ∙ loop_astray t p (fours_at (left - 1) s (entry + 4)) (at 4 s entry) (λ q. n (e ∙ q))))

  module _ (h : 0 < left) (start : ℕ) (e : start ≡ at 4 s entry) (is-p : start ≡ p) where
    here : records_in p (fours_at left s entry) (drop p t) ≡ records_in p (p ∷ fours_at (left - 1) s (entry + 4)) (drop p t)
    here = ap (λ (l : List ℕ). records_in p l (drop p t)) (first_start h ∙ ap (λ (a : ℕ). a ∷ fours_at (left - 1) s (entry + 4)) (sym e ∙ is-p))

    pub broken : record_in (drop p t) ≡ None → not_file ≡ scanned_of (records_in 0 (fours_at count s list) t)
    broken n = sym (w.whole ∙ ap (more (count - left) p text own) (here ∙ loop_bad t p (fours_at (left - 1) s (entry + 4)) n))

    pub walk_on : (m : Measured) (b : Bool) → Stands t p m → b ≡ own && m.own → Walking s t list count (p + m.size) (entry + 4) (left - 1) (text + m.line) b
    walk_on m b g q =
        let op = g.op in
        let i : m.size ≡ length (bytes_of op) = ap (λ (x : Measured). x.size) g.is in
        let j : m.line ≡ suc (length (line_of_op op)) = ap (λ (x : Measured). x.line) g.is in
        let k : own && self op ≡ b = ap (λ (y : Bool). own && y) (sym (ap (λ (x : Measured). x.own) g.is)) ∙ sym q in
        let n : count - left + 1 ≡ count - (left - 1) = omega (arith, w.few) in
        let f : p + length (bytes_of op) ≡ p + m.size = ap (λ (x : ℕ). p + x) (sym i) in
        let x : text + suc (length (line_of_op op)) ≡ text + m.line = ap (λ (y : ℕ). text + y) (sym j) in
        record {
          low = omega (arith, g.fits, i);
          few = omega (arith, w.few);
          whole =
              w.whole
              ∙ ap (more (count - left) p text own) (here ∙ loop_step t p (fours_at (left - 1) s (entry + 4)) op g.read)
              ∙ more_onto (count - left) p text own op (records_in (p + length (bytes_of op)) (fours_at (left - 1) s (entry + 4)) (drop (p + length (bytes_of op)) t))
              ∙ (λ z. more (n z) (f z) (x z) (k z) (records_in (f z) (fours_at (left - 1) s (entry + 4)) (drop (f z) t)));
          short = omega (arith, w.short, g.short, j);
        }

  module _ (h : left ≤ 0) where
    at_end : fours_at left s entry ≡ []
    unfolding fours_at
    at_end = go left h
      where
        go : (n : ℕ) → n ≤ 0 → fours_at n s entry ≡ []
        go zero h = refl
        go (suc n) h = absurd (omega arith)

    pub bytes_left : p < length t → not_file ≡ scanned_of (records_in 0 (fours_at count s list) t)
    bytes_left l =
        sym (w.whole ∙ ap (more (count - left) p text own) (ap (λ (x : List ℕ). records_in p x (drop p t)) at_end ∙ loop_more p (drop p t) (omega (arith, length-drop p t))))

    pub walked : length t ≤ p → ◌≡◌ {A = Scanned} (record { whole = true; count = count; start = p; text = text; own = own }) (scanned_of (records_in 0 (fours_at count s list) t))
    walked l =
        let e : p ≡ length t = omega (arith, w.low) in
        let n : count - left ≡ count = omega arith in
        let d : drop p t ≡ [] = ap (λ (k : ℕ). drop k t) e ∙ drop-length t in
        sym (w.whole ∙ more_end (count - left) p text own (records_in p (fours_at left s entry) (drop p t)) ((λ i. records_in p (at_end i) (d i)) ∙ loop_end p)
        ∙ ap (λ (k : ℕ). record { whole = true; count = k; start = p; text = text; own = own }) n)
