-- What each test of the code says of the k-th record. Assumes nothing.
use Rattle.std.specs.Prelude.{None, Option, Some}
use Prim.Native.Nat.{ℕ, zero, suc, ◌+◌, ◌-◌, ◌*◌, ◌≤◌, ◌<◌}
use native.Mathlib.Omega.{arith}
use mathlib.Core.Path.{◌≡◌, refl, sym, ◌∙◌, ap, subst}
use mathlib.Core.Bool.{Bool, true, false}
use mathlib.Core.List.{List, ◌++◌, append_assoc}
use lib.Dec.{eqb}
use lib.ListN.{length, take, drop, length-drop, take-append-drop}
use lib.Seq.{length-take-le, drop-append-le}
use borrow.Author.Tests.{lt-ltb, ne_eqb}
use Rattle.ledger_spec.specs.Numbers.{FILE, RANGE}
use Rattle.record_spec.specs.Numbers.{Bytes}
use Rattle.record_spec.specs.Operations.{Op}
use Rattle.record_spec.specs.Records.{bytes_of}
use Rattle.record_spec.specs.Reader.{pick, record_in}
use Rattle.record_spec.specs.Places.{at}
use Rattle.record_spec.proofs.Numbers.{then_back}
use Rattle.record_spec.proofs.Places.{record_ends}
use Rattle.record_spec.proofs.Records.{record_back, record_only}
use Rattle.record_measures.specs.declared.Measured.{Measured}
use Rattle.record_measures.specs.Measures.{measured_of}
use Rattle.record_files.specs.declared.Trailer.{Trailer}
use Rattle.record_files.specs.Scans.{trailer_of}
use Rattle.record_files.proofs.Walking.{stands_not}
use Rattle.record_files.proofs.Trailers.{Trailed, trailed, untrailed}
use Rattle.record_reads.proofs.Reading.{two}
use Rattle.record_unpacks.proofs.Steps.{take_bytes, drop_bytes}
use Rattle.record_gets.specs.declared.Found.{Found}
use Rattle.record_gets.specs.Kth.{Asked, refusal, begins, end_of, record_at, standing, listed, kth_of}
use Rattle.record_gets.specs.Gets.{Finds}
use Rattle.record_gets.proofs.Whole.{record_fills, said_by, past_range, from_trailer, from_list, no_trailer}

-- a refusal stands nowhere
pub refuses : (a : Asked) (s : List ℕ) (n : ℕ) → (n ≡ 0 → ⊥) → a ≡ refusal n → Finds a s (record { number = n; place = 0 })
refuses a s n h e = record { refused = λ b. e; found = λ b. absurd (h b) }

-- ---- begins

pub begins_first : (k from : ℕ) → k ≡ 0 → eqb from 0 ≡ begins k from
unfolding begins
begins_first zero from e = refl
begins_first (suc k) from e = absurd (omega (arith, e))

pub begins_later : (k from : ℕ) → (k ≡ 0 → ⊥) → true ≡ begins k from
unfolding begins
begins_later zero from h = absurd (h refl)
begins_later (suc k) from h = refl

-- ---- the record that the list gives

-- what stands among the records stands in the file
read_on : (s : List ℕ) (n p : ℕ) (op : Op) (r : List ℕ) → Bytes s → n ≤ length s → p ≤ n → record_in (drop p (take n s)) ≡ Some (op, r) → record_in (drop p s) ≡ Some (op, r ++ drop n s)
read_on s n p op r h l m e =
    let x = record_only (drop p (take n s)) op r (drop_bytes p (take n s) (take_bytes n s h)) e in
    let a : drop p s ≡ bytes_of op ++ (r ++ drop n s) =
    sym (ap (drop p) (take-append-drop n s)) ∙ drop-append-le p (take n s) (drop n s) (omega (arith, length-take-le n s l, m))
    ∙ ap (λ (y : List ℕ). y ++ drop n s) x.are ∙ append_assoc (bytes_of op) r (drop n s) in
    ap record_in a ∙ record_back op (r ++ drop n s) x.writable

module _ (s : List ℕ) (list count k : ℕ) (low : k < count) where
  abbrev from : ℕ
  from = at 4 s (list + 4 * k)

  pub no_begin : begins k from ≡ false → listed s list count k ≡ refusal FILE
  unfolding listed standing
  no_begin b = rw (lt-ltb k count low, b) refl

  pub no_record : begins k from ≡ true → record_at (take list s) from (end_of s list count k) ≡ None → listed s list count k ≡ refusal FILE
  unfolding listed standing
  no_record b e = rw (lt-ltb k count low, b, e) refl

module _ (t : List ℕ) (from to : ℕ) where
  pub none_there : record_in (drop from t) ≡ None → record_at t from to ≡ None
  unfolding record_at
  none_there e = rw e refl

  pub ends_apart : (op : Op) (r : List ℕ) → record_in (drop from t) ≡ Some (op, r) → (from + length (bytes_of op) ≡ to → ⊥) → record_at t from to ≡ None
  unfolding record_at
  ends_apart op r e n =
      then_back (record_in (drop from t)) (λ o q. pick (eqb (from + length (bytes_of o)) to) (Some o) None) op r e
      ∙ ap (λ (b : Bool). pick b (Some op) None) (ne_eqb (from + length (bytes_of op)) to n)

-- a record that was measured
pub record Measures (t : List ℕ) (p : ℕ) (m : Measured) : Type 0 where
  pub op : Op
  pub after : List ℕ
  pub read : record_in (drop p t) ≡ Some (op, after)
  pub size : m.size ≡ length (bytes_of op)
  pub inside : p + m.size ≤ length t

pub measures : (t : List ℕ) (p : ℕ) (m : Measured) → Bytes t → m ≡ measured_of (record_in (drop p t)) → (m.size ≡ 0 → ⊥) → Measures t p m
measures t p m h is n = go (record_in (drop p t)) refl
  where
    go : (o : Option (Op × List ℕ)) → record_in (drop p t) ≡ o → Measures t p m
    go None e = absurd (n (ap (λ (x : Measured). x.size) (is ∙ ap measured_of e)))
    go (Some r) e =
        let z : m.size ≡ length (bytes_of r.0) = ap (λ (x : Measured). x.size) (is ∙ ap measured_of e) in
        let a = record_ends (drop p t) r.0 r.1 (drop_bytes p t h) e in
        record {
          op = r.0;
          after = r.1;
          read = e;
          size = z;
          inside = omega (arith, z, a.1, length-drop p t, two t p (record { op = r.0; after = r.1; read = e }));
        }

-- ---- the answer of what the list gives

module _ (s : List ℕ) (list count k : ℕ) (h : Bytes s) (room : list + 4 * count + 16 ≤ length s) (low : k < count) (from to : ℕ) (f : from ≡ at 4 s (list + 4 * k))
    (t : to ≡ end_of s list count k) (m : Measured) (is : m ≡ measured_of (record_in (drop from (take list s)))) where
  begun : (b : Bool) → begins k from ≡ b → begins k (at 4 s (list + 4 * k)) ≡ b
  begun b e = ap (begins k) (sym f) ∙ e

  there : (o : Option Op) → record_at (take list s) from to ≡ o → record_at (take list s) (at 4 s (list + 4 * k)) (end_of s list count k) ≡ o
  there o e = (λ i. record_at (take list s) (sym f i) (sym t i)) ∙ e

  pub astray : begins k from ≡ false → Finds (listed s list count k) s (record { number = FILE; place = 0 })
  astray e = refuses (listed s list count k) s FILE (λ z. omega (arith, z)) (no_begin s list count k low (begun false e))

  module _ (b : begins k from ≡ true) where
    pub nothing_there : m.size ≡ 0 → Finds (listed s list count k) s (record { number = FILE; place = 0 })
    nothing_there z =
        refuses (listed s list count k) s FILE (λ y. omega (arith, y))
        (no_record s list count k low (begun true b) (there None (none_there (take list s) from to (stands_not (take list s) from m is z))))

    module _ (n : m.size ≡ 0 → ⊥) where
      measured : Measures (take list s) from m
      measured = measures (take list s) from m (take_bytes list s h) is n

      pub inside_list : from + m.size ≤ list
      inside_list = omega (arith, measured.inside, length-take-le list s (omega (arith, room)))

      pub ends_elsewhere : (from + m.size ≡ to → ⊥) → Finds (listed s list count k) s (record { number = FILE; place = 0 })
      ends_elsewhere e =
          let x = measured in
          refuses (listed s list count k) s FILE (λ y. omega (arith, y))
          (no_record s list count k low (begun true b)
          (there None (ends_apart (take list s) from to x.op x.after x.read (λ q. e (ap (λ (j : ℕ). from + j) x.size ∙ q)))))

      pub stands_there : from + m.size ≡ to → Finds (listed s list count k) s (record { number = 0; place = from })
      stands_there e =
          let x = measured in
          let l : list ≤ length s = omega (arith, room) in
          record {
            refused = λ z. absurd (z refl);
            found = λ z. record {
              op = x.op;
              after = x.after ++ drop list s;
              said =
                  said_by s list count k x.op low (begun true b)
                  (there (Some x.op) (record_fills (take list s) from to x.op x.after x.read (sym (ap (λ (j : ℕ). from + j) x.size) ∙ e)));
              read = read_on s list from x.op x.after h l (omega (arith, inside_list)) x.read;
              room = omega (arith, inside_list, room);
            };
          }

-- ---- and of the trailer

short_file : (s : List ℕ) (k : ℕ) → length s < 16 → kth_of s k ≡ refusal FILE
unfolding kth_of
short_file s k h = rw (lt-ltb (length s) 16 h) refl

module _ (s : List ℕ) (k : ℕ) (t : Trailer) (is : t ≡ trailer_of s) where
  pub unfit : t.fits ≡ false → Finds (kth_of s k) s (record { number = FILE; place = 0 })
  unfit e =
      refuses (kth_of s k) s FILE (λ y. omega (arith, y))
      (untrailed s t is e (kth_of s k ≡ refusal FILE) (short_file s k) (λ n l q. from_trailer s k n l ∙ no_trailer s n k q))

  module _ (e : t.fits ≡ true) where
    there_is : Trailed s t
    there_is = trailed s t is e

    pub list_room : t.start + 4 * t.count + 16 ≤ length s
    list_room = there_is.room

    by_list : kth_of s k ≡ listed s t.start t.count k
    by_list =
        let x = there_is in
        from_trailer s k x.place x.long ∙ from_list s x.place k x.fits ∙ (λ i. listed s (sym x.start i) (sym x.count i) k)

    pub no_such : t.count ≤ k → Finds (kth_of s k) s (record { number = RANGE; place = 0 })
    no_such l = refuses (kth_of s k) s RANGE (λ y. omega (arith, y)) (by_list ∙ past_range s t.start t.count k l)

    pub found : (r : Found) → Finds (listed s t.start t.count k) s r → Finds (kth_of s k) s r
    found r x = subst (λ (y : Asked). Finds y s r) (sym by_list) x
