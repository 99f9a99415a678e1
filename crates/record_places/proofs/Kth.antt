-- The list of a whole file gives each record's start. Assumes nothing.
use Rattle.std.proofs.lemmas.Option.{same_Some}
use Prim.Native.Nat.{ℕ, zero, suc, ◌+◌, ◌*◌, ◌^◌, ◌≤◌, ◌<◌}
use native.Mathlib.Omega.{arith}
use mathlib.Core.Path.{◌≡◌, refl, sym, ◌∙◌, ap, subst}
use mathlib.Core.List.{List, [], ◌∷◌, ◌++◌, append_assoc}
use lib.ListN.{length, take, drop, get_or, length-append}
use lib.Seq.{length-take-le, drop-cons, split_at, drop-append_seam}
use Rattle.ledger_spec.specs.Operations.{C}
use Rattle.record_spec.specs.Numbers.{Bytes, bytes, fours, number}
use Rattle.record_spec.specs.Operations.{Op}
use Rattle.record_spec.specs.Records.{bytes_of, Writable}
use Rattle.record_spec.specs.Reader.{record_in}
use Rattle.record_spec.specs.Files.{records_of, starts, trailer, file_of, AllWritable}
use Rattle.record_spec.specs.Places.{at}
use Rattle.record_spec.proofs.Numbers.{length_bytes, length_fours, number_back}
use Rattle.record_spec.proofs.Records.{record_back}
use Rattle.record_spec.proofs.Files.{length_file, file_only}
use Rattle.record_spec.proofs.Places.{number_at}
use Rattle.record_spec.proofs.Appends.{records_append, starts_append, fours_append}
use Rattle.record_places.specs.Places.{Listed, Stands, Placed}

-- ---- a number that was written is read at its place

at_of : (k : ℕ) (pre : List ℕ) (n : ℕ) (post : List ℕ) → n < 256 ^ k → at k (pre ++ (bytes k n ++ post)) (length pre) ≡ n
at_of k pre n post h =
    let s = pre ++ (bytes k n ++ post) in
    let fits : length pre + k ≤ length s = omega (arith, length-append pre (bytes k n ++ post), length-append (bytes k n) post, length_bytes k n) in
    ap (λ (x : ℕ × List ℕ). x.0)
    (same_Some (at k s (length pre), drop (length pre + k) s) (n, post)
    (sym (number_at k s (length pre) fits) ∙ ap (number k) (drop-append_seam pre (bytes k n ++ post)) ∙ number_back k n post h))

-- ---- one of the operations

writable_at : (ops : List Op) (i : ℕ) (d : Op) → AllWritable ops → i < length ops → Writable (get_or ops i d)
writable_at [] i d h l = absurd (omega arith)
writable_at (op ∷ ops) zero d h l = h.0
writable_at (op ∷ ops) (suc i) d h l = writable_at ops i d h.1 (omega arith)

length_starts : (ops : List Op) (from : ℕ) → length (starts from ops) ≡ length ops
unfolding starts
length_starts [] from = refl
length_starts (op ∷ ops) from = ap suc (length_starts ops (from + length (bytes_of op)))

module _ (ops : List Op) (i : ℕ) (l : i < length ops) where
  op : Op
  op = get_or ops i (C 0)

  before : List Op
  before = take i ops

  behind : List Op
  behind = drop (suc i) ops

  place : ℕ
  place = length (records_of before)

  parts : ops ≡ before ++ (op ∷ behind)
  unfolding before op behind
  parts = split_at ops i (C 0) l

  -- the records, up to this one and from it on
  records_parts : records_of ops ≡ records_of before ++ (bytes_of op ++ records_of behind)
  unfolding records_of
  records_parts = ap records_of parts ∙ records_append before (op ∷ behind)

  -- the list's entries, likewise
  later : List ℕ
  later = fours (starts (0 + place + length (bytes_of op)) behind)

  starts_parts : fours (starts 0 ops) ≡ fours (starts 0 before) ++ (bytes 4 (0 + place) ++ later)
  unfolding starts fours later place
  starts_parts = ap (λ (x : List Op). fours (starts 0 x)) parts ∙ ap fours (starts_append before (op ∷ behind) 0) ∙ fours_append (starts 0 before) (starts (0 + length (records_of before)) (op ∷ behind))

  ending : List ℕ
  ending = trailer (length (records_of ops)) (length ops)

  -- the file, up to the entry and from it on
  file_entry : file_of ops ≡ (records_of ops ++ fours (starts 0 before)) ++ (bytes 4 (0 + place) ++ (later ++ ending))
  unfolding file_of ending
  file_entry =
      ap (λ (x : List ℕ). records_of ops ++ (x ++ ending)) starts_parts
      ∙ ap (λ (x : List ℕ). records_of ops ++ x) (append_assoc (fours (starts 0 before)) (bytes 4 (0 + place) ++ later) ending ∙ ap (λ (x : List ℕ). fours (starts 0 before) ++ x) (append_assoc (bytes 4 (0 + place)) later ending))
      ∙ sym (append_assoc (records_of ops) (fours (starts 0 before)) (bytes 4 (0 + place) ++ (later ++ ending)))

  entry_at : length (records_of ops ++ fours (starts 0 before)) ≡ length (records_of ops) + 4 * i
  unfolding before
  entry_at = omega (arith, length-append (records_of ops) (fours (starts 0 (take i ops))), length_fours (starts 0 (take i ops)), length_starts (take i ops) 0, length-take-le i ops (omega arith))

  -- the file from the record on
  file_record : file_of ops ≡ records_of before ++ (bytes_of op ++ (records_of behind ++ (fours (starts 0 ops) ++ ending)))
  unfolding file_of ending
  file_record =
      ap (λ (x : List ℕ). x ++ (fours (starts 0 ops) ++ ending)) records_parts
      ∙ append_assoc (records_of before) (bytes_of op ++ records_of behind) (fours (starts 0 ops) ++ ending)
      ∙ ap (λ (x : List ℕ). records_of before ++ x) (append_assoc (bytes_of op) (records_of behind) (fours (starts 0 ops) ++ ending))

  small : length (file_of ops) ≤ 4294967295 → 0 + place < 256 ^ 4
  unfolding place
  small h = omega (arith, h, ap length file_record, length-append (records_of before) (bytes_of op ++ (records_of behind ++ (fours (starts 0 ops) ++ ending))))

  entry_says : length (file_of ops) ≤ 4294967295 → at 4 (file_of ops) (length (records_of ops) + 4 * i) ≡ 0 + place
  entry_says h =
      (λ j. at 4 (file_entry j) (sym entry_at j))
      ∙ at_of 4 (records_of ops ++ fours (starts 0 before)) (0 + place) (later ++ ending) (small h)

  pub stands : AllWritable ops → length (file_of ops) ≤ 4294967295 → (p : ℕ) → p ≡ at 4 (file_of ops) (length (records_of ops) + 4 * i) → Stands (file_of ops) ops i p
  unfolding place op behind
  stands w h p e =
      let q : p ≡ length (records_of before) = e ∙ entry_says h ∙ zero_first in
      record {
        op = op;
        after = records_of behind ++ (fours (starts 0 ops) ++ ending);
        read =
            (λ j. record_in (drop (q j) (file_record j)))
            ∙ ap record_in (drop-append_seam (records_of before) (bytes_of op ++ (records_of behind ++ (fours (starts 0 ops) ++ ending))))
            ∙ record_back op (records_of behind ++ (fours (starts 0 ops) ++ ending)) (writable_at ops i (C 0) w l);
        is = drop-cons ops i (C 0) l;
      }
    where
      zero_first : 0 + place ≡ length (records_of before)
      zero_first = omega arith

-- ---- of a file that reads

pub listed : (s : List ℕ) (list k : ℕ) → Bytes s → Listed s list k → (p : ℕ) → p ≡ at 4 s (list + 4 * k) → Placed s k p
listed s list k h L p e ops w =
    let f = file_only s ops h w in
    let same : L.ops ≡ ops = same_Some L.ops ops (sym L.whole ∙ w) in
    let q : p ≡ at 4 (file_of ops) (length (records_of ops) + 4 * k) =
    e ∙ (λ i. at 4 (f.0 i) ((L.starts ∙ ap (λ (x : List Op). length (records_of x)) same) i + 4 * k)) in
    let low : k < length ops = subst (λ (x : List Op). k < length x) same L.low in
    subst (λ (x : List ℕ). Stands x ops k p) (sym f.0) (stands ops k low f.1.each (omega (arith, f.1.size)) p q)

-- the entry stands before the trailer
pub entry_fits_lem : (s : List ℕ) (list k : ℕ) → Bytes s → Listed s list k → list + 4 * k + 4 ≤ length s
entry_fits_lem s list k h L =
    let f = file_only s L.ops h L.whole in
    omega (arith, ap length f.0, length_file L.ops, L.starts, L.low)

pub file_short : (s : List ℕ) (list k : ℕ) → Bytes s → Listed s list k → length s ≤ 4294967295
file_short s list k h L =
    let f = file_only s L.ops h L.whole in
    omega (arith, ap length f.0, f.1.size)
