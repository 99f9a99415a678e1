-- A whole file's k-th record is its k-th operation, and past the last there is none: by the reading from record to record. Assumes nothing.
use Rattle.std.specs.Prelude.{None, Some}
use Rattle.std.proofs.lemmas.Option.{none-some}
use Prim.Native.Nat.{ℕ, zero, suc, ◌+◌, ◌-◌, ◌*◌, ◌≤◌, ◌<◌}
use native.Mathlib.Omega.{arith}
use native.Mathlib.Decide.{dec_lt}
use mathlib.Core.Path.{◌≡◌, refl, sym, ◌∙◌, ap}
use mathlib.Core.Bool.{Bool, true, false}
use mathlib.Core.List.{List, [], ◌∷◌}
use lib.Dec.{eqb}
use lib.ListN.{length, take, drop}
use lib.Seq.{length-take-le}
use borrow.Author.Tests.{lt-ltb, le-ltb, eq-eqb}
use Rattle.ledger_spec.specs.Numbers.{RANGE, FILE}
use Rattle.record_spec.specs.Numbers.{Bytes}
use Rattle.record_spec.specs.Operations.{Op}
use Rattle.record_spec.specs.Records.{bytes_of}
use Rattle.record_spec.specs.Reader.{pick, record_in}
use Rattle.record_spec.specs.Files.{records_of, records_in, fitting, file_ops}
use Rattle.record_spec.specs.Places.{at, fours_at}
use Rattle.record_spec.proofs.Numbers.{then_back}
use Rattle.record_spec.proofs.Files.{fitting_true}
use Rattle.record_spec.proofs.Places.{file_short, file_unfit, file_walk}
use Rattle.record_unpacks.proofs.Steps.{take_bytes, step, counts}
use Rattle.record_gets.specs.Kth.{refusal, says, kth_in, begins, end_of, record_at, standing, listed, trailed, kth_of}

-- ---- record k of those that a list of starts says

pub record Stands (s t : List ℕ) (ops : List Op) (p e n k : ℕ) : Type 0 where
  pub op : Op
  pub after : List ℕ
  pub is : kth_in ops k ≡ says op
  pub first : k ≡ 0 → at 4 s (e + 4 * k) ≡ p
  pub read : record_in (drop (at 4 s (e + 4 * k)) t) ≡ Some (op, after)
  pub next : suc k < n → at 4 s (e + 4 * k) + length (bytes_of op) ≡ at 4 s (e + 4 * suc k)
  pub last : n ≤ suc k → at 4 s (e + 4 * k) + length (bytes_of op) ≡ length t

no_more : (ops : List Op) → 0 ≡ length ops → length (records_of ops) ≡ 0
unfolding records_of
no_more [] e = refl
no_more (op ∷ ops) e = absurd (omega (arith, e))

-- the next start is where the record before it ends
next_start : (n : ℕ) (s t : List ℕ) (p e : ℕ) (ops : List Op) → Bytes t → p ≤ length t → records_in p (fours_at n s e) (drop p t) ≡ Some ops → 0 < n → at 4 s e ≡ p
unfolding fours_at
next_start zero s t p e ops h l r m = absurd (omega arith)
next_start (suc n) s t p e ops h l r m = (step t p (at 4 s e) (fours_at n s (e + 4)) ops h l r).place

last_end : (n : ℕ) (s t : List ℕ) (p e : ℕ) (ops : List Op) → Bytes t → p ≤ length t → records_in p (fours_at n s e) (drop p t) ≡ Some ops → n ≤ 0 → p ≡ length t
unfolding fours_at
last_end zero s t p e ops h l r m = let c = counts [] t p ops h l r in omega (arith, c.1, no_more ops c.0)
last_end (suc n) s t p e ops h l r m = absurd (omega arith)

pub stands : (k n : ℕ) (s t : List ℕ) (p e : ℕ) (ops : List Op) → Bytes t → p ≤ length t → records_in p (fours_at n s e) (drop p t) ≡ Some ops → k < n
    → Stands s t ops p e n k
unfolding fours_at
stands k zero s t p e ops h l r m = absurd (omega arith)
stands zero (suc n) s t p e ops h l r m =
    let x = step t p (at 4 s e) (fours_at n s (e + 4)) ops h l r in
    let z : e + 4 * 0 ≡ e = omega arith in
    let y : e + 4 ≡ e + 4 * 1 = omega arith in
    let f : at 4 s (e + 4 * 0) ≡ p = ap (at 4 s) z ∙ x.place in
    let q = p + length (bytes_of x.op) in
    record {
      op = x.op;
      after = drop q t;
      is = ap (λ (l : List Op). kth_in l 0) x.first;
      first = λ b. f;
      read = ap (λ (j : ℕ). record_in (drop j t)) f ∙ x.read;
      next = λ b. ap (λ (j : ℕ). j + length (bytes_of x.op)) f ∙ sym (next_start n s t q (e + 4) x.more h x.fits x.after (omega arith)) ∙ ap (at 4 s) y;
      last = λ b. ap (λ (j : ℕ). j + length (bytes_of x.op)) f ∙ last_end n s t q (e + 4) x.more h x.fits x.after (omega arith);
    }
stands (suc k) (suc n) s t p e ops h l r m =
    let x = step t p (at 4 s e) (fours_at n s (e + 4)) ops h l r in
    let y = stands k n s t (p + length (bytes_of x.op)) (e + 4) x.more h x.fits x.after (omega arith) in
    let z : e + 4 + 4 * k ≡ e + 4 * suc k = omega arith in
    let w : e + 4 + 4 * suc k ≡ e + 4 * suc (suc k) = omega arith in
    record {
      op = y.op;
      after = y.after;
      is = ap (λ (l : List Op). kth_in l (suc k)) x.first ∙ y.is;
      first = λ b. absurd (omega (arith, b));
      read = ap (λ (j : ℕ). record_in (drop (at 4 s j) t)) (sym z) ∙ y.read;
      next = λ b. ap (λ (j : ℕ). at 4 s j + length (bytes_of y.op)) (sym z) ∙ y.next (omega arith) ∙ ap (at 4 s) w;
      last = λ b. ap (λ (j : ℕ). at 4 s j + length (bytes_of y.op)) (sym z) ∙ y.last (omega arith);
    }

kth_past : (ops : List Op) (k : ℕ) → length ops ≤ k → kth_in ops k ≡ refusal RANGE
kth_past [] k h = refl
kth_past (op ∷ ops) zero h = absurd (omega arith)
kth_past (op ∷ ops) (suc k) h = kth_past ops k (omega arith)

-- ---- the answer, by what stands there

pub record_fills : (s : List ℕ) (from to : ℕ) (op : Op) (r : List ℕ) → record_in (drop from s) ≡ Some (op, r) → from + length (bytes_of op) ≡ to → record_at s from to ≡ Some op
unfolding record_at
record_fills s from to op r e f =
    then_back (record_in (drop from s)) (λ o q. pick (eqb (from + length (bytes_of o)) to) (Some o) None) op r e
    ∙ ap (λ (b : Bool). pick b (Some op) None) (eq-eqb (from + length (bytes_of op)) to f)

pub end_next : (s : List ℕ) (list count k : ℕ) → suc k < count → end_of s list count k ≡ at 4 s (list + 4 * suc k)
unfolding end_of
end_next s list count k h = ap (λ (b : Bool). pick b (at 4 s (list + 4 * suc k)) list) (lt-ltb (suc k) count h)

pub end_last : (s : List ℕ) (list count k : ℕ) → count ≤ suc k → end_of s list count k ≡ list
unfolding end_of
end_last s list count k h = ap (λ (b : Bool). pick b (at 4 s (list + 4 * suc k)) list) (le-ltb (suc k) count h)

pub said_by : (s : List ℕ) (list count k : ℕ) (op : Op) → k < count → begins k (at 4 s (list + 4 * k)) ≡ true
    → record_at (take list s) (at 4 s (list + 4 * k)) (end_of s list count k) ≡ Some op → listed s list count k ≡ says op
unfolding listed standing
said_by s list count k op h b e = rw (lt-ltb k count h, b, e) refl

pub past_range : (s : List ℕ) (list count k : ℕ) → count ≤ k → listed s list count k ≡ refusal RANGE
unfolding listed
past_range s list count k h = rw (le-ltb k count h) refl

pub from_trailer : (s : List ℕ) (k n : ℕ) → length s ≡ n + 16 → kth_of s k ≡ trailed s n k
unfolding kth_of
from_trailer s k n h =
    let e : length s - 16 ≡ n = omega (arith, h) in
    rw (le-ltb (length s) 16 (omega (arith, h))) (ap (λ (j : ℕ). trailed s j k) e)

pub from_list : (s : List ℕ) (n k : ℕ) → fitting (length s) (at 4 s n) (at 4 s (n + 4)) (at 4 s (n + 8)) (at 4 s (n + 12)) ≡ true → trailed s n k ≡ listed s (at 4 s n) (at 4 s (n + 4)) k
unfolding trailed
from_list s n k e = rw e refl

pub no_trailer : (s : List ℕ) (n k : ℕ) → fitting (length s) (at 4 s n) (at 4 s (n + 4)) (at 4 s (n + 8)) (at 4 s (n + 12)) ≡ false → trailed s n k ≡ refusal FILE
unfolding trailed
no_trailer s n k e = rw e refl

fours_many : (n : ℕ) (s : List ℕ) (p : ℕ) → length (fours_at n s p) ≡ n
unfolding fours_at
fours_many zero s p = refl
fours_many (suc n) s p = ap suc (fours_many n s (p + 4))

begins_at : (k from : ℕ) → (k ≡ 0 → from ≡ 0) → begins k from ≡ true
unfolding begins
begins_at zero from h = eq-eqb from 0 (h refl)
begins_at (suc k) from h = refl

-- ---- the law

pub kth_of_file : (s : List ℕ) (ops : List Op) (k : ℕ) → Bytes s → file_ops s ≡ Some ops → kth_of s k ≡ kth_in ops k
kth_of_file s ops k h e = go (dec_lt (length s) 16)
  where
    inside : (list count : ℕ) → list ≤ length s → records_in 0 (fours_at count s list) (take list s) ≡ Some ops → Dec (k < count) → listed s list count k ≡ kth_in ops k
    inside list count b r (no l) =
        let c = counts (fours_at count s list) (take list s) 0 ops (take_bytes list s h) (omega arith) r in
        past_range s list count k (omega arith) ∙ sym (kth_past ops k (omega (arith, c.0, fours_many count s list)))
    inside list count b r (yes l) =
        let x = stands k count s (take list s) 0 list ops (take_bytes list s h) (omega arith) r l in
        said_by s list count k x.op l (begins_at k (at 4 s (list + 4 * k)) x.first)
        (record_fills (take list s) (at 4 s (list + 4 * k)) (end_of s list count k) x.op x.after x.read (ends x (dec_lt (suc k) count)))
        ∙ sym x.is
      where
        ends : (x : Stands s (take list s) ops 0 list count k) → Dec (suc k < count) → at 4 s (list + 4 * k) + length (bytes_of x.op) ≡ end_of s list count k
        ends x (yes m) = x.next m ∙ sym (end_next s list count k m)
        ends x (no m) = x.last (omega arith) ∙ length-take-le list s b ∙ sym (end_last s list count k (omega arith))

    fits : (n : ℕ) → length s ≡ n + 16 → (b : Bool) → fitting (length s) (at 4 s n) (at 4 s (n + 4)) (at 4 s (n + 8)) (at 4 s (n + 12)) ≡ b → kth_of s k ≡ kth_in ops k
    fits n l false q = absurd (none-some ops (sym (sym e ∙ file_unfit s n l q)))
    fits n l true q =
        let f = fitting_true (length s) (at 4 s n) (at 4 s (n + 4)) (at 4 s (n + 8)) (at 4 s (n + 12)) q in
        from_trailer s k n l ∙ from_list s n k q
        ∙ inside (at 4 s n) (at 4 s (n + 4)) (omega (arith, f.lists, f.ends)) (sym (file_walk s n l q) ∙ e) (dec_lt k (at 4 s (n + 4)))

    go : Dec (length s < 16) → kth_of s k ≡ kth_in ops k
    go (yes l) = absurd (none-some ops (sym (sym e ∙ file_short s l)))
    go (no l) = fits (length s - 16) (omega arith) (fitting (length s) (at 4 s (length s - 16)) (at 4 s (length s - 16 + 4)) (at 4 s (length s - 16 + 8)) (at 4 s (length s - 16 + 12))) refl
