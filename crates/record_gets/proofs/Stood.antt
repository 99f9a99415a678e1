-- Of any bytes: an operation that is answered has a record, whose bytes stand before the list from the k-th start on. Assumes nothing.
use Rattle.std.specs.Prelude.{None, Option, Some}
use Rattle.std.proofs.lemmas.Option.{same_Some, none-some}
use Prim.Native.Nat.{ℕ, ◌+◌, ◌-◌, ◌*◌}
use mathlib.Core.Path.{◌≡◌, sym, ◌∙◌, ap, subst}
use mathlib.Core.Bool.{Bool, true, false, true≢false}
use mathlib.Core.List.{List, ◌++◌}
use lib.Dec.{eqb, ltb}
use lib.ListN.{length, take, drop}
use Rattle.record_spec.specs.Numbers.{Bytes}
use Rattle.record_spec.specs.Operations.{Op}
use Rattle.record_spec.specs.Records.{bytes_of, Writable}
use Rattle.record_spec.specs.Reader.{pick, record_in}
use Rattle.record_spec.specs.Files.{fitting}
use Rattle.record_spec.specs.Places.{at}
use Rattle.record_spec.proofs.Numbers.{then_only}
use Rattle.record_spec.proofs.Records.{record_only}
use Rattle.record_unpacks.proofs.Steps.{take_bytes, drop_bytes}
use Rattle.record_gets.specs.Kth.{Asked, refusal, says, asked, begins, end_of, record_at, standing, listed, trailed, kth_of}

-- ---- what is said is no refusal

abbrev is_said : Asked → Bool
is_said (refusal n) = false
is_said (says op) = true

abbrev said_op : Asked → Op → Op
said_op (refusal n) d = d
said_op (says op) d = op

other_way : (b : Bool) (n : ℕ) (a : Asked) (op : Op) → pick b (refusal n) a ≡ says op → a ≡ says op
other_way true n a op e = absurd (true≢false (sym (ap is_said e)))
other_way false n a op e = e

this_way : (b : Bool) (n : ℕ) (a : Asked) (op : Op) → pick b a (refusal n) ≡ says op → a ≡ says op
this_way true n a op e = e
this_way false n a op e = absurd (true≢false (sym (ap is_said e)))

was_some : (o : Option Op) (op : Op) → asked o ≡ says op → o ≡ Some op
was_some None op e = absurd (true≢false (sym (ap is_said e)))
was_some (Some x) op e = ap (λ (a : Asked). Some (said_op a x)) e

kept : (b : Bool) (o : Option Op) (op : Op) → pick b o None ≡ Some op → o ≡ Some op
kept true o op e = e
kept false o op e = absurd (none-some op e)

-- ---- so a record was read

-- where the list starts, by the trailer
abbrev pub list_of : List ℕ → ℕ
list_of s = at 4 s (length s - 16)

pub record Stood (s : List ℕ) (k : ℕ) (op : Op) : Type 0 where
  pub after : List ℕ
  pub stands : drop (at 4 s (list_of s + 4 * k)) (take (list_of s) s) ≡ bytes_of op ++ after
  pub writable : Writable op

pub kth_stands : (s : List ℕ) (k : ℕ) (op : Op) → Bytes s → kth_of s k ≡ says op → Stood s k op
unfolding kth_of trailed listed standing record_at
kth_stands s k op h e =
    let n = length s - 16 in
    let list = at 4 s n in
    let count = at 4 s (n + 4) in
    let from = at 4 s (list + 4 * k) in
    let to = end_of s list count k in
    let t = take list s in
    let a : trailed s n k ≡ says op = other_way (ltb (length s) 16) 23 (trailed s n k) op e in
    let b : listed s list count k ≡ says op = this_way (fitting (length s) list count (at 4 s (n + 8)) (at 4 s (n + 12))) 23 (listed s list count k) op a in
    let c : standing s list count k from ≡ says op = this_way (ltb k count) 18 (standing s list count k from) op b in
    let d : record_at t from to ≡ Some op = kept (begins k from) (record_at t from to) op (was_some (pick (begins k from) (record_at t from to) None) op c) in
    let x = then_only (record_in (drop from t)) (λ o r. pick (eqb (from + length (bytes_of o)) to) (Some o) None) op d in
    let y : x.value ≡ op = same_Some x.value op (kept (eqb (from + length (bytes_of x.value)) to) (Some x.value) op x.goes) in
    let z = record_only (drop from t) x.value x.after (drop_bytes from t (take_bytes list s h)) x.read in
    record { after = x.after; stands = z.are ∙ ap (λ (o : Op). bytes_of o ++ x.after) y; writable = subst Writable y z.writable }
