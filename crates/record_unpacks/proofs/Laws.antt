-- Laws of the two moves' answers: any that meet the contracts. There is no second one; a refused move leaves the slice; what moved comes back as the same
-- bytes, a file of records exactly if every pair is the member itself. Assumes nothing.
use Rattle.std.specs.Prelude.{None, Option, Some}
use Prim.Native.Nat.{ℕ, ◌≤◌}
use native.Mathlib.Omega.{arith}
use native.Mathlib.Decide.{dec_le}
use mathlib.Core.Logic.{◌↔◌}
use mathlib.Core.Path.{◌≡◌, refl, sym, ◌∙◌, ap}
use mathlib.Core.Bool.{Bool, true, false, true≢false}
use mathlib.Core.List.{List}
use lib.ListN.{length, take}
use Rattle.ledger_spec.specs.Numbers.{SELF, FILE, SMALL}
use Rattle.record_spec.specs.Numbers.{Bytes}
use Rattle.record_spec.specs.Operations.{Op}
use Rattle.record_spec.specs.Files.{file_of, file_ops, largest}
use Rattle.record_spec.specs.Moves.{Moved as Answer, text_ops, text_of, all_self, written, refused, to_records, to_text}
use Rattle.record_spec.proofs.Moves.{accepted, wrote, wrote_accepted, room, no_room, records_none, records_large, records_some, text_none, text_self, text_some, there_and_back, back_and_there}
use Rattle.record_files.specs.declared.Scanned.{Scanned}
use Rattle.record_files.specs.Scans.{scanned_of}
use Rattle.record_packs.specs.declared.Moved.{Moved}
use Rattle.record_packs.specs.Packs.{MovedAs}

-- ---- no second answer

pub only_moved : (m : Answer) (o o' : List ℕ) (r r' : Moved) → MovedAs m o r → MovedAs m o' r' → (r ≡ r') × (o ≡ o')
only_moved m o o' r r' x y = (
  (λ i. record { number = (x.number ∙ sym y.number) i; size = (x.size ∙ sym y.size) i }),
  x.output ∙ sym y.output,
)

pub only_scanned : (s : List ℕ) (w w' : Scanned) → w ≡ scanned_of (file_ops s) → w' ≡ scanned_of (file_ops s) → w ≡ w'
only_scanned s w w' x y = x ∙ sym y

-- ---- refused: no byte is written

abbrev Untouched : List ℕ → Answer → Type 0
Untouched out m = (m.number ≡ 0 → ⊥) → (m.size ≡ 0) × (m.output ≡ out)

refused_leaves : (n : ℕ) (out : List ℕ) (m : Answer) → m ≡ refused n out → Untouched out m
refused_leaves n out m e h = (ap (λ (x : Answer). x.size) e, ap (λ (x : Answer). x.output) e)

written_leaves : (result out : List ℕ) (m : Answer) → m ≡ written result out → Untouched out m
written_leaves result out m e h = go (dec_le (length result) (length out))
  where
    go : Dec (length result ≤ length out) → (m.size ≡ 0) × (m.output ≡ out)
    go (yes l) = absurd (h (ap (λ (x : Answer). x.number) (e ∙ room result out l)))
    go (no l) = refused_leaves SMALL out m (e ∙ no_room result out (omega arith)) h

records_leave : (t out : List ℕ) → Untouched out (to_records t out)
records_leave t out = go (text_ops t) refl
  where
    sized : (ops : List Op) → text_ops t ≡ Some ops → Dec (length (file_of ops) ≤ largest) → Untouched out (to_records t out)
    sized ops e (yes l) = written_leaves (file_of ops) out (to_records t out) (records_some t out ops e l)
    sized ops e (no l) = refused_leaves FILE out (to_records t out) (records_large t out ops e (omega arith))

    go : (o : Option (List Op)) → text_ops t ≡ o → Untouched out (to_records t out)
    go None e = refused_leaves FILE out (to_records t out) (records_none t out e)
    go (Some ops) e = sized ops e (dec_le (length (file_of ops)) largest)

text_leaves : (f out : List ℕ) → Untouched out (to_text f out)
text_leaves f out = go (file_ops f) refl
  where
    owned : (ops : List Op) → file_ops f ≡ Some ops → (b : Bool) → all_self ops ≡ b → Untouched out (to_text f out)
    owned ops e true b = written_leaves (text_of ops) out (to_text f out) (text_some f out ops e b)
    owned ops e false b = refused_leaves SELF out (to_text f out) (text_self f out ops e b)

    go : (o : Option (List Op)) → file_ops f ≡ o → Untouched out (to_text f out)
    go None e = refused_leaves FILE out (to_text f out) (text_none f out e)
    go (Some ops) e = owned ops e (all_self ops) refl

module _ (m : Answer) (out : List ℕ) (u : Untouched out m) (o : List ℕ) (r : Moved) (is : MovedAs m o r) (h : r.number ≡ 0 → ⊥) where
  left_alone : (r.size ≡ 0) × (o ≡ out)
  left_alone = let x = u (λ e. h (is.number ∙ e)) in (is.size ∙ x.0, is.output ∙ x.1)

pub refused_to_records : (t out o : List ℕ) (r : Moved) → MovedAs (to_records t out) o r → (r.number ≡ 0 → ⊥) → (r.size ≡ 0) × (o ≡ out)
refused_to_records t out o r is h = left_alone (to_records t out) out (records_leave t out) o r is h

pub refused_to_text : (f out o : List ℕ) (r : Moved) → MovedAs (to_text f out) o r → (r.number ≡ 0 → ⊥) → (r.size ≡ 0) × (o ≡ out)
refused_to_text f out o r is h = left_alone (to_text f out) out (text_leaves f out) o r is h

-- ---- there and back

wrote_as : (m : Answer) (o : List ℕ) (r : Moved) → MovedAs m o r → take r.size o ≡ wrote m
wrote_as m o r is = λ i. take (is.size i) (is.output i)

same_bytes : (m : Answer) (s out o : List ℕ) (r : Moved) → MovedAs m o r → m ≡ accepted s out → (r.number ≡ 0) × (take r.size o ≡ s)
same_bytes m s out o r is e = (is.number ∙ ap (λ (x : Answer). x.number) e, wrote_as m o r is ∙ ap wrote e ∙ wrote_accepted s out)

-- a text that moved comes back as the same bytes, into any slice that has room for it
pub text_there_and_back : (t out back o o' : List ℕ) (r r' : Moved) → MovedAs (to_records t out) o r → r.number ≡ 0 → length t ≤ length back
    → MovedAs (to_text (take r.size o) back) o' r' → (r'.number ≡ 0) × (take r'.size o' ≡ t)
text_there_and_back t out back o o' r r' is z l is' =
    same_bytes (to_text (take r.size o) back) t back o' r' is'
    (ap (λ (f : List ℕ). to_text f back) (wrote_as (to_records t out) o r is) ∙ there_and_back t out back (sym is.number ∙ z) l)

-- and so does a file of records that moved
pub file_there_and_back : (f out there o o' : List ℕ) (r r' : Moved) → Bytes f → MovedAs (to_text f out) o r → r.number ≡ 0 → length f ≤ length there
    → MovedAs (to_records (take r.size o) there) o' r' → (r'.number ≡ 0) × (take r'.size o' ≡ f)
file_there_and_back f out there o o' r r' b is z l is' =
    same_bytes (to_records (take r.size o) there) f there o' r' is'
    (ap (λ (t : List ℕ). to_records t there) (wrote_as (to_text f out) o r is) ∙ back_and_there f out there b (sym is.number ∙ z) l)

-- it moves exactly if every pair is the member, where there is room
pub moves_exactly_own : (f out o : List ℕ) (r : Moved) (w : Scanned) → w ≡ scanned_of (file_ops f) → w.whole ≡ true → w.text ≤ length out → MovedAs (to_text f out) o r
    → (r.number ≡ 0) ↔ (w.own ≡ true)
moves_exactly_own f out o r w e t l is = go (file_ops f) refl
  where
    scanned : (ops : List Op) → file_ops f ≡ Some ops → (b : Bool) → all_self ops ≡ b → (r.number ≡ 0) ↔ (w.own ≡ true)
    scanned ops q true b =
        let x = e ∙ ap scanned_of q in
        let y : to_text f out ≡ accepted (text_of ops) out = text_some f out ops q b ∙ room (text_of ops) out (omega (arith, l, ap (λ (v : Scanned). v.text) x)) in
        ((λ z. ap (λ (v : Scanned). v.own) x ∙ b), (λ z. is.number ∙ ap (λ (v : Answer). v.number) y))
    scanned ops q false b =
        let x : w.own ≡ false = ap (λ (v : Scanned). v.own) (e ∙ ap scanned_of q) ∙ b in
        let y : r.number ≡ 22 = is.number ∙ ap (λ (v : Answer). v.number) (text_self f out ops q b) in
        ((λ z. absurd (omega (arith, y, z))), (λ z. absurd (true≢false (sym z ∙ x))))

    go : (p : Option (List Op)) → file_ops f ≡ p → (r.number ≡ 0) ↔ (w.own ≡ true)
    go None q = absurd (true≢false (sym t ∙ ap (λ (v : Scanned). v.whole) (e ∙ ap scanned_of q)))
    go (Some ops) q = scanned ops q (all_self ops) refl
