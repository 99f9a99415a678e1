-- Laws of the call's answers, any that meet the contract: of a whole file they are the k-th operation's; a refused call leaves the slice. Assumes nothing.
use Rattle.std.specs.Prelude.{Some}
use Prim.Native.Nat.{ℕ, ◌≤◌}
use native.Mathlib.Omega.{arith}
use native.Mathlib.Decide.{dec_le}
use mathlib.Core.Path.{◌≡◌, refl, ◌∙◌, ap}
use mathlib.Core.List.{List}
use lib.ListN.{length}
use Rattle.ledger_spec.specs.Numbers.{SMALL}
use Rattle.record_spec.specs.Numbers.{Bytes}
use Rattle.record_spec.specs.Operations.{Op}
use Rattle.record_spec.specs.Files.{file_ops}
use Rattle.record_spec.specs.Moves.{Moved as Answer, refused}
use Rattle.record_spec.proofs.Moves.{room, no_room}
use Rattle.record_packs.specs.declared.Moved.{Moved}
use Rattle.record_packs.specs.Packs.{MovedAs}
use Rattle.record_gets.specs.Kth.{Asked, refusal, says, kth_in, kth_of}
use Rattle.record_gets.specs.Words.{words_of, words_into, get_into}
use Rattle.record_gets.proofs.Whole.{kth_of_file}
use Rattle.record_gets.proofs.Getting.{said}

pub get_of_file : (s : List ℕ) (ops : List Op) (k : ℕ) (out : List ℕ) → Bytes s → file_ops s ≡ Some ops → get_into s k out ≡ words_into (kth_in ops k) out
get_of_file s ops k out h e = said s k out (kth_in ops k) (kth_of_file s ops k h e)

pub refused_get : (s : List ℕ) (k : ℕ) (out o : List ℕ) (r : Moved) → MovedAs (get_into s k out) o r → (r.number ≡ 0 → ⊥) → (r.size ≡ 0) × (o ≡ out)
refused_get s k out o r is n = go (kth_of s k) refl
  where
    left : (m : ℕ) → get_into s k out ≡ refused m out → (r.size ≡ 0) × (o ≡ out)
    left m e = (is.size ∙ ap (λ (x : Answer). x.size) e, is.output ∙ ap (λ (x : Answer). x.output) e)

    fits : (op : Op) → kth_of s k ≡ says op → Dec (length (words_of op) ≤ length out) → (r.size ≡ 0) × (o ≡ out)
    fits op e (yes l) = absurd (n (is.number ∙ ap (λ (x : Answer). x.number) (said s k out (says op) e ∙ room (words_of op) out l)))
    fits op e (no l) = left SMALL (said s k out (says op) e ∙ no_room (words_of op) out (omega arith))

    go : (a : Asked) → kth_of s k ≡ a → (r.size ≡ 0) × (o ≡ out)
    go (refusal m) e = left m (said s k out (refusal m) e)
    go (says op) e = fits op e (dec_le (length (words_of op)) (length out))
