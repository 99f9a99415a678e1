-- A file that is whole, its list, and the record that one of the list's entries gives. Assumes nothing.
use Rattle.std.specs.Prelude.{ℕ, suc, ◌<◌, ◌≡◌, List, ◌∷◌, length, drop, Some}
use Rattle.record_spec.specs.Operations.{Op}
use Rattle.record_spec.specs.Reader.{record_in}
use Rattle.record_spec.specs.Files.{records_of, file_ops}

-- s is a file, with its list at a place, and has a record k
pub record Listed (s : List ℕ) (list k : ℕ) : Type 0 where
  pub ops : List Op
  pub whole : file_ops s ≡ Some ops
  pub starts : list ≡ length (records_of ops)
  pub low : k < length ops

-- operation k of ops stands at place p
pub record Stands (s : List ℕ) (ops : List Op) (k p : ℕ) : Type 0 where
  pub op : Op
  pub after : List ℕ
  pub read : record_in (drop p s) ≡ Some (op, after)
  pub is : drop k ops ≡ op ∷ drop (suc k) ops

abbrev pub Placed : List ℕ → ℕ → ℕ → Type 0
Placed s k p = (ops : List Op) → file_ops s ≡ Some ops → Stands s ops k p
