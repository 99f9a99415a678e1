-- What the code's steps answer: where a record stands, and the words before a blossom's members. Assumes nothing.
use Rattle.std.specs.Prelude.{ℕ, ◌+◌, ◌≤◌, ◌≡◌, List, [], ◌∷◌, length, take, drop, Some}
use Rattle.kinds.specs.declared.GrowState.{GrowState}
use Rattle.ledger_spec.specs.Bench.{rate}
use Rattle.ledger_spec.specs.Named.{state_named}
use Rattle.text_lines.specs.declared.Line.{Line}
use Rattle.text_lines.specs.declared.Line.TheVariants.{Defect, Blossom, Expand, SetState, Grow, Fuse, Clear, Check, Wrong}
use Rattle.record_spec.specs.Numbers.{complement}
use Rattle.record_spec.specs.Operations.{Op}
use Rattle.record_spec.specs.Reader.{record_in}
use Rattle.record_gets.specs.Kth.{Asked, refusal, says}
use Rattle.record_gets.specs.declared.Found.{Found}
use Rattle.record_gets.specs.declared.words.Front.{Front}

-- ---- the place

-- what is asked for stands at place p
pub record Holds (a : Asked) (s : List ℕ) (p : ℕ) : Type 0 where
  pub op : Op
  pub after : List ℕ
  pub said : a ≡ says op
  pub read : record_in (drop p s) ≡ Some (op, after)
  pub room : p + 4 ≤ length s

pub record Finds (a : Asked) (s : List ℕ) (r : Found) : Type 0 where
  pub refused : (r.number ≡ 0 → ⊥) → a ≡ refusal r.number
  pub found : r.number ≡ 0 → Holds a s r.place

-- ---- the words

abbrev pub state_word : GrowState → ℕ
state_word g = complement (rate (state_named g))

abbrev pub front_of : Line → Front
front_of (Defect u v) = record { many = 3; letter = 68; unit = u; third = v.0; fourth = 0; members = 0 }
front_of (Blossom u n) = record { many = 3; letter = 66; unit = u; third = n; fourth = 0; members = n }
front_of (Expand u k) = record { many = 3; letter = 69; unit = u; third = k.0; fourth = 0; members = 0 }
front_of (SetState u k g) = record { many = 4; letter = 83; unit = u; third = k.0; fourth = state_word g; members = 0 }
front_of (Grow u l) = record { many = 3; letter = 71; unit = u; third = complement l; fourth = 0; members = 0 }
front_of (Fuse p l r) = record { many = 4; letter = 70; unit = p; third = l; fourth = r; members = 0 }
front_of (Clear u) = record { many = 2; letter = 67; unit = u; third = 0; fourth = 0; members = 0 }
front_of (Check u) = record { many = 2; letter = 75; unit = u; third = 0; fourth = 0; members = 0 }
front_of Wrong = record { many = 2; letter = 0; unit = 0; third = 0; fourth = 0; members = 0 }

abbrev pub front_words : Front → List ℕ
front_words f = take f.many (f.letter ∷ f.unit ∷ f.third ∷ f.fourth ∷ [])
