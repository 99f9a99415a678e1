-- No second answer of the exported functions on files of records: number, count, and every byte of the lent slice. Assumes nothing.
use Prim.Native.Nat.{ℕ}
use mathlib.Core.Path.{◌≡◌, sym, ◌∙◌, ap}
use mathlib.Core.List.{List}
use Rattle.record_spec.specs.Files.{file_ops}
use Rattle.record_spec.specs.Moves.{Moved as Answer, to_records, to_text}
use Rattle.record_packs.specs.declared.Moved.{Moved}
use Rattle.record_unpacks.proofs.Laws.{only_moved}
use Rattle.record_gets.specs.Words.{get_into}
use Rattle.link_records.specs.Answers.{counted, MovedBy}

pub counted_once : (file : List ℕ) (x y : ℕ × ℕ) → x ≡ counted (file_ops file) → y ≡ counted (file_ops file) → x ≡ y
counted_once file x y p q = p ∙ sym q

module _ (source out : List ℕ) {o o' : List ℕ} {n k n₂ k₂ : ℕ} where
  once : (m : Answer) → MovedBy m o n k → MovedBy m o' n₂ k₂ → (n ≡ n₂) × (k ≡ k₂) × (o ≡ o')
  once m x y =
      let e = only_moved m o o' (record { number = n; size = k }) (record { number = n₂; size = k₂ }) x y in
      (ap (λ (r : Moved). r.number) e.0, ap (λ (r : Moved). r.size) e.0, e.1)

  pub to_records_once : MovedBy (to_records source out) o n k → MovedBy (to_records source out) o' n₂ k₂ → (n ≡ n₂) × (k ≡ k₂) × (o ≡ o')
  to_records_once x y = once (to_records source out) x y

  pub to_text_once : MovedBy (to_text source out) o n k → MovedBy (to_text source out) o' n₂ k₂ → (n ≡ n₂) × (k ≡ k₂) × (o ≡ o')
  to_text_once x y = once (to_text source out) x y

  -- `out` is words here
  pub get_once : (i : ℕ) → MovedBy (get_into source i out) o n k → MovedBy (get_into source i out) o' n₂ k₂ → (n ≡ n₂) × (k ≡ k₂) × (o ≡ o')
  get_once i x y = once (get_into source i out) x y
