-- A file is counted by its scan. Assumes nothing.
use Rattle.std.specs.Prelude.{None, Option, Some}
use Prim.Native.Nat.{ℕ}
use mathlib.Core.Path.{◌≡◌, refl, sym, ◌∙◌, ap}
use mathlib.Core.Bool.{true, false, true≢false}
use mathlib.Core.List.{List}
use Rattle.ledger_spec.specs.Numbers.{FILE}
use Rattle.record_spec.specs.Operations.{Op}
use Rattle.record_spec.specs.Files.{file_ops}
use Rattle.record_files.specs.declared.Scanned.{Scanned}
use Rattle.record_files.specs.Scans.{scanned_of}
use Rattle.link_records.specs.Answers.{counted}

module _ (s : List ℕ) (w : Scanned) (is : w ≡ scanned_of (file_ops s)) where
  pub whole : w.whole ≡ true → ◌≡◌ {A = ℕ × ℕ} (0, w.count) (counted (file_ops s))
  whole t = go (file_ops s) refl
    where
      go : (o : Option (List Op)) → file_ops s ≡ o → ◌≡◌ {A = ℕ × ℕ} (0, w.count) (counted (file_ops s))
      go None e = absurd (true≢false (sym t ∙ ap (λ (x : Scanned). x.whole) (is ∙ ap scanned_of e)))
      go (Some ops) e = ap (λ (n : ℕ). (0, n)) (ap (λ (x : Scanned). x.count) (is ∙ ap scanned_of e)) ∙ sym (ap counted e)

  pub no_file : w.whole ≡ false → ◌≡◌ {A = ℕ × ℕ} (FILE, 0) (counted (file_ops s))
  no_file t = go (file_ops s) refl
    where
      go : (o : Option (List Op)) → file_ops s ≡ o → ◌≡◌ {A = ℕ × ℕ} (FILE, 0) (counted (file_ops s))
      go None e = sym (ap counted e)
      go (Some ops) e = absurd (true≢false (sym (ap (λ (x : Scanned). x.whole) (is ∙ ap scanned_of e)) ∙ t))
