-- No second answer of the exported text lines: two results that meet a contract have the same four numbers and the same bench. (Of chunks and of the input's
-- end: Once of link_text. The hints are left open, docs/LOOSE.md.) Assumes nothing.
use Prim.Native.Nat.{ℕ}
use mathlib.Core.Path.{◌≡◌, refl, sym, ◌∙◌}
use mathlib.Core.Bool.{Bool, true, false}
use mathlib.Core.List.{List}
use Rattle.sound_bench.specs.Sound.{sound_words}
use Rattle.outcomes.proofs.Outcomes.{sound_words_same}
use Rattle.dual_ledger.specs.Texts.{LineBy, LineLeft}

module _ {b line : List ℕ} {n k v w n₂ k₂ v₂ w₂ : ℕ} {b' b'' : List ℕ} where
  pub only_trusted_text_line : LineBy b line n k v w b' → LineBy b line n₂ k₂ v₂ w₂ b'' → (◌≡◌ {A = ℕ × ℕ × ℕ × ℕ} (n, k, v, w) (n₂, k₂, v₂, w₂)) × (b' ≡ b'')
  only_trusted_text_line x y =
      (x.numbers ∙ sym y.numbers, sound_words_same x.words y.words (x.seen ∙ sym y.seen))

  pub only_text_line : LineLeft b line n k v w b' → LineLeft b line n₂ k₂ v₂ w₂ b'' → (◌≡◌ {A = ℕ × ℕ × ℕ × ℕ} (n, k, v, w) (n₂, k₂, v₂, w₂)) × (b' ≡ b'')
  only_text_line x y = go (sound_words b) refl
    where
      go : (s : Bool) → sound_words b ≡ s → (◌≡◌ {A = ℕ × ℕ × ℕ × ℕ} (n, k, v, w) (n₂, k₂, v₂, w₂)) × (b' ≡ b'')
      go true e = only_trusted_text_line (x.sound e) (y.sound e)
      go false e =
          let r = x.broken e in
          let s = y.broken e in
          ((λ i. ((r.0 ∙ sym s.0) i, (r.1 ∙ sym s.1) i, (r.2 ∙ sym s.2) i, (r.3 ∙ sym s.3) i)), r.4 ∙ sym s.4)
