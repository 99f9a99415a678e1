-- Growing two halves by one length and fusing, all accepted: fusing and then growing is accepted too, and the two benches that the words hold are alike.
-- Assumes nothing.
use Prim.Native.Nat.{ℕ}
use mathlib.Core.Path.{◌≡◌, sym, ◌∙◌, ap, subst}
use mathlib.Core.List.{List}
use lib.IntN.{ℤ}
use Rattle.ledger_spec.specs.Bench.{Bench}
use Rattle.ledger_spec.specs.Calls.{Grow, Fuse}
use Rattle.ledger_spec.specs.Answers.{answer}
use Rattle.ledger_spec.specs.Account.{Alike}
use Rattle.ledger_laws.proofs.Demand.{fuse_too, grow_too, fuse_called}
use Rattle.bench_views.specs.View.{view}
use Rattle.bench_views.specs.Fit.{SoundWords}
use Rattle.sound_bench.specs.Sound.{sound_words}
use Rattle.call_told.specs.declared.Answer.{Answer}
use Rattle.call_told.specs.Told.{Called}
use Rattle.run_laws.proofs.Running.{number_is, shows, stays_sound}

module _ {b : List ℕ} (W : SoundWords b) {p l r : ℕ} {a : ℤ} {k₁ k₂ k₃ : Answer} {b₁ b₂ b₃ : List ℕ}
    (x : Called (sound_words b) b (Grow l a) k₁ b₁) (y : Called (sound_words b₁) b₁ (Grow r a) k₂ b₂) (z : Called (sound_words b₂) b₂ (Fuse p l r) k₃ b₃)
    {m₁ m₂ : Answer} {d₁ d₂ : List ℕ} (f : Called (sound_words b) b (Fuse p l r) m₁ d₁) (g : Called (sound_words d₁) d₁ (Grow p a) m₂ d₂) where
  pub fused_first : k₁.number ≡ 0 → k₂.number ≡ 0 → k₃.number ≡ 0 → (m₁.number ≡ 0) × (m₂.number ≡ 0) × Alike (view b₃) (view d₂)
  fused_first e₁ e₂ e₃ =
      let W₁ = stays_sound W x in
      let W₂ = stays_sound W₁ y in
      let V₁ = stays_sound W f in
      let left : view b₁ ≡ (answer (view b) (Grow l a)).bench = shows W x in
      let both : view b₂ ≡ (answer (answer (view b) (Grow l a)).bench (Grow r a)).bench = shows W₁ y ∙ ap (λ (d : Bench). (answer d (Grow r a)).bench) left in
      let h₁ : (answer (view b) (Grow l a)).number ≡ 0 = number_is W x ∙ e₁ in
      let h₂ : (answer (answer (view b) (Grow l a)).bench (Grow r a)).number ≡ 0 = subst (λ (d : Bench). (answer d (Grow r a)).number ≡ 0) left (number_is W₁ y ∙ e₂) in
      let h₃ : (answer (answer (answer (view b) (Grow l a)).bench (Grow r a)).bench (Fuse p l r)).number ≡ 0 = subst (λ (d : Bench). (answer d (Fuse p l r)).number ≡ 0) both (number_is W₂ z ∙ e₃) in
      let first : view d₁ ≡ (answer (view b) (Fuse p l r)).bench = shows W f in (
        sym (number_is W f) ∙ fuse_too (view b) p l r a h₁ h₂ h₃,
        sym (number_is V₁ g) ∙ ap (λ (d : Bench). (answer d (Grow p a)).number) first ∙ grow_too (view b) p l r a h₁ h₂ h₃,
        subst (λ (d : Bench). Alike d (view d₂)) (sym (shows W₂ z ∙ ap (λ (d : Bench). (answer d (Fuse p l r)).bench) both))
            (subst (Alike (answer (answer (answer (view b) (Grow l a)).bench (Grow r a)).bench (Fuse p l r)).bench) (sym (shows V₁ g ∙ ap (λ (d : Bench). (answer d (Grow p a)).bench) first))
            (fuse_called (view b) p l r a h₁ h₂ h₃)),
      )
