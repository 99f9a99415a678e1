-- No second answer of the exported pictures: number, length and every byte of the lent slice. Assumes nothing.
use Prim.Native.Nat.{ℕ}
use mathlib.Core.Path.{sym, ◌∙◌}
use mathlib.Core.List.{List}
use Rattle.bench_views.specs.View.{view}
use Rattle.sound_lent.specs.Verdict.{read_words}
use Rattle.picture_spec.specs.Picture.{picture_into, picture_read}
use Rattle.picture_any.specs.Chosen.{chosen}
use Rattle.dual_ledger.proofs.Only.{Only}

module _ (b : List ℕ) (u a : ℕ) (out : List ℕ) where
  pub only_snapshot : Only (read_words b (picture_read (view b) u (chosen a) out))
  only_snapshot x y p q = p ∙ sym q

  pub only_trusted_snapshot : Only (picture_into (view b) u (chosen a) out)
  only_trusted_snapshot x y p q = p ∙ sym q
