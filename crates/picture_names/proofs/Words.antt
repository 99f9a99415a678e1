-- The bytes that the code puts are the words of the definition. Assumes nothing.
use mathlib.Core.Path.{◌≡◌, sym, ap}
use mathlib.Core.List.{[], ◌∷◌}
use Rattle.kinds.specs.declared.GrowState.{GrowState}
use Rattle.kinds.specs.declared.GrowState.TheVariants.{Grow, Stay, Shrink}
use Rattle.ledger_spec.specs.Bytes.{bytes}
use Rattle.ledger_spec.specs.Named.{state_named}
use Rattle.ledger_spec.specs.Decimals.{digits, decimal, signed}
use Rattle.picture_spec.specs.Text.{quoted, state_text, growth_text}

module _ (g : GrowState) where
  pub state_grows : g ≡ Grow → 34 ∷ 103 ∷ 114 ∷ 111 ∷ 119 ∷ 34 ∷ [] ≡ state_text (state_named g)
  unfolding state_text quoted bytes
  state_grows e = sym (ap (λ (s : GrowState). state_text (state_named s)) e)

  pub growth_grows : g ≡ Grow → 49 ∷ [] ≡ growth_text (state_named g)
  unfolding growth_text signed decimal digits
  growth_grows e = sym (ap (λ (s : GrowState). growth_text (state_named s)) e)

  pub state_stays : g ≡ Stay → 34 ∷ 115 ∷ 116 ∷ 97 ∷ 121 ∷ 34 ∷ [] ≡ state_text (state_named g)
  unfolding state_text quoted bytes
  state_stays e = sym (ap (λ (s : GrowState). state_text (state_named s)) e)

  pub growth_stays : g ≡ Stay → 48 ∷ [] ≡ growth_text (state_named g)
  unfolding growth_text signed decimal digits
  growth_stays e = sym (ap (λ (s : GrowState). growth_text (state_named s)) e)

  pub state_shrinks : g ≡ Shrink → 34 ∷ 115 ∷ 104 ∷ 114 ∷ 105 ∷ 110 ∷ 107 ∷ 34 ∷ [] ≡ state_text (state_named g)
  unfolding state_text quoted bytes
  state_shrinks e = sym (ap (λ (s : GrowState). state_text (state_named s)) e)

  pub growth_shrinks : g ≡ Shrink → 45 ∷ 49 ∷ [] ≡ growth_text (state_named g)
  unfolding growth_text signed decimal digits
  growth_shrinks e = sym (ap (λ (s : GrowState). growth_text (state_named s)) e)
