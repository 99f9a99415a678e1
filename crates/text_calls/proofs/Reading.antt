-- In each arm of the match on a line that was read: the line is what the arm says. Assumes nothing.
use Prim.Native.Nat.{ℕ, ◌≤◌}
use mathlib.Core.Path.{◌≡◌, sym, ◌∙◌, ap, subst}
use mathlib.Core.List.{List}
use native.Mathlib.Omega.{arith}
use lib.ListN.{length}
use Rattle.ledger_spec.specs.Grammar.{Line as Said}
use Rattle.text_lines.specs.declared.Line.{Line}
use Rattle.text_lines.specs.declared.Line.TheVariants.{Blossom}
use Rattle.text_lines.specs.Shown.{serials_in, said_by, ReadAs}
use Rattle.text_lines.proofs.Told.{count_in, told_as, told_count, told_front}
use Rattle.text_numbers.specs.declared.Reply.{Reply}
use Rattle.text_calls.specs.Turned.{Turned, TurnedBlossom}

module _ (b : List ℕ) (r : Reply) (b' : List ℕ) (l : Said) (before after : List ℕ) (line : Line) (is : ReadAs l before after line) where
  pub turned_as : (x : Line) → line ≡ x → Turned b (said_by x (serials_in l)) r b' → Turned b l r b'
  turned_as x e t = subst (λ (m : Said). Turned b m r b') (sym (told_as l before after line is x e)) t

  -- the slice's front holds as many of the serials as are looked at
  pub turned_serials : (u count : ℕ) → line ≡ Blossom u count → 65 ≤ length after → length before ≡ length after → TurnedBlossom b u after count r b' → Turned b l r b'
  turned_serials u count e room same t =
      let k : count_in line ≡ count = ap count_in e in
      turned_as (Blossom u count) e
      (t (serials_in l) (sym (told_count l before after line is) ∙ k) (λ n m q. told_front l before after line is n (omega (arith, same)) (omega (arith, k))))
