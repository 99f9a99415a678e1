-- A line's four numbers, handed on as words. Assumes nothing.
use Prim.Native.Nat.{ℕ}
use mathlib.Core.Path.{◌≡◌, ap, ◌∙◌}
use mathlib.Core.List.{List}
use mir.Syntax.{w64}
use mir.Val.{SFits, to_z, of_z}
use mir.Facts.{to_z-of_z}
use Rattle.ledger_spec.specs.Grammar.{line_of}
use Rattle.text_numbers.specs.declared.Reply.{Reply}
use Rattle.text_calls.specs.Turned.{Turned}
use Rattle.link_text.specs.Text.{LineOn}
use Rattle.link_answers.specs.Forms.{signed_word}
use Rattle.dual_ledger.specs.Texts.{LineBy, LineLeft}

-- speed and sum are read again from 64 bits
module _ (b line : List ℕ) (r : Reply) (b' : List ℕ) (f : SFits w64 r.speed) (g : SFits w64 r.sum) {v w : ℕ}
    (p : v ≡ signed_word (to_z w64 (of_z w64 r.speed))) (q : w ≡ signed_word (to_z w64 (of_z w64 r.sum))) where
  speed : v ≡ signed_word r.speed
  speed = p ∙ ap signed_word (to_z-of_z f)

  sum : w ≡ signed_word r.sum
  sum = q ∙ ap signed_word (to_z-of_z g)

  pub line_by : Turned b (line_of line) r b' → LineBy b line r.number r.serial v w b'
  line_by T =
      let x = speed ∙ ap signed_word (λ i. (T.numbers i).2) in
      let y = sum ∙ ap signed_word (λ i. (T.numbers i).3) in
      record { numbers = λ i. ((T.numbers i).0, (T.numbers i).1, x i, y i); words = T.words; seen = T.seen }

  pub line_left : LineOn b line r b' → LineLeft b line r.number r.serial v w b'
  line_left L = record {
    sound = λ e. line_by (L.sound e);
    broken = λ e.
        let k = L.broken e in
        ((λ i. (k.0 i).0), (λ i. (k.0 i).1), speed ∙ ap signed_word (λ i. (k.0 i).2), sum ∙ ap signed_word (λ i. (k.0 i).3), k.1);
  }
