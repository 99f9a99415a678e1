-- An answer is five texts written one after the other, and has at most 57 bytes. Assumes nothing.
use Prim.Native.Nat.{ℕ, suc, ◌+◌, ◌≤◌, ◌<◌}
use native.Mathlib.Omega.{arith}
use mathlib.Core.Path.{◌≡◌, ◌∙◌}
use mathlib.Core.List.{List, [], ◌∷◌, ◌++◌, append_assoc}
use lib.ListN.{length, length-append, set, length-set}
use lib.IntN.{ℤ}
use mir.Syntax.{w64}
use mir.Val.{SFits}
use Rattle.text_decimals.specs.Wrote.{Wrote}
use Rattle.text_decimals.proofs.Widths.{width, signed_width}
use Rattle.text_decimals.proofs.Writes.{chain, byte_wrote, same_text, length_wrote}
use Rattle.ledger_spec.specs.Decimals.{decimal, signed}
use Rattle.ledger_spec.specs.Program.{text_of}

-- ---- its five parts, where there is room for the whole

module _ (n s : ℕ) (v w : ℤ) (o : List ℕ) (at : ℕ) (room : at + length (text_of (n, s, v, w)) ≤ length o) where
  parts : at + (length (decimal n) + (suc (length (decimal s)) + (suc (length (signed v)) + (suc (length (signed w)) + 1)))) ≤ length o
  unfolding text_of
  parts = simp length-append at room

  pub room-number : at + length (decimal n) ≤ length o
  room-number = omega (arith, parts)

  module _ (o₁ : List ℕ) (p₁ : ℕ) (a : Wrote o at (decimal n) o₁ p₁) where
    pub room-serial : p₁ + length (32 ∷ decimal s) ≤ length o₁
    room-serial = omega (arith, parts, a.next, length_wrote o at (decimal n) o₁ p₁ a)

    module _ (o₂ : List ℕ) (p₂ : ℕ) (b : Wrote o₁ p₁ (32 ∷ decimal s) o₂ p₂) where
      two : Wrote o at (decimal n ++ (32 ∷ decimal s)) o₂ p₂
      two = chain o at (decimal n) o₁ p₁ (32 ∷ decimal s) o₂ p₂ a b

      pub room-speed : p₂ + length (32 ∷ signed v) ≤ length o₂
      room-speed = omega (arith, parts, a.next, b.next, length_wrote o at _ o₂ p₂ two)

      module _ (o₃ : List ℕ) (p₃ : ℕ) (c : Wrote o₂ p₂ (32 ∷ signed v) o₃ p₃) where
        three : Wrote o at ((decimal n ++ (32 ∷ decimal s)) ++ (32 ∷ signed v)) o₃ p₃
        three = chain o at _ o₂ p₂ (32 ∷ signed v) o₃ p₃ two c

        pub room-sum : p₃ + length (32 ∷ signed w) ≤ length o₃
        room-sum = omega (arith, parts, a.next, b.next, c.next, length_wrote o at _ o₃ p₃ three)

        module _ (o₄ : List ℕ) (p₄ : ℕ) (d : Wrote o₃ p₃ (32 ∷ signed w) o₄ p₄) where
          four : Wrote o at (((decimal n ++ (32 ∷ decimal s)) ++ (32 ∷ signed v)) ++ (32 ∷ signed w)) o₄ p₄
          four = chain o at _ o₃ p₃ (32 ∷ signed w) o₄ p₄ three d

          pub room-end : p₄ < length o₄
          room-end = omega (arith, parts, a.next, b.next, c.next, d.next, length_wrote o at _ o₄ p₄ four)

          pub same_length : length (set o₄ p₄ 10) ≡ length o
          same_length = length-set o₄ p₄ 10 ∙ length_wrote o at _ o₄ p₄ four

          pub whole-answer : Wrote o at (text_of (n, s, v, w)) (set o₄ p₄ 10) (p₄ + 1)
          unfolding text_of
          whole-answer =
              same_text o at _ _ (set o₄ p₄ 10) (p₄ + 1) (simp append_assoc) (chain o at _ o₄ p₄ (10 ∷ []) (set o₄ p₄ 10) (p₄ + 1) four (byte_wrote o₄ p₄ 10))

-- ---- its length

pub answer-short : (n s : ℕ) (v w : ℤ) → n < 1000 → s < 4294967296 → SFits w64 v → SFits w64 w → length (text_of (n, s, v, w)) ≤ 57
unfolding text_of
answer-short n s v w a b c d =
    let p = width 2 n a in
    let q = width 9 s (omega arith) in
    let x = signed_width v c in
    let y = signed_width w d in
    simp length-append (omega arith)
