-- One text put after the other is the two together, and what is left of a text comes after what is put. Assumes nothing.
use Prim.Native.Nat.{ℕ, zero, suc, ◌+◌, ◌-◌, ◌≤◌, ◌<◌}
use native.Mathlib.Omega.{arith}
use mathlib.Core.Path.{◌≡◌, refl, sym, ◌∙◌, ap, subst}
use mathlib.Core.Bool.{Bool, true, false}
use mathlib.Core.Logic.{by_cases}
use native.Mathlib.Decide.{dec_lt}
use mathlib.Core.List.{List, [], ◌∷◌, ◌++◌, append_assoc, append-nil}
use borrow.Rule.Slice.PartMut.{put_mid}
use lib.ListN.{length, length-append, take, drop}
use lib.Seq.{sets, length-sets, drop-drop}
use Rattle.std.proofs.lemmas.List.Edits.{sets-eq}
use Rattle.text_decimals.specs.Wrote.{Wrote}
use Rattle.text_decimals.proofs.Writes.{sets_append, length_wrote}
use Rattle.picture_spec.specs.Text.{comma, items}
use Rattle.picture_pieces.specs.Drawn.{most, Drawn, either}

-- ---- texts in turn

pub drawn_none : {o : List ℕ} {at : ℕ} → Drawn o at [] o at
drawn_none {o} {at} = record { long = refl; next = λ h. omega arith; full = λ m h. absurd (omega arith); stands = λ h k. refl }

pub chain : {o : List ℕ} {at : ℕ} {a o₁ : List ℕ} {p : ℕ} {b o₂ : List ℕ} {q : ℕ} → Drawn o at a o₁ p → Drawn o₁ p b o₂ q → Drawn o at (a ++ b) o₂ q
chain {o} {at} {a} {o₁} {p} {b} {o₂} {q} v w = record {
  long = w.long ∙ v.long;
  next = λ h.
      let l = length-append a b in
      let x = v.next (omega arith) in
      let y = w.next (omega arith) in
      omega arith;
  full = λ m h.
      let l = length-append a b in
      by_cases (dec_lt most (at + length a))
      (λ (g : most < at + length a). let x = v.full m g in by_cases (dec_lt 0 (length b))
      (λ (z : 0 < length b). w.full (omega arith) (omega arith))
      (λ (z : 0 < length b → ⊥). let y = w.next (omega arith) in omega arith))
      (λ (g : most < at + length a → ⊥). let x = v.next (omega arith) in w.full (omega arith) (omega arith));
  stands = λ h k.
      let l = length-append a b in
      let x = v.next (omega arith) in
      let m = v.long in
      let s = v.stands (omega arith) (omega arith) in
      w.stands (omega arith) (omega arith) ∙ ap (λ (z : List ℕ). sets z p b) s ∙ ap (λ (i : ℕ). sets (sets o at a) i b) x ∙ sym (sets_append a b o at);
}

pub same_text : {o : List ℕ} {at : ℕ} {a b o' : List ℕ} {q : ℕ} → a ≡ b → Drawn o at a o' q → Drawn o at b o' q
same_text {o} {at} {a} {b} {o'} {q} e w = subst (λ (x : List ℕ). Drawn o at x o' q) e w

-- ---- a text in the making: some of it is put, and `left` is to come

pub record Making (o : List ℕ) (at : ℕ) (whole left o' : List ℕ) (r : ℕ) : Type 0 where
  pub done : List ℕ
  pub drawn : Drawn o at done o' r
  pub split : done ++ left ≡ whole

pub making : {o : List ℕ} {at : ℕ} {whole : List ℕ} → Making o at whole whole o at
making = record { done = []; drawn = drawn_none; split = refl }

pub more : {o : List ℕ} {at : ℕ} {whole a b o₁ : List ℕ} {p : ℕ} {o₂ : List ℕ} {q : ℕ} → Making o at whole (a ++ b) o₁ p → Drawn o₁ p a o₂ q → Making o at whole b o₂ q
more {o} {at} {whole} {a} {b} m w = record { done = m.done ++ a; drawn = chain m.drawn w; split = append_assoc m.done a b ∙ m.split }

pub relabel : {o : List ℕ} {at : ℕ} {whole a b o' : List ℕ} {q : ℕ} → a ≡ b → Making o at whole a o' q → Making o at whole b o' q
relabel {o} {at} {whole} {a} {b} {o'} {q} e w = subst (λ (x : List ℕ). Making o at whole x o' q) e w

pub made : {o : List ℕ} {at : ℕ} {whole o' : List ℕ} {r : ℕ} → Making o at whole [] o' r → Drawn o at whole o' r
made m = same_text (sym (append-nil m.done) ∙ m.split) m.drawn

-- ---- one piece

pub drawn_past : {o : List ℕ} {at : ℕ} {t : List ℕ} {r : ℕ} → most < at + length t → r ≡ most → Drawn o at t o r
drawn_past h e = record { long = refl; next = λ k. absurd (omega arith); full = λ m k. e; stands = λ k l. absurd (omega arith) }

pub drawn_counted : {o : List ℕ} {at : ℕ} {t : List ℕ} {r : ℕ} → at + length t ≤ most → r ≡ at + length t → length o < at + length t → Drawn o at t o r
drawn_counted f e h = record { long = refl; next = λ k. e; full = λ m k. absurd (omega arith); stands = λ k l. absurd (omega arith) }

pub drawn_wrote : {o : List ℕ} {at : ℕ} {t o' : List ℕ} {r : ℕ} → at + length t ≤ most → Wrote o at t o' r → Drawn o at t o' r
drawn_wrote {o} {at} {t} {o'} {r} f w = record { long = length_wrote o at t o' r w; next = λ k. w.next; full = λ m k. absurd (omega arith); stands = λ k l. w.stands }

-- std has copied the piece to its place
pub drawn_copied : {o : List ℕ} {at : ℕ} {t r : List ℕ} {q : ℕ} → at + length t ≤ most → at + length t ≤ length o → r ≡ t → q ≡ at + length t
    → Drawn o at t (put_mid at (at + length t - at) o r) q
drawn_copied {o} {at} {t} f h e n =
    let k : at + length t - at ≡ length t = omega arith in
    let s : put_mid at (at + length t - at) o t ≡ sets o at t =
    rw (k, drop-drop (length t) at o) (sym (sets-eq t o at h ∙ append_assoc (take at o) t (drop (at + length t) o))) in
    rw e (record { long = ap length s ∙ length-sets o at t; next = λ k. n; full = λ m k. absurd (omega arith); stands = λ k l. s })

pub either_one : (w : Bool) (s t : List ℕ) → w ≡ true → s ≡ either w s t
unfolding either
either_one w s t e = rw (e, either)

pub either_other : (w : Bool) (s t : List ℕ) → w ≡ false → t ≡ either w s t
unfolding either
either_other w s t e = rw (e, either)

pub comma_first : (i : ℕ) → i ≡ 0 → [] ≡ comma i
comma_first i e = sym (ap comma e)

pub comma_other : (i : ℕ) → (i ≡ 0 → ⊥) → 44 ∷ [] ≡ comma i
comma_other zero h = absurd (h refl)
comma_other (suc i) h = refl

-- ---- the items of a list in turn, before the text `end`

items_more : {A : Type 0} (f : A → List ℕ) (i : ℕ) (x : A) (xs : List A) (end : List ℕ) → items f i (x ∷ xs) ++ end ≡ comma i ++ (f x ++ (items f 1 xs ++ end))
unfolding items
items_more f i x xs end = append_assoc (comma i) (f x ++ items f 1 xs) end ∙ ap (λ (t : List ℕ). comma i ++ t) (append_assoc (f x) (items f 1 xs) end)

pub items_on : {A : Type 0} (f : A → List ℕ) (i : ℕ) (x : A) (xs : List A) (end : List ℕ) {o : List ℕ} {at : ℕ} {whole o₁ : List ℕ} {p : ℕ} {o₂ : List ℕ} {q : ℕ} {o₃ : List ℕ} {r : ℕ}
    → Making o at whole (items f i (x ∷ xs) ++ end) o₁ p → Drawn o₁ p (comma i) o₂ q → Drawn o₂ q (f x) o₃ r → Making o at whole (items f 1 xs ++ end) o₃ r
items_on f i x xs end m v w = more (more (relabel (items_more f i x xs end) m) v) w

pub items_end : {A : Type 0} (f : A → List ℕ) (i : ℕ) (end : List ℕ) {o : List ℕ} {at : ℕ} {whole o' : List ℕ} {r : ℕ} → Making o at whole (items f i [] ++ end) o' r → Making o at whole end o' r
unfolding items
items_end f i end m = m

-- what stands before the last piece
pub ends : {o : List ℕ} {at : ℕ} {whole end o₁ : List ℕ} {p : ℕ} {o₂ : List ℕ} {q : ℕ} → Making o at whole end o₁ p → Drawn o₁ p end o₂ q → Drawn o at whole o₂ q
ends {o} {at} {whole} {end} m w = made (more (relabel (sym (append-nil end)) m) w)
