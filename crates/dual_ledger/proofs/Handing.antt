-- A read's answer, handed on: its number, and its value in its word form. Assumes nothing.
use Rattle.std.specs.Prelude.{Option}
use Prim.Native.Nat.{ℕ}
use mathlib.Core.Path.{◌≡◌, ap, ◌∙◌}
use lib.IntN.{ℤ}
use mir.Syntax.{w64}
use mir.Val.{SFits, to_z, of_z}
use mir.Facts.{to_z-of_z}
use Rattle.ledger_spec.specs.Bench.{Handle}
use Rattle.read_sound.specs.Shown.{shown_weight}
use Rattle.read_sound.specs.declared.Weighed.{Weighed}
use Rattle.link_answers.specs.Forms.{node_word, signed_word, length_words, outer_words, worded, indexed_word, indexed}
use Rattle.dual_ledger.specs.Nexts.{next_words}

pub worded_by : {A : Type 0} (f : A → ℕ) {n w : ℕ} {a : A} {r : ℕ × A} → (n, a) ≡ r → w ≡ f a → (n, w) ≡ worded f r
worded_by f p k = let q = k ∙ ap f (λ i. (p i).1) in λ i. ((p i).0, q i)

pub indexed_by : {n w : ℕ} {m : Option Handle} {r : ℕ × Option Handle} → (n, m) ≡ r → w ≡ indexed_word n m → (n, w) ≡ indexed r
indexed_by p k = let q = k ∙ (λ i. indexed_word (p i).0 (p i).1) in λ i. ((p i).0, q i)

pub outer_by : {n w l : ℕ} {h : Handle} {r : ℕ × (Handle × ℕ)} → (n, (h, l)) ≡ r → w ≡ node_word h → (n, (w, l)) ≡ worded outer_words r
outer_by p k = let q = k ∙ ap node_word (λ i. (p i).1.0) in λ i. ((p i).0, (q i, (p i).1.1))

pub next_by : {n i w : ℕ} {m : Option Handle} {r : ℕ × (ℕ × Option Handle)} → (n, (i, m)) ≡ r → w ≡ indexed_word n m → (n, (i, w)) ≡ next_words r
next_by p k = let q = k ∙ (λ i. indexed_word (p i).0 (p i).1.1) in λ i. ((p i).0, ((p i).1.0, q i))

-- a weight is read again from 64 bits
pub weighed : (a : Weighed) {w : ℕ} {r : ℕ × ℤ} → SFits w64 a.weight → shown_weight a ≡ r → w ≡ signed_word (to_z w64 (of_z w64 a.weight)) → (a.number, w) ≡ worded signed_word r
weighed a f p k = worded_by signed_word p (k ∙ ap signed_word (to_z-of_z f))

pub length_by : {n a w : ℕ} {l : Option ℤ} {r : ℕ × Option ℤ} → (n, l) ≡ r → a ≡ (length_words l).0 → w ≡ (length_words l).1 → (n, (a, w)) ≡ worded length_words r
length_by p e f =
    let x = e ∙ ap (λ (k : Option ℤ). (length_words k).0) (λ i. (p i).1) in
    let y = f ∙ ap (λ (k : Option ℤ). (length_words k).1) (λ i. (p i).1) in
    λ i. ((p i).0, (x i, y i))
