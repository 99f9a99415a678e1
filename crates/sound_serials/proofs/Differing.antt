-- The code's comparisons, put together as the definition has them. Assumes nothing.
use Prim.Native.Nat.{ℕ}
use mathlib.Core.Path.{◌≡◌, sym, ◌∙◌, ap}
use mathlib.Core.Bool.{Bool, true, false, not, ◌||◌}
use mathlib.Core.List.{List}
use borrow.Author.Tests.{eq-eqb, ne_eqb}
use Rattle.bench_words.specs.Store.{node_at}
use Rattle.bench_words.specs.declared.Node.{Node}
use Rattle.sound_trees.specs.Below.{all_to}
use Rattle.sound_serials.specs.Different.{serial_at, unlike, once_test}

pub serial_of : (b : List ℕ) (k : ℕ) (n : Node) → n ≡ node_at b k → n.serial.0 ≡ serial_at b k
serial_of b k n e = ap (λ (x : Node). x.serial.0) e

module _ (b : List ℕ) (x j r : ℕ) (e : r ≡ serial_at b j) where
  pub like_no : r ≡ x → unlike b x j ≡ false
  like_no q = ap not (eq-eqb (serial_at b j) x (sym e ∙ q))

  pub unlike_yes : (r ≡ x → ⊥) → unlike b x j ≡ true
  unlike_yes q = ap not (ne_eqb (serial_at b j) x (λ z. q (e ∙ z)))

module _ (b : List ℕ) (k x : ℕ) (e : x ≡ serial_at b k) where
  pub once_none : x ≡ 0 → true ≡ once_test b k
  unfolding once_test
  once_none q = sym (ap (λ (c : Bool). c || all_to (unlike b (serial_at b k)) k) (eq-eqb (serial_at b k) 0 (sym e ∙ q)))

  pub once_new : (x ≡ 0 → ⊥) → (r : Bool) → r ≡ all_to (unlike b x) k → r ≡ once_test b k
  unfolding once_test
  once_new q r h = h ∙ ap (λ (y : ℕ). all_to (unlike b y) k) e ∙ sym (ap (λ (c : Bool). c || all_to (unlike b (serial_at b k)) k) (ne_eqb (serial_at b k) 0 (λ z. q (e ∙ z))))
