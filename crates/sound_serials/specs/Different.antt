-- The test that serials are all different: none but 0 stands in an earlier slot. Assumes nothing.
use Rattle.std.specs.Prelude.{ℕ, ◌%◌, ◌≡◌, Bool, true, not, ◌||◌, List, eqb, length, get_or}
use Rattle.bench_words.specs.Store.{node_at}
use Rattle.sound_trees.specs.Below.{all_to}

abbrev pub serial_at : List ℕ → ℕ → ℕ
serial_at b k = (node_at b k).serial.0

abbrev pub unlike : List ℕ → ℕ → ℕ → Bool
unlike b x j = not (eqb (serial_at b j) x)

unfoldable pub once_test : List ℕ → ℕ → Bool
once_test b k = eqb (serial_at b k) 0 || all_to (unlike b (serial_at b k)) k

-- the marks t after serial x was marked too: r says whether its remainder was free
pub record Marks (t : List ℕ) (x : ℕ) (t' : List ℕ) (r : Bool) : Type 0 where
  pub long : length t' ≡ length t
  pub kept : (i : ℕ) → get_or t i 0 ≡ 1 → get_or t' i 0 ≡ 1
  pub mine : r ≡ true → (x ≡ 0 → ⊥) → get_or t' (x % 512) 0 ≡ 1
  pub free : r ≡ true → (x ≡ 0 → ⊥) → get_or t (x % 512) 0 ≡ 0
