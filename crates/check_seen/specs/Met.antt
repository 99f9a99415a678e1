-- The vertices met so far as words: what stands where, and what is kept so that no entry is missed. Assumes nothing.
use Rattle.std.specs.Prelude.{ℕ, zero, suc, ◌+◌, ◌*◌, ◌/◌, ◌%◌, ◌<◌, ◌≤◌, ◌≡◌, Bool, false, List, [], ◌∷◌, eqb, length, get_or}
use Rattle.ledger_spec.specs.Tests.{any}

abbrev pub vertex : List ℕ → ℕ → ℕ
vertex t j = get_or t (512 + 3 * j) 0

-- the newest first, as the check's walk has them
unfoldable pub known : List ℕ → ℕ → List ℕ
known t zero = []
known t (suc n) = vertex t n ∷ known t n

-- from a word that names an entry, by the bits of what is left of a vertex, to entry j
pub data Leads (t : List ℕ) : ℕ → ℕ → ℕ → Type 0 where
  there : {c r j : ℕ} → get_or t c 0 ≡ suc j → Leads t c r j
  onward : {c r j : ℕ} (q : ℕ) → get_or t c 0 ≡ suc q → Leads t (512 + 3 * q + 1 + r % 2) (r / 2) j → Leads t c r j

-- the word of no entry's vertex
abbrev pub Names : ℕ → Type 0
Names c = (j : ℕ) → c ≡ 512 + 3 * j → ⊥

-- each entry is led to by its own bits; a word that names an entry names one further on; and past the entries there is nothing
pub record Keeps (t : List ℕ) (n : ℕ) : Type 0 where
  pub long : length t ≡ 2048
  pub ahead : (c q : ℕ) → Names c → get_or t c 0 ≡ suc q → (q < n) × (c < 512 + 3 * q)
  pub led : (j : ℕ) → j < n → Leads t (vertex t j % 512) (vertex t j / 512) j
  pub blank : (c : ℕ) → 512 + 3 * n ≤ c → get_or t c 0 ≡ 0

-- v was met before, or is now the newest
pub record Meets (was : List ℕ) (n v : ℕ) (is : List ℕ) (r : Bool) : Type 0 where
  pub answer : r ≡ any (eqb v) (known was n)
  pub kept : r ≡ false → Keeps is (n + 1)
  pub noted : r ≡ false → known is (n + 1) ≡ v ∷ known was n
