-- A vertex is looked for by its bits: an entry that has it can only be where they lead. Assumes nothing.
use Prim.Native.Nat.{ℕ, zero, suc, ◌+◌, ◌-◌, ◌*◌, ◌/◌, ◌%◌, ◌<◌, ◌≤◌}
use mathlib.Core.Path.{◌≡◌, refl, ap, ap₂, sym, ◌∙◌, subst}
use mathlib.Core.Logic.{by_cases}
use mathlib.Core.Bool.{Bool, true, false, ◌||◌}
use mathlib.Core.List.{List}
use native.Mathlib.Decide.{ℕ_discrete, dec_lt}
use native.Mathlib.Omega.{arith}
use borrow.Author.Tests.{eq-eqb, ne_eqb}
use lib.Dec.{eqb}
use lib.ListN.{get_or, replicate, length-replicate, get_or-replicate, get_or-eq_default}
use Rattle.ledger_spec.specs.Tests.{any}
use Rattle.check_seen.specs.Met.{vertex, known, Leads, there, onward, Names, Keeps}

or_right : (a : Bool) → (a || true) ≡ true
or_right true = refl
or_right false = refl

-- ---- among those known
pub known_yes : (t : List ℕ) (v n j : ℕ) → j < n → vertex t j ≡ v → any (eqb v) (known t n) ≡ true
unfolding any known
known_yes t v zero j l e = absurd (omega arith)
known_yes t v (suc n) j l e = by_cases (ℕ_discrete j n)
    (λ (q : j ≡ n). ap (λ (c : Bool). c || any (eqb v) (known t n)) (eq-eqb v (vertex t n) (sym e ∙ ap (vertex t) q)))
    (λ (q : j ≡ n → ⊥). ap (λ (c : Bool). eqb v (vertex t n) || c) (known_yes t v n j (omega arith) e) ∙ or_right (eqb v (vertex t n)))

pub known_no : (t : List ℕ) (v n : ℕ) → ((j : ℕ) → j < n → vertex t j ≡ v → ⊥) → any (eqb v) (known t n) ≡ false
unfolding any known
known_no t v zero h = refl
known_no t v (suc n) h = ap₂ ◌||◌ (ne_eqb v (vertex t n) (λ e. h n (omega arith) (sym e))) (known_no t v n (λ j l. h j (omega arith)))

-- ---- a word that names no entry leads nowhere, and one that names entry q to q or on from there
stuck : {t : List ℕ} {c r j : ℕ} → get_or t c 0 ≡ 0 → Leads t c r j → ⊥
stuck z (there e) = omega (arith, z, e)
stuck z (onward q e w) = omega (arith, z, e)

led_on : {t : List ℕ} {c r j : ℕ} (q : ℕ) → get_or t c 0 ≡ suc q → (j ≡ q → ⊥) → Leads t c r j → Leads t (512 + 3 * q + 1 + r % 2) (r / 2) j
led_on q e ne (there f) = absurd (ne (omega (arith, e, f)))
led_on {t} {c} {r} {j} q e ne (onward p f w) = let s : p ≡ q = omega (arith, e, f) in subst (λ (x : ℕ). Leads t (512 + 3 * x + 1 + r % 2) (r / 2) j) s w

-- a table that has all entries of another where they were
abbrev pub Grown : List ℕ → List ℕ → Type 0
Grown t u = (c q : ℕ) → get_or t c 0 ≡ suc q → get_or u c 0 ≡ suc q

-- ---- at each turn: the word to look at, and what is left of the vertex
pub record Looked (t : List ℕ) (n v cell rest p : ℕ) : Type 0 where
  pub read : p ≡ get_or t cell 0
  pub low : cell < 512 + 3 * n
  pub names : Names cell
  pub older : (j : ℕ) → j < n → vertex t j ≡ v → Leads t cell rest j
  pub way : (u : List ℕ) → Grown t u → (j : ℕ) → Leads u cell rest j → Leads u (v % 512) (v / 512) j

module _ (t : List ℕ) (n v : ℕ) (K : Keeps t n) where
  pub look_starts : Looked t n v (v % 512) (v / 512) (get_or t (v % 512) 0)
  look_starts = record {
    read = refl;
    low = omega arith;
    names = λ j e. omega arith;
    older = λ j l e. subst (λ (x : ℕ). Leads t (x % 512) (x / 512) j) e (K.led j l);
    way = λ u g j w. w;
  }

  module _ (cell rest p : ℕ) (L : Looked t n v cell rest p) where
    pub look_ends : p ≡ 0 → false ≡ any (eqb v) (known t n)
    look_ends z = sym (known_no t v n (λ j l e. stuck (sym L.read ∙ z) (L.older j l e)))

    module _ (l : 0 < p) where
      abbrev q : ℕ
      q = p - 1

      is : get_or t cell 0 ≡ suc q
      is = omega (arith, L.read)

      on : (q < n) × (cell < 512 + 3 * q)
      on = K.ahead cell q L.names is

      at : 509 + 3 * p ≡ 512 + 3 * q
      at = omega arith

      pub look_few : p ≤ n
      look_few = omega (arith, on.0)

      pub look_falls : cell < 509 + 3 * p + 1 + rest % 2
      look_falls = omega (arith, on.1)

      pub look_found : get_or t (509 + 3 * p) 0 ≡ v → true ≡ any (eqb v) (known t n)
      look_found e = sym (known_yes t v n q on.0 (ap (λ (x : ℕ). get_or t x 0) (sym at) ∙ e))

      pub look_on : (get_or t (509 + 3 * p) 0 ≡ v → ⊥) → Looked t n v (509 + 3 * p + 1 + rest % 2) (rest / 2) (get_or t (509 + 3 * p + 1 + rest % 2) 0)
      look_on ne = subst (λ (x : ℕ). Looked t n v (x + 1 + rest % 2) (rest / 2) (get_or t (x + 1 + rest % 2) 0)) (sym at) (record {
        read = refl;
        low = omega (arith, on.0);
        names = λ j e. omega arith;
        older = λ j m e. led_on q is (λ s. ne (ap (λ (x : ℕ). get_or t x 0) at ∙ ap (vertex t) (sym s) ∙ e)) (L.older j m e);
        way = λ u g j w. L.way u g j (onward q (g cell q is) w);
      })

-- ---- nothing is met yet
pub fresh : Keeps (replicate 2048 0) 0
fresh = record {
  long = length-replicate {A = ℕ} 2048 0;
  ahead = λ c q a e. absurd (omega (arith, e, zero_at c));
  led = λ j l. absurd (omega arith);
  blank = λ c l. zero_at c;
}
  where
    zero_at : (c : ℕ) → get_or {A = ℕ} (replicate 2048 0) c 0 ≡ 0
    zero_at c = by_cases (dec_lt c 2048)
        (λ (l : c < 2048). get_or-replicate {A = ℕ} 2048 c 0 0 l)
        (λ (l : c < 2048 → ⊥). get_or-eq_default {A = ℕ} (replicate 2048 0) 0 {n = c} (omega (arith, length-replicate {A = ℕ} 2048 0)))
