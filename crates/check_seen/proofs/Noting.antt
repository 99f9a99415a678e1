-- A vertex noted where its bits lead: one word more names an entry, and every entry is led to as before. Assumes nothing.
use Prim.Native.Nat.{ℕ, zero, suc, ◌+◌, ◌*◌, ◌/◌, ◌%◌, ◌<◌}
use mathlib.Core.Path.{◌≡◌, refl, ap, ap₂, sym, ◌∙◌, subst}
use mathlib.Core.Logic.{by_cases}
use mathlib.Core.List.{List, ◌∷◌}
use native.Mathlib.Decide.{ℕ_discrete}
use native.Mathlib.Numerals.{add-one}
use native.Mathlib.Omega.{arith}
use lib.ListN.{length, get_or, set, length-set}
use lib.Seq.{get_or-set_same, get_or-set_other}
use Rattle.check_seen.specs.Met.{vertex, known, Leads, there, onward, Names, Keeps}
use Rattle.check_seen.proofs.Looking.{Grown, Looked}

-- ---- what is known depends on the vertices
pub known_same : (s t : List ℕ) (n : ℕ) → ((j : ℕ) → j < n → vertex s j ≡ vertex t j) → known s n ≡ known t n
unfolding known
known_same s t zero e = refl
known_same s t (suc n) e = ap₂ (λ (v : ℕ) (l : List ℕ). v ∷ l) (e n (omega arith)) (known_same s t n (λ j h. e j (omega arith)))

pub known_more : (t : List ℕ) (n : ℕ) → known t (n + 1) ≡ vertex t n ∷ known t n
unfolding known
known_more t n = ap (known t) (add-one n)

led_grown : {t u : List ℕ} {c r j : ℕ} → Grown t u → Leads t c r j → Leads u c r j
led_grown {c = c} {j = j} g (there e) = there (g c j e)
led_grown {c = c} g (onward q e w) = onward q (g c q e) (led_grown g w)

-- ---- one entry more
module _ (t : List ℕ) (n v cell rest p : ℕ) (K : Keeps t n) (few : n < 512) (L : Looked t n v cell rest p) (z : p ≡ 0) where
  abbrev pub after : List ℕ
  after = set (set t cell (n + 1)) (512 + 3 * n) v

  empty : get_or t cell 0 ≡ 0
  empty = sym L.read ∙ z

  length_mid : length (set t cell (n + 1)) ≡ 2048
  length_mid = length-set t cell (n + 1) ∙ K.long

  else : (c : ℕ) → (c ≡ cell → ⊥) → (c ≡ 512 + 3 * n → ⊥) → get_or after c 0 ≡ get_or t c 0
  else c x y = get_or-set_other (set t cell (n + 1)) (512 + 3 * n) c v 0 y ∙ get_or-set_other t cell c (n + 1) 0 x

  cell_now : get_or after cell 0 ≡ suc n
  cell_now = get_or-set_other (set t cell (n + 1)) (512 + 3 * n) cell v 0 (λ e. L.names n e) ∙ get_or-set_same t cell (n + 1) 0 (omega (arith, K.long, L.low, few)) ∙ add-one n

  vertex_new : vertex after n ≡ v
  vertex_new = get_or-set_same (set t cell (n + 1)) (512 + 3 * n) v 0 (omega (arith, length_mid, few))

  vertex_old : (j : ℕ) → j < n → vertex after j ≡ vertex t j
  vertex_old j l = else (512 + 3 * j) (λ e. L.names j (sym e)) (λ e. omega arith)

  grown : Grown t after
  grown c q e = else c (λ x. omega (arith, e, empty, ap (λ (k : ℕ). get_or t k 0) x)) (λ x. omega (arith, e, K.blank (512 + 3 * n) (omega arith), ap (λ (k : ℕ). get_or t k 0) x)) ∙ e

  ahead_now : (c q : ℕ) → Names c → get_or after c 0 ≡ suc q → (q < n + 1) × (c < 512 + 3 * q)
  ahead_now c q a e = by_cases (ℕ_discrete c cell)
      (λ (x : c ≡ cell). let s : q ≡ n = omega (arith, e, cell_now, ap (λ (k : ℕ). get_or after k 0) x) in (omega arith, omega (arith, L.low)))
      (λ (x : c ≡ cell → ⊥). let o = K.ahead c q a (sym (else c x (λ y. a n y)) ∙ e) in (omega (arith, o.0), o.1))

  led_now : (j : ℕ) → j < n + 1 → Leads after (vertex after j % 512) (vertex after j / 512) j
  led_now j l = by_cases (ℕ_discrete j n)
      (λ (e : j ≡ n). subst (λ (x : ℕ). Leads after (vertex after x % 512) (vertex after x / 512) x) (sym e)
      (subst (λ (x : ℕ). Leads after (x % 512) (x / 512) n) (sym vertex_new) (L.way after grown n (there cell_now))))
      (λ (e : j ≡ n → ⊥). let o : j < n = omega arith in subst (λ (x : ℕ). Leads after (x % 512) (x / 512) j) (sym (vertex_old j o)) (led_grown grown (K.led j o)))

  pub kept_now : Keeps after (n + 1)
  kept_now = record {
    long = length-set (set t cell (n + 1)) (512 + 3 * n) v ∙ length_mid;
    ahead = ahead_now;
    led = led_now;
    blank = λ c l. else c (λ e. omega (arith, L.low)) (λ e. omega arith) ∙ K.blank c (omega arith);
  }

  pub noted_is : known after (n + 1) ≡ v ∷ known t n
  noted_is = known_more after n ∙ ap₂ (λ (x : ℕ) (l : List ℕ). x ∷ l) vertex_new (known_same after t n vertex_old)
