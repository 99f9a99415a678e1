-- The nodes that five words name, by their kind. Assumes nothing.
use Prim.Native.Nat.{ℕ, zero, suc, ◌<◌, ◌≤◌}
use mathlib.Core.Path.{◌≡◌, refl, sym, ◌∙◌}
use mathlib.Core.Bool.{true, false, false≢true}
use mathlib.Core.Logic.{by_cases}
use mathlib.Core.List.{[], ◌∷◌}
use native.Mathlib.Decide.{ℕ_discrete}
use native.Mathlib.Omega.{arith}
use borrow.Author.Tests.{ne_eqb}
use Rattle.bench_words.specs.Codec.{hand_of}
use Rattle.ledger_spec.specs.Bench.{Bench}
use Rattle.ledger_spec.specs.Named.{handle_named}
use Rattle.ledger_spec.specs.Walk.{first_vertex}
use Rattle.ledger_spec.specs.GroupCalls.{handles_of, vertex_of}
use Rattle.group_lent.specs.Forms.{five, is_form, obstacle_of}
use Rattle.group_lent.specs.declared.Five.{Five}

module _ (f : Five) where
  pub names_none : f.kind ≡ 1 → handles_of (obstacle_of f) ≡ []
  unfolding handles_of obstacle_of
  names_none e = rw e

  pub names_four : f.kind ≡ 2 → handles_of (obstacle_of f) ≡ hand_of f.a ∷ hand_of f.b ∷ hand_of f.c ∷ hand_of f.d ∷ []
  unfolding handles_of obstacle_of
  names_four e = rw e

  pub names_two : f.kind ≡ 3 → handles_of (obstacle_of f) ≡ hand_of f.a ∷ hand_of f.b ∷ []
  unfolding handles_of obstacle_of
  names_two e = rw e

  pub names_three : f.kind ≡ 6 → handles_of (obstacle_of f) ≡ hand_of f.a ∷ hand_of f.b ∷ hand_of f.c ∷ []
  unfolding handles_of obstacle_of
  names_three e = rw e

  -- no kind but 4 and 5 is left
  pub names_one : is_form f ≡ true → (f.kind ≡ 1 → ⊥) → (f.kind ≡ 2 → ⊥) → (f.kind ≡ 3 → ⊥) → (f.kind ≡ 6 → ⊥) → handles_of (obstacle_of f) ≡ hand_of f.a ∷ []
  unfolding handles_of obstacle_of is_form
  names_one e p q r s =
      by_cases (ℕ_discrete f.kind 4)
      (λ (z : f.kind ≡ 4). rw z)
      (λ (m : f.kind ≡ 4 → ⊥).
      by_cases (ℕ_discrete f.kind 5)
      (λ (z : f.kind ≡ 5). rw z)
      (λ (n : f.kind ≡ 5 → ⊥).
      let z : is_form f ≡ false = rw (ne_eqb f.kind 1 p, ne_eqb f.kind 2 q, ne_eqb f.kind 3 r, ne_eqb f.kind 4 m, ne_eqb f.kind 5 n, ne_eqb f.kind 6 s) in
      absurd (false≢true (sym z ∙ e))))

  -- ---- the first vertex of a stop's node

  pub vertex_stop : (b : Bench) → is_form f ≡ true → 5 ≤ f.kind → (first_vertex b (handle_named (hand_of f.a))).1 ≡ vertex_of b (obstacle_of f)
  unfolding obstacle_of is_form
  vertex_stop b e h =
      by_cases (ℕ_discrete f.kind 5)
      (λ (z : f.kind ≡ 5). rw z)
      (λ (m : f.kind ≡ 5 → ⊥).
      by_cases (ℕ_discrete f.kind 6)
      (λ (z : f.kind ≡ 6). rw z)
      (λ (n : f.kind ≡ 6 → ⊥).
      let z : is_form f ≡ false =
      rw (ne_eqb f.kind 1 (λ i. omega arith), ne_eqb f.kind 2 (λ i. omega arith), ne_eqb f.kind 3 (λ i. omega arith), ne_eqb f.kind 4 (λ i. omega arith), ne_eqb f.kind 5 m, ne_eqb f.kind 6 n) in
      absurd (false≢true (sym z ∙ e))))

pub vertex_none : (b : Bench) (k a b' c d : ℕ) → k < 5 → 0 ≡ vertex_of b (obstacle_of (five k a b' c d))
unfolding obstacle_of
vertex_none b zero a b' c d h = refl
vertex_none b (suc zero) a b' c d h = refl
vertex_none b (suc (suc zero)) a b' c d h = refl
vertex_none b (suc (suc (suc zero))) a b' c d h = refl
vertex_none b (suc (suc (suc (suc zero)))) a b' c d h = refl
vertex_none b (suc (suc (suc (suc (suc k))))) a b' c d h = absurd (omega arith)
