-- A sound bench, first half: the interfaces and how they are linked into trees, as tests that compute. Assumes nothing.
use Rattle.std.specs.Prelude.{ℕ, suc, ◌+◌, Bool, true, false, not, ◌&&◌, ◌||◌, List, [], ◌∷◌, length, eqb, leb, ltb, pos, nat_abs, None, Option, Some}
use Rattle.std.specs.Int.Signed.{le_z}
use Rattle.ledger_spec.specs.Numbers.{progress_limit, slot_limit}
use Rattle.ledger_spec.specs.Bench.{Bench}
use Rattle.ledger_spec.specs.Look.{interface}

unfoldable pub all : {A : Type 0} → (A → Bool) → List A → Bool
all p [] = true
all p (x ∷ xs) = p x && all p xs

abbrev pub units : List ℕ
units = 0 ∷ 1 ∷ 2 ∷ 3 ∷ 4 ∷ 5 ∷ 6 ∷ 7 ∷ []

-- how often p holds
unfoldable pub tally : {A : Type 0} → (A → Bool) → List A → ℕ
tally p [] = 0
tally p (x ∷ xs) = elim (p x) [ true ↦ suc (tally p xs) | false ↦ tally p xs ]

abbrev pub is_parent : Option ℕ → ℕ → Bool
is_parent None u = false
is_parent (Some p) u = eqb p u

abbrev pub is_half : Option (ℕ × ℕ) → ℕ → Bool
is_half None u = false
is_half (Some lr) u = eqb lr.0 u || eqb lr.1 u

-- links of interface u, up and down
unfoldable pub links_up : Bench → ℕ → Bool
links_up b u = elim (interface b u).parent [ None ↦ true | Some p ↦ ltb u p && (leb p 7 && is_half (interface b p).halves u) ]

unfoldable pub links_down : Bench → ℕ → Bool
links_down b u = elim (interface b u).halves [
  | None ↦ true
  | Some lr ↦ (not (eqb lr.0 lr.1) && (ltb lr.0 u && ltb lr.1 u)) && (is_parent (interface b lr.0).parent u && is_parent (interface b lr.1).parent u)
]

unfoldable pub sound_interface : Bench → ℕ → Bool
sound_interface b u = (leb (length (interface b u).slots) slot_limit && (le_z (pos 0) (interface b u).progress && le_z (interface b u).progress (pos progress_limit)))
    && (links_up b u && links_down b u)

-- W: the progress of an interface and of all below it
unfoldable pub reach : Bench → List ℕ → ℕ
reach b [] = 0
reach b (u ∷ us) = nat_abs (interface b u).progress + reach b us
