-- A list changed at a place; where a vertex stands among stops; and what becomes of two stops at one vertex. Assumes nothing.
use Rattle.std.specs.Prelude.{None, Option, Some, ℕ, suc, cond, List, [], ◌∷◌, ◌++◌, eqb, ltb, take, drop}
use Rattle.kinds.specs.declared.Pair.{Pair}
use Rattle.kinds.specs.Names.{same_code}
use Rattle.kinds.specs.declared.Stop.{Stop}
use Rattle.group_stops.specs.declared.Spot.{Spot}
use Rattle.group_stops.specs.declared.Spot.TheVariants.{Free, Held}
use Rattle.group_stops.specs.declared.Meeting.{Meeting}
use Rattle.group_stops.specs.declared.Meeting.TheVariants.{Keep, Replace, Join}

abbrev pub inserted_at : {A : Type 0} → ℕ → A → List A → List A
inserted_at p x s = take p s ++ x ∷ drop p s

-- what comes after place p
abbrev pub after_at : {A : Type 0} → ℕ → List A → List A
after_at p s = drop (suc p) s

abbrev pub removed_at : {A : Type 0} → ℕ → List A → List A
removed_at p s = take p s ++ drop (suc p) s

-- the first stop whose vertex is not below v, counted from i: it is pending at v, or v is free there
unfoldable pub spot_of : ℕ → ℕ → List Stop → Spot
spot_of i v [] = Free i
spot_of i v (y ∷ s) = cond (ltb v y.vertex.0) (Free i) (cond (eqb v y.vertex.0) (Held i y) (spot_of (suc i) v s))

unfoldable pub meeting_of : Option Pair → Option Pair → Meeting
meeting_of None q = Keep
meeting_of (Some p) None = Replace
meeting_of (Some p) (Some q) = cond (same_code p.node q.node) Keep (Join p q)
