-- What the check finds in a circle, plainly or strictly. Assumes nothing.
use Rattle.std.specs.Prelude.{ℕ, zero, suc, ◌≡◌, Bool, true, false, ◌&&◌, List, [], ◌∷◌, ltb}
use Rattle.bench_words.specs.Store.{node_at}
use Rattle.ledger_spec.specs.Bench.{Handle, Member, Bench}
use Rattle.ledger_spec.specs.Look.{same_handle}
use Rattle.ledger_spec.specs.Named.{handle_named}
use Rattle.ledger_spec.specs.Tests.{stale}
use Rattle.ledger_spec.specs.Walk.{outermost}
use Rattle.ledger_spec.specs.Check.{member_verdict, is_under, strict_member}
use Rattle.bench_views.specs.View.{view, circle_of}
use Rattle.bench_links.specs.Find.{Stands}
use Rattle.check_circles.specs.declared.Finding.{Finding}

abbrev pub larger : ℕ → ℕ → ℕ
larger x y = elim (ltb x y) [ true ↦ y | false ↦ x ]

-- of a defect: 2 if it does not touch by itself; strictly nothing more
unfoldable pub own_by : Bool → Handle → Handle → Handle → ℕ
own_by true m x y = 0
own_by false m x y = elim (same_handle x m && same_handle y m) [ true ↦ 0 | false ↦ 2 ]

-- of a touching handle t of a blossom in the outermost blossom o: 4 if it is gone, 3 if it has another outermost blossom
unfoldable pub touch_verdict : Bench → Handle → Handle → ℕ
touch_verdict b o t = elim (stale b t) [ true ↦ 4 | false ↦ elim (same_handle (outermost b t) o) [ true ↦ 0 | false ↦ 3 ] ]

-- strictly, of a blossom m: 6 if it is not under m
unfoldable pub under_verdict : Bench → Handle → Handle → ℕ
under_verdict b m t = elim (is_under b t m) [ true ↦ 0 | false ↦ 6 ]

unfoldable pub touch_by : Bool → Bench → Handle → Handle → Handle → ℕ
touch_by true b m o t = under_verdict b m t
touch_by false b m o t = touch_verdict b o t

-- of a member, and the first of a circle
unfoldable pub member_by : Bool → Bench → Member → ℕ
member_by true b m = elim (strict_member b m) [ true ↦ 0 | false ↦ 6 ]
member_by false b m = member_verdict b m

unfoldable pub circle_by : Bool → Bench → List Member → ℕ × Handle
circle_by s b [] = (0, record { unit = 0; slot = 0; serial = 0 })
circle_by s b (m ∷ ms) = elim (member_by s b m) [ zero ↦ circle_by s b ms | suc k ↦ (suc k, m.node) ]

pub record Circled (b : List ℕ) (k : ℕ) (s : Bool) (r : Finding) : Type 0 where
  pub found : (r.verdict, handle_named r.node) ≡ circle_by s (view b) (circle_of (node_at b) k)
  pub stands : (r.verdict ≡ 0 → ⊥) → Stands b (handle_named r.node)
