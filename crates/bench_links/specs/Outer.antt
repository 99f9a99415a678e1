-- What the walk up from a node finds. Assumes nothing.
use Rattle.std.specs.Prelude.{ℕ, ◌≤◌, ◌≡◌, List}
use Rattle.ledger_spec.specs.Bench.{Handle}
use Rattle.ledger_spec.specs.Named.{handle_named}
use Rattle.ledger_spec.specs.Walk.{outer_from, links_from, below_from}
use Rattle.bench_views.specs.View.{view}
use Rattle.bench_links.specs.declared.Outer.{Outer}
use Rattle.bench_links.specs.Find.{Stands}

-- the outermost blossom, the last node below it, and the links followed
pub record Outers (b : List ℕ) (h : Handle) (r : Outer) : Type 0 where
  pub node : handle_named r.node ≡ outer_from 512 (view b) h
  pub under : handle_named r.under ≡ below_from 512 (view b) h h
  pub links : r.links ≡ links_from 512 (view b) h
  pub few : r.links ≤ 512
  pub stands : Stands b (handle_named r.node)
