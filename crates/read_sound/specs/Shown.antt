-- What an answer's fields say, in the ledger's terms: the number, and the value or what stands for it. Assumes nothing.
use Rattle.std.specs.Prelude.{None, Option, Some, ℕ, Bool, List, ℤ}
use Rattle.kinds.specs.declared.Handle.{Handle as Packed}
use Rattle.ledger_spec.specs.Bench.{Handle}
use Rattle.ledger_spec.specs.Named.{handle_named}
use Rattle.read_sound.specs.declared.Weighed.{Weighed}
use Rattle.read_sound.specs.declared.Counted.{Counted}
use Rattle.read_sound.specs.declared.Belongs.{Belongs}
use Rattle.read_sound.specs.declared.Indexed.{Indexed}
use Rattle.read_sound.specs.declared.Ancestor.{Ancestor}
use Rattle.read_sound.specs.declared.Second.{Second}
use Rattle.read_sound.specs.declared.Represented.{Represented}

abbrev pub maybe : Option Packed → Option Handle
maybe None = None
maybe (Some h) = Some (handle_named h)

abbrev pub shown_weight : Weighed → ℕ × ℤ
shown_weight r = (r.number, r.weight)

abbrev pub shown_count : Counted → ℕ × ℕ
shown_count r = (r.number, r.count)

abbrev pub shown_belongs : Belongs → ℕ × Bool
shown_belongs r = (r.number, r.inside)

abbrev pub shown_node : Indexed → ℕ × Option Handle
shown_node r = (r.number, maybe r.node)

abbrev pub shown_ancestor : Ancestor → ℕ × (Handle × ℕ)
shown_ancestor r = (r.number, (handle_named r.node, r.links))

abbrev pub shown_second : Second → ℕ × Handle
shown_second r = (r.number, handle_named r.node)

abbrev pub shown_vertex : Represented → ℕ × ℕ
shown_vertex r = (r.number, r.vertex.0)

-- with the lent list as it is left
abbrev pub shown_vertices : Counted → List ℕ → ℕ × (ℕ × List ℕ)
shown_vertices r out = (r.number, (r.count, out))
