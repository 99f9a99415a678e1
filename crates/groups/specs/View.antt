-- The ledger's group as a group by value holds it, and a ledger's group laid into one: what lies past the counts stays, and so do a growth's
-- arrays. Assumes nothing.
use Rattle.std.specs.Prelude.{ℕ, zero, suc, false, List, [], ◌∷◌, ◌++◌, length, drop, pos}
use Rattle.kinds.specs.declared.Entry.{Entry}
use Rattle.kinds.specs.declared.Stop.{Stop}
use Rattle.kinds.specs.declared.Obstacle.TheVariants.{NonZeroGrow}
use Rattle.ledger_spec.specs.Groups.{Group, growth, conflicts}
use Rattle.groups.specs.declared.Kind.{Kind}
use Rattle.groups.specs.declared.Kind.TheVariants.{Growth, Conflicts}
use Rattle.groups.specs.declared.Group.{Group as Code}

-- the first n of an array; a count past the array's end counts what the array does not have as d, so that the count shows
unfoldable pub counted : {A : Type 0} → A → ℕ → List A → List A
counted d zero l = []
counted d (suc n) [] = d ∷ counted d n []
counted d (suc n) (x ∷ l) = x ∷ counted d n l

-- all fields 0: neither of them may stand in a sound group
abbrev pub no_entry : Entry
no_entry = record { obstacle = NonZeroGrow (pos 0) false }

abbrev pub no_stop : Stop
no_stop = record { vertex = record { 0 = 0 }; obstacle = NonZeroGrow (pos 0) false }

abbrev pub list_of : Code → List Entry
list_of g = counted no_entry g.listed g.list

abbrev pub stops_of : Code → List Stop
stops_of g = counted no_stop g.stopped g.stops

abbrev pub viewed : Kind → Code → Group
viewed (Growth l f) g = growth l f
viewed Conflicts g = conflicts (list_of g) (stops_of g)

abbrev pub group_of : Code → Group
group_of g = viewed g.kind g

-- ---- the way back

-- xs over the front of an array; what lies past xs is untouched
abbrev pub over : {A : Type 0} → List A → List A → List A
over xs l = xs ++ drop (length xs) l

abbrev pub laid : Group → Code → Code
laid (growth l f) g = record { kind = Growth l f; list = g.list; stops = g.stops; listed = g.listed; stopped = g.stopped }
laid (conflicts l s) g = record { kind = Conflicts; list = over l g.list; stops = over s g.stops; listed = length l; stopped = length s }
