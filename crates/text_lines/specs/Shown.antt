-- What a line says, as `read_line` answers it: the enum's case, and a blossom's serials in the lent slice. Assumes nothing.
use Rattle.std.specs.Prelude.{ℕ, ◌≡◌, List, [], length, None, Some}
use Rattle.std.proofs.lemmas.List.Edits.{sets}
use Rattle.kinds.specs.declared.GrowState.{GrowState}
use Rattle.kinds.specs.declared.GrowState.TheVariants.{Grow as Grows, Stay, Shrink}
use Rattle.ledger_spec.specs.Bench.{State, grows, stays, shrinks}
use Rattle.ledger_spec.specs.Named.{state_named}
use Rattle.ledger_spec.specs.Operations.{D, B, E, S, G, F, C, K}
use Rattle.ledger_spec.specs.Grammar.{Line as Said, wrong}
use Rattle.text_lines.specs.declared.Line.{Line}
use Rattle.text_lines.specs.declared.Line.TheVariants.{Defect, Blossom, Expand, SetState, Grow, Fuse, Clear, Check, Wrong}

abbrev pub state_shown : State → GrowState
state_shown grows = Grows
state_shown stays = Stay
state_shown shrinks = Shrink

abbrev pub line_shown : Said → Line
line_shown (Some (D u v)) = Defect u (record { 0 = v })
line_shown (Some (B u ns)) = Blossom u (length ns)
line_shown (Some (E u n)) = Expand u (record { 0 = n })
line_shown (Some (S u n g)) = SetState u (record { 0 = n }) (state_shown g)
line_shown (Some (G u l)) = Grow u l
line_shown (Some (F p l r)) = Fuse p l r
line_shown (Some (C u)) = Clear u
line_shown (Some (K u)) = Check u
line_shown None = Wrong

abbrev pub serials_in : Said → List ℕ
serials_in (Some (D u v)) = []
serials_in (Some (B u ns)) = ns
serials_in (Some (E u n)) = []
serials_in (Some (S u n g)) = []
serials_in (Some (G u l)) = []
serials_in (Some (F p l r)) = []
serials_in (Some (C u)) = []
serials_in (Some (K u)) = []
serials_in None = []

-- and back: what an answer of the code says, with the serials that were stored
abbrev pub said_by : Line → List ℕ → Said
said_by (Defect u v) ns = Some (D u v.0)
said_by (Blossom u k) ns = Some (B u ns)
said_by (Expand u n) ns = Some (E u n.0)
said_by (SetState u n g) ns = Some (S u n.0 (state_named g))
said_by (Grow u l) ns = Some (G u l)
said_by (Fuse p l r) ns = Some (F p l r)
said_by (Clear u) ns = Some (C u)
said_by (Check u) ns = Some (K u)
said_by Wrong ns = wrong

-- r and the slice after it are those of the line l; `sets` drops what a short slice has no room for
pub record ReadAs (l : Said) (before after : List ℕ) (r : Line) : Type 0 where
  pub line : r ≡ line_shown l
  pub stored : after ≡ sets before 0 (serials_in l)
