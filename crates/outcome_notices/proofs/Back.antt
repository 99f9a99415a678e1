-- The value of a list of notices stands for that list: nothing that a call tells is lost. And a list has one value. Assumes nothing.
use Prim.Native.Nat.{◌-◌}
use mathlib.Core.Path.{◌≡◌, refl, ap, ap₂, sym, ◌∙◌, subst}
use mathlib.Core.List.{List, [], ◌∷◌, ◌++◌, map, append-nil}
use lib.ListN.{length, replicate}
use lib.Seq.{take-append_seam}
use Rattle.kinds.specs.Names.{no_code}
use Rattle.kinds.specs.declared.GrowState.{GrowState}
use Rattle.kinds.specs.declared.GrowState.TheVariants.{Grow, Stay, Shrink}
use Rattle.ledger_spec.specs.Bench.{Handle, State, grows, stays, shrinks, Bench}
use Rattle.ledger_spec.specs.Named.{handle_named, state_named}
use Rattle.ledger_spec.specs.Look.{node_named}
use Rattle.ledger_spec.specs.Deeds.{new_handle, members}
use Rattle.ledger_spec.specs.Calls.{Call, Defect, Blossom, Expand, SetState, Grow as Growing, Fuse, Clear, Mark}
use Rattle.ledger_spec.specs.Notices.{Notice, state_set, shrink_prepared, blossom_added, tells}
use Rattle.outcome_notices.specs.Laid.{packed, state_code, code, entry, blank, circle_in, laid, meant, circle_of, notices_of}
use Rattle.outcome_notices.specs.declared.Notices.{Notices}
use Rattle.outcome_notices.specs.declared.Told.{Told}
use Rattle.outcome_notices.proofs.Telling.{circle_made}

pub state_back : (s : GrowState) → state_code (state_named s) ≡ s
state_back Grow = refl
state_back Stay = refl
state_back Shrink = refl

state_named_lem : (s : State) → state_named (state_code s) ≡ s
state_named_lem grows = refl
state_named_lem stays = refl
state_named_lem shrinks = refl

-- every notice comes back, its circle being hs
unfoldable Round : List Handle → List Notice → Type 0
Round hs [] = Unit
Round hs (n ∷ ns) = (meant hs (code n) ≡ n) × Round hs ns

states_round : (hs gs : List Handle) (s : State) (ns : List Notice) → Round hs ns → Round hs (map (λ (g : Handle). state_set g s) gs ++ ns)
unfolding Round
states_round hs [] s ns r = r
states_round hs (g ∷ gs) s ns r = (ap (state_set g) (state_named_lem s), states_round hs gs s ns r)

handles_back : (hs : List Handle) → map handle_named (map packed hs) ≡ hs
handles_back [] = refl
handles_back (h ∷ hs) = ap (λ (l : List Handle). h ∷ l) (handles_back hs)

notices_back : (hs : List Handle) (ns : List Notice) → Round hs ns → map (λ (t : Told). meant hs t.notice) (map entry ns) ≡ ns
unfolding Round
notices_back hs [] r = refl
notices_back hs (n ∷ ns) r = ap₂ (λ (x : Notice) (l : List Notice). x ∷ l) r.0 (notices_back hs ns r.1)

circle_back : (ns : List Notice) → circle_of (laid ns) ≡ circle_in ns
unfolding laid
circle_back ns =
    let hs = map packed (circle_in ns) in
    ap (map handle_named) (take-append_seam hs (replicate (64 - length hs) no_code)) ∙ handles_back (circle_in ns)

list_back : (ns : List Notice) → Round (circle_in ns) ns → notices_of (laid ns) ≡ ns
unfolding laid notices_of
list_back ns r =
    let ts = map entry ns in
    ap₂ (λ (hs : List Handle) (l : List Told). map (λ (t : Told). meant hs t.notice) l) (circle_back ns) (take-append_seam ts (replicate (66 - length ts) blank))
    ∙ notices_back (circle_in ns) ns r

tells_round : (b : Bench) (c : Call) → Round (circle_in (tells b c)) (tells b c)
unfolding Round circle_in tells
tells_round b (Defect u v) = (refl, tt)
tells_round b (Blossom u hs ts) =
    let ends : List Notice = shrink_prepared hs ∷ blossom_added (new_handle b u) ∷ [] in
    subst (λ (l : List Handle). Round l (map (λ (h : Handle). state_set h stays) hs ++ ends)) (sym (circle_made hs hs (blossom_added (new_handle b u) ∷ []))) (states_round hs hs stays ends (refl, (refl, tt)))
tells_round b (Expand u h) =
    let gs = members (node_named b h) in
    let ns = map (λ (g : Handle). state_set g grows) gs in
    (refl, subst (Round (circle_in ns)) (append-nil ns) (states_round (circle_in ns) gs grows [] tt))
tells_round b (SetState u h s) = (ap (state_set h) (state_named_lem s), tt)
tells_round b (Growing u l) = (refl, tt)
tells_round b (Fuse p l r) = tt
tells_round b (Clear u) = tt
tells_round b (Mark u k) = tt

-- what a call tells, read back off its value
pub told_back : (b : Bench) (c : Call) → notices_of (laid (tells b c)) ≡ tells b c
told_back b c = list_back (tells b c) (tells_round b c)

-- two values that meet a contract are one
pub only_value : (ns : List Notice) (r s : Notices) → r ≡ laid ns → s ≡ laid ns → r ≡ s
only_value ns r s p q = p ∙ sym q
