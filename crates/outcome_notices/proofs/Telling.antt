-- What the two loops have told after i members, one member more, and at their ends: the lists of a blossom made and of one expanded. Assumes nothing.
use Prim.Native.Nat.{ℕ, zero, suc, ◌+◌, ◌/◌, ◌%◌, ◌<◌, ◌≤◌}
use mathlib.Core.Path.{◌≡◌, refl, ap, ap₂, sym, ◌∙◌}
use mathlib.Core.List.{List, [], ◌∷◌, ◌++◌, map, map-append, map-map}
use native.Mathlib.Numerals.{add-one}
use native.Mathlib.Omega.{arith}
use lib.ListN.{length, take, get_or, set, length-append, length-map}
use lib.Seq.{length-take-le, take_all, append_snoc}
use Rattle.kinds.specs.Names.{no_code}
use Rattle.kinds.specs.declared.Handle.{Handle as Packed}
use Rattle.kinds.specs.declared.GrowState.TheVariants.{Grow, Stay}
use Rattle.kinds.specs.declared.Notice.TheVariants.{StateSet, ShrinkPrepared, BlossomAdded, BlossomRemoved}
use Rattle.bench_words.specs.declared.Node.{Node}
use Rattle.ledger_spec.specs.Bench.{Handle, grows, stays}
use Rattle.ledger_spec.specs.Named.{handle_named}
use Rattle.ledger_spec.specs.Notices.{Notice, state_set, shrink_prepared, blossom_added, blossom_removed}
use Rattle.ledger_spec.specs.Knit.{nodes}
use Rattle.bench_views.specs.View.{follow, handle_at}
use Rattle.bench_views.specs.Canon.{walk}
use Rattle.bench_views.specs.Given.{hand_given}
use Rattle.outcome_notices.specs.Laid.{packed, entry, blank, circle_in, pad, filled, laid}
use Rattle.outcome_notices.specs.Lists.{blossom_made}
use Rattle.outcome_notices.specs.declared.Told.{Told}
use Rattle.outcome_notices.specs.declared.Notices.{Notices}
use Rattle.outcome_notices.proofs.Pads.{pad_set, map_more}

-- told so far, the counts not yet set
abbrev pub halfway : List Told → List Packed → Notices
halfway ts hs = record { told = pad blank 66 ts; count = 0; circle = pad no_code 64 hs; members = 0 }

abbrev pub told : List Told → List Packed → ℕ → ℕ → Notices
told ts hs n m = record { told = ts; count = n; circle = hs; members = m }

pub begun : (r : Notices) → r ≡ laid [] → r ≡ halfway [] []
unfolding laid circle_in
begun r e = e

-- ---- a blossom's members stay
abbrev pub stay : ℕ → Told
stay w = entry (state_set (hand_given w) stays)

abbrev pub hand_of : ℕ → Packed
hand_of w = packed (hand_given w)

long : {B : Type 0} (f : ℕ → B) (ms : List ℕ) (i : ℕ) → i ≤ length ms → length (map f (take i ms)) ≡ i
long f ms i l = length-map (take i ms) f ∙ length-take-le i ms l

pub stay_more : (ms : List ℕ) (i : ℕ) (r : Notices) (h : Packed) → i < length ms → i < 64 → r ≡ halfway (map stay (take i ms)) (map hand_of (take i ms)) → h ≡ hand_of (get_or ms i 0)
    → told (set r.told i (record { notice = StateSet h Stay })) (set r.circle i h) r.count r.members ≡ halfway (map stay (take (i + 1) ms)) (map hand_of (take (i + 1) ms))
stay_more ms i r h l k e q =
    ap₂ (λ (x : Notices) (g : Packed). told (set x.told i (record { notice = StateSet g Stay })) (set x.circle i g) x.count x.members) e q
    ∙ ap₂ (λ (ts : List Told) (hs : List Packed). told ts hs 0 0)
    (pad_set blank 66 i (map stay (take i ms)) (stay (get_or ms i 0)) (omega arith) (long stay ms i (omega arith)) ∙ ap (pad blank 66) (sym (map_more stay ms i 0 l)))
    (pad_set no_code 64 i (map hand_of (take i ms)) (hand_of (get_or ms i 0)) k (long hand_of ms i (omega arith)) ∙ ap (pad no_code 64) (sym (map_more hand_of ms i 0 l)))

-- the circle that is told
pub circle_made : (hs gs : List Handle) (ns : List Notice) → circle_in (map (λ (h : Handle). state_set h stays) gs ++ (shrink_prepared hs ∷ ns)) ≡ hs
unfolding circle_in
circle_made hs [] ns = refl
circle_made hs (g ∷ gs) ns = circle_made hs gs ns

laid_made : (ms : List ℕ) (q : Packed) → laid (blossom_made (map hand_given ms) (handle_named q)) ≡ filled (map stay ms ++ (record { notice = ShrinkPrepared } ∷ record { notice = BlossomAdded q } ∷ [])) (map hand_of ms)
unfolding laid
laid_made ms q =
    let hs = map hand_given ms in
    let ends : List Notice = shrink_prepared hs ∷ blossom_added (handle_named q) ∷ [] in
    ap₂ filled
    (map-append entry (map (λ (h : Handle). state_set h stays) hs) ends
    ∙ ap (λ (l : List Told). l ++ map entry ends) (ap (map entry) (map-map (λ (h : Handle). state_set h stays) hand_given ms) ∙ map-map entry (λ (w : ℕ). state_set (hand_given w) stays) ms))
    (ap (map packed) (circle_made hs hs (blossom_added (handle_named q) ∷ [])) ∙ map-map packed hand_given ms)

pub stay_ends : (ms : List ℕ) (q : Packed) (i : ℕ) (r : Notices) → length ms ≤ 64 → i ≡ length ms → r ≡ halfway (map stay (take i ms)) (map hand_of (take i ms))
    → told (set (set r.told (length ms) (record { notice = ShrinkPrepared })) (length ms + 1) (record { notice = BlossomAdded q })) r.circle (length ms + 2) (length ms) ≡ laid (blossom_made (map hand_given ms) (handle_named q))
stay_ends ms q i r k n e = ap (λ (x : Notices). told (set (set x.told (length ms) s) (length ms + 1) a) x.circle (length ms + 2) (length ms)) (e ∙ whole) ∙ ends ∙ sym (laid_made ms q)
  where
    s : Told
    s = record { notice = ShrinkPrepared }

    a : Told
    a = record { notice = BlossomAdded q }

    ts : List Told
    ts = map stay ms

    whole : halfway (map stay (take i ms)) (map hand_of (take i ms)) ≡ halfway (map stay ms) (map hand_of ms)
    whole = ap (λ (l : List ℕ). halfway (map stay l) (map hand_of l)) (take_all i ms (omega arith))

    here : length (map stay ms) ≡ length ms
    here = length-map ms stay

    next : length (map stay ms ++ (s ∷ [])) ≡ length ms + 1
    next = length-append (map stay ms) (s ∷ []) ∙ ap (λ (x : ℕ). x + 1) here

    ends : told (set (set (pad blank 66 (map stay ms)) (length ms) s) (length ms + 1) a) (pad no_code 64 (map hand_of ms)) (length ms + 2) (length ms) ≡ filled (map stay ms ++ (s ∷ a ∷ [])) (map hand_of ms)
    ends = λ j. record { told = all j; count = counted j; circle = pad no_code 64 (map hand_of ms); members = sym (length-map ms hand_of) j }
      where
        all : set (set (pad blank 66 (map stay ms)) (length ms) s) (length ms + 1) a ≡ pad blank 66 (map stay ms ++ (s ∷ a ∷ []))
        all = ap (λ (l : List Told). set l (length ms + 1) a) (pad_set blank 66 (length ms) (map stay ms) s (omega arith) here)
            ∙ pad_set blank 66 (length ms + 1) (map stay ms ++ (s ∷ [])) a (omega arith) next
            ∙ ap (pad blank 66) (append_snoc (map stay ms) s (a ∷ []))

        counted : length ms + 2 ≡ length (map stay ms ++ (s ∷ a ∷ []))
        counted = sym (length-append (map stay ms) (s ∷ a ∷ []) ∙ ap (λ (x : ℕ). x + 2) here)

-- ---- an expanded blossom's members grow
abbrev pub grow : Handle → Told
grow g = entry (state_set g grows)

abbrev pub removed : Packed → Told
removed h = record { notice = BlossomRemoved h }

pub walk_none : (A : ℕ → Node) (k : ℕ) → k ≡ walk 0 A k
unfolding walk
walk_none A k = refl

pub walk_more : (A : ℕ → Node) (k i p : ℕ) (m : Node) → p ≡ walk i A k → m ≡ A p → m.next ≡ walk (i + 1) A k
unfolding walk
walk_more A k i p m at load = ap (λ (n : Node). n.next) (load ∙ ap A at) ∙ ap (λ (j : ℕ). walk j A k) (sym (add-one i))

walk_next : (i : ℕ) (A : ℕ → Node) (k : ℕ) → walk i A (A k).next ≡ walk (suc i) A k
unfolding walk
walk_next zero A k = refl
walk_next (suc i) A k = ap (λ (p : ℕ). (A p).next) (walk_next i A k)

abbrev pub past : (ℕ → Node) → ℕ → ℕ → List Told
past A k i = map grow (nodes (follow i A k))

pub past_long : (A : ℕ → Node) (i k : ℕ) → length (past A k i) ≡ i
unfolding follow
past_long A zero k = refl
past_long A (suc i) k = ap suc (past_long A i (A k).next)

-- one member more
pub nodes_suc : (A : ℕ → Node) (i k : ℕ) → nodes (follow (suc i) A k) ≡ nodes (follow i A k) ++ (handle_at A (walk i A k) ∷ [])
unfolding follow walk
nodes_suc A zero k = refl
nodes_suc A (suc i) k =
    ap (λ (l : List Handle). handle_at A k ∷ l) (nodes_suc A i (A k).next)
    ∙ ap (λ (p : ℕ). handle_at A k ∷ (nodes (follow i A (A k).next) ++ (handle_at A p ∷ []))) (walk_next i A k)

past_suc : (A : ℕ → Node) (i k : ℕ) → past A k (suc i) ≡ past A k i ++ (grow (handle_at A (walk i A k)) ∷ [])
past_suc A i k = ap (map grow) (nodes_suc A i k) ∙ map-append grow (nodes (follow i A k)) (handle_at A (walk i A k) ∷ [])

-- the entry that stands first
abbrev pub head : Notices → Told
head r = get_or r.told 0 blank

pub grow_head : (r : Notices) (h : Packed) → r ≡ laid [] → head (told (set r.told 0 (removed h)) r.circle r.count r.members) ≡ removed h
unfolding laid circle_in
grow_head r h e = ap (λ (x : Notices). get_or (set x.told 0 (removed h)) 0 blank) e

pub grow_begins : (r : Notices) (h : Packed) (A : ℕ → Node) (k : ℕ) → r ≡ laid []
    → told (set r.told 0 (removed h)) r.circle r.count r.members ≡ halfway (head (told (set r.told 0 (removed h)) r.circle r.count r.members) ∷ past A k 0) []
unfolding laid circle_in follow
grow_begins r h A k e =
    ap (λ (x : Notices). told (set x.told 0 (removed h)) x.circle x.count x.members) e ∙ ap (λ (t : Told). halfway (t ∷ []) []) (sym (grow_head r h e))

pub grow_more : (r : Notices) (t : Told) (A : ℕ → Node) (k i p : ℕ) (m : Node) → i < 64 → r ≡ halfway (t ∷ past A k i) [] → p ≡ walk i A k → m ≡ A p
    → told (set r.told (i + 1) (record { notice = StateSet (record { unit = p / 64; slot = p % 64; serial = m.serial }) Grow })) r.circle r.count r.members ≡ halfway (t ∷ past A k (i + 1)) []
grow_more r t A k i p m l e at load =
    ap₂ (λ (x : Notices) (n : Node). told (set x.told (i + 1) (record { notice = StateSet (record { unit = p / 64; slot = p % 64; serial = n.serial }) Grow })) x.circle x.count x.members) e load
    ∙ ap (λ (ts : List Told). told ts (pad no_code 64 []) 0 0)
    (pad_set blank 66 (i + 1) (t ∷ past A k i) (grow (handle_at A p)) (omega arith) (ap suc (past_long A i k) ∙ sym (add-one i))
    ∙ ap (λ (q : ℕ). pad blank 66 (t ∷ (past A k i ++ (grow (handle_at A q) ∷ [])))) at
    ∙ ap (λ (ts : List Told). pad blank 66 (t ∷ ts)) (sym (past_suc A i k) ∙ ap (past A k) (sym (add-one i))))

pub circle_none : (gs : List Handle) → circle_in (map (λ (g : Handle). state_set g grows) gs) ≡ []
unfolding circle_in
circle_none [] = refl
circle_none (g ∷ gs) = circle_none gs

laid_gone : (h : Packed) (gs : List Handle) → laid (blossom_removed (handle_named h) ∷ map (λ (g : Handle). state_set g grows) gs) ≡ filled (removed h ∷ map grow gs) []
unfolding laid circle_in
laid_gone h gs = ap₂ (λ (ts : List Told) (hs : List Handle). filled (removed h ∷ ts) (map packed hs)) (map-map entry (λ (g : Handle). state_set g grows) gs) (circle_none gs)

pub grow_ends : (r : Notices) (t : Told) (h : Packed) (A : ℕ → Node) (k i n : ℕ) (gs : List Handle) → r ≡ halfway (t ∷ past A k i) [] → t ≡ removed h → i ≡ n → gs ≡ nodes (follow n A k)
    → told r.told r.circle (n + 1) r.members ≡ laid (blossom_removed (handle_named h) ∷ map (λ (g : Handle). state_set g grows) gs)
grow_ends r t h A k i n gs e f q c =
    ap (λ (x : Notices). told x.told x.circle (n + 1) x.members) (e ∙ ap₂ (λ (x : Told) (j : ℕ). halfway (x ∷ past A k j) []) f q)
    ∙ ap (λ (m : ℕ). told (pad blank 66 (removed h ∷ past A k n)) (pad no_code 64 []) m 0) (add-one n ∙ sym (ap suc (past_long A n k)))
    ∙ ap (λ (l : List Handle). filled (removed h ∷ map grow l) []) (sym c)
    ∙ sym (laid_gone h gs)
