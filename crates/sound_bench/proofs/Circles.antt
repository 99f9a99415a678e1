-- A circle followed in words: its members by their place, how often a node stands in it, and its sizes added up. Assumes nothing.
use Prim.Native.Nat.{ℕ, zero, suc, ◌+◌, ◌<◌}
use mathlib.Core.Path.{◌≡◌, refl, sym, ◌∙◌, ap, ap₂}
use mathlib.Core.Bool.{Bool, true, false}
use mathlib.Core.Logic.{◌⊎◌, inl, inr}
use native.Mathlib.Omega.{arith}
use lib.ListN.{length}
use Rattle.bench_words.specs.declared.Node.{Node}
use Rattle.ledger_spec.specs.Bench.{Handle, Member, Bench}
use Rattle.ledger_spec.specs.Look.{node_named, same_handle}
use Rattle.ledger_spec.specs.Deeds.{size_of, sizes}
use Rattle.ledger_spec.specs.SoundTree.{tally}
use Rattle.ledger_spec.specs.Knit.{nodes, In, here, there}
use Rattle.ledger_spec.proofs.Lists.{not_in_nil, in_cases, tally_yes, tally_no}
use Rattle.ledger_spec.proofs.Knit.{same_handle_lem, same_self}
use Rattle.bench_views.specs.View.{follow, handle_at, member_at}
use Rattle.bench_views.specs.Canon.{walk}
use Rattle.sound_trees.specs.Below.{sum_to}

pub length_follow : (n : ℕ) (A : ℕ → Node) (p : ℕ) → length (follow n A p) ≡ n
unfolding follow
length_follow zero A p = refl
length_follow (suc n) A p = ap suc (length_follow n A (A p).next)

walk_next : (i : ℕ) (A : ℕ → Node) (p : ℕ) → walk i A (A p).next ≡ walk (suc i) A p
unfolding walk
walk_next zero A p = refl
walk_next (suc i) A p = ap (λ (q : ℕ). (A q).next) (walk_next i A p)

-- ---- who stands in a circle
pub member_at_lem : (n : ℕ) (A : ℕ → Node) (p : ℕ) {m : Member} → In m (follow n A p) → (i : ℕ) × (i < n) × (m ≡ member_at A (walk i A p))
unfolding follow walk
member_at_lem zero A p i = absurd (not_in_nil i)
member_at_lem (suc n) A p {m} i = go (in_cases i) (member_at_lem n A (A p).next)
  where
    go : (m ≡ member_at A p) ⊎ In m (follow n A (A p).next) → (In m (follow n A (A p).next) → (i : ℕ) × (i < n) × (m ≡ member_at A (walk i A (A p).next))) → (i : ℕ) × (i < suc n) × (m ≡ member_at A (walk i A p))
    go (inl e) ih = (zero, omega arith, e)
    go (inr j) ih = let r = ih j in (suc r.0, omega (arith, r.1), r.2 ∙ ap (member_at A) (walk_next r.0 A p))

pub node_at_lem : (n : ℕ) (A : ℕ → Node) (p : ℕ) {h : Handle} → In h (nodes (follow n A p)) → (i : ℕ) × (i < n) × (h ≡ handle_at A (walk i A p))
unfolding follow walk
node_at_lem zero A p i = absurd (not_in_nil i)
node_at_lem (suc n) A p {h} i = go (in_cases i) (node_at_lem n A (A p).next)
  where
    go : (h ≡ handle_at A p) ⊎ In h (nodes (follow n A (A p).next)) → (In h (nodes (follow n A (A p).next)) → (i : ℕ) × (i < n) × (h ≡ handle_at A (walk i A (A p).next))) → (i : ℕ) × (i < suc n) × (h ≡ handle_at A (walk i A p))
    go (inl e) ih = (zero, omega arith, e)
    go (inr j) ih = let r = ih j in (suc r.0, omega (arith, r.1), r.2 ∙ ap (handle_at A) (walk_next r.0 A p))

pub in_follow : (n i : ℕ) (A : ℕ → Node) (p : ℕ) → i < n → In (member_at A (walk i A p)) (follow n A p)
unfolding follow walk
in_follow zero i A p l = absurd (omega arith)
in_follow (suc n) zero A p l = here refl
in_follow (suc n) (suc i) A p l = there (go (walk_next i A p) (in_follow n i A (A p).next (omega arith)))
  where
    go : {q r : ℕ} → q ≡ r → In (member_at A q) (follow n A (A p).next) → In (member_at A r) (follow n A (A p).next)
    go e j = rw (sym e) j

pub in_nodes : (n i : ℕ) (A : ℕ → Node) (p : ℕ) → i < n → In (handle_at A (walk i A p)) (nodes (follow n A p))
unfolding follow walk
in_nodes zero i A p l = absurd (omega arith)
in_nodes (suc n) zero A p l = here refl
in_nodes (suc n) (suc i) A p l = there (go (walk_next i A p) (in_nodes n i A (A p).next (omega arith)))
  where
    go : {q r : ℕ} → q ≡ r → In (handle_at A q) (nodes (follow n A (A p).next)) → In (handle_at A r) (nodes (follow n A (A p).next))
    go e j = rw (sym e) j

-- ---- how often
unlike : (h g : Handle) → (g ≡ h → ⊥) → same_handle h g ≡ false
unlike h g ne = go (same_handle h g) refl
  where
    go : (c : Bool) → same_handle h g ≡ c → same_handle h g ≡ false
    go true e = absurd (ne (sym (same_handle_lem h g e)))
    go false e = e

never : (n : ℕ) (A : ℕ → Node) (p : ℕ) (h : Handle) → ((i : ℕ) → i < n → handle_at A (walk i A p) ≡ h → ⊥) → tally (same_handle h) (nodes (follow n A p)) ≡ 0
unfolding follow walk tally
never zero A p h k = refl
never (suc n) A p h k = tally_no (same_handle h) (handle_at A p) (nodes (follow n A (A p).next)) (unlike h (handle_at A p) (λ e. k zero (omega arith) e))
    ∙ never n A (A p).next h (λ i l e. k (suc i) (omega arith) (ap (handle_at A) (sym (walk_next i A p)) ∙ e))

pub once : (n : ℕ) (A : ℕ → Node) (p : ℕ) (h : Handle) (j : ℕ) → j < n → handle_at A (walk j A p) ≡ h → ((i : ℕ) → i < n → handle_at A (walk i A p) ≡ h → i ≡ j) → tally (same_handle h) (nodes (follow n A p)) ≡ 1
unfolding follow walk tally
once zero A p h j l e k = absurd (omega arith)
once (suc n) A p h zero l e k = tally_yes (same_handle h) (handle_at A p) (nodes (follow n A (A p).next)) (ap (same_handle h) e ∙ same_self h)
    ∙ ap suc (never n A (A p).next h (λ i m q. omega (arith, k (suc i) (omega arith) (ap (handle_at A) (sym (walk_next i A p)) ∙ q))))
once (suc n) A p h (suc j) l e k = tally_no (same_handle h) (handle_at A p) (nodes (follow n A (A p).next)) (unlike h (handle_at A p) (λ q. omega (arith, k zero (omega arith) q)))
    ∙ once n A (A p).next h j (omega arith) (ap (handle_at A) (walk_next j A p) ∙ e) (λ i m q. down (k (suc i) (omega arith) (ap (handle_at A) (sym (walk_next i A p)) ∙ q)))
  where
    down : {x y : ℕ} → suc x ≡ suc y → x ≡ y
    down q = omega arith

-- ---- sizes
shift : (f : ℕ → ℕ) (n : ℕ) → sum_to f (suc n) ≡ f 0 + sum_to (λ i. f (suc i)) n
unfolding sum_to
shift f zero = omega arith
shift f (suc n) = omega (arith, shift f n)

pub sizes_follow : (b : Bench) (n : ℕ) (A : ℕ → Node) (p : ℕ) → ((i : ℕ) → i < n → size_of (node_named b (handle_at A (walk i A p))) ≡ (A (walk i A p)).size) → sizes b (nodes (follow n A p)) ≡ sum_to (λ i. (A (walk i A p)).size) n
unfolding follow walk sizes sum_to
sizes_follow b zero A p h = refl
sizes_follow b (suc n) A p h =
    ap₂ ◌+◌ (h zero (omega arith)) (sizes_follow b n A (A p).next (λ i l. ap (λ (q : ℕ). size_of (node_named b (handle_at A q))) (walk_next i A p) ∙ h (suc i) (omega arith) ∙ ap (λ (q : ℕ). (A q).size) (sym (walk_next i A p)))
    ∙ same n)
    ∙ sym (shift (λ i. (A (walk i A p)).size) n)
  where
    same : (m : ℕ) → sum_to (λ i. (A (walk i A (A p).next)).size) m ≡ sum_to (λ i. (A (walk (suc i) A p)).size) m
    same zero = refl
    same (suc m) = ap₂ ◌+◌ (same m) (ap (λ (q : ℕ). (A q).size) (walk_next m A p))
