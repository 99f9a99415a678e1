-- Every text counts the same, replayed by the plain ledger, which tests the whole bench before each answer, and by the one that looks at the next serial
-- alone: a bench that set-up made and calls changed is sound unless its first serial was past 32 bits, and then no call changes it. Assumes nothing.
use Rattle.std.specs.Prelude.{None, Option, Some}
use Prim.Native.Nat.{ℕ, zero, suc, ◌≤◌, ◌^◌}
use Prim.Native.Char.{code}
use Prim.Native.String.{String}
use mathlib.Core.Path.{◌≡◌, refl, sym, ◌∙◌, ap, subst}
use mathlib.Core.Bool.{Bool, true, false}
use mathlib.Core.List.{List, [], ◌∷◌}
use native.Mathlib.Omega.{arith}
use lib.ListN.{drop}
use lib.Dec.{eqb}
use borrow.Author.Tests.{leb-true, le-leb}
use lib.IntN.{ℤ}
use Rattle.ledger_spec.specs.Bench.{Bench, set_up}
use Rattle.ledger_spec.specs.Tests.{first}
use Rattle.ledger_spec.specs.Refuse.{set_up_no}
use Rattle.ledger_spec.specs.Calls.{nobody, settle, set_up_call, Call}
use Rattle.ledger_spec.specs.Fields.{cut}
use Rattle.ledger_spec.specs.Bytes.{bytes}
use Rattle.ledger_spec.specs.Sound.{sound}
use Rattle.ledger_spec.specs.Answers.{Answer, broken, answer, ask}
use Rattle.ledger_spec.specs.Groups.{Group}
use Rattle.ledger_spec.specs.GroupCalls.{add, extend}
use Rattle.ledger_spec.proofs.Says.{says}
use Rattle.ledger_spec.proofs.Holds.{holds}
use Rattle.ledger_laws.proofs.SoundCalls.{opened_sound}
use Rattle.ledger_laws.proofs.Answered.{answer_false}
use Rattle.ledger_laws.proofs.Always.{answer_sound}
use Rattle.ledger_table.specs.Talk.{Ledger, plain, Desk, new_desk, Turn, acts, calls_said, adds, extends, changes, checked, dumped, vertices, reads, nat, by_letter, regroups, performs, opens, desk_turn}
use Rattle.ledger_table.specs.Replay.{numbers_text, same_bytes, answered, plus, along, replayed}
use Rattle.ledger_table.specs.Quick.{tested, next_fits, quickly}

-- ---- the two tests agree on every bench that a text can reach

pub record Reached (b : Bench) : Type 0 where
  pub agree : sound b ≡ next_fits b

-- a sound bench has its next serial within 32 bits; so the other way round is enough
reached : (b : Bench) → (b.next ≤ 2 ^ 32 → sound b ≡ true) → Reached b
reached b f = record { agree = go (sound b) refl (next_fits b) refl }
  where
    go : (s : Bool) → sound b ≡ s → (t : Bool) → next_fits b ≡ t → sound b ≡ next_fits b
    go true e t d = e ∙ sym (le-leb b.next (2 ^ 32) (says b e).worn)
    go false e true d = f (leb-true b.next (2 ^ 32) d) ∙ sym d
    go false e false d = e ∙ sym d

opened_reached : (n : ℕ) → 1 ≤ n → Reached (set_up n)
opened_reached n h = reached (set_up n) (λ w. holds (set_up n) (opened_sound n h w))

set_up_reached : (n : ℕ) → Reached (set_up_call n).bench
unfolding set_up_call settle first
set_up_reached zero = opened_reached 1 (omega arith)
set_up_reached (suc n) = go (set_up_no (suc n))
  where
    go : (k : ℕ) → Reached (settle k (set_up 1) (set_up (suc n)) nobody).bench
    go zero = opened_reached (suc n) (omega arith)
    go (suc k) = opened_reached 1 (omega arith)

answer_reached : (b : Bench) (c : Call) → Reached b → Reached (answer b c).bench
unfolding broken
answer_reached b c R = go (sound b) refl
  where
    go : (s : Bool) → sound b ≡ s → Reached (answer b c).bench
    go true e = reached (answer b c).bench (λ w. answer_sound b c e)
    go false e = subst (λ (a : Answer). Reached a.bench) (sym (answer_false b c e)) R

-- ---- a line

plain_tested : plain ≡ tested sound
unfolding answer ask add extend
plain_tested = refl

-- what a line does hangs on what the test says of the one bench before it
module _ (t : Bench → Bool) (k : Desk) (c : ℕ) (l : List ℤ) where
  here : Ledger
  here = tested (λ b. t k.bench)

  regroups_here : (r : Option (List ℤ × Group)) → regroups (tested t) k c l r ≡ regroups here k c l r
  unfolding here regroups reads checked dumped vertices
  regroups_here None = refl
  regroups_here (Some r) = refl

  performs_here : (x : Option Call) → performs (tested t) k c l x ≡ performs here k c l x
  unfolding here performs changes adds extends acts
  performs_here None = regroups_here (by_letter c (changes (tested t) k l))
  performs_here (Some x) = refl

  opens_here : (s : Bool) → opens (tested t) k c l s ≡ opens here k c l s
  unfolding opens
  opens_here true = refl
  opens_here false = performs_here (by_letter c (calls_said k.bench l))

  turn_here : desk_turn (tested t) k c l ≡ desk_turn (tested (λ b. t k.bench)) k c l
  unfolding here desk_turn
  turn_here = opens_here (eqb c (code "N"))

turn_same : (k : Desk) (c : ℕ) (l : List ℤ) → Reached k.bench → desk_turn plain k c l ≡ desk_turn (tested next_fits) k c l
turn_same k c l R = ap (λ (L : Ledger). desk_turn L k c l) plain_tested ∙ turn_here sound k c l ∙ ap (λ (s : Bool). desk_turn (tested (λ b. s)) k c l) R.agree ∙ sym (turn_here next_fits k c l)

-- only set-up and calls change the bench
module _ (k : Desk) (c : ℕ) (l : List ℤ) (R : Reached k.bench) where
  regroups_reached : (r : Option (List ℤ × Group)) → Reached (regroups plain k c l r).desk.bench
  unfolding regroups
  regroups_reached None = R
  regroups_reached (Some r) = R

  performs_reached : (x : Option Call) → Reached (performs plain k c l x).desk.bench
  unfolding performs acts
  performs_reached None = regroups_reached (by_letter c (changes plain k l))
  performs_reached (Some x) = answer_reached k.bench x R

  opens_reached : (s : Bool) → Reached (opens plain k c l s).desk.bench
  unfolding opens
  opens_reached true = set_up_reached (nat l 0)
  opens_reached false = performs_reached (by_letter c (calls_said k.bench l))

  turn_reached : Reached (desk_turn plain k c l).desk.bench
  unfolding desk_turn
  turn_reached = opens_reached (eqb c (code "N"))

-- ---- lines

answered_same : (k : Desk) (s : List ℕ) → Reached k.bench → answered plain k s ≡ answered (tested next_fits) k s
unfolding answered
answered_same k s R = turn_same k _ _ R

answered_reached : (k : Desk) (s : List ℕ) → Reached k.bench → Reached (answered plain k s).desk.bench
unfolding answered
answered_reached k s R = turn_reached k _ _ R

along_same : (k : Desk) (last : List ℕ) (ls : List (List ℕ)) → Reached k.bench → along plain k last ls ≡ along (tested next_fits) k last ls
unfolding along
along_same k last [] R = refl
along_same k last ([] ∷ ls) R = along_same k last ls R
along_same k last ((c ∷ s) ∷ ls) R = go (eqb c 35) (eqb c 61) (λ k' last' R'. along_same k' last' ls R')
  where
    on : Ledger → Turn → ℕ × ℕ
    on L t = along L t.desk (numbers_text t.says) ls

    by : Ledger → Bool → Bool → ℕ × ℕ
    by L x y = elim x [
      | true ↦ along L k last ls
      | false ↦ elim y [ true ↦ plus (same_bytes last (drop 1 s)) (along L k last ls) | false ↦ on L (answered L k (c ∷ s)) ]
    ]

    go : (x y : Bool) → ((k' : Desk) (last' : List ℕ) → Reached k'.bench → along plain k' last' ls ≡ along (tested next_fits) k' last' ls) → by plain x y ≡ by (tested next_fits) x y
    go true y ih = ih k last R
    go false true ih = ap (plus (same_bytes last (drop 1 s))) (ih k last R)
    go false false ih = let t : Turn = answered plain k (c ∷ s) in
        ih t.desk (numbers_text t.says) (answered_reached k (c ∷ s) R) ∙ ap (on (tested next_fits)) (answered_same k (c ∷ s) R)

-- ---- texts

pub replay_same : (s : String) → replayed s ≡ quickly s
unfolding replayed quickly
replay_same s = along_same (new_desk (set_up 1)) [] (cut 10 (bytes s)) (opened_reached 1 (omega arith))

-- what the quick replay counts, the plain ledger's counts
pub by_quick : (s : String) {n : ℕ × ℕ} → quickly s ≡ n → replayed s ≡ n
by_quick s e = replay_same s ∙ e
