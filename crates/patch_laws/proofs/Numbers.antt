-- The handles that a patch was given have rising serials, so that each has one number. Assumes nothing.
use Rattle.std.specs.Prelude.{Option, Some}
use Prim.Native.Nat.{ℕ, zero, suc, ◌+◌, ◌≤◌, ◌<◌}
use mathlib.Core.Path.{◌≡◌, refl, sym, ◌∙◌, ap, subst}
use mathlib.Core.Logic.{◌≢◌, ◌⊎◌, inl, inr}
use mathlib.Core.Bool.{Bool, true, false, ◌&&◌}
use mathlib.Core.List.{List, [], ◌∷◌, ◌++◌, map, append-nil}
use native.Mathlib.Omega.{arith}
use native.Mathlib.Decide.{dec_lt}
use lib.Dec.{eqb}
use lib.ListN.{length, length-append, get_or-append}
use lib.Seq.{get_or_at}
use borrow.Author.Tests.{ne_eqb}
use Rattle.ledger_spec.specs.Bench.{Handle, Bench}
use Rattle.ledger_spec.specs.Look.{same_handle}
use Rattle.ledger_spec.specs.Calls.{Call, Defect, Blossom}
use Rattle.ledger_spec.specs.Answers.{answer}
use Rattle.ledger_spec.proofs.Knit.{same_self}
use Rattle.ledger_spec.proofs.DeedReadings.{defect_next, blossom_next}
use Rattle.ledger_laws.proofs.Answered.{node_of, deed_of, zero_node, zero_bench}
use Rattle.ledger_laws.proofs.Never.{next_grows}
use Rattle.patch_laws.specs.Patch.{Script, Table, nowhere, given, given_pair, written, number_from}
use Rattle.patch_laws.specs.Runs.{Side, made, answer_to, after, Step, theirs, ours, asked, reached, opened}
use Rattle.patch_laws.specs.Statement.{RightNumbers}

abbrev Rises : Table → Type 0
Rises t = (i j : ℕ) → i < j → j < length t → (given t i).serial < (given t j).serial

-- in such a table the j-th handle has the number j
apart : (g h : Handle) → g.serial ≢ h.serial → same_handle g h ≡ false
apart g h q = ap (λ (c : Bool). (eqb g.unit h.unit && eqb g.slot h.slot) && c) (ne_eqb g.serial h.serial q) ∙ go (eqb g.unit h.unit && eqb g.slot h.slot)
  where
    go : (c : Bool) → (c && false) ≡ false
    go true = refl
    go false = refl

number_at : (k : ℕ) (t : Table) → Rises t → (j : ℕ) → j < length t → number_from k t (given t j) ≡ Some (k + j)
unfolding number_from
number_at k [] r j h = absurd (omega arith)
number_at k (g ∷ t) r zero h = ap (λ (c : Bool). elim c as (λ x. Option ℕ) [ true ↦ Some k | false ↦ number_from (suc k) t g ]) (same_self g) ∙ ap Some (omega arith)
number_at k (g ∷ t) r (suc j) h = ap (λ (c : Bool). elim c as (λ x. Option ℕ) [ true ↦ Some k | false ↦ number_from (suc k) t (given t j) ]) (apart g (given t j) (λ e. omega (arith, e, r 0 (suc j) (omega arith) h)))
    ∙ number_at (suc k) t (λ i l x y. r (suc i) (suc l) (omega arith) (omega arith)) j (omega arith) ∙ ap Some (omega arith)

-- ---- along a run
record Ordered (k : Side) : Type 0 where
  rises : Rises k.table
  old : (j : ℕ) → j < length k.table → (given k.table j).serial < k.bench.next

-- a creating call hands out the next serial; any other nothing
new_one : (k : Side) (c : Script) (n : ℕ) → (answer_to k c).number ≡ n
    → (made c n (answer_to k c).node ≡ []) ⊎ ((made c n (answer_to k c).node ≡ (answer_to k c).node ∷ []) × ((answer_to k c).node.serial ≡ k.bench.next) × ((answer_to k c).bench.next ≡ suc k.bench.next))
unfolding written node_of deed_of
new_one k (Script.Defect u v) zero z = inr (refl, ap (λ (h : Handle). h.serial) (zero_node k.bench (Defect u v) z), ap (λ (d : Bench). d.next) (zero_bench k.bench (Defect u v) z) ∙ defect_next k.bench u v)
new_one k (Script.Defect u v) (suc n) z = inl refl
new_one k (Script.Blossom u ks ts) zero z = let c : Call = Blossom u (map (given k.table) ks) (map (given_pair k.table) ts) in
    inr (refl, ap (λ (h : Handle). h.serial) (zero_node k.bench c z), ap (λ (d : Bench). d.next) (zero_bench k.bench c z) ∙ blossom_next k.bench u (map (given k.table) ks) (map (given_pair k.table) ts))
new_one k (Script.Blossom u ks ts) (suc n) z = inl refl
new_one k (Script.Expand u j) n z = inl refl
new_one k (Script.SetState u j s) n z = inl refl
new_one k (Script.Grow u l) n z = inl refl
new_one k (Script.Fuse q l r) n z = inl refl
new_one k (Script.Clear u) n z = inl refl
new_one k (Script.Mark u t) n z = inl refl

ordered_kept : (k : Side) (b : Bench) → k.bench.next ≤ b.next → Ordered k → Ordered (record { bench = b; table = k.table })
ordered_kept k b h O = record { rises = O.rises; old = λ j x. omega (arith, O.old j x) }

ordered_more : (k : Side) (b : Bench) (h : Handle) → h.serial ≡ k.bench.next → b.next ≡ suc k.bench.next → Ordered k → Ordered (record { bench = b; table = k.table ++ (h ∷ []) })
ordered_more k b h e f O = record { rises = λ i j x y. go i j x (dec_lt j (length t)) (in_all j y); old = λ j y. last j (dec_lt j (length t)) (in_all j y) }
  where
    t : Table
    t = k.table

    in_all : (j : ℕ) → j < length (t ++ (h ∷ [])) → j ≤ length t
    in_all j y = omega (arith, y, length-append t (h ∷ []))

    old_is : (j : ℕ) → j < length t → (given (t ++ (h ∷ [])) j).serial ≡ (given t j).serial
    old_is j x = ap (λ (g : Handle). g.serial) (get_or-append t (h ∷ []) nowhere j x)

    new_is : (j : ℕ) → length t ≡ j → (given (t ++ (h ∷ [])) j).serial ≡ k.bench.next
    new_is j x = ap (λ (g : Handle). g.serial) (get_or_at t h [] nowhere j x) ∙ e

    go : (i j : ℕ) → i < j → Dec (j < length t) → j ≤ length t → (given (t ++ (h ∷ [])) i).serial < (given (t ++ (h ∷ [])) j).serial
    go i j x (yes y) z = omega (arith, old_is i (omega arith), old_is j y, O.rises i j x y)
    go i j x (no y) z = omega (arith, old_is i (omega arith), new_is j (omega arith), O.old i (omega arith))

    last : (j : ℕ) → Dec (j < length t) → j ≤ length t → (given (t ++ (h ∷ [])) j).serial < b.next
    last j (yes y) z = omega (arith, old_is j y, O.old j y, f)
    last j (no y) z = omega (arith, new_is j (omega arith), f)

ordered_after : (k : Side) (c : Script) → Ordered k → Ordered (after k c)
unfolding after
ordered_after k c O = go (new_one k c (answer_to k c).number refl)
  where
    side : Table → Side
    side l = record { bench = (answer_to k c).bench; table = k.table ++ l }

    go : (made c (answer_to k c).number (answer_to k c).node ≡ []) ⊎ ((made c (answer_to k c).number (answer_to k c).node ≡ (answer_to k c).node ∷ []) × ((answer_to k c).node.serial ≡ k.bench.next) × ((answer_to k c).bench.next ≡ suc k.bench.next))
        → Ordered (side (made c (answer_to k c).number (answer_to k c).node))
    go (inl e) = subst (λ (l : Table). Ordered (side l)) (sym e) (subst (λ (l : Table). Ordered (record { bench = (answer_to k c).bench; table = l })) (sym (append-nil k.table))
        (ordered_kept k (answer_to k c).bench (next_grows k.bench (written k.table c)) O))
    go (inr e) = subst (λ (l : Table). Ordered (side l)) (sym e.0) (ordered_more k (answer_to k c).bench (answer_to k c).node e.1 e.2 O)

ordered_reached : (k : Side) → Ordered k → (xs : List Step) → Ordered (reached k xs)
unfolding reached
ordered_reached k O [] = O
ordered_reached k O (theirs c ∷ xs) = ordered_reached (record { bench = (answer k.bench c).bench; table = k.table }) (ordered_kept k (answer k.bench c).bench (next_grows k.bench c) O) xs
ordered_reached k O (ours c ∷ xs) = ordered_reached (after k c) (ordered_after k c O) xs
ordered_reached k O (asked r ∷ xs) = ordered_reached k O xs

pub right_numbers : RightNumbers
right_numbers n xs j x = let O = ordered_reached (opened n) (record { rises = λ i l y z. absurd (omega arith); old = λ l z. absurd (omega arith) }) xs in
    number_at 0 (reached (opened n) xs).table O.rises j x ∙ ap Some (omega arith)
