-- Two runs one after the other are the run of both lists. Assumes nothing.
use Prim.Native.Nat.{ℕ, suc, ◌+◌, ◌*◌}
use native.Mathlib.Omega.{arith}
use mathlib.Core.Path.{◌≡◌, refl, ◌∙◌, ap}
use mathlib.Core.List.{List, [], ◌∷◌, ◌++◌}
use lib.IntN.{ℤ, pos}
use lib.ListN.{length}
use Rattle.ledger_spec.specs.Bench.{Bench}
use Rattle.record_spec.specs.Operations.{Op}
use Rattle.record_says.specs.Says.{says_op, answers_ops, after_ops}
use Rattle.record_says.specs.Runs.{in_fours}

pub answers_both : (b : Bench) (xs ys : List Op) → answers_ops b (xs ++ ys) ≡ answers_ops b xs ++ answers_ops (after_ops b xs) ys
unfolding answers_ops after_ops
answers_both b [] ys = refl
answers_both b (op ∷ xs) ys = ap (λ (l : List (ℕ × ℕ × ℤ × ℤ)). (says_op b op).numbers ∷ l) (answers_both (says_op b op).bench xs ys)

pub after_both : (b : Bench) (xs ys : List Op) → after_ops b (xs ++ ys) ≡ after_ops (after_ops b xs) ys
unfolding after_ops
after_both b [] ys = refl
after_both b (op ∷ xs) ys = after_both (says_op b op).bench xs ys

pub fours_both : (a c : List (ℕ × ℕ × ℤ × ℤ)) → in_fours (a ++ c) ≡ in_fours a ++ in_fours c
unfolding in_fours
fours_both [] c = refl
fours_both (x ∷ a) c = ap (λ (l : List ℤ). pos x.0 ∷ pos x.1 ∷ x.2 ∷ x.3 ∷ l) (fours_both a c)

-- as the slices have them
pub slices_both : (b : Bench) (xs ys : List Op) → in_fours (answers_ops b (xs ++ ys)) ≡ in_fours (answers_ops b xs) ++ in_fours (answers_ops (after_ops b xs) ys)
slices_both b xs ys = ap in_fours (answers_both b xs ys) ∙ fours_both (answers_ops b xs) (answers_ops (after_ops b xs) ys)

-- four numbers an operation
pub length_fours : (a : List (ℕ × ℕ × ℤ × ℤ)) → length (in_fours a) ≡ 4 * length a
unfolding in_fours
length_fours [] = refl
length_fours (x ∷ a) = omega (arith, length_fours a)

pub answers_many : (b : Bench) (ops : List Op) → length (answers_ops b ops) ≡ length ops
unfolding answers_ops
answers_many b [] = refl
answers_many b (op ∷ ops) = ap suc (answers_many (says_op b op).bench ops)

pub length_slice : (b : Bench) (ops : List Op) → length (in_fours (answers_ops b ops)) ≡ 4 * length ops
length_slice b ops = length_fours (answers_ops b ops) ∙ ap (λ (n : ℕ). 4 * n) (answers_many b ops)
