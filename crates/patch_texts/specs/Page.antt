-- Lines of two patches in one input, and what the watched patch reads of its answers. Its lines have numbers in place of serials: k is the k-th node that
-- its lines made; the serial field of an answer is written so too. Assumes nothing.
use Rattle.std.specs.Prelude.{ℕ, zero, suc, true, false, List, [], ◌∷◌, ◌++◌, map, eqb, get_or, ℤ, None, Option, Some}
use Rattle.ledger_spec.specs.Bench.{Bench}
use Rattle.ledger_spec.specs.Calls.{set_up_call}
use Rattle.ledger_spec.specs.Operations.{D, B, E, S, G, F, C, K}
use Rattle.ledger_spec.specs.Grammar.{Line}
use Rattle.ledger_spec.specs.Lines.{LineAnswer, says}

-- the serials that the patch's lines were answered as made, in order; 0 is no node's serial
abbrev pub Serials : Type 0
Serials = List ℕ

abbrev pub serial_at : Serials → ℕ → ℕ
serial_at t k = get_or t k 0

-- a line with serials in place of numbers
unfoldable pub spelled : Serials → Line → Line
spelled t (Some (D u v)) = Some (D u v)
spelled t (Some (B u ks)) = Some (B u (map (serial_at t) ks))
spelled t (Some (E u k)) = Some (E u (serial_at t k))
spelled t (Some (S u k s)) = Some (S u (serial_at t k) s)
spelled t (Some (G u l)) = Some (G u l)
spelled t (Some (F p l r)) = Some (F p l r)
spelled t (Some (C u)) = Some (C u)
spelled t (Some (K u)) = Some (K u)
spelled t None = None

-- an accepted creating line hands out a serial
abbrev pub handed : Line → ℕ → ℕ → Serials
handed (Some (D u v)) zero k = k ∷ []
handed (Some (D u v)) (suc n) k = []
handed (Some (B u ks)) zero k = k ∷ []
handed (Some (B u ks)) (suc n) k = []
handed (Some (E u i)) n k = []
handed (Some (S u i s)) n k = []
handed (Some (G u l)) n k = []
handed (Some (F p l r)) n k = []
handed (Some (C u)) n k = []
handed (Some (K u)) n k = []
handed None n k = []

-- and back: the number of a serial, none where the patch was not handed it
unfoldable pub number_from : ℕ → Serials → ℕ → Option ℕ
number_from n [] k = None
number_from n (x ∷ t) k = elim (eqb x k) [ true ↦ Some n | false ↦ number_from (suc n) t k ]

-- the second field as the patch reads it: a verdict as it is, a serial by its number
abbrev pub field : Serials → Line → ℕ → Option ℕ
field t (Some (D u v)) k = number_from 0 t k
field t (Some (B u ks)) k = number_from 0 t k
field t (Some (E u i)) k = number_from 0 t k
field t (Some (S u i s)) k = number_from 0 t k
field t (Some (G u l)) k = number_from 0 t k
field t (Some (F p l r)) k = number_from 0 t k
field t (Some (C u)) k = number_from 0 t k
field t (Some (K u)) k = Some k
field t None k = number_from 0 t k

-- ---- a line by line account: the bench, and the serials that the patch was handed
pub record Page : Type 0 where
  pub bench : Bench
  pub serials : Serials

-- number, second field, speed, sum
abbrev pub Read : Type 0
Read = ℕ × Option ℕ × ℤ × ℤ

abbrev pub answer_to : Page → Line → LineAnswer
answer_to k l = says k.bench (spelled k.serials l)

unfoldable pub after : Page → Line → Page
after k l = record { bench = (answer_to k l).bench; serials = k.serials ++ handed l (answer_to k l).numbers.0 (answer_to k l).numbers.1 }

unfoldable pub read_of : Page → Line → Read
read_of k l = ((answer_to k l).numbers.0, field (after k l).serials l (answer_to k l).numbers.1, (answer_to k l).numbers.2, (answer_to k l).numbers.3)

-- a line of the other patch, as it stands; a line of the watched one, by numbers
pub data Step : Type 0 where
  theirs : Line → Step
  ours : Line → Step

-- what the watched patch reads of its lines' answers
unfoldable pub reads : Page → List Step → List Read
reads k [] = []
reads k (theirs l ∷ xs) = reads (record { bench = (says k.bench l).bench; serials = k.serials }) xs
reads k (ours l ∷ xs) = read_of k l ∷ reads (after k l) xs

-- the lines themselves, as they stand in the input
unfoldable pub lines : Page → List Step → List Line
lines k [] = []
lines k (theirs l ∷ xs) = l ∷ lines (record { bench = (says k.bench l).bench; serials = k.serials }) xs
lines k (ours l ∷ xs) = spelled k.serials l ∷ lines (after k l) xs

-- the watched patch's own steps; and its answers, among all that are printed
unfoldable pub own : List Step → List Step
own [] = []
own (theirs l ∷ xs) = own xs
own (ours l ∷ xs) = ours l ∷ own xs

unfoldable pub own_of : {A : Type 0} → List Step → List A → List A
own_of [] rs = []
own_of (x ∷ xs) [] = []
own_of (theirs l ∷ xs) (r ∷ rs) = own_of xs rs
own_of (ours l ∷ xs) (r ∷ rs) = r ∷ own_of xs rs

-- from set-up with its first serial, and nothing handed out
abbrev pub opened : ℕ → Page
opened n = record { bench = (set_up_call n).bench; serials = [] }
