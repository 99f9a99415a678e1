-- Two patches in one input: what a patch reads of its lines' answers is what it reads alone, so two inputs with the same lines of the patch, by numbers,
-- give it the same. Assumes nothing.
use Rattle.std.specs.Prelude.{None, Option, Some}
use Prim.Native.Nat.{ℕ, suc, ◌<◌, ◌^◌}
use mathlib.Core.Path.{◌≡◌, refl, sym, ◌∙◌, ap, ap₂, subst}
use mathlib.Core.Logic.{◌≢◌}
use mathlib.Core.Bool.{Bool, true, false, ◌||◌}
use mathlib.Core.List.{List, [], ◌∷◌, ◌++◌, map, append-nil}
use native.Mathlib.Omega.{arith}
use lib.Dec.{eqb}
use lib.IntN.{ℤ, pos}
use Rattle.ledger_spec.specs.Bench.{Handle, Interface, Bench, set_up}
use Rattle.ledger_spec.specs.Look.{interface}
use Rattle.ledger_spec.specs.Tests.{outside}
use Rattle.ledger_spec.specs.Calls.{Call, Defect, Blossom, Expand, SetState, Grow, Fuse, Clear}
use Rattle.ledger_spec.specs.Answers.{answer, read, check_read}
use Rattle.ledger_spec.specs.Fields.{upto, parts_after, cut}
use Rattle.ledger_spec.specs.Operations.{D, B, E, S, G, F, C, K}
use Rattle.ledger_spec.specs.Grammar.{Line, wrong}
use Rattle.ledger_spec.specs.Lines.{LineAnswer, named, calls, checks, says}
use Rattle.ledger_spec.specs.Opening.{chosen}
use Rattle.ledger_spec.specs.Program.{ended, lines_of, answers, open_answers}
use Rattle.ledger_spec.proofs.Openings.{opening_none}
use Rattle.ledger_spec.specs.Knit.{In, here}
use Rattle.ledger_spec.proofs.Lists.{not_in_nil}
use Rattle.patch_laws.specs.Patch.{Patch, Apart, mine, units_named, Script, units_of}
use Rattle.patch_laws.specs.Runs.{Side, answer_to, after, opened}
use Rattle.patch_laws.proofs.Alike.{Each, Names, child_faces}
use Rattle.patch_laws.proofs.Rising.{by, rising_one, rising_names}
use Rattle.patch_laws.proofs.Links.{Link, Turn, theirs_link, ours_turn, ours_link}
use Rattle.patch_laws.proofs.Told.{check_was}
use Rattle.patch_laws.proofs.Patches.{opened_one, opened_link, each}
use Rattle.patch_texts.specs.Page.{Serials, spelled, number_from, field, Page, Step, theirs, ours, reads, lines, own, own_of}
use Rattle.patch_texts.specs.Page as page
use Rattle.patch_texts.specs.Inputs.{units_in, AllFit, Unworn, but_serial, TwoTexts, TwoInputs, TwoPrograms}
use Rattle.patch_texts.proofs.Kin.{serial_of, Four, hidden, paid, read_row, shown_is, Kin, kin_kept, Says, d_says, b_says, e_says, s_says, g_says, f_says, c_says, kin_after, read_is}

-- ---- a line of the other patch: a call, or nothing
pub data Moves (b : Bench) (l : Line) : Type 0 where
  still : (says b l).bench ≡ b → Moves b l
  moved : (c : Call) → (says b l).bench ≡ (answer b c).bench → units_in l ≡ units_named c → Moves b l

moves : (b : Bench) (l : Line) → Moves b l
unfolding says calls checks
moves b (Some (D u v)) = moved (Defect u v) refl refl
moves b (Some (B u ks)) = moved (Blossom u (map (named b) ks) []) refl refl
moves b (Some (E u k)) = moved (Expand u (named b k)) refl refl
moves b (Some (S u k s)) = moved (SetState u (named b k) s) refl refl
moves b (Some (G u l)) = moved (Grow u l) refl refl
moves b (Some (F p l r)) = moved (Fuse p l r) refl refl
moves b (Some (C u)) = moved (Clear u) refl refl
moves b (Some (K u)) = still refl
moves b None = still refl

-- ---- numbers do not feel a renaming
numbers_same : (ρ : ℕ → ℕ) → ((i j : ℕ) → eqb (ρ i) (ρ j) ≡ eqb i j) → (n : ℕ) (t : List Handle) (k : ℕ) → number_from n (map serial_of (map (by ρ).handle t)) (ρ k) ≡ number_from n (map serial_of t) k
unfolding number_from
numbers_same ρ one n [] k = refl
numbers_same ρ one n (h ∷ t) k = ap₂ (λ (c : Bool) (o : Option ℕ). elim c as (λ x. Option ℕ) [ true ↦ Some n | false ↦ o ]) (one h.serial k) (numbers_same ρ one (suc n) t k)

module _ (p : Patch) (ρ : ℕ → ℕ) (k₀ k : Side) (L : Link p ρ k₀ k) where
  one : (i j : ℕ) → eqb (ρ i) (ρ j) ≡ eqb i j
  one = rising_one ρ k₀.bench.next k.bench.next L.rising

  N : Names p (by ρ)
  N = rising_names ρ k₀.bench.next k.bench.next L.rising p

  number_was : (j : ℕ) → number_from 0 (map serial_of k.table) (ρ j) ≡ number_from 0 (map serial_of k₀.table) j
  number_was j = ap (λ (t : List Handle). number_from 0 (map serial_of t) (ρ j)) L.table ∙ numbers_same ρ one 0 k₀.table j

  -- speed and sum are shown alike
  module _ (u : ℕ) (m : mine p u ≡ true) (n : ℕ) where
    hidden_was : hidden n k.bench u ≡ hidden n k₀.bench u
    hidden_was = ap (λ (c : Bool). eqb n 3 || (outside u || c)) (child_faces p (by ρ) k₀.bench k.bench L.closed L.faces N u m)

    speed_was : paid (hidden n k.bench u) (interface k.bench u).speed ≡ paid (hidden n k₀.bench u) (interface k₀.bench u).speed
    speed_was = ap₂ paid hidden_was (ap (λ (f : Interface). f.speed) (L.faces.face u m))

    sum_was : paid (hidden n k.bench u) (interface k.bench u).sum ≡ paid (hidden n k₀.bench u) (interface k₀.bench u).sum
    sum_was = ap₂ paid hidden_was (ap (λ (f : Interface). f.sum) (L.faces.face u m))

    pub rows : (j j₀ : ℕ) → j ≡ ρ j₀ → read_row (map serial_of k.table) n j k.bench u ≡ read_row (map serial_of k₀.table) n j₀ k₀.bench u
    rows j j₀ e = λ i. (n, (ap (number_from 0 (map serial_of k.table)) e ∙ number_was j₀) i, speed_was i, sum_was i)

-- ---- a line that checks, or is wrong, by itself
abbrev check_row : Bench → ℕ → ℕ × (ℕ × ℕ) → page.Read
check_row b u r = (r.0, Some r.1.0, paid (hidden r.0 b u) (interface b u).speed, paid (hidden r.0 b u) (interface b u).sum)

module _ (k : Side) (q : Page) (N : Kin k q) where
  check_is : (u : ℕ) → page.read_of q (Some (K u)) ≡ check_row k.bench u (read k.bench (check_read k.bench u))
  unfolding page.read_of says spelled checks
  check_is u = ap (λ (x : Four). (x.0, Some x.1, x.2, x.3)) ((λ i. (says (N.bench i) (Some (K u))).numbers) ∙ shown_is r.0 r.1.0 k.bench u)
    where
      r : ℕ × (ℕ × ℕ)
      r = read k.bench (check_read k.bench u)

  check_kin : (u : ℕ) → Kin k (page.after q (Some (K u)))
  unfolding page.after says spelled checks
  check_kin u = record { bench = N.bench; serials = append-nil q.serials ∙ N.serials; firm = N.firm; old = N.old }

  wrong_kin : Kin k (page.after q wrong)
  unfolding page.after says spelled
  wrong_kin = record { bench = N.bench; serials = append-nil q.serials ∙ N.serials; firm = N.firm; old = N.old }

-- ---- a line of the patch, on both sides
module _ (p : Patch) (ρ : ℕ → ℕ) (k₀ k : Side) (L : Link p ρ k₀ k) (q₀ q : Page) (N₀ : Kin k₀ q₀) (N₁ : Kin k q) where
  -- that makes a call
  module _ {l : Line} {c : Script} {u : ℕ} (Y : Says l c u) (w : Each p (units_in l)) (i : In u (units_in l)) (x : (answer_to k c).number ≢ 15) where
    W : Each p (units_of c)
    W = subst (Each p) (sym Y.units) w

    T : Turn p ρ k₀.bench (answer_to k₀ c) (answer_to k c)
    T = ours_turn p ρ k₀ k L c W x

    call_link : Link p ρ (after k₀ c) (after k c)
    call_link = ours_link p ρ k₀ k L c W x

    call_read : page.read_of q l ≡ page.read_of q₀ l
    unfolding after
    call_read = read_is k q N₁ L.sound Y ∙ rows p ρ (after k₀ c) (after k c) call_link u (w u i) (answer_to k c).number (answer_to k c).node.serial (answer_to k₀ c).node.serial (ap serial_of T.node)
        ∙ ap (λ (n : ℕ). read_row (map serial_of (after k₀ c).table) n (answer_to k₀ c).node.serial (answer_to k₀ c).bench u) T.number ∙ sym (read_is k₀ q₀ N₀ L.sound₀ Y)

  -- that checks, or is wrong: the page does not change
  check_read_lem : (u : ℕ) → mine p u ≡ true → page.read_of q (Some (K u)) ≡ page.read_of q₀ (Some (K u))
  check_read_lem u m = check_is k q N₁ u ∙ (λ i. (n, Some r.1.0, speed_was p ρ k₀ k L u m n i, sum_was p ρ k₀ k L u m n i)) ∙ ap (check_row k₀.bench u) (check_was p ρ k₀ k L u m) ∙ sym (check_is k₀ q₀ N₀ u)
    where
      r : ℕ × (ℕ × ℕ)
      r = read k.bench (check_read k.bench u)

      n : ℕ
      n = r.0

  wrong_read : page.read_of q wrong ≡ page.read_of q₀ wrong
  unfolding page.read_of page.after says spelled
  wrong_read = λ i. (1, (number k q N₁ ∙ (ap (number_from 0 (map serial_of k.table)) (sym L.rising.origin) ∙ number_was p ρ k₀ k L 0) ∙ sym (number k₀ q₀ N₀)) i, pos 0, pos 0)
    where
      number : (s : Side) (o : Page) → Kin s o → number_from 0 (o.serials ++ []) 0 ≡ number_from 0 (map serial_of s.table) 0
      number s o M = ap (λ (t : Serials). number_from 0 t 0) (append-nil o.serials ∙ M.serials)

-- ---- line by line
-- what is left of a run reads alike, from any link
abbrev Rest : Patch → Patch → List Step → Type 0
Rest a p xs = (ρ : ℕ → ℕ) (k₀ k : Side) → Link p ρ k₀ k → (q₀ q : Page) → Kin k₀ q₀ → Kin k q → AllFit a p xs → Unworn (reads q xs) → reads q xs ≡ reads q₀ (own xs)

module _ (a p : Patch) (apart : Apart a p) where
  module _ (xs : List Step) (rest : Rest a p xs) (ρ : ℕ → ℕ) (k₀ k : Side) (L : Link p ρ k₀ k) (q₀ q : Page) (N₀ : Kin k₀ q₀) (N₁ : Kin k q) (fit : AllFit a p xs) where
    by_call : {l : Line} {c : Script} {u : ℕ} → Says l c u → In u (units_in l) → Each p (units_in l) → Unworn (reads q (ours l ∷ xs)) → reads q (ours l ∷ xs) ≡ reads q₀ (own (ours l ∷ xs))
    unfolding reads own
    by_call {l} {c} {u} Y i w x =
        let y : (answer_to k c).number ≢ 15 = λ z. x.0 (ap (λ (r : page.Read). r.0) (read_is k q N₁ L.sound Y) ∙ z) in
        ap₂ ◌∷◌ (call_read p ρ k₀ k L q₀ q N₀ N₁ Y w i y)
        (rest ρ (after k₀ c) (after k c) (call_link p ρ k₀ k L q₀ q N₀ N₁ Y w i y) (page.after q₀ l) (page.after q l) (kin_after k₀ q₀ N₀ L.sound₀ Y) (kin_after k q N₁ L.sound Y) fit x.1)

    by_nothing : (l : Line) → page.read_of q l ≡ page.read_of q₀ l → Kin k₀ (page.after q₀ l) → Kin k (page.after q l) → Unworn (reads q (ours l ∷ xs)) → reads q (ours l ∷ xs) ≡ reads q₀ (own (ours l ∷ xs))
    unfolding reads own
    by_nothing l e M₀ M₁ x = ap₂ ◌∷◌ e (rest ρ k₀ k L (page.after q₀ l) (page.after q l) M₀ M₁ fit x.1)

    by_line : (l : Line) → Each p (units_in l) → Unworn (reads q (ours l ∷ xs)) → reads q (ours l ∷ xs) ≡ reads q₀ (own (ours l ∷ xs))
    by_line (Some (D u v)) w x = by_call (d_says u v) (here refl) w x
    by_line (Some (B u ks)) w x = by_call (b_says u ks) (here refl) w x
    by_line (Some (E u i)) w x = by_call (e_says u i) (here refl) w x
    by_line (Some (S u i t)) w x = by_call (s_says u i t) (here refl) w x
    by_line (Some (G u l)) w x = by_call (g_says u l) (here refl) w x
    by_line (Some (F u l r)) w x = by_call (f_says u l r) (here refl) w x
    by_line (Some (C u)) w x = by_call (c_says u) (here refl) w x
    by_line (Some (K u)) w x = by_nothing (Some (K u)) (check_read_lem p ρ k₀ k L q₀ q N₀ N₁ u (w u (here refl))) (check_kin k₀ q₀ N₀ u) (check_kin k q N₁ u) x
    by_line None w x = by_nothing wrong (wrong_read p ρ k₀ k L q₀ q N₀ N₁) (wrong_kin k₀ q₀ N₀) (wrong_kin k q N₁) x

    by_other : (l : Line) → Each a (units_in l) → Unworn (reads q (theirs l ∷ xs)) → reads q (theirs l ∷ xs) ≡ reads q₀ (own (theirs l ∷ xs))
    unfolding reads own
    by_other l w x = go (moves q.bench l)
      where
        next : Page
        next = record { bench = (says q.bench l).bench; serials = q.serials }

        go : Moves q.bench l → reads next xs ≡ reads q₀ (own xs)
        go (still e) = rest ρ k₀ k L q₀ next N₀ (record { bench = e ∙ N₁.bench; serials = N₁.serials; firm = N₁.firm; old = N₁.old }) fit x
        go (moved c e f) = rest _ k₀ (record { bench = (answer k.bench c).bench; table = k.table }) (theirs_link a p apart ρ k₀ k L c (subst (Each a) f w)) q₀ next N₀
            (kin_kept k q N₁ c next.bench (e ∙ ap (λ (d : Bench). (answer d c).bench) N₁.bench)) fit x

  pub line_by_line : (xs : List Step) → Rest a p xs
  unfolding reads own
  line_by_line [] ρ k₀ k L q₀ q N₀ N₁ fit x = refl
  line_by_line (theirs l ∷ xs) ρ k₀ k L q₀ q N₀ N₁ fit x = by_other xs (line_by_line xs) ρ k₀ k L q₀ q N₀ N₁ fit.1 l (each a (units_in l) fit.0) x
  line_by_line (ours l ∷ xs) ρ k₀ k L q₀ q N₀ N₁ fit x = by_line xs (line_by_line xs) ρ k₀ k L q₀ q N₀ N₁ fit.1 l (each p (units_in l) fit.0) x

-- ---- from set-up
opened_kin : (n : ℕ) → Kin (opened n) (page.opened n)
opened_kin n = record { bench = refl; serials = refl; firm = λ h i. absurd (not_in_nil i); old = λ h i. absurd (not_in_nil i) }

-- what the patch reads is what it reads of its lines alone, from serial 1
pub as_alone : (a p : Patch) → Apart a p → (n : ℕ) → n < 2 ^ 32 → (xs : List Step) → AllFit a p xs → Unworn (reads (page.opened n) xs) → reads (page.opened n) xs ≡ reads (page.opened 1) (own xs)
as_alone a p apart n h xs fit x = line_by_line a p apart xs _ (opened 1) (opened n) (opened_link p n h) (page.opened 1) (page.opened n) (opened_kin 1) (opened_kin n) fit x

pub two_texts : TwoTexts
two_texts a p apart m n hm hn xs ys fx fy e wx wy = as_alone a p apart m hm xs fx wx ∙ ap (reads (page.opened 1)) e ∙ sym (as_alone a p apart n hn ys fy wy)

-- ---- of the program's own answers
bare : page.Read → ℕ × ℤ × ℤ
bare r = (r.0, r.2, r.3)

printed : (q : Page) (xs : List Step) → map but_serial (own_of xs (answers q.bench (lines q xs))) ≡ map bare (reads q xs)
unfolding own_of answers lines reads page.read_of page.after bare
printed q [] = refl
printed q (theirs l ∷ xs) = printed (record { bench = (says q.bench l).bench; serials = q.serials }) xs
printed q (ours l ∷ xs) = ap {B = List (ℕ × ℤ × ℤ)} (λ t. but_serial (page.answer_to q l).numbers ∷ t) (printed (page.after q l) xs)

pub two_inputs : TwoInputs
two_inputs a p apart xs ys fx fy e wx wy i j x y = from xs i x ∙ ap (map bare) (two_texts a p apart 1 1 (omega arith) (omega arith) xs ys fx fy e wx wy) ∙ sym (from ys j y)
  where
    from : (zs : List Step) (o : List ℕ) → lines_of o ≡ lines (page.opened 1) zs → map but_serial (own_of zs (answers (set_up 1) (lines_of o))) ≡ map bare (reads (page.opened 1) zs)
    from zs o z = ap₂ (λ (b : Bench) (l : List Line). map but_serial (own_of zs (answers b l))) (sym opened_one) z ∙ printed (page.opened 1) zs

-- an input whose first line chooses no engine
open_lazy : (l : List ℕ) (ls : List (List ℕ)) → chosen l ≡ None → open_answers (l ∷ ls) ≡ answers (set_up 1) (ended (l ∷ ls))
unfolding open_answers answers ended
open_lazy l [] e = refl
open_lazy l (m ∷ ls) e = ap (λ (o : LineAnswer). o.numbers ∷ answers o.bench (ended (m ∷ ls))) (opening_none l e)

pub two_programs : TwoPrograms
unfolding lines_of
two_programs a p apart xs ys fx fy e wx wy i j x y u v = as_lines xs i u ∙ two_inputs a p apart xs ys fx fy e wx wy i j x y ∙ sym (as_lines ys j v)
  where
    as_lines : (zs : List Step) (o : List ℕ) → chosen (upto 10 o) ≡ None → map but_serial (own_of zs (open_answers (cut 10 o))) ≡ map but_serial (own_of zs (answers (set_up 1) (lines_of o)))
    as_lines zs o c = ap (λ (t : List (ℕ × ℕ × ℤ × ℤ)). map but_serial (own_of zs t)) (open_lazy (upto 10 o) (parts_after 10 o) c)
