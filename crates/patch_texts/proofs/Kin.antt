-- A page of lines beside the handles that its calls hand out: each line of the patch answers as its call by handles does. Assumes nothing.
use Rattle.std.specs.Prelude.{Option, Some}
use Prim.Native.Nat.{ℕ, zero, suc, ◌<◌}
use mathlib.Core.Path.{◌≡◌, refl, sym, ◌∙◌, ap, ap₂, subst}
use mathlib.Core.Logic.{◌⊎◌, inl, inr}
use mathlib.Core.Bool.{Bool, true, false, ◌||◌}
use mathlib.Core.List.{List, [], ◌∷◌, ◌++◌, map, map-append}
use lib.Dec.{eqb}
use lib.IntN.{ℤ, pos}
use native.Mathlib.Omega.{arith}
use Rattle.ledger_spec.specs.Bench.{Handle, State, Bench}
use Rattle.ledger_spec.specs.Look.{interface}
use Rattle.ledger_spec.specs.Tests.{outside, child}
use Rattle.ledger_spec.specs.Calls.{Call}
use Rattle.ledger_spec.specs.Calls as calls
use Rattle.ledger_spec.specs.Answers.{Answer, answer}
use Rattle.ledger_spec.specs.Operations.{D, B, E, S, G, F, C}
use Rattle.ledger_spec.specs.Grammar.{Line}
use Rattle.ledger_spec.specs.Lines.{LineAnswer, named, shown, calls as line_calls, says}
use Rattle.ledger_spec.specs.Knit.{In}
use Rattle.ledger_spec.specs.Facts.{Sound}
use Rattle.ledger_spec.proofs.Lists.{not_in_nil, in_cases, in_append}
use Rattle.ledger_laws.proofs.Never.{next_grows}
use Rattle.patch_laws.specs.Patch.{Script, Defect, Blossom, Expand, SetState, Grow, Fuse, Clear, Mark, given, units_of, written}
use Rattle.patch_laws.specs.Runs.{Side, made, answer_to, after}
use Rattle.patch_laws.proofs.Renamed.{map_map}
use Rattle.patch_texts.specs.Page.{Serials, serial_at, spelled, handed, number_from, field, Page}
use Rattle.patch_texts.specs.Page as page
use Rattle.patch_texts.specs.Inputs.{units_in}
use Rattle.patch_texts.proofs.Firm.{Firm, firm_kept, New, defect_new, blossom_new}
use Rattle.patch_texts.proofs.Twins.{twin_at, expand_twins, state_twins, blossom_twins}

abbrev pub serial_of : Handle → ℕ
serial_of h = h.serial

-- ---- the four numbers of a line, by what they are made of
abbrev pub Four : Type 0
Four = ℕ × ℕ × ℤ × ℤ

abbrev pub hidden : ℕ → Bench → ℕ → Bool
hidden n b u = eqb n 3 || (outside u || child b u)

pub paid : Bool → ℤ → ℤ
paid true z = pos 0
paid false z = z

abbrev pub row : ℕ → ℕ → Bench → ℕ → Four
row n k b u = (n, k, paid (hidden n b u) (interface b u).speed, paid (hidden n b u) (interface b u).sum)

abbrev pub read_row : Serials → ℕ → ℕ → Bench → ℕ → page.Read
read_row t n k b u = (n, number_from 0 t k, paid (hidden n b u) (interface b u).speed, paid (hidden n b u) (interface b u).sum)

pub shown_is : (n k : ℕ) (b : Bench) (u : ℕ) → shown n k b u ≡ row n k b u
unfolding shown paid
shown_is n k b u = go (hidden n b u)
  where
    pick : Bool → Four
    pick c = elim c as (λ x. Four) [ true ↦ (n, k, pos 0, pos 0) | false ↦ (n, k, (interface b u).speed, (interface b u).sum) ]

    go : (c : Bool) → pick c ≡ (n, k, paid c (interface b u).speed, paid c (interface b u).sum)
    go true = refl
    go false = refl

-- a page and a side of the comparison by handles
pub record Kin (k : Side) (q : Page) : Type 0 where
  pub bench : q.bench ≡ k.bench
  pub serials : q.serials ≡ map serial_of k.table
  pub firm : (h : Handle) → In h k.table → Firm k.bench h
  pub old : (h : Handle) → In h k.table → h.serial < k.bench.next

-- after a call that hands the patch nothing
pub kin_kept : (k : Side) (q : Page) → Kin k q → (c : Call) (b : Bench) → b ≡ (answer k.bench c).bench
    → Kin (record { bench = (answer k.bench c).bench; table = k.table }) (record { bench = b; serials = q.serials })
kin_kept k q N c b e = record {
  bench = e;
  serials = N.serials;
  firm = λ h i. firm_kept k.bench c h (N.old h i) (N.firm h i);
  old = λ h i. omega (arith, N.old h i, next_grows k.bench c);
}

-- ---- a line that makes a call
abbrev pub line_of : Answer → ℕ → LineAnswer
line_of a u = record { numbers = shown a.number a.node.serial a.bench u; bench = a.bench }

-- the line l of the patch is the call c, and shows interface u
pub record Says (l : Line) (c : Script) (u : ℕ) : Type 0 where
  pub call : (k : Side) → Sound k.bench → ((h : Handle) → In h k.table → Firm k.bench h) → says k.bench (spelled (map serial_of k.table) l) ≡ line_of (answer_to k c) u
  pub hands : (n : ℕ) (h : Handle) → handed l n h.serial ≡ map serial_of (made c n h)
  pub units : units_of c ≡ units_in l
  pub by : (t : Serials) (k : ℕ) → field t l k ≡ number_from 0 t k

pub d_says : (u v : ℕ) → Says (Some (D u v)) (Defect u v) u
unfolding says spelled written line_calls
d_says u v = record { call = λ k S f. refl; hands = hands; units = refl; by = λ t k. refl }
  where
    hands : (n : ℕ) (h : Handle) → handed (Some (D u v)) n h.serial ≡ map serial_of (made (Defect u v) n h)
    hands zero h = refl
    hands (suc n) h = refl

pub b_says : (u : ℕ) (ks : List ℕ) → Says (Some (B u ks)) (Blossom u ks []) u
unfolding says spelled written line_calls
b_says u ks = record { call = call; hands = hands; units = refl; by = λ t k. refl }
  where
    hands : (n : ℕ) (h : Handle) → handed (Some (B u ks)) n h.serial ≡ map serial_of (made (Blossom u ks []) n h)
    hands zero h = refl
    hands (suc n) h = refl

    call : (k : Side) → Sound k.bench → ((h : Handle) → In h k.table → Firm k.bench h) → says k.bench (spelled (map serial_of k.table) (Some (B u ks))) ≡ line_of (answer_to k (Blossom u ks [])) u
    call k Z f = ap (λ (hs : List Handle). line_of (answer k.bench (calls.Blossom u hs [])) u) (map_map (serial_at (map serial_of k.table)) (named k.bench) finds (λ x. refl) ks)
        ∙ ap (λ (a : Answer). line_of a u) (blossom_twins k.bench Z u finds (given k.table) (λ x. twin_at k.bench Z k.table f x) ks)
      where
        finds : ℕ → Handle
        finds x = named k.bench (serial_at (map serial_of k.table) x)

pub e_says : (u i : ℕ) → Says (Some (E u i)) (Expand u i) u
unfolding says spelled written line_calls
e_says u i = record { call = λ k Z f. ap (λ (a : Answer). line_of a u) (expand_twins k.bench Z u _ _ (twin_at k.bench Z k.table f i)); hands = λ n h. refl; units = refl; by = λ t k. refl }

pub s_says : (u i : ℕ) (to : State) → Says (Some (S u i to)) (SetState u i to) u
unfolding says spelled written line_calls
s_says u i to = record { call = λ k Z f. ap (λ (a : Answer). line_of a u) (state_twins k.bench Z u _ _ to (twin_at k.bench Z k.table f i)); hands = λ n h. refl; units = refl; by = λ t k. refl }

module _ (u : ℕ) where
  pub g_says : (l : ℤ) → Says (Some (G u l)) (Grow u l) u
  unfolding says spelled written line_calls
  g_says l = record { call = λ k Z f. refl; hands = λ n h. refl; units = refl; by = λ t k. refl }

  pub f_says : (l r : ℕ) → Says (Some (F u l r)) (Fuse u l r) u
  unfolding says spelled written line_calls
  f_says l r = record { call = λ k Z f. refl; hands = λ n h. refl; units = refl; by = λ t k. refl }

  pub c_says : Says (Some (C u)) (Clear u) u
  unfolding says spelled written line_calls
  c_says = record { call = λ k Z f. refl; hands = λ n h. refl; units = refl; by = λ t k. refl }

-- ---- the page after it
-- what a call hands out has a place of its own
made_new : (k : Side) → Sound k.bench → (c : Script) (n : ℕ) → (answer_to k c).number ≡ n → (h : Handle) → In h (made c n (answer_to k c).node) → New k.bench (answer_to k c).bench h
unfolding written
made_new k Z (Defect u v) zero e h i = only (in_cases i)
  where
    a : Answer
    a = answer k.bench (calls.Defect u v)

    only : (h ≡ a.node) ⊎ In h [] → New k.bench a.bench h
    only (inl q) = subst (New k.bench a.bench) (sym q) (defect_new k.bench Z u v e)
    only (inr j) = absurd (not_in_nil j)
made_new k Z (Defect u v) (suc n) e h i = absurd (not_in_nil i)
made_new k Z (Blossom u ks ts) zero e h i = only (in_cases i)
  where
    a : Answer
    a = answer_to k (Blossom u ks ts)

    only : (h ≡ a.node) ⊎ In h [] → New k.bench a.bench h
    only (inl q) = subst (New k.bench a.bench) (sym q) (blossom_new k.bench Z u _ _ e)
    only (inr j) = absurd (not_in_nil j)
made_new k Z (Blossom u ks ts) (suc n) e h i = absurd (not_in_nil i)
made_new k Z (Expand u j) n e h i = absurd (not_in_nil i)
made_new k Z (SetState u j s) n e h i = absurd (not_in_nil i)
made_new k Z (Grow u l) n e h i = absurd (not_in_nil i)
made_new k Z (Fuse p l r) n e h i = absurd (not_in_nil i)
made_new k Z (Clear u) n e h i = absurd (not_in_nil i)
made_new k Z (Mark u t) n e h i = absurd (not_in_nil i)

module _ (k : Side) (q : Page) (N : Kin k q) (Z : Sound k.bench) {l : Line} {c : Script} {u : ℕ} (Y : Says l c u) where
  -- the line's answer is the call's
  pub line_is : page.answer_to q l ≡ line_of (answer_to k c) u
  line_is = (λ i. says (N.bench i) (spelled (N.serials i) l)) ∙ Y.call k Z N.firm

  numbers_is : (page.answer_to q l).numbers ≡ row (answer_to k c).number (answer_to k c).node.serial (answer_to k c).bench u
  numbers_is = ap (λ (a : LineAnswer). a.numbers) line_is ∙ shown_is (answer_to k c).number (answer_to k c).node.serial (answer_to k c).bench u

  after_serials : (page.after q l).serials ≡ map serial_of (after k c).table
  unfolding after page.after
  after_serials = ap₂ {C = Serials} ◌++◌ N.serials (ap₂ (handed l) (ap (λ (x : Four). x.0) numbers_is) (ap (λ (x : Four). x.1) numbers_is) ∙ Y.hands (answer_to k c).number (answer_to k c).node)
      ∙ sym (map-append serial_of k.table (made c (answer_to k c).number (answer_to k c).node))

  pub kin_after : Kin (after k c) (page.after q l)
  unfolding after page.after
  kin_after = record {
    bench = ap (λ (a : LineAnswer). a.bench) line_is;
    serials = after_serials;
    firm = λ h i. firm h (in_append k.table (made c (answer_to k c).number (answer_to k c).node) i);
    old = λ h i. old h (in_append k.table (made c (answer_to k c).number (answer_to k c).node) i);
  }
    where
      firm : (h : Handle) → In h k.table ⊎ In h (made c (answer_to k c).number (answer_to k c).node) → Firm (answer_to k c).bench h
      firm h (inl i) = firm_kept k.bench (written k.table c) h (N.old h i) (N.firm h i)
      firm h (inr i) = (made_new k Z c (answer_to k c).number refl h i).firm

      old : (h : Handle) → In h k.table ⊎ In h (made c (answer_to k c).number (answer_to k c).node) → h.serial < (answer_to k c).bench.next
      old h (inl i) = omega (arith, N.old h i, next_grows k.bench (written k.table c))
      old h (inr i) = (made_new k Z c (answer_to k c).number refl h i).old

  -- what the patch reads of it
  pub read_is : page.read_of q l ≡ read_row (map serial_of (after k c).table) (answer_to k c).number (answer_to k c).node.serial (answer_to k c).bench u
  unfolding page.read_of
  read_is = ap₂ (λ (x : Four) (t : Serials). (x.0, field t l x.1, x.2, x.3)) numbers_is after_serials
      ∙ ap (λ (o : Option ℕ). ((answer_to k c).number, o, paid number here, paid number there)) (Y.by (map serial_of (after k c).table) (answer_to k c).node.serial)
    where
      number : Bool
      number = hidden (answer_to k c).number (answer_to k c).bench u

      here : ℤ
      here = (interface (answer_to k c).bench u).speed

      there : ℤ
      there = (interface (answer_to k c).bench u).sum
