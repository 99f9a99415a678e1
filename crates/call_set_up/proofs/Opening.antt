-- Words that show the bench of set-up hold a sound one, since the ledger's is; and they are the only ones. Assumes nothing.
use Prim.Native.Nat.{ℕ, zero, suc, ◌<◌}
use mathlib.Core.Path.{◌≡◌, refl, sym, ◌∙◌, ap}
use mathlib.Core.Bool.{Bool, true, false}
use mathlib.Core.Logic.{◌≢◌}
use mathlib.Core.List.{List}
use borrow.Author.Tests.{eq-eqb, ne_eqb}
use Rattle.ledger_spec.specs.Bench.{set_up, set_up_in}
use Rattle.ledger_spec.specs.Tests.{first}
use Rattle.ledger_spec.specs.Refuse.{set_up_no}
use Rattle.ledger_spec.specs.Calls.{Reply, nobody, settle, set_up_call, set_up_call_in}
use Rattle.ledger_spec.specs.Sound.{sound}
use Rattle.ledger_spec.proofs.Holds.{holds}
use Rattle.ledger_laws.proofs.Always.{begun_sound}
use Rattle.engine_laws.specs.Engines.{in_engine}
use Rattle.engine_laws.proofs.Sound.{sound_engine}
use Rattle.bench_views.specs.Fit.{Done}
use Rattle.bench_views.proofs.Fits.{fit_of}
use Rattle.bench_views.proofs.Unique.{words_same}
use Rattle.call_set_up.specs.Opened.{Opened, OpenedBy, OpenedIn, OpenedInBy}

-- ---- the plain answer
number_yes : (n : ℕ) → n ≢ 0 → set_up_no n ≡ 0
unfolding first
number_yes n q = rw (ne_eqb n 0 q, first)

number_no : (n : ℕ) → n ≡ 0 → set_up_no n ≡ 15
unfolding first
number_no n e = rw (eq-eqb n 0 e, first)

call_yes : (m : Bool) (n : ℕ) → n ≢ 0 → set_up_call_in m n ≡ record { number = 0; bench = set_up_in m n; node = nobody }
unfolding set_up_call_in settle
call_yes m n q = ap (λ (k : ℕ). settle k (set_up_in m 1) (set_up_in m n) nobody) (number_yes n q)

call_no : (m : Bool) (n : ℕ) → n ≡ 0 → set_up_call_in m n ≡ record { number = 15; bench = set_up_in m 1; node = nobody }
unfolding set_up_call_in settle
call_no m n e = ap (λ (k : ℕ). settle k (set_up_in m 1) (set_up_in m n) nobody) (number_no n e)

-- the lazy call is set-up's own, and the engine has no part in the rules
lazy_call : (n : ℕ) → set_up_call_in false n ≡ set_up_call n
unfolding set_up_call_in set_up_call
lazy_call n = refl

settled_in : (m : Bool) (k n : ℕ) → (settle k (set_up_in m 1) (set_up_in m n) nobody).bench ≡ in_engine m (settle k (set_up 1) (set_up n) nobody).bench
unfolding settle
settled_in m zero n = refl
settled_in m (suc k) n = refl

pub opened_in : (m : Bool) (n : ℕ) → (set_up_call_in m n).bench ≡ in_engine m (set_up_call_in false n).bench
unfolding set_up_call_in
opened_in m n = settled_in m (set_up_no n) n

begun_in : (m : Bool) (n : ℕ) → n < 4294967296 → sound (set_up_call_in m n).bench ≡ true
unfolding set_up_call_in set_up_call
begun_in m n l = ap sound (settled_in m (set_up_no n) n) ∙ sound_engine m (set_up_call n).bench ∙ holds (set_up_call n).bench (begun_sound n l)

-- ---- the words
module _ (m : Bool) (n : ℕ) (l : n < 4294967296) (b : List ℕ) where
  opened_by : Done b (set_up_call_in m n).bench → OpenedIn m n b
  opened_by D = record { words = record { canon = D.canon; sound = ap sound D.seen ∙ begun_in m n l }; seen = D.seen }

  pub opens : n ≢ 0 → Done b (set_up_in m n) → OpenedInBy m n 0 b
  opens q D =
      let e = call_yes m n q in
      record {
        number = sym (ap (λ (r : Reply). r.number) e);
        opened = opened_by (record { canon = D.canon; seen = D.seen ∙ sym (ap (λ (r : Reply). r.bench) e) });
      }

  pub opens_worn : n ≡ 0 → Done b (set_up_in m 1) → OpenedInBy m n 15 b
  opens_worn z D =
      let e = call_no m n z in
      record {
        number = sym (ap (λ (r : Reply). r.number) e);
        opened = opened_by (record { canon = D.canon; seen = D.seen ∙ sym (ap (λ (r : Reply). r.bench) e) });
      }

pub lazily : {n k : ℕ} {b : List ℕ} → OpenedInBy false n k b → OpenedBy n k b
lazily {n} x =
    let e = lazy_call n in
    record { number = x.number ∙ ap (λ (r : Reply). r.number) e; opened = record { words = x.opened.words; seen = x.opened.seen ∙ ap (λ (r : Reply). r.bench) e } }

-- ---- no second answer
pub one_opened : {n : ℕ} {b b' : List ℕ} → Opened n b → Opened n b' → b ≡ b'
one_opened {n} {b} {b'} x y = words_same b b' x.words.canon y.words.canon (fit_of b x.words).within (x.seen ∙ sym y.seen)

pub one_set_up : {n k k' : ℕ} {b b' : List ℕ} → OpenedBy n k b → OpenedBy n k' b' → (k ≡ k') × (b ≡ b')
one_set_up x y = (x.number ∙ sym y.number, one_opened x.opened y.opened)

pub one_set_up_in : {m : Bool} {n k k' : ℕ} {b b' : List ℕ} → OpenedInBy m n k b → OpenedInBy m n k' b' → (k ≡ k') × (b ≡ b')
one_set_up_in {b = b} {b'} x y =
    (x.number ∙ sym y.number, words_same b b' x.opened.words.canon y.opened.words.canon (fit_of b x.opened.words).within (x.opened.seen ∙ sym y.opened.seen))
