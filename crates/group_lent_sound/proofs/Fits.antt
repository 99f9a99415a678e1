-- The tests of one entry and of one stop, by the words' kind; that each entry is tested for itself; and a turn of the stops' loop. Assumes nothing.
use Prim.Native.Nat.{ℕ, zero, suc, ◌+◌, ◌-◌, ◌*◌, ◌%◌, ◌<◌, ◌≤◌}
use mathlib.Core.Path.{◌≡◌, refl, sym, ap, ap₂, ◌∙◌}
use mathlib.Core.Bool.{Bool, true, false, false≢true, not, ◌&&◌}
use native.Mathlib.Omega.{arith}
use native.Mathlib.Nat.{mod-eq_of_lt}
use borrow.Author.Tests.{ne_eqb, ltb-true}
use mathlib.Core.List.{List}
use lib.Dec.{eqb, leb, ltb}
use native.Mathlib.Numerals.{add-one}
use Rattle.std.specs.List.{list_all, range_with_len}
use lib.ListN.{get_or}
use Rattle.kinds.specs.Obstacles.{listable, is_stop}
use Rattle.group_lent.specs.Forms.{five, five_at, is_form, obstacle_of}
use Rattle.group_lent.specs.Groups.{entry_form, entry_at, stop_read, stop_form, stop_at}
use Rattle.group_lent.specs.declared.Five.{Five}
use Rattle.group_lent_sound.specs.Test.{entry_fits, stop_fits, entries_fit, stops_fit}

-- no kind above 6
past : (k a b c d : ℕ) → 6 < k → is_form (five k a b c d) ≡ false
unfolding is_form
past k a b c d h =
    rw (
      ne_eqb k 1 (λ e. omega arith),
      ne_eqb k 2 (λ e. omega arith),
      ne_eqb k 3 (λ e. omega arith),
      ne_eqb k 4 (λ e. omega arith),
      ne_eqb k 5 (λ e. omega arith),
      ne_eqb k 6 (λ e. omega arith),
    )

listing : (k a b c d : ℕ) → is_form (five k a b c d) ≡ true → (not (eqb k 1) && ltb k 5) ≡ listable (obstacle_of (five k a b c d))
unfolding is_form obstacle_of
listing zero a b c d e = absurd (false≢true e)
listing (suc zero) a b c d e = refl
listing (suc (suc zero)) a b c d e = refl
listing (suc (suc (suc zero))) a b c d e = refl
listing (suc (suc (suc (suc zero)))) a b c d e = refl
listing (suc (suc (suc (suc (suc zero))))) a b c d e = refl
listing (suc (suc (suc (suc (suc (suc zero)))))) a b c d e = refl
listing (suc (suc (suc (suc (suc (suc (suc k))))))) a b c d e = absurd (false≢true (sym (past (suc (suc (suc (suc (suc (suc (suc k))))))) a b c d (omega arith)) ∙ e))

stopping : (k a b c d : ℕ) → is_form (five k a b c d) ≡ true → leb 5 k ≡ is_stop (obstacle_of (five k a b c d))
unfolding is_form obstacle_of
stopping zero a b c d e = absurd (false≢true e)
stopping (suc zero) a b c d e = refl
stopping (suc (suc zero)) a b c d e = refl
stopping (suc (suc (suc zero))) a b c d e = refl
stopping (suc (suc (suc (suc zero)))) a b c d e = refl
stopping (suc (suc (suc (suc (suc zero))))) a b c d e = refl
stopping (suc (suc (suc (suc (suc (suc zero)))))) a b c d e = refl
stopping (suc (suc (suc (suc (suc (suc (suc k))))))) a b c d e = absurd (false≢true (sym (past (suc (suc (suc (suc (suc (suc (suc k))))))) a b c d (omega arith)) ∙ e))

-- b only matters where a holds
and_same : (a b c : Bool) → (a ≡ true → b ≡ c) → (a && b) ≡ (a && c)
and_same true b c e = e refl
and_same false b c e = refl

pub entry_fits_lem : (ws : List ℕ) (i : ℕ) (f : Five) (ok : Bool) → f ≡ five_at ws (5 + i * 5) → ok ≡ is_form f → (ok && (not (eqb f.kind 1) && ltb f.kind 5)) ≡ entry_fits ws i
unfolding entry_form entry_at
entry_fits_lem ws i f ok e d =
    ap (λ (b : Bool). b && (not (eqb f.kind 1) && ltb f.kind 5)) d
    ∙ and_same (is_form f) (not (eqb f.kind 1) && ltb f.kind 5) (listable (obstacle_of f)) (listing f.kind f.a f.b f.c f.d)
    ∙ ap (λ (g : Five). is_form g && listable (obstacle_of g)) e

pub stop_fits_lem : (ws : List ℕ) (b i : ℕ) (f : Five) (ok : Bool) → f ≡ five_at ws (645 + i * 6 + 1) → ok ≡ is_form f
    → ((ltb (get_or ws (645 + i * 6) 0) 4294967296 && ok) && (leb 5 f.kind && leb b (get_or ws (645 + i * 6) 0))) ≡ stop_fits ws b i
unfolding stop_form stop_at stop_read
stop_fits_lem ws b i f ok e d =
    let v = get_or ws (645 + i * 6) 0 in
    ap (λ (t : Bool). (ltb v 4294967296 && t) && (leb 5 f.kind && leb b v)) d
    ∙ and_same (ltb v 4294967296 && is_form f) (leb 5 f.kind && leb b v) (is_stop (obstacle_of f) && leb b (v % 4294967296)) (both v f (ltb v 4294967296) refl)
    ∙ ap (λ (g : Five). (ltb v 4294967296 && is_form g) && (is_stop (obstacle_of g) && leb b (v % 4294967296))) e
  where
    both : (v : ℕ) (f : Five) (t : Bool) → ltb v 4294967296 ≡ t → (t && is_form f) ≡ true → (leb 5 f.kind && leb b v) ≡ (is_stop (obstacle_of f) && leb b (v % 4294967296))
    both v f true l h = ap₂ (λ (p q : Bool). p && q) (stopping f.kind f.a f.b f.c f.d h) (ap (leb b) (sym (mod-eq_of_lt (ltb-true v 4294967296 l))))
    both v f false l h = absurd (false≢true h)

-- ---- the entries, each for itself

pub entries_by_all : (ws : List ℕ) (i k : ℕ) → list_all (entry_fits ws) (range_with_len i k) ≡ entries_fit ws i k
unfolding entries_fit
entries_by_all ws i zero = refl
entries_by_all ws i (suc k) = rw (add-one i, entries_by_all ws (suc i) k)

-- ---- the stops: what is left of n decides

module _ (ws : List ℕ) (n i : ℕ) (all ok : Bool) (h : i < n) where
  next : n - i ≡ suc (n - (i + 1))
  next = omega arith

  up : suc i ≡ i + 1
  up = omega arith

  module _ (b : ℕ) (e : all ≡ stops_fit ws b i (n - i)) (d : ok ≡ stop_fits ws b i) where
    stops_step : all ≡ (ok && stops_fit ws (get_or ws (645 + i * 6) 0 % 4294967296 + 1) (i + 1) (n - (i + 1)))
    unfolding stops_fit stop_at stop_read
    stops_step =
        let v = get_or ws (645 + i * 6) 0 % 4294967296 in
        let z : suc v ≡ v + 1 = omega arith in
        e
        ∙ ap (stops_fit ws b i) next
        ∙ ap₂ (λ (t : Bool) (k : ℕ). t && stops_fit ws (suc v) k (n - (i + 1))) (sym d) up
        ∙ ap (λ (x : ℕ). ok && stops_fit ws x (i + 1) (n - (i + 1))) z

    pub stops_no : ok ≡ false → false ≡ all
    stops_no t = sym (stops_step ∙ ap (λ (x : Bool). x && stops_fit ws (get_or ws (645 + i * 6) 0 % 4294967296 + 1) (i + 1) (n - (i + 1))) t)

    pub stops_on : ok ≡ true → all ≡ stops_fit ws (get_or ws (645 + i * 6) 0 % 4294967296 + 1) (i + 1) (n - (i + 1))
    stops_on t = stops_step ∙ ap (λ (x : Bool). x && stops_fit ws (get_or ws (645 + i * 6) 0 % 4294967296 + 1) (i + 1) (n - (i + 1))) t

module _ (ws : List ℕ) (n i : ℕ) (all : Bool) (h : n ≤ i) where
  none : n - i ≡ 0
  none = omega arith

  pub stops_end : (b : ℕ) → all ≡ stops_fit ws b i (n - i) → true ≡ all
  unfolding stops_fit
  stops_end b e = sym (e ∙ ap (stops_fit ws b i) none)
