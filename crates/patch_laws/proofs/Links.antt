-- The link between the patch alone on a bench and the patch on a bench that it shares: it holds at set-up, a call of the other patch keeps it, and a call
-- of the patch, made on both, keeps it and shows the patch the same. Assumes nothing.
use Rattle.std.specs.Prelude.{None}
use Prim.Native.Nat.{ℕ, zero, suc, ◌≤◌, ◌<◌, ◌^◌}
use mathlib.Core.Path.{◌≡◌, refl, sym, ◌∙◌, ap, ap₂, subst, subst₂}
use mathlib.Core.Logic.{◌≢◌, ◌⊎◌, inl, inr}
use mathlib.Core.Bool.{Bool, true, false, ◌||◌}
use mathlib.Core.List.{List, [], ◌∷◌, ◌++◌, map, map-append}
use native.Mathlib.Omega.{arith}
use native.Mathlib.Decide.{dec_lt}
use lib.Dec.{eqb, leb}
use lib.ListN.{get_or, get_or-map, get_or-eq_default}
use borrow.Author.Tests.{leb-true, le-leb}
use Rattle.ledger_spec.specs.Bench.{Handle, Bench, fresh}
use Rattle.ledger_spec.specs.Look.{interface, top}
use Rattle.ledger_spec.specs.Tests.{first, worn, both}
use Rattle.ledger_spec.specs.Deeds.{new_handle}
use Rattle.ledger_spec.specs.Calls.{nobody, Call, Defect, Blossom, Expand, SetState, Grow, Fuse, Clear, Mark}
use Rattle.ledger_spec.specs.Notices.{Notice}
use Rattle.ledger_spec.specs.Answers.{Answer, answer}
use Rattle.ledger_spec.specs.Knit.{In, here, there}
use Rattle.ledger_spec.specs.Facts.{Sound}
use Rattle.ledger_spec.proofs.Lists.{not_in_nil, in_cases, in_append, map_in}
use Rattle.ledger_spec.proofs.Tops.{below}
use Rattle.ledger_spec.proofs.Passed.{fusable}
use Rattle.ledger_spec.proofs.Holds.{holds}
use Rattle.ledger_spec.proofs.Readings.{mark_next}
use Rattle.ledger_spec.proofs.DeedReadings.{defect_next, blossom_next, expand_next}
use Rattle.ledger_spec.proofs.TreeReadings.{joins, grow_next, join_next, wipe_next, choose_next}
use Rattle.ledger_laws.proofs.Answered.{tests_of, deed_of, node_of, answer_number, zero_tests, zero_bench, zero_node, zero_notices, refused_bench, refused_node, refused_notices}
use Rattle.ledger_laws.proofs.Always.{answered_sound}
use Rattle.ledger_laws.proofs.Never.{next_grows}
use Rattle.ledger_laws.proofs.Untouched.{named_by, untouched}
use Rattle.patch_laws.specs.Patch.{Patch, Apart, mine, units_named, Script, units_of, Table, nowhere, given, given_pair, written, name_of}
use Rattle.patch_laws.specs.Runs.{heard, answered, Side, made, answer_to, after, seen}
use Rattle.patch_laws.proofs.Renamed.{Renaming, re_pair, map_map}
use Rattle.patch_laws.proofs.Faces.{Faces, Closed, climb_mine, top_faces}
use Rattle.patch_laws.proofs.Alike.{Each, re_call, Own, Names, tests_faces}
use Rattle.patch_laws.proofs.Held.{Held, mine_eight}
use Rattle.patch_laws.proofs.Deeds.{re_notice, new_faces, deed_faces, tells_faces, deed_closed, deed_held}
use Rattle.patch_laws.proofs.Rising.{by, Rising, rising_next, rising_more, rising_least, rising_one, rising_names, shifted, shifted_low, rising_shift, name_same, all_heard, table_agree, faces_agree}

-- ---- the other patch's calls
mine_own : (p : Patch) (u : ℕ) → mine p u ≡ true → u < 8 → p u ≡ true
unfolding mine
mine_own p u m h = go (p u) refl m
  where
    go : (c : Bool) → p u ≡ c → (c || leb 8 u) ≡ true → p u ≡ true
    go true e k = e
    go false e k = absurd (omega (arith, h, leb-true 8 u k))

out : (b : Bench) → Sound b → (w : ℕ) → 8 ≤ w → interface b w ≡ fresh
out b S w h = get_or-eq_default b.interfaces fresh (omega (arith, h, S.frame.eight))

-- what a call names is what the law of untouched interfaces goes by
same_units : (c : Call) → named_by c ≡ units_named c
same_units (Defect u v) = refl
same_units (Blossom u hs ts) = refl
same_units (Expand u h) = refl
same_units (SetState u h t) = refl
same_units (Grow u l) = refl
same_units (Fuse q l r) = refl
same_units (Clear u) = refl
same_units (Mark u k) = refl

-- the patch's interfaces are untouched
module _ (a p : Patch) (apart : Apart a p) (R : Renaming) (s b : Bench) (S : Sound b) (C : Closed p s) (F : Faces p R s b) (c : Call) (w : Each a (units_named c)) where
  pub theirs_still : (u : ℕ) → mine p u ≡ true → interface (answer b c).bench u ≡ interface b u
  theirs_still u m = go (dec_lt u 8)
    where
      go : Dec (u < 8) → interface (answer b c).bench u ≡ interface b u
      go (yes h) = untouched b c u (λ i. let low : top b u < 8 = below b S.frame 8 u h in
          apart (top b u) (mine_own a (top b u) (w (top b u) (subst (In (top b u)) (same_units c) i)) low)
          (mine_own p (top b u) (subst (λ (t : ℕ). mine p t ≡ true) (sym (top_faces p R s b C F u m)) (climb_mine p s C 8 u m)) low))
      go (no h) = out (answer b c).bench (answered_sound b S c) u (omega arith) ∙ sym (out b S u (omega arith))

  pub theirs_faces : Faces p R s (answer b c).bench
  theirs_faces = record { long = (answered_sound b S c).frame.eight ∙ sym S.frame.eight ∙ F.long; face = λ u m. theirs_still u m ∙ F.face u m }

-- ---- the link
pub record Link (p : Patch) (ρ : ℕ → ℕ) (k₀ k : Side) : Type 0 where
  pub sound₀ : Sound k₀.bench
  pub sound : Sound k.bench
  pub closed : Closed p k₀.bench
  pub held : Held p k₀.bench
  pub faces : Faces p (by ρ) k₀.bench k.bench
  pub rising : Rising ρ k₀.bench.next k.bench.next
  pub table : k.table ≡ map (by ρ).handle k₀.table
  pub places : (h : Handle) → In h k₀.table → mine p h.unit ≡ true
  pub old : (h : Handle) → In h k₀.table → h.serial < k₀.bench.next

pub theirs_link : (a p : Patch) → Apart a p → (ρ : ℕ → ℕ) (k₀ k : Side) → Link p ρ k₀ k → (c : Call) → Each a (units_named c)
    → Link p (shifted ρ k₀.bench.next (answer k.bench c).bench.next) k₀ (record { bench = (answer k.bench c).bench; table = k.table })
theirs_link a p apart ρ k₀ k L c w = record {
  sound₀ = L.sound₀;
  sound = answered_sound k.bench L.sound c;
  closed = L.closed;
  held = L.held;
  faces = faces_agree ρ σ k₀.bench low L.sound₀ p (answer k.bench c).bench (theirs_faces a p apart (by ρ) k₀.bench k.bench L.sound L.closed L.faces c w);
  rising = rising_shift ρ k₀.bench.next (answer k.bench c).bench.next k.bench.next (next_grows k.bench c) L.sound₀.sewn.begun L.rising;
  table = L.table ∙ table_agree ρ σ k₀.bench low k₀.table L.old;
  places = L.places;
  old = L.old;
}
  where
    σ : ℕ → ℕ
    σ = shifted ρ k₀.bench.next (answer k.bench c).bench.next

    low : (i : ℕ) → i < k₀.bench.next → ρ i ≡ σ i
    low i h = sym (shifted_low ρ k₀.bench.next (answer k.bench c).bench.next i h)

-- ---- a call of the patch: the two answers
pub record Turn (p : Patch) (ρ : ℕ → ℕ) (s : Bench) (a₀ a : Answer) : Type 0 where
  pub number : a.number ≡ a₀.number
  pub node : a.node ≡ (by ρ).handle a₀.node
  pub notices : a.notices ≡ map (re_notice (by ρ)) a₀.notices
  pub faces : Faces p (by ρ) a₀.bench a.bench
  pub closed : Closed p a₀.bench
  pub held : Held p a₀.bench
  pub rising : Rising ρ a₀.bench.next a.bench.next
  pub grown : s.next ≤ a₀.bench.next

module _ (p : Patch) (ρ : ℕ → ℕ) (k₀ k : Side) (L : Link p ρ k₀ k) (c : Call) (o : Own p c) where
  abbrev s : Bench
  s = k₀.bench

  abbrev b : Bench
  b = k.bench

  abbrev d : Call
  d = re_call (by ρ) c

  N : Names p (by ρ)
  N = rising_names ρ s.next b.next L.rising p

  same_next : ρ s.next ≡ b.next
  same_next = rising_next ρ s.next b.next L.rising

  nobody_same : nobody ≡ (by ρ).handle nobody
  nobody_same = λ i. record { unit = 0; slot = 0; serial = sym L.rising.origin i }

  wear : worn s ≡ true → worn b ≡ true
  wear e = le-leb (2 ^ 32) b.next (omega (arith, leb-true (2 ^ 32) s.next e, rising_least ρ s.next b.next L.rising))

  same_number : (answer b d).number ≢ 15 → (answer b d).number ≡ (answer s c).number
  same_number q = answer_number b d (holds b L.sound) ∙ tests_faces p (by ρ) s b L.closed L.faces N wear L.sound₀.frame L.sound.frame c o (λ z. q (answer_number b d (holds b L.sound) ∙ z)) ∙ sym (answer_number s c (holds s L.sound₀))

  same_node : (x : Call) → Own p x → node_of b (re_call (by ρ) x) ≡ (by ρ).handle (node_of s x)
  unfolding node_of
  same_node (Defect u v) w = new_faces p (by ρ) s b L.closed L.faces N L.held same_next u (w.units u (here refl))
  same_node (Blossom u hs ts) w = new_faces p (by ρ) s b L.closed L.faces N L.held same_next u (w.units u (here refl))
  same_node (Expand u h) w = refl
  same_node (SetState u h t) w = refl
  same_node (Grow u l) w = nobody_same
  same_node (Fuse q l r) w = nobody_same
  same_node (Clear u) w = nobody_same
  same_node (Mark u t) w = nobody_same

  -- the next serials, in step
  same_rising : (x : Call) → first (tests_of s x) ≡ 0 → first (tests_of b (re_call (by ρ) x)) ≡ 0 → Rising ρ (deed_of s x).next (deed_of b (re_call (by ρ) x)).next
  unfolding deed_of tests_of
  same_rising (Defect u v) e f = subst₂ (Rising ρ) (sym (defect_next s u v)) (sym (defect_next b u v)) (rising_more ρ s.next b.next L.rising)
  same_rising (Blossom u hs ts) e f = subst₂ (Rising ρ) (sym (blossom_next s u hs ts)) (sym (blossom_next b u _ _)) (rising_more ρ s.next b.next L.rising)
  same_rising (Expand u h) e f = subst₂ (Rising ρ) (sym (expand_next s h)) (sym (expand_next b _)) L.rising
  same_rising (SetState u h t) e f = subst₂ (Rising ρ) (sym (mark_next s h t None)) (sym (mark_next b _ t None)) L.rising
  same_rising (Grow u l) e f = subst₂ (Rising ρ) (sym (grow_next s u l)) (sym (grow_next b u l)) L.rising
  same_rising (Fuse q l r) e f = subst₂ (Rising ρ) (sym (join_next s q l r (joins L.sound₀.frame (fusable s q l r e)))) (sym (join_next b q l r (joins L.sound.frame (fusable b q l r f)))) L.rising
  same_rising (Clear u) e f = subst₂ (Rising ρ) (sym (wipe_next s u)) (sym (wipe_next b u)) L.rising
  same_rising (Mark u t) e f = subst₂ (Rising ρ) (sym (choose_next s u t)) (sym (choose_next b u t)) L.rising

  pub turned : (answer b d).number ≢ 15 → Turn p ρ s (answer s c) (answer b d)
  turned q = go (answer s c).number refl
    where
      go : (n : ℕ) → (answer s c).number ≡ n → Turn p ρ s (answer s c) (answer b d)
      go zero z = let z' : (answer b d).number ≡ 0 = same_number q ∙ z in record {
        number = same_number q;
        node = zero_node b d z' ∙ same_node c o ∙ ap (by ρ).handle (sym (zero_node s c z));
        notices = zero_notices b d z' ∙ tells_faces p (by ρ) s b L.closed L.faces N L.held same_next c o ∙ ap (map (re_notice (by ρ))) (sym (zero_notices s c z));
        faces = subst₂ (Faces p (by ρ)) (sym (zero_bench s c z)) (sym (zero_bench b d z')) (deed_faces p (by ρ) s b L.closed L.faces N L.held same_next c o);
        closed = subst (Closed p) (sym (zero_bench s c z)) (deed_closed p s L.sound₀ L.closed c o (zero_tests s c z));
        held = subst (Held p) (sym (zero_bench s c z)) (deed_held p s L.sound₀ L.closed L.held c o);
        rising = subst₂ (λ (x y : Bench). Rising ρ x.next y.next) (sym (zero_bench s c z)) (sym (zero_bench b d z')) (same_rising c (zero_tests s c z) (zero_tests b d z'));
        grown = next_grows s c;
      }
      go (suc n) z = let r : (answer s c).number ≢ 0 = λ y. omega (arith, y, z) in let r' : (answer b d).number ≢ 0 = λ y. r (sym (same_number q) ∙ y) in record {
        number = same_number q;
        node = refused_node b d r' ∙ nobody_same ∙ ap (by ρ).handle (sym (refused_node s c r));
        notices = refused_notices b d r' ∙ ap (map (re_notice (by ρ))) (sym (refused_notices s c r));
        faces = subst₂ (Faces p (by ρ)) (sym (refused_bench s c r)) (sym (refused_bench b d r')) L.faces;
        closed = subst (Closed p) (sym (refused_bench s c r)) L.closed;
        held = subst (Held p) (sym (refused_bench s c r)) L.held;
        rising = subst₂ (λ (x y : Bench). Rising ρ x.next y.next) (sym (refused_bench s c r)) (sym (refused_bench b d r')) L.rising;
        grown = next_grows s c;
      }

-- ---- a script: what it names is the patch's, and it names alike
get_d_all : {A : Type 0} (P : A → Type 0) (l : List A) (k : ℕ) (d : A) → ((x : A) → In x l → P x) → P d → P (get_or l k d)
get_d_all P [] k d f q = q
get_d_all P (x ∷ xs) zero d f q = f x (here refl)
get_d_all P (x ∷ xs) (suc k) d f q = get_d_all P xs k d (λ y i. f y (there i)) q

module _ (p : Patch) (t : Table) (places : (h : Handle) → In h t → mine p h.unit ≡ true) where
  pub given_mine : (k : ℕ) → mine p (given t k).unit ≡ true
  given_mine k = get_d_all (λ h. mine p h.unit ≡ true) t k nowhere places (mine_eight p)

  members_own : (ks : List ℕ) (h : Handle) → In h (map (given t) ks) → mine p h.unit ≡ true
  members_own ks h i = let x = map_in (given t) ks i in subst (λ (g : Handle). mine p g.unit ≡ true) (sym x.2) (given_mine x.0)

  touching_own : (ts : List (ℕ × ℕ)) (h : Handle) → In h (both (map (given_pair t) ts)) → mine p h.unit ≡ true
  unfolding both
  touching_own [] h i = absurd (not_in_nil i)
  touching_own (k ∷ ks) h i = go (in_cases i) (touching_own ks h)
    where
      is : (j : ℕ) → h ≡ given t j → mine p h.unit ≡ true
      is j e = subst (λ (g : Handle). mine p g.unit ≡ true) (sym e) (given_mine j)

      go : (h ≡ given t k.0) ⊎ In h (given t k.1 ∷ both (map (given_pair t) ks)) → (In h (both (map (given_pair t) ks)) → mine p h.unit ≡ true) → mine p h.unit ≡ true
      go (inl e) ih = is k.0 e
      go (inr j) ih = next (in_cases j)
        where
          next : (h ≡ given t k.1) ⊎ In h (both (map (given_pair t) ks)) → mine p h.unit ≡ true
          next (inl e) = is k.1 e
          next (inr l) = ih l

  pub written_own : (c : Script) → Each p (units_of c) → Own p (written t c)
  unfolding written
  written_own (Script.Defect u v) w = record { units = w; handles = λ h i. absurd (not_in_nil i) }
  written_own (Script.Blossom u ks ts) w = record { units = w; handles = λ h i. go h (in_append (map (given t) ks) (both (map (given_pair t) ts)) i) }
    where
      go : (h : Handle) → In h (map (given t) ks) ⊎ In h (both (map (given_pair t) ts)) → mine p h.unit ≡ true
      go h (inl i) = members_own ks h i
      go h (inr i) = touching_own ts h i
  written_own (Script.Expand u k) w = record { units = w; handles = members_own (k ∷ []) }
  written_own (Script.SetState u k s) w = record { units = w; handles = members_own (k ∷ []) }
  written_own (Script.Grow u l) w = record { units = w; handles = λ h i. absurd (not_in_nil i) }
  written_own (Script.Fuse q l r) w = record { units = w; handles = λ h i. absurd (not_in_nil i) }
  written_own (Script.Mark u k) w = record { units = w; handles = λ h i. absurd (not_in_nil i) }
  written_own (Script.Clear u) w = record { units = w; handles = λ h i. absurd (not_in_nil i) }

module _ (ρ : ℕ → ℕ) (origin : ρ 0 ≡ 0) (t : Table) where
  pub given_faces : (k : ℕ) → given (map (by ρ).handle t) k ≡ (by ρ).handle (given t k)
  given_faces k = ap (get_or (map (by ρ).handle t) k) (λ i. record { unit = 8; slot = 0; serial = sym origin i }) ∙ get_or-map (by ρ).handle t k nowhere

  pub written_faces : (c : Script) → written (map (by ρ).handle t) c ≡ re_call (by ρ) (written t c)
  unfolding written
  written_faces (Script.Defect u v) = refl
  written_faces (Script.Blossom u ks ts) = ap₂ (Blossom u) (sym (map_map (given t) (by ρ).handle (given (map (by ρ).handle t)) (λ k. sym (given_faces k)) ks))
      (sym (map_map (given_pair t) (re_pair (by ρ)) (given_pair (map (by ρ).handle t)) (λ k. ap₂ (λ (g h : Handle). (g, h)) (sym (given_faces k.0)) (sym (given_faces k.1))) ts))
  written_faces (Script.Expand u k) = ap (Expand u) (given_faces k)
  written_faces (Script.SetState u k s) = ap (λ (h : Handle). SetState u h s) (given_faces k)
  written_faces (Script.Grow u l) = refl
  written_faces (Script.Fuse q l r) = refl
  written_faces (Script.Clear u) = refl
  written_faces (Script.Mark u k) = refl

-- ---- a step of the patch on both sides
made_faces : (ρ : ℕ → ℕ) (c : Script) (n : ℕ) (h : Handle) → made c n ((by ρ).handle h) ≡ map (by ρ).handle (made c n h)
made_faces ρ (Script.Defect u v) zero h = refl
made_faces ρ (Script.Defect u v) (suc n) h = refl
made_faces ρ (Script.Blossom u ks ts) zero h = refl
made_faces ρ (Script.Blossom u ks ts) (suc n) h = refl
made_faces ρ (Script.Expand u k) n h = refl
made_faces ρ (Script.SetState u k s) n h = refl
made_faces ρ (Script.Grow u l) n h = refl
made_faces ρ (Script.Fuse q l r) n h = refl
made_faces ρ (Script.Clear u) n h = refl
made_faces ρ (Script.Mark u k) n h = refl

-- a node that was handed out is the patch's, and its serial is given out
made_own : (p : Patch) (k : Side) (c : Script) → Each p (units_of c) → (n : ℕ) → (answer_to k c).number ≡ n → (h : Handle) → In h (made c n (answer_to k c).node)
    → (mine p h.unit ≡ true) × (h.serial < (answer_to k c).bench.next)
unfolding written node_of deed_of
made_own p k (Script.Defect u v) w zero z h i = only (in_cases i)
  where
    b : Bench
    b = k.bench

    only : (h ≡ (answer b (Defect u v)).node) ⊎ In h [] → (mine p h.unit ≡ true) × (h.serial < (answer b (Defect u v)).bench.next)
    only (inl e) = let f : h ≡ new_handle b u = e ∙ zero_node b (Defect u v) z in
        (subst (λ (g : Handle). mine p g.unit ≡ true) (sym f) (w u (here refl)), omega (arith, ap (λ (g : Handle). g.serial) f, ap (λ (d : Bench). d.next) (zero_bench b (Defect u v) z), defect_next b u v))
    only (inr j) = absurd (not_in_nil j)
made_own p k (Script.Defect u v) w (suc n) z h i = absurd (not_in_nil i)
made_own p k (Script.Blossom u ks ts) w zero z h i = only (in_cases i)
  where
    b : Bench
    b = k.bench

    c : Call
    c = Blossom u (map (given k.table) ks) (map (given_pair k.table) ts)

    only : (h ≡ (answer b c).node) ⊎ In h [] → (mine p h.unit ≡ true) × (h.serial < (answer b c).bench.next)
    only (inl e) = let f : h ≡ new_handle b u = e ∙ zero_node b c z in
        (subst (λ (g : Handle). mine p g.unit ≡ true) (sym f) (w u (here refl)), omega (arith, ap (λ (g : Handle). g.serial) f, ap (λ (d : Bench). d.next) (zero_bench b c z), blossom_next b u (map (given k.table) ks) (map (given_pair k.table) ts)))
    only (inr j) = absurd (not_in_nil j)
made_own p k (Script.Blossom u ks ts) w (suc n) z h i = absurd (not_in_nil i)
made_own p k (Script.Expand u j) w n z h i = absurd (not_in_nil i)
made_own p k (Script.SetState u j s) w n z h i = absurd (not_in_nil i)
made_own p k (Script.Grow u l) w n z h i = absurd (not_in_nil i)
made_own p k (Script.Fuse q l r) w n z h i = absurd (not_in_nil i)
made_own p k (Script.Clear u) w n z h i = absurd (not_in_nil i)
made_own p k (Script.Mark u t) w n z h i = absurd (not_in_nil i)

module _ (p : Patch) (ρ : ℕ → ℕ) (k₀ k : Side) (L : Link p ρ k₀ k) (c : Script) (w : Each p (units_of c)) (q : (answer_to k c).number ≢ 15) where
  named_same : written k.table c ≡ re_call (by ρ) (written k₀.table c)
  named_same = ap (λ (t : Table). written t c) L.table ∙ written_faces ρ L.rising.origin k₀.table c

  T : Turn p ρ k₀.bench (answer_to k₀ c) (answer_to k c)
  T = subst (λ (x : Call). Turn p ρ k₀.bench (answer_to k₀ c) (answer k.bench x)) (sym named_same)
      (turned p ρ k₀ k L (written k₀.table c) (written_own p k₀.table L.places c w) (subst (λ (x : Call). (answer k.bench x).number ≢ 15) named_same q))

  pub ours_turn : Turn p ρ k₀.bench (answer_to k₀ c) (answer_to k c)
  ours_turn = T

  table_after : (after k c).table ≡ map (by ρ).handle (after k₀ c).table
  unfolding after
  table_after = ap₂ {C = Table} ◌++◌ L.table (ap₂ (made c) T.number T.node ∙ made_faces ρ c (answer_to k₀ c).number (answer_to k₀ c).node) ∙ sym (map-append (by ρ).handle k₀.table (made c (answer_to k₀ c).number (answer_to k₀ c).node))

  pub ours_link : Link p ρ (after k₀ c) (after k c)
  unfolding after
  ours_link = record {
    sound₀ = answered_sound k₀.bench L.sound₀ (written k₀.table c);
    sound = answered_sound k.bench L.sound (written k.table c);
    closed = T.closed;
    held = T.held;
    faces = T.faces;
    rising = T.rising;
    table = table_after;
    places = λ h i. place h (in_append k₀.table (made c (answer_to k₀ c).number (answer_to k₀ c).node) i);
    old = λ h i. early h (in_append k₀.table (made c (answer_to k₀ c).number (answer_to k₀ c).node) i);
  }
    where
      place : (h : Handle) → In h k₀.table ⊎ In h (made c (answer_to k₀ c).number (answer_to k₀ c).node) → mine p h.unit ≡ true
      place h (inl i) = L.places h i
      place h (inr i) = (made_own p k₀ c w (answer_to k₀ c).number refl h i).0

      early : (h : Handle) → In h k₀.table ⊎ In h (made c (answer_to k₀ c).number (answer_to k₀ c).node) → h.serial < (answer_to k₀ c).bench.next
      early h (inl i) = omega (arith, L.old h i, T.grown)
      early h (inr i) = (made_own p k₀ c w (answer_to k₀ c).number refl h i).1

  pub ours_seen : seen k c ≡ seen k₀ c
  unfolding seen
  ours_seen = λ i. answered (T.number i) (called i) (noticed i)
    where
      one : (i j : ℕ) → eqb (ρ i) (ρ j) ≡ eqb i j
      one = rising_one ρ k₀.bench.next k.bench.next L.rising

      called : name_of (after k c).table (answer_to k c).node ≡ name_of (after k₀ c).table (answer_to k₀ c).node
      called = ap₂ name_of table_after T.node ∙ name_same ρ one (after k₀ c).table (answer_to k₀ c).node

      noticed : map (heard (after k c).table) (answer_to k c).notices ≡ map (heard (after k₀ c).table) (answer_to k₀ c).notices
      noticed = ap₂ (λ (t : Table) (l : List Notice). map (heard t) l) table_after T.notices ∙ all_heard ρ one (after k₀ c).table (answer_to k₀ c).notices
