-- Which operations have a record, three ways: `Writable`, what the reader tests, and what the bytes hold by themselves. Assumes nothing.
use Prim.Native.Nat.{ℕ, ◌≤◌, ◌<◌}
use native.Mathlib.Omega.{arith}
use mathlib.Core.Path.{◌≡◌, refl}
use mathlib.Core.Bool.{Bool, true, false, false≢true, ◌&&◌}
use mathlib.Core.List.{List, [], ◌∷◌, map}
use lib.Dec.{leb}
use lib.ListN.{length, length-append, length-map}
use mir.Syntax.{w64}
use mir.Val.{SFits}
use borrow.Author.Tests.{leb-true, le-leb}
use Rattle.ledger_spec.specs.Decimals.{decimal}
use Rattle.ledger_spec.specs.Operations.{D, B, E, S, G, F, C, K}
use Rattle.ledger_spec.specs.Grammar.{Fields}
use Rattle.text_lines.specs.Texts.{spaced, letter_of, fields_of, Serials}
use Rattle.record_spec.specs.Operations.{Member, Op, serial_of, line_of_op}
use Rattle.record_spec.specs.Records.{Pairs, Writable}
use Rattle.record_spec.specs.Reader.{members_good, serials_good, good}

-- ---- tests

pub both : (a b : Bool) → a && b ≡ true → (a ≡ true) × (b ≡ true)
both true b e = (refl, e)
both false b e = absurd (false≢true e)

pub joined : (a b : Bool) → a ≡ true → b ≡ true → a && b ≡ true
joined a b p q = rw (p, q)

-- ---- what bytes hold

abbrev pub Word : ℕ → Type 0
Word n = n < 4294967296

abbrev pub Words : List Member → Type 0
Words [] = Unit {0}
Words (m ∷ ms) = Word m.serial × Word m.first × Word m.second × Words ms

abbrev pub Held : Op → Type 0
Held (D u v) = (u < 256) × Word v
Held (B u ms) = (u < 256) × (length ms < 65536) × Words ms
Held (E u k) = (u < 256) × Word k
Held (S u k g) = (u < 256) × Word k
Held (G u l) = (u < 256) × SFits w64 l
Held (F p l r) = (p < 256) × (l < 256) × (r < 256)
Held (C u) = u < 256
Held (K u) = u < 256

-- a line has a byte for each field
pub spaced_long : (f : List ℕ) (fs : Fields) → length fs ≤ length (spaced f fs)
unfolding spaced
spaced_long f [] = omega arith
spaced_long f (g ∷ fs) = omega (arith, spaced_long g fs, length-append f (32 ∷ spaced g fs))

count_small : (u : ℕ) (ms : List Member) → length (line_of_op (B u ms)) ≤ 1023 → length ms < 65536
unfolding letter_of fields_of
count_small u ms h =
    let a = spaced_long (66 ∷ []) (decimal u ∷ map decimal (map serial_of ms)) in
    omega (arith, a, h, length-map (map serial_of ms) decimal, length-map ms serial_of)

words_held : (ms : List Member) → Serials (map serial_of ms) → Pairs ms → Words ms
words_held [] p q = tt
words_held (m ∷ ms) p q = (omega (arith, p.0.1), omega (arith, q.0.1), omega (arith, q.1.1), words_held ms p.1 q.2)

pub writable_held : (op : Op) → Writable op → Held op
writable_held (D u v) w = (omega (arith, w.fit), omega (arith, w.fit))
writable_held (B u ms) w = (omega (arith, w.fit.0), count_small u ms w.short, words_held ms w.fit.2 w.pairs)
writable_held (E u k) w = (omega (arith, w.fit), omega (arith, w.fit))
writable_held (S u k g) w = (omega (arith, w.fit), omega (arith, w.fit))
writable_held (G u l) w = (omega (arith, w.fit.0), w.fit.1)
writable_held (F p l r) w = (omega (arith, w.fit), omega (arith, w.fit), omega (arith, w.fit))
writable_held (C u) w = omega (arith, w.fit)
writable_held (K u) w = omega (arith, w.fit)

-- ---- what the reader tests

members_good_lem : (ms : List Member) → Serials (map serial_of ms) → Pairs ms → members_good ms ≡ true
unfolding members_good
members_good_lem [] p q = refl
members_good_lem (m ∷ ms) p q =
    joined (leb 1 m.serial && (leb 1 m.first && leb 1 m.second)) (members_good ms)
    (joined (leb 1 m.serial) (leb 1 m.first && leb 1 m.second) (le-leb 1 m.serial p.0.0)
    (joined (leb 1 m.first) (leb 1 m.second) (le-leb 1 m.first q.0.0) (le-leb 1 m.second q.1.0)))
    (members_good_lem ms p.1 q.2)

serials_good_lem : (op : Op) → Writable op → serials_good op ≡ true
unfolding serials_good
serials_good_lem (D u v) w = refl
serials_good_lem (B u ms) w =
    joined (leb 1 (length ms)) (members_good ms) (le-leb 1 (length ms) (omega (arith, w.fit.1, length-map ms serial_of))) (members_good_lem ms w.fit.2 w.pairs)
serials_good_lem (E u k) w = le-leb 1 k w.fit.1.0
serials_good_lem (S u k g) w = le-leb 1 k w.fit.1.0
serials_good_lem (G u l) w = refl
serials_good_lem (F p l r) w = refl
serials_good_lem (C u) w = refl
serials_good_lem (K u) w = refl

pub writable_good : (op : Op) → Writable op → good op ≡ true
unfolding good
writable_good op w = joined (serials_good op) (leb (length (line_of_op op)) 1023) (serials_good_lem op w) (le-leb (length (line_of_op op)) 1023 w.short)

-- ---- both together

members_fit : (ms : List Member) → Words ms → members_good ms ≡ true → Serials (map serial_of ms) × Pairs ms
unfolding members_good
members_fit [] h e = (tt, tt)
members_fit (m ∷ ms) h e =
    let a = both (leb 1 m.serial && (leb 1 m.first && leb 1 m.second)) (members_good ms) e in
    let b = both (leb 1 m.serial) (leb 1 m.first && leb 1 m.second) a.0 in
    let c = both (leb 1 m.first) (leb 1 m.second) b.1 in
    let i = members_fit ms h.3 a.1 in (
      ((leb-true 1 m.serial b.0, omega (arith, h.0)), i.0),
      ((leb-true 1 m.first c.0, omega (arith, h.1)), (leb-true 1 m.second c.1, omega (arith, h.2)), i.1),
    )

-- with a short line, and good serials
held_fit : (op : Op) → Held op → serials_good op ≡ true → length (line_of_op op) ≤ 1023 → Writable op
unfolding serials_good
held_fit (D u v) h e s = record { fit = (omega (arith, h.0), omega (arith, h.1)); pairs = tt; short = s }
held_fit (B u ms) h e s =
    let a = both (leb 1 (length ms)) (members_good ms) e in
    let b = members_fit ms h.2 a.1 in
    record { fit = (omega (arith, h.0), omega (arith, leb-true 1 (length ms) a.0, length-map ms serial_of), b.0); pairs = b.1; short = s }
held_fit (E u k) h e s = record { fit = (omega (arith, h.0), (leb-true 1 k e, omega (arith, h.1))); pairs = tt; short = s }
held_fit (S u k g) h e s = record { fit = (omega (arith, h.0), (leb-true 1 k e, omega (arith, h.1))); pairs = tt; short = s }
held_fit (G u l) h e s = record { fit = (omega (arith, h.0), h.1); pairs = tt; short = s }
held_fit (F p l r) h e s = record { fit = (omega (arith, h.0), omega (arith, h.1), omega (arith, h.2)); pairs = tt; short = s }
held_fit (C u) h e s = record { fit = omega (arith, h); pairs = tt; short = s }
held_fit (K u) h e s = record { fit = omega (arith, h); pairs = tt; short = s }

pub good_writable : (op : Op) → Held op → good op ≡ true → Writable op
unfolding good
good_writable op h e =
    let a = both (serials_good op) (leb (length (line_of_op op)) 1023) e in
    held_fit op h a.0 (leb-true (length (line_of_op op)) 1023 a.1)
