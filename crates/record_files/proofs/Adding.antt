-- What is scanned of a file and what is left of it, added up. Assumes nothing.
use Rattle.std.specs.Prelude.{None, Option, Some}
use Prim.Native.Nat.{ℕ, suc, ◌+◌}
use native.Mathlib.Omega.{arith}
use mathlib.Core.Path.{◌≡◌, refl, ◌∙◌, ap}
use mathlib.Core.Bool.{Bool, true, false, ◌&&◌, and-true}
use mathlib.Core.List.{List, [], ◌∷◌}
use lib.ListN.{length, length-append}
use Rattle.record_spec.specs.Operations.{Op, line_of_op, self}
use Rattle.record_spec.specs.Records.{bytes_of}
use Rattle.record_spec.specs.Files.{records_of}
use Rattle.record_spec.specs.Moves.{text_of, all_self}
use Rattle.record_spec.proofs.Files.{onto}
use Rattle.record_files.specs.declared.Scanned.{Scanned}
use Rattle.record_files.specs.Scans.{not_file, scanned_of}

pub same_scan : (a b x : ℕ) (o : Bool) (a' b' x' : ℕ) (o' : Bool) → a ≡ a' → b ≡ b' → x ≡ x' → o ≡ o'
    → ◌≡◌ {A = Scanned} (record { whole = true; count = a; start = b; text = x; own = o }) (record { whole = true; count = a'; start = b'; text = x'; own = o' })
same_scan a b x o a' b' x' o' p q r s = λ i. record { whole = true; count = p i; start = q i; text = r i; own = s i }

-- so many records, bytes and bytes of text more
abbrev pub more : ℕ → ℕ → ℕ → Bool → Option (List Op) → Scanned
more a b x o None = not_file
more a b x o (Some ops) = record { whole = true; count = a + length ops; start = b + length (records_of ops); text = x + length (text_of ops); own = o && all_self ops }

pub more_none : (o : Option (List Op)) → scanned_of o ≡ more 0 0 0 true o
more_none None = refl
more_none (Some ops) = same_scan _ _ _ _ _ _ _ _ (omega arith) (omega arith) (omega arith) refl

and_assoc : (a b c : Bool) → a && (b && c) ≡ (a && b) && c
and_assoc true b c = refl
and_assoc false b c = refl

pub more_onto : (a b x : ℕ) (o : Bool) (op : Op) (r : Option (List Op))
    → more a b x o (onto op r) ≡ more (a + 1) (b + length (bytes_of op)) (x + suc (length (line_of_op op))) (o && self op) r
unfolding onto records_of text_of all_self
more_onto a b x o op None = refl
more_onto a b x o op (Some ops) =
    same_scan _ _ _ _ _ _ _ _ (omega arith) (omega (arith, length-append (bytes_of op) (records_of ops))) (omega (arith, length-append (line_of_op op) (10 ∷ text_of ops)))
    (and_assoc o (self op) (all_self ops))

pub more_end : (a b x : ℕ) (o : Bool) (r : Option (List Op)) → r ≡ Some [] → more a b x o r ≡ record { whole = true; count = a; start = b; text = x; own = o }
unfolding records_of text_of all_self
more_end a b x o r e = ap (more a b x o) e ∙ same_scan _ _ _ _ _ _ _ _ (omega arith) (omega arith) (omega arith) (and-true o)
