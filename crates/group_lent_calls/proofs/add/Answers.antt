-- A growth in place; STALE by the nodes that the words name; else the group in place. Assumes nothing.
use Prim.Native.Nat.{ℕ}
use mathlib.Core.Path.{◌≡◌, ap, ◌∙◌}
use mathlib.Core.List.{List}
use borrow.Author.Rules.{rules}
use lib.ListN.{get_or}
use Rattle.bench_views.proofs.Fits.{fit_of}
use Rattle.group_lent.specs.Forms.{five_at}
use Rattle.group_lent.specs.declared.Five.{Five}
use Rattle.group_lent_calls.proofs.Calling.{add_stale, add_goes, add_grows}
use Rattle.group_lent_calls.proofs.add.Goals as goal

first_is : (os : List ℕ) → get_or os 0 0 ≡ 1 → (five_at os 0).kind ≡ 1
unfolding five_at
first_is os e = e

pub add_growth-requires : goal.add_growth-requires
unfolding five_at
add_growth-requires c = record { sound_group = c.requires.sound_words.1; kind_value = ap (λ (f : Five). f.kind) c.five_in-g.ensures ∙ c.if-o-eq1.true }

pub returns-then-o-eq1 : goal.returns-then-o-eq1
returns-then-o-eq1 c = add_grows c.args.b.now c.args.w.now c.requires.sound_words.0 c.requires.sound_words.1 (five_at c.args.o.now 0) (first_is c.args.o.now c.if-o-eq1.true) _ _ (rw c.five_in-g.ensures at c.add_growth.ensures)

pub names_gone-requires : goal.names_gone-requires
names_gone-requires c = record { canon = c.requires.sound_words.0.canon; f_value = rw c.five_in-f.ensures c.requires.o_value }

pub returns-then-names_gone : goal.returns-then-names_gone
returns-then-names_gone c = add_stale c.args.b.now c.args.w.now c.requires.sound_words.0 c.requires.sound_words.1 _ _ (rw c.five_in-f.ensures at c.names_gone.ensures) c.if-names_gone.true

pub vertex_of-v-requires : goal.vertex_of-v-requires
vertex_of-v-requires c = record { fit = fit_of c.args.b.now c.requires.sound_words.0; f_value = rw c.five_in-f.ensures c.requires.o_value }

pub add-requires : goal.add-requires
add-requires c = record { sound_group = c.requires.sound_words.1; f_value = (rw c.five_in-f.ensures c.requires.o_value, c.vertex_of-v.ensures.1) }

pub returns : goal.returns
returns c = add_goes c.args.b.now c.args.w.now c.requires.sound_words.0 c.requires.sound_words.1 _ _ (rw c.five_in-f.ensures at c.names_gone.ensures) c.if-names_gone.false _ (rw c.five_in-f.ensures at c.vertex_of-v.ensures.0) _ _ (rw c.five_in-f.ensures at c.add.ensures)
