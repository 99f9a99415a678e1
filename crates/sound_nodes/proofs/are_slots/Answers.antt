-- The test of each slot is the definition's, and a map is a word. Assumes nothing.
use mathlib.Core.Path.{refl}
use borrow.Author.Rules.{rules}
use borrow.Author.Tests.{tests}
use Rattle.sound_trees.proofs.Belows.{all_chained}
use Rattle.sound_nodes.specs.Nodes.{slot_test}
use Rattle.sound_nodes.proofs.Slots.{slots_of}
use Rattle.sound_nodes.proofs.are_slots.Goals as goal

pub returns : goal.returns
returns c =
    let a = c.args in
    let f = c.load_interface-f in
    let m = c.load_map-map in
    slots_of a.b.now a.u f.result m.result f.ensures m.ensures m.type_inv c.all.result
    (all_chained (slot_test a.b.now f.result.used m.result a.u) 64 _ _ _ refl c.all.ensures.ran (λ x b q k. search (rules, tests)))
