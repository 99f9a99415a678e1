-- A blossom's takes 12 bytes for each member; the others' bytes are fixed. Assumes nothing.
use native.Mathlib.Omega.{arith}
use mathlib.Core.Path.{◌≡◌, sym, ap}
use Rattle.text_lines.specs.declared.Line.TheVariants.{Blossom}
use Rattle.record_weights.specs.Weights.{size_by}
use borrow.Author.Rules.{rules}
use Rattle.record_weights.proofs.record_size.Goals as goal

pub overflow_mul-result : goal.overflow_mul-result
overflow_mul-result c =
    let q : c.args.line ≡ Blossom c.in-Blossom.unit c.in-Blossom.count = cc in
    omega (arith, c.requires, ap size_by q)

pub overflow_add-result : goal.overflow_add-result
overflow_add-result c =
    let q : c.args.line ≡ Blossom c.in-Blossom.unit c.in-Blossom.count = cc in
    omega (arith, c.requires, ap size_by q)

pub returns-in-Blossom : goal.returns-in-Blossom
returns-in-Blossom c =
    let q : c.args.line ≡ Blossom c.in-Blossom.unit c.in-Blossom.count = cc in
    sym (ap size_by q)
