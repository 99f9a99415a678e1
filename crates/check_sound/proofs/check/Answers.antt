-- A refusal has its number and nothing else; else the verdict and the index. Assumes nothing.
use Prim.Native.Nat.{ℕ}
use mathlib.Core.Path.{ap, sym, ◌∙◌}
use borrow.Author.Rules.{rules}
use Rattle.ledger_spec.specs.Reads.{said}
use Rattle.ledger_spec.proofs.Accepted.{clear_passed}
use Rattle.bench_views.specs.View.{view}
use Rattle.read_sound.proofs.Numbers.{said_no, said_yes}
use Rattle.check_sound.specs.Judged.{verdict_by}
use Rattle.check_sound.proofs.check.Goals as goal

pub returns-then-number-ne0 : goal.returns-then-number-ne0
returns-then-number-ne0 c =
    let n = c.unit_number-number in
    said_no (verdict_by c.args.strict (view c.args.b.now) c.args.unit) (0, 0) n.result c.if-number-ne0.true ∙ ap (λ (k : ℕ). said k (verdict_by c.args.strict (view c.args.b.now) c.args.unit) (0, 0)) n.ensures

pub judge-j-requires : goal.judge-j-requires
judge-j-requires c =
    let o = clear_passed (view c.args.b.now) c.args.unit (sym c.unit_number-number.ensures ∙ c.if-number-ne0.false) in record { fit = c.requires; unit_bound = o.low; unit_value = o.free }

pub returns : goal.returns
returns c =
    let n = c.unit_number-number in
    ap (λ (v : ℕ × ℕ). (0, v)) c.judge-j.ensures ∙ said_yes (verdict_by c.args.strict (view c.args.b.now) c.args.unit) (0, 0) n.result c.if-number-ne0.false
    ∙ ap (λ (k : ℕ). said k (verdict_by c.args.strict (view c.args.b.now) c.args.unit) (0, 0)) n.ensures
