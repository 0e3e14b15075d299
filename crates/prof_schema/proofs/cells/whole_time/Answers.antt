use Rattle.std.proofs.Common.{◌≡◌, ◌^◌, ◌∙◌, Some, Ok, ap, arith, ℤ, pos, ◌*ℤ◌, to_z, of_z, w64}
use Rattle.std.specs.Prelude.{unsigned_abs}
use Rattle.std.proofs.lemmas.Int.{to_z-of_z}
use Rattle.prof_layout.specs.Columns.{Cell}
use Rattle.prof_schema.proofs.SameNumbers.{time_near, time_past}
use Rattle.prof_schema.proofs.cells.whole_time.Goals as goal

pub returns : goal.returns
returns c = λ text n e is.
    let same : to_z w64 (of_z w64 c.args.whole) ≡ c.args.whole = to_z-of_z w64 c.args.whole c.ranges.whole in
    let size : c.unsigned_abs.result ≡ unsigned_abs c.args.whole = c.unsigned_abs.ensures.value ∙ ap unsigned_abs same in
    ap (λ (z : ℤ). let r : Cell = Ok (Some (to_z w64 (of_z w64 (z *ℤ pos (10 ^ 6))))) in r) same ∙ time_near text n c.args.whole e is (omega arith)

pub returns-then-unsigned_abs : goal.returns-then-unsigned_abs
returns-then-unsigned_abs c = λ text n e is.
    let same : to_z w64 (of_z w64 c.args.whole) ≡ c.args.whole = to_z-of_z w64 c.args.whole c.ranges.whole in
    let size : c.unsigned_abs.result ≡ unsigned_abs c.args.whole = c.unsigned_abs.ensures.value ∙ ap unsigned_abs same in
    time_past text n c.args.whole e is (omega arith)
