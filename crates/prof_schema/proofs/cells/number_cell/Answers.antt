use Rattle.std.proofs.Common.{rules, ap, FitsSigned, w64, ◌∙◌}
use Rattle.std.proofs.lemmas.Int.{to_z-of_z}
use Rattle.prof_schema.specs.declared.cells.RowCell.TheVariants as cell
use Rattle.prof_schema.proofs.Begun.{number_begun}
use Rattle.prof_schema.proofs.KeptNumbers.{whole_kept, scaled_kept, far_kept}
use Rattle.prof_schema.proofs.cells.number_cell.Goals as goal

pub returns-in-Some : goal.returns-in-Some
returns-in-Some g c = λ v s start.
    let n = number_begun c.args.feed.now v c.requires s in
    let fits : FitsSigned w64 c.in-Some.whole = search rules in
    ap cell.Whole (to_z-of_z w64 c.in-Some.whole fits) ∙ whole_kept v c.in-Some.whole start n (c.in-Some.ensures v s)

pub returns-in-Some-number_as : goal.returns-in-Some-number_as
returns-in-Some-number_as g c = λ v s start.
    let n = number_begun c.args.feed.now v c.requires s in
    let fits : FitsSigned w64 c.in-Some-number_as.time = search rules in
    ap cell.Scaled (to_z-of_z w64 c.in-Some-number_as.time fits) ∙ scaled_kept v c.in-Some-number_as.time start n (c.in_default.ensures v s) (c.in-Some-number_as.ensures v s)

pub returns-in-None : goal.returns-in-None
returns-in-None g c = λ v s start. far_kept v start (number_begun c.args.feed.now v c.requires s) (c.in_default.ensures v s) (c.in-None.ensures v s)
