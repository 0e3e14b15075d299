use Rattle.std.proofs.Common.{rules, FitsSigned, ◌≡◌, ◌<◌, length, List, None, sym, ◌∙◌, ap, arith, Some, w64, to_z, of_z, subst}
use Rattle.std.specs.Prelude.{slice_get, slice_index_or}
use Rattle.std.proofs.lemmas.Int.{to_z-of_z}
use Rattle.prof_tables.specs.declared.rows.SampleRow.{SampleRow}
use Rattle.prof_raw.specs.Cells.{cell_at}
use Rattle.prof_raw.specs.CellValues.{number_of}
use Rattle.prof_tables.proofs.ColumnLemmas.{length-rows_by, row_at, same_row, any_default}
use Rattle.prof_tables.proofs.samples.SampleList.row.Goals as goal

pub index-requires : goal.index-requires
index-requires c =
    let all = length-rows_by c.self.inside.stacks.items c.self.inside.times c.self.inside.weights c.self.invariant.0 c.self.invariant.1 in
    let same = ap length c.self.view_is in
    let lt = c.requires in
    omega arith

pub returns : goal.returns
returns c =
    let all = length-rows_by c.self.inside.stacks.items c.self.inside.times c.self.inside.weights c.self.invariant.0 c.self.invariant.1 in
    let same = ap length c.self.view_is in
    let lt = c.requires in
    let inside : c.args.k < length c.self.inside.stacks.items = omega arith in
    let at = row_at c.self.inside.stacks.items c.self.inside.times c.self.inside.weights c.args.k inside c.self.invariant.0 c.self.invariant.1 in
    let stack : slice_index_or c.self.inside.stacks.items c.args.k None ≡ c.get.result = any_default c.self.inside.stacks.items c.args.k None c.index.result.now inside ∙ sym c.index.ensures ∙ sym c.get.ensures in
    let time_fits : FitsSigned w64 c.number_of.result = search rules in
    let weight_fits : FitsSigned w64 c.number_of-2.result = search rules in
    let time : number_of (cell_at c.self.inside.times c.args.k) ≡ to_z w64 (of_z w64 c.number_of.result) =
    sym (to_z-of_z w64 c.number_of.result time_fits ∙ c.number_of.ensures ∙ ap number_of c.get-2.ensures) in
    let weight : number_of (cell_at c.self.inside.weights c.args.k) ≡ to_z w64 (of_z w64 c.number_of-2.result) =
    sym (to_z-of_z w64 c.number_of-2.result weight_fits ∙ c.number_of-2.ensures ∙ ap number_of c.get-3.ensures) in
    subst (λ (xs : List SampleRow). slice_get xs c.args.k ≡ Some (record { stack = c.get.result; time = to_z w64 (of_z w64 c.number_of.result); weight = to_z w64 (of_z w64 c.number_of-2.result) })) c.self.view_is
    (at ∙ ap Some (same_row _ _ _ _ _ _ stack time weight))
