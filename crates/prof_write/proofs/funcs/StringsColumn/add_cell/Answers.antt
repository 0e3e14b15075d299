use Rattle.std.proofs.Common.{◌≡◌, ◌∙◌, ap, sym}
use Rattle.std.specs.Prelude.{Some, slice_get}
use Rattle.prof_page.proofs.Pages.{gathers_same}
use Rattle.prof_grammar.specs.Value.{string}
use Rattle.prof_write.proofs.CellLemmas.{text_of_row}
use Rattle.prof_write.proofs.funcs.StringsColumn.add_cell.Goals as goal

pub returns : goal.returns
returns g c =
    let strings = c.args.self.now.thread.now.shared.strings in
    let read : slice_get strings c.args.row ≡ Some c.in-Some.text.now = ap (λ l. slice_get l c.args.row) (sym c.strings.ensures) ∙ sym c.in-Some.ensures in
    gathers_same _ _ _ _ _ _ _ c.add_string.ensures (sym (text_of_row string strings c.args.row c.in-Some.text.now read))
