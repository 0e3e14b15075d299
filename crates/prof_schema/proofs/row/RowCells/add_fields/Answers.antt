use Rattle.std.proofs.Common.{◌≡◌, ◌+◌, ◌-◌, ◌++◌, ◌∙◌, ℕ, List, refl, sym, ap, arith, length, length-append}
use Rattle.prof_grammar.specs.Value.{Value}
use Rattle.prof_layout.specs.Markers.{data_texts}
use Rattle.prof_schema.specs.declared.cells.RowCell.TheVariants as cell
use Rattle.prof_schema.proofs.KeptCells.{cells_more}
use Rattle.prof_schema.proofs.row.RowCells.add_fields.Goals as goal

pub returns : goal.returns
returns c = λ ms fields first vs h.
    let old = c.args.self.now in
    let texts : c.add_texts.new.texts.items ≡ old.texts.items ++ data_texts (Value.object ms) = c.in_ok-start.ensures.texts ∙ ap (λ (t : List (List ℕ)). old.texts.items ++ t) (sym fields) in
    let start : c.in_ok-start.start ≡ length old.texts.items = let r = c.in_ok-start.ensures.range.0 in omega arith in
    let count : length c.add_texts.new.texts.items ≡ length old.texts.items + length (data_texts (Value.object ms)) = ap (λ (t : List (List ℕ)). length t) texts ∙ length-append old.texts.items (data_texts (Value.object ms)) in
    let end : c.in_ok-start.end ≡ length old.texts.items + length (data_texts (Value.object ms)) = let r = c.in_ok-start.ensures.range.1 in omega arith in
    cells_more first old (record { cells = c.push.new.self; texts = c.add_texts.new.texts; left = old.left - 1 }) vs (Value.object ms) (cell.Texts c.in_ok-start.start c.in_ok-start.end) c.requires (omega arith) c.in_ok-push.ensures.items
    texts (rw (start, end) refl) h
