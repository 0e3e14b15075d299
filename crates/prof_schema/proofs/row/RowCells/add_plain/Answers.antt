use Rattle.std.proofs.Common.{◌-◌, ◌++◌, ◌∙◌, ℕ, List, sym, ap, arith, length}
use Rattle.std.proofs.lemmas.List.{append-nil}
use Rattle.prof_schema.proofs.KeptCells.{cells_more}
use Rattle.prof_schema.proofs.row.RowCells.add_plain.Goals as goal

pub returns : goal.returns
returns c = λ v texts is first vs h.
    let old = c.args.self.now in
    cells_more first old (record { cells = c.push.new.self; texts = old.texts; left = old.left - 1 }) vs v c.args.cell c.requires (omega arith) c.in_ok-push.ensures.items
    (sym (ap (λ (t : List (List ℕ)). old.texts.items ++ t) texts ∙ append-nil old.texts.items)) (is (length old.texts.items)) h
