use Rattle.std.proofs.Common.{◌≡◌, ◌+◌, ◌<◌, ℕ, List, length, ◌∷◌, [], ◌++◌, get_or, take, Some, sym, ap, ◌∙◌, arith}
use Rattle.std.proofs.lemmas.List.{take_more}
use Rattle.std.proofs.lemmas.Option.{slice_get-get_or, slice_get_within}
use Rattle.prof_tables.specs.declared.rows.StackRow.{StackRow}
use Rattle.prof_view_tree.proofs.own.rows_of.Goals as goal

one_more : (stacks : List StackRow) (i : ℕ) (row : StackRow) → i < length stacks → get_or stacks i row ≡ row → take i stacks ++ row ∷ [] ≡ take (i + 1) stacks
one_more stacks i row within same = ap (λ r. take i stacks ++ r ∷ []) (sym same) ∙ sym (take_more stacks i row within)

pub loop-i-preserved : goal.loop-i-preserved
loop-i-preserved g c =
    let stacks = c.args.stacks.now in
    let row = c.row.result in
    let within = slice_get_within stacks c.loop-i.i row c.row.ensures.row in
    let found : Some (get_or stacks c.loop-i.i row) ≡ Some row = sym (slice_get-get_or stacks c.loop-i.i row within) ∙ c.row.ensures.row in
    let same : get_or stacks c.loop-i.i row ≡ row = cc in
    record {
      rows = c.in_ok-push.ensures.items ∙ ap (λ l. l ++ row ∷ []) c.loop-i.invariant.rows ∙ one_more stacks c.loop-i.i row within same;
      reads = omega (arith, c.row.ensures.one, c.loop-i.invariant.reads);
    }
