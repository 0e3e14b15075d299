use Rattle.std.proofs.Common.{◌≡◌, ◌+◌, ◌++◌, ◌∷◌, [], ◌<◌, List, ℕ, Option, Some, None, length, subst, sym, ap, ◌∙◌, append_assoc, arith}
use Rattle.std.specs.Prelude.{reverse, slice_get, IfSome}
use Rattle.std.proofs.lemmas.List.{reverse-append, length-append}
use Rattle.prof_tables.specs.declared.rows.Step.{Step}
use Rattle.prof_tables.specs.declared.rows.StackRow.{StackRow}
use Rattle.prof_tables.specs.Paths.{path, step_of, PrefixesBelow}
use Rattle.prof_path.proofs.paths.path_of.Goals as goal

-- a row's step moves from the path to the steps that were taken
moved : (rows : List StackRow) (i : ℕ) (row : StackRow) (steps : List Step) → path rows (Some i) ≡ path rows row.prefix ++ step_of row ∷ [] → path rows row.prefix ++ reverse (steps ++ step_of row ∷ []) ≡ path rows (Some i) ++ reverse steps
moved rows i row steps e =
    ap (λ l. path rows row.prefix ++ l) (reverse-append steps (step_of row ∷ []))
    ∙ sym (append_assoc (path rows row.prefix) (step_of row ∷ []) (reverse steps))
    ∙ ap (λ l. l ++ reverse steps) (sym e)

below_more : (o : Option ℕ) (i n : ℕ) → i < n → IfSome o (λ p. p < i) → IfSome o (λ p. p < n)
below_more None i n h k = k
below_more (Some p) i n h k = omega arith

pub loop-next-preserved : goal.loop-next-preserved
loop-next-preserved g c =
    let rows = c.args.thread.now.shared.stacks in
    let i = c.in-Some.i in
    let row = c.row-row.result in
    let steps = c.loop-next.steps.items in
    let all = path rows c.args.stack in
    let same : c.stacks-stacks.result.now ≡ rows = c.stacks-stacks.ensures.rows in
    let at : slice_get rows i ≡ Some row = subst (λ (r : List StackRow). slice_get r i ≡ Some row) same c.row-row.ensures.row in
    let below : PrefixesBelow rows = subst PrefixesBelow same c.count-count.ensures.below in
    let law : path rows (Some i) ≡ path rows row.prefix ++ step_of row ∷ [] = c.path_of_row.ensures rows i row below at in
    let one : c.row-row.new.reads ≡ c.loop-next.reads + 1 = c.row-row.ensures.one in
    let was : c.loop-next.next ≡ Some i = c.in-Some.is in
    let kept : path rows (Some i) ++ reverse steps ≡ all = subst (λ (o : Option ℕ). path rows o ++ reverse steps ≡ all) was c.loop-next.invariant.kept in
    let read : c.loop-next.reads + length (path rows (Some i)) ≡ c.args.reads.now + length all = subst (λ (o : Option ℕ). c.loop-next.reads + length (path rows o) ≡ c.args.reads.now + length all) was c.loop-next.invariant.rows_read in
    let inside : i < length rows = subst (λ (o : Option ℕ). IfSome o (λ j. j < length rows)) was c.loop-next.invariant.within in
    let more : length (path rows (Some i)) ≡ length (path rows row.prefix) + 1 = ap length law ∙ length-append (path rows row.prefix) (step_of row ∷ []) in
    record {
      within = below_more row.prefix i (length rows) inside c.row-row.ensures.below;
      kept = rw c.in_ok-push.ensures.items (moved rows i row steps law ∙ kept);
      rows_read = omega (arith, read, one, more);
    }
