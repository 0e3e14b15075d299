-- Tables that are held, and their columns.
use Rattle.std.proofs.Common.{◌≡◌, ℕ, sym, subst}
use Rattle.prof_grammar.specs.Value.{Members}
use Rattle.prof_schema.specs.Gathered.{IsPlaced}
use Rattle.prof_schema.specs.declared.table.PlacedTable.{PlacedTable}

-- what is so for the most that a table keeps is so for the most that it should keep
pub placed_at : (most : ℕ) (ms ns : Members) (old new : PlacedTable) → (IsPlaced old.rows.most ms old → IsPlaced old.rows.most ns new) → IsPlaced most ms old → IsPlaced most ns new
placed_at most ms ns old new f h =
    let e : old.rows.most ≡ most = h.rows.most_ in
    subst (λ (m : ℕ). IsPlaced m ns new) e (f (subst (λ (m : ℕ). IsPlaced m ms old) (sym e) h))
