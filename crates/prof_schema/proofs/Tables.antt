-- A placed table, one more of its members at a time.
use Rattle.std.proofs.Common.{◌≡◌, ℕ, List, sym, subst}
use Rattle.std.specs.Prelude.{codes}
use Rattle.prof_grammar.specs.Value.{Value, Members, snoc}
use Rattle.prof_gather.specs.Taking.{IsFoundIn}
use Rattle.prof_schema.specs.Gathered.{IsSchema, AreRows, IsPlaced}
use Rattle.prof_schema.specs.declared.table.PlacedTable.{PlacedTable}
use Rattle.prof_schema.proofs.Slots.{Goes, slot_after}

pub placed_more : (most : ℕ) (n : List ℕ) (v : Value) (old new : PlacedTable) →
    Goes (IsFoundIn IsSchema) (codes "schema") n v old.schema new.schema →
    Goes (AreRows most) (codes "data") n v old.rows new.rows →
    (ms : Members) → IsPlaced most ms old → IsPlaced most (snoc ms n v) new
placed_more most n v old new schema rows ms h = record {
  schema = slot_after (IsFoundIn IsSchema) (codes "schema") n v old.schema new.schema schema ms h.schema;
  rows = slot_after (AreRows most) (codes "data") n v old.rows new.rows rows ms h.rows;
}

-- the most rows stay the most
pub same_most : (most : ℕ) (ms : Members) (t : PlacedTable) → IsPlaced most ms t → IsPlaced t.rows.most ms t
same_most most ms t h = subst (λ (m : ℕ). IsPlaced m ms t) (sym h.rows.most_) h

-- a member is taken whose name is said to be this one
pub placed_named : (most : ℕ) (n m : List ℕ) (v : Value) (old new : PlacedTable) → n ≡ m → ((ms : Members) → IsPlaced most ms old → IsPlaced most (snoc ms m v) new) → (ms : Members) → IsPlaced most ms old → IsPlaced most (snoc ms n v) new
placed_named most n m v old new e h = subst (λ (x : List ℕ). (ms : Members) → IsPlaced most ms old → IsPlaced most (snoc ms x v) new) (sym e) h
