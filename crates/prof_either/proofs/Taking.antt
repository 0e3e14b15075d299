-- Members that one of several parts takes.
use Rattle.std.proofs.Common.{◌≡◌, ℕ, List, Option, Some, false, refl, sym, ◌∙◌, ap, subst, inr}
use Rattle.prof_grammar.specs.Event as told
use Rattle.prof_grammar.specs.Value.{Value, Members, snoc, same_text}
use Rattle.prof_gather.specs.Feeding.{Told}
use Rattle.prof_gather.specs.Taking.{TakesMember}
use Rattle.prof_schema.specs.Gathered.{IsPlaced}
use Rattle.prof_schema.specs.Named.{placed_name}
use Rattle.prof_schema.specs.declared.table.PlacedMember.{PlacedMember}
use Rattle.prof_schema.specs.declared.table.PlacedMember.TheVariants.{Schema, Data}
use Rattle.prof_schema.specs.declared.table.PlacedTable.{PlacedTable}
use Rattle.prof_schema.proofs.Tables.{placed_more}
use Rattle.prof_processes.proofs.HeldTables.{placed_at}
use Rattle.prof_either.specs.Tables.{AreBoth}
use Rattle.prof_either.specs.declared.table.BothWays.{BothWays}

told_same : (last : Option told.Event) (n m : List ℕ) → last ≡ Some (told.name n) → last ≡ Some (told.name m) → n ≡ m
told_same last n m a b = let e : Some (told.name n) ≡ Some (told.name m) = sym a ∙ b in cc

-- a name that is said to be this one
pub told_by : (last : Option told.Event) (n m : List ℕ) → last ≡ Some (told.name n) → n ≡ m → last ≡ Some (told.name m)
told_by last n m l e = l ∙ ap (λ (x : List ℕ). let o : Option told.Event = Some (told.name x) in o) e

-- a part takes the member whose name is said to be this one
pub takes_part : {S T : Type 0} (IsS : Members → S → Type 0) (IsT : Members → T → Type 0) (old new : Told) (s t : S) (a b : T) (said : List ℕ) → old.last ≡ Some (told.name said) → TakesMember IsT old new a b →
    ((v : Value) → ((ms : Members) → IsT ms a → IsT (snoc ms said v) b) → (ms : Members) → IsS ms s → IsS (snoc ms said v) t) → TakesMember IsS old new s t
takes_part IsS IsT old new s t a b said l k f = record {
  name = said;
  last = l;
  value = k.value;
  reads = k.reads;
  taken = f k.value (λ ms h. subst (λ (n : List ℕ). IsT (snoc ms n k.value) b) (told_same old.last k.name said k.last l) (k.taken ms h));
}

-- a table of rows stays as it is where another member comes
pub rows_stay : (most : ℕ) (n : List ℕ) (v : Value) (t : PlacedTable) → ((m : PlacedMember) → same_text n (placed_name m) ≡ false) → (ms : Members) → IsPlaced most ms t → IsPlaced most (snoc ms n v) t
rows_stay most n v t other = placed_more most n v t t (inr (other Schema, refl)) (inr (other Data, refl))

-- the rows or the schema of a table in both ways
pub both_row : {T : Type 0} (Is : Members → T → Type 0) (most : ℕ) → ((ms : Members) (m : PlacedMember) (v : Value) (t : T) → Is ms t → Is (snoc ms (placed_name m) v) t) →
    (m : PlacedMember) (v : Value) (old new : BothWays T) → new.named ≡ old.named →
    ((ms : Members) → IsPlaced old.rows.rows.most ms old.rows → IsPlaced old.rows.rows.most (snoc ms (placed_name m) v) new.rows) →
    (ms : Members) → AreBoth Is most ms old → AreBoth Is most (snoc ms (placed_name m) v) new
both_row {T} Is most stays m v old new same taken ms h = record {
  named = subst (λ (t : T). Is (snoc ms (placed_name m) v) t) (sym same) (stays ms m v old.named h.named);
  rows = placed_at most ms (snoc ms (placed_name m) v) old.rows new.rows (taken ms) h.rows;
}

-- a named column of a table in both ways
pub both_named : {T : Type 0} (Is : Members → T → Type 0) (most : ℕ) (n : List ℕ) (v : Value) (old new : BothWays T) → new.rows ≡ old.rows → ((m : PlacedMember) → same_text n (placed_name m) ≡ false) →
    ((ms : Members) → Is ms old.named → Is (snoc ms n v) new.named) → (ms : Members) → AreBoth Is most ms old → AreBoth Is most (snoc ms n v) new
both_named {T} Is most n v old new same other taken ms h = record {
  named = taken ms h.named;
  rows = subst (λ (t : PlacedTable). IsPlaced most (snoc ms n v) t) (sym same) (rows_stay most n v old.rows other ms h.rows);
}
