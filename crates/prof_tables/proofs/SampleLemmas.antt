-- The samples, one more at a time.
use Rattle.std.proofs.Common.{◌≡◌, ℕ, ◌+◌, Bool, true, List, [], ◌∷◌, ◌++◌, length, ◌∙◌, ap, arith, add-one}
use Rattle.prof_tables.specs.declared.rows.SampleRow.{SampleRow}
use Rattle.prof_raw.specs.Cells.{OwnCells}
use Rattle.prof_raw.specs.Moments.{sum_below, time_of}
use Rattle.prof_tables.specs.Rows.{rows_of, sample_at}
use Rattle.prof_raw.proofs.PushLemmas.{length-push}

pub next_rows : {A : Type 0} (row : ℕ → A) (items new : List A) (k : ℕ) (x : A) → items ≡ rows_of row k → new ≡ items ++ x ∷ [] → x ≡ row k → new ≡ rows_of row (k + 1)
next_rows row items new k x e grown at = rw add-one (grown ∙ ap (λ (xs : List _). xs ++ x ∷ []) e ∙ ap (λ y. rows_of row k ++ y ∷ []) at)

pub next_length : {A : Type 0} (items new : List A) (k : ℕ) (x : A) → length items ≡ k → new ≡ items ++ x ∷ [] → length new ≡ k + 1
next_length items new k x e grown = let m = length-push items x in let n : length new ≡ length (items ++ x ∷ []) = ap length grown in omega arith

-- a sample's time is the sum of the deltas up to its own
pub next_sum : (raw : OwnCells) (k : ℕ) (row : SampleRow) → row ≡ sample_at raw k → raw.deltas ≡ true → row.time ≡ sum_below raw.sample_time.cells (k + 1)
next_sum raw k row e t = rw add-one (ap (λ (r : SampleRow). r.time) e ∙ ap (λ (b : Bool). time_of b raw.sample_time k) t)
