-- The layers over a base: a table for each transform that rewrites rows, flags for each one of samples
use Rattle.std.specs.Prelude.{◌≡◌, ℕ, zero, suc, ◌+◌, ◌≤◌, Bool, List, [], length, take, Option, Some, Vec, slice_get}
use Rattle.std.specs.Global.{Global}
use Rattle.std.specs.Option.{option_map_or}
use Rattle.prof_tables.specs.declared.rows.StackRow.{StackRow}
use Rattle.prof_tables.specs.Threads.{ThreadTables}
use Rattle.prof_path.specs.declared.lists.Span.{Span}
use Rattle.prof_path.specs.declared.transform.Transform.{Transform}
use Rattle.prof_layer.specs.declared.layer.Table.{Table}
use Rattle.prof_layer.specs.Simulates.{Stands, of_rows, own_entries}
use Rattle.prof_layer.specs.Kept.{found_of, AreFlags}

-- the rows and the entries over the first n tables
abbrev pub rows_over : List StackRow → List Table → ℕ → List StackRow
rows_over own tables zero = own
rows_over own tables (suc n) = option_map_or (λ (table : Table). table.rows) (slice_get tables n) []

abbrev pub entries_over : List StackRow → List Table → ℕ → List (Option ℕ)
entries_over own tables zero = own_entries own
entries_over own tables (suc n) = option_map_or (λ (table : Table). table.entries.items) (slice_get tables n) []

-- each layer stands for the transforms up to its own
pub record AreLayers (base : ThreadTables) (settled : List Transform) (spans : List (List Span)) (tables : List Table) (flags : List (Vec Bool Global)) : Type 0 where
  pub spans_count : length spans ≡ length settled
  pub tables_count : length tables ≡ length (of_rows settled)
  pub flags_count : length flags ≡ length (found_of settled spans)
  pub each_table : (n : ℕ) → n ≤ length tables → Stands base (take n (of_rows settled)) (rows_over base.shared.stacks tables n) (entries_over base.shared.stacks tables n)
  pub each_flags : (n : ℕ) (kept : Vec Bool Global) → slice_get flags n ≡ Some kept → AreFlags base.samples (take (n + 1) (found_of settled spans)) kept.items
