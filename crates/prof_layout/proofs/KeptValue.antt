-- What is kept of a value's tables breaks what the value breaks, and stands for the same.
use Rattle.std.proofs.Common.{◌≡◌, ℕ, suc, ◌≤◌, Option, None, Some, IfSome, List, length, take, Bool, true, false, refl, ◌∙◌, ap, arith, inl, inr}
use Rattle.std.specs.Prelude.{codes, nat_le, map, is_some, if◌then◌else◌}
use Rattle.std.proofs.lemmas.Bool.{cases_lt}
use Rattle.std.proofs.lemmas.List.{take_all, length-map, length-take-le}
use Rattle.prof_grammar.specs.Value.{Value, items, field, last_named}
use Rattle.prof_raw.specs.declared.rule.Rule.TheVariants as rule
use Rattle.prof_raw.specs.declared.rule.ListFault.{ListFault}
use Rattle.prof_raw.specs.Cells.{SharedCells}
use Rattle.prof_tables.specs.Threads.{SharedTables}
use Rattle.prof_raw.specs.Rules.{whole_fault}
use Rattle.prof_raw.specs.Checks.{shared_broken, own_broken, thread_broken}
use Rattle.prof_tables.specs.Rows.{shared_of, thread_of}
use Rattle.prof_layout.specs.declared.reading.Reading.{Reading}
use Rattle.prof_layout.specs.declared.reading.Reading.TheVariants as reading
use Rattle.prof_layout.specs.Columns.{IsGathered, column_of, any_cell, cell_value, read_cell}
use Rattle.prof_layout.specs.Lists.{unless_null, items_of, texts_of, text_of, is_text, list_fault, needed_list_fault}
use Rattle.prof_layout.specs.Tables.{member_of, first_cells, needed_cells, optional_cells, strings_fault, shared_over, raw_shared, over_strings, raw_tables, weight_unit, weight_reading, has_deltas, raw_own, raw_thread}
use Rattle.prof_layout.specs.Markers.{all_texts, ranges_from}
use Rattle.prof_layout.specs.Kept.{kept_shared, kept_own, kept_thread, marker_values, AreGathered, AreOwnGathered}
use Rattle.prof_layout.proofs.Capped.{column_is}
use Rattle.prof_layout.proofs.Kept.{or_same, none_of, not_within, shared_kept, shared_whole}
use Rattle.prof_layout.proofs.KeptOwn.{own_kept, own_whole}
use Rattle.prof_raw.specs.declared.limits.TheConstants.{MOST_STRINGS}

pub first_is : (r : Reading) (table : Option Value) (name : List ℕ) → IsGathered (first_cells r table name)
first_is r None name = record { bad = tt; only = λ ne. refl }
first_is r (Some (Value.object ms)) name = column_is (read_cell r) true (last_named name ms)
first_is r (Some Value.null) name = record { bad = tt; only = λ ne. refl }
first_is r (Some (Value.boolean b)) name = record { bad = tt; only = λ ne. refl }
first_is r (Some (Value.number t)) name = record { bad = tt; only = λ ne. refl }
first_is r (Some (Value.string t)) name = record { bad = tt; only = λ ne. refl }
first_is r (Some (Value.array vs)) name = record { bad = tt; only = λ ne. refl }

needed_is : (r : Reading) (table : Option Value) (name : List ℕ) → IsGathered (needed_cells r table name)
needed_is r table name = column_is (read_cell r) true (member_of table name)

optional_is : (r : Reading) (table : Option Value) (name : List ℕ) → IsGathered (optional_cells r table name)
optional_is r table name = column_is (read_cell r) false (member_of table name)

-- the column of no table has no cells
no_cells : (r : Reading) (table : Option Value) (name : List ℕ) → is_some table ≡ false → length (first_cells r table name).cells ≡ 0
no_cells r None name e = refl
no_cells r (Some v) name e = cc

pub shared_gathered : (strings : List (List ℕ)) (fault : Option ListFault) (v : Value) → (fault ≡ None → length strings ≤ MOST_STRINGS) → AreGathered (shared_over strings fault v)
shared_gathered strings fault v few =
    let resources = unless_null (field (codes "resourceTable") v) in
    let funcs = field (codes "funcTable") v in
    let frames = field (codes "frameTable") v in
    let stacks = field (codes "stackTable") v in
    record {
      strings = few;
      no_resources = no_cells reading.Index resources (codes "name");
      resource_name = first_is reading.Index resources (codes "name");
      func_name = first_is reading.Index funcs (codes "name");
      func_is_js = optional_is reading.Truth funcs (codes "isJS");
      func_relevant_for_js = optional_is reading.Truth funcs (codes "relevantForJS");
      func_resource = optional_is reading.Index funcs (codes "resource");
      func_file_name = optional_is reading.MaybeIndex funcs (codes "fileName");
      frame_func = first_is reading.Index frames (codes "func");
      frame_category = optional_is reading.MaybeIndex frames (codes "category");
      stack_frame = first_is reading.Index stacks (codes "frame");
      stack_prefix = needed_is reading.MaybeIndex stacks (codes "prefix");
    }

-- a list that breaks nothing has at most the most rows
pub list_few : (fits : Value → Bool) (most : ℕ) (vs : List Value) → list_fault fits most vs ≡ None → length vs ≤ most
list_few fits most vs h = elim (cases_lt most (length vs)) [
  | inl over ↦ (let test = not_within (length vs) most over in let k : Some (whole_fault rule.RowLimit) ≡ None = rw test at h in cc)
  | inr within ↦ within
]

pub needed_few : (fits : Value → Bool) (most : ℕ) (member : Option Value) → needed_list_fault fits most member ≡ None → length (items_of member) ≤ most
needed_few fits most None h = cc
needed_few fits most (Some (Value.array vs)) h = list_few fits most (items vs) h
needed_few fits most (Some Value.null) h = cc
needed_few fits most (Some (Value.boolean b)) h = cc
needed_few fits most (Some (Value.number t)) h = cc
needed_few fits most (Some (Value.string t)) h = cc
needed_few fits most (Some (Value.object ms)) h = cc

-- of a list that is over its limit one item more than the most shows that it is
pub list_kept : (fits : Value → Bool) (most : ℕ) (vs : List Value) → list_fault fits most (take (suc most) vs) ≡ list_fault fits most vs
list_kept fits most vs = elim (cases_lt most (length vs)) [
  | inl over ↦
      let len : length (take (suc most) vs) ≡ suc most = length-take-le (suc most) vs (omega arith) in
      let kept : nat_le (length (take (suc most) vs)) most ≡ false = not_within (length (take (suc most) vs)) most (omega arith) in
      let all : nat_le (length vs) most ≡ false = not_within (length vs) most over in
      rw (kept, all) refl
  | inr within ↦ ap (list_fault fits most) (take_all (suc most) vs (omega arith))
]

strings_few : (member : Option Value) → strings_fault member ≡ None → length (texts_of member) ≤ MOST_STRINGS
strings_few member h = let few : length (items_of member) ≤ MOST_STRINGS = needed_few is_text MOST_STRINGS member h in let e = length-map (items_of member) text_of in omega arith

pub raw_shared-gathered : (v : Value) → AreGathered (raw_shared v)
unfolding raw_shared
raw_shared-gathered v = let strings = field (codes "stringArray") v in shared_gathered (texts_of strings) (strings_fault strings) v (strings_few strings)

over-gathered : (common : Option (List (List ℕ))) (own : Option Value) (v : Value) → IfSome common (λ strings. length strings ≤ MOST_STRINGS) → AreGathered (over_strings common own v)
over-gathered None own v few = shared_gathered (texts_of own) (strings_fault own) v (strings_few own)
over-gathered (Some strings) None v few = shared_gathered strings None v (λ e. few)
over-gathered (Some strings) (Some own) v few = shared_gathered (texts_of (Some own)) (strings_fault (Some own)) v (strings_few (Some own))

pub raw_tables-gathered : (common : Option (List (List ℕ))) (v : Value) → IfSome common (λ strings. length strings ≤ MOST_STRINGS) → AreGathered (raw_tables common v)
unfolding raw_tables
raw_tables-gathered common v few = over-gathered common (field (codes "stringArray") v) v few

pub raw_own-gathered : (v : Value) → AreOwnGathered (raw_own v)
unfolding raw_own
raw_own-gathered v =
    let samples = field (codes "samples") v in
    let markers = field (codes "markers") v in
    record {
      sample_stack = first_is reading.MaybeIndex samples (codes "stack");
      sample_time = optional_is reading.Time samples (if has_deltas samples then codes "timeDeltas" else codes "time");
      sample_weight = optional_is (weight_reading (weight_unit (member_of samples (codes "weightType")))) samples (codes "weight");
      marker_phase = needed_is reading.Phase markers (codes "phase");
      marker_name = needed_is reading.Index markers (codes "name");
      marker_start = needed_is reading.MaybeTime markers (codes "startTime");
      marker_end = needed_is reading.MaybeTime markers (codes "endTime");
      marker_data = column_is any_cell false (member_of markers (codes "data"));
    }

-- each value of the column `data` is a cell of it
data_cells : (member : Option Value) → length (items_of member) ≤ length (column_of any_cell false member).cells
data_cells None = omega arith
data_cells (Some (Value.array vs)) = let a = length-map (items vs) any_cell in let b = length-map (map any_cell (items vs)) cell_value in omega arith
data_cells (Some Value.null) = omega arith
data_cells (Some (Value.boolean b)) = omega arith
data_cells (Some (Value.number t)) = omega arith
data_cells (Some (Value.string t)) = omega arith
data_cells (Some (Value.object ms)) = omega arith

texts_are : (v : Value) → (raw_own v).marker_texts ≡ all_texts (marker_values v)
unfolding raw_own
texts_are v = refl

ranges_are : (v : Value) → (raw_own v).marker_ranges ≡ ranges_from 0 (marker_values v)
unfolding raw_own
ranges_are v = refl

values_are : (v : Value) → length (marker_values v) ≤ length (raw_own v).marker_data.cells
unfolding raw_own
values_are v = data_cells (member_of (field (codes "markers") v) (codes "data"))

pub own_breaks : (thread : Option ℕ) (strings stacks : ℕ) (v : Value) → own_broken thread strings stacks (kept_own v) ≡ own_broken thread strings stacks (raw_own v)
own_breaks thread strings stacks v = own_kept thread strings stacks (marker_values v) (raw_own v) (raw_own-gathered v)

pub own_stands : (thread : Option ℕ) (strings stacks : ℕ) (shared : SharedTables) (v : Value) → own_broken thread strings stacks (raw_own v) ≡ None → thread_of shared (kept_own v) ≡ thread_of shared (raw_own v)
own_stands thread strings stacks shared v none = own_whole thread strings stacks shared (marker_values v) (raw_own v) (raw_own-gathered v) (texts_are v) (ranges_are v) (values_are v) none

pub shared_breaks : (thread : Option ℕ) (categories : ℕ) (v : Value) → shared_broken thread categories (kept_shared (raw_shared v)) ≡ shared_broken thread categories (raw_shared v)
shared_breaks thread categories v = shared_kept thread categories (raw_shared v) (raw_shared-gathered v)

pub shared_stands : (thread : Option ℕ) (categories : ℕ) (v : Value) → shared_broken thread categories (raw_shared v) ≡ None → kept_shared (raw_shared v) ≡ raw_shared v
shared_stands thread categories v none = shared_whole thread categories (raw_shared v) (raw_shared-gathered v) none

pub thread_breaks : (number categories : ℕ) (common : Option (List (List ℕ))) (v : Value) → IfSome common (λ strings. length strings ≤ MOST_STRINGS) →
    thread_broken number categories (kept_thread common v) ≡ thread_broken number categories (raw_thread common v)
thread_breaks number categories common v few =
    let raw = raw_tables common v in
    let kept = kept_shared raw in
    let h = raw_tables-gathered common v few in
    or_same (shared_broken (Some number) categories kept) (shared_broken (Some number) categories raw)
    (own_broken (Some number) (length kept.strings) (length kept.stack_frame.cells) (kept_own v)) (own_broken (Some number) (length raw.strings) (length raw.stack_frame.cells) (raw_own v))
    (shared_kept (Some number) categories raw h)
    (λ none. ap (λ (t : SharedCells). own_broken (Some number) (length t.strings) (length t.stack_frame.cells) (kept_own v)) (shared_whole (Some number) categories raw h none)
    ∙ own_breaks (Some number) (length raw.strings) (length raw.stack_frame.cells) v)

pub thread_stands : (number categories default : ℕ) (common : Option (List (List ℕ))) (v : Value) → IfSome common (λ strings. length strings ≤ MOST_STRINGS) →
    thread_broken number categories (raw_thread common v) ≡ None →
    thread_of (shared_of categories default (kept_shared (raw_tables common v))) (kept_own v) ≡ thread_of (shared_of categories default (raw_tables common v)) (raw_own v)
thread_stands number categories default common v few none =
    let raw = raw_tables common v in
    let h = raw_tables-gathered common v few in
    let both = none_of (shared_broken (Some number) categories raw) (own_broken (Some number) (length raw.strings) (length raw.stack_frame.cells) (raw_own v)) none in
    ap (λ (t : SharedCells). thread_of (shared_of categories default t) (kept_own v)) (shared_whole (Some number) categories raw h both.0)
    ∙ own_stands (Some number) (length raw.strings) (length raw.stack_frame.cells) (shared_of categories default raw) v both.1
