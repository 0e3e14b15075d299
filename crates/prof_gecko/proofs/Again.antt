-- The columns that a checked Gecko thread stands for break no rule of a processed thread.
use Rattle.std.proofs.Common.{◌≡◌, ℕ, ◌<◌, ◌≤◌, Option, None, Some, IfSome, List, [], ◌∷◌, length, map, refl, sym, subst, ◌∙◌, ap, arith}
use Rattle.std.specs.Prelude.{ℤ, All}
use Rattle.std.specs.Option.{option_or}
use Rattle.std.proofs.lemmas.List.{length-map}
use Rattle.std.proofs.lemmas.List.Elements.{All-map, All-weaker}
use Rattle.prof_raw.specs.declared.column.CellKind.{CellKind}
use Rattle.prof_raw.specs.declared.column.CellKind.TheVariants as kind
use Rattle.prof_raw.specs.declared.column.Size.TheVariants.{AtMost}
use Rattle.prof_raw.specs.declared.limits.TheConstants.{MOST_FUNCS, MOST_ROWS, MOST_STRINGS}
use Rattle.prof_raw.specs.declared.rule.Broken.{Broken}
use Rattle.prof_raw.specs.declared.rule.Table.TheVariants as table
use Rattle.prof_raw.specs.declared.rule.Column.{Column}
use Rattle.prof_raw.specs.declared.rule.Column.TheVariants as column
use Rattle.prof_raw.specs.Cells.{Cells, OwnCells}
use Rattle.prof_raw.specs.Rules.{size_rule, counted_fault}
use Rattle.prof_raw.specs.Checks.{named, first_column, optional_column, resources_checks, funcs_checks, frames_checks, stacks_checks, shared_checks, strings_broken, resources_broken, funcs_broken, frames_broken, stacks_broken, shared_broken, samples_broken, markers_broken, own_broken, thread_broken}
use Rattle.prof_raw.proofs.ColumnLemmas.{first_fit, counted_fit}
use Rattle.prof_tables.proofs.RowLemmas.{length-rows_of}
use Rattle.prof_gecko_names.specs.declared.func.Func.{Func}
use Rattle.prof_gecko.specs.Gathered.{Lib}
use Rattle.prof_gecko_names.specs.Keys.{key_of, same_key}
use Rattle.prof_gecko_names.specs.Lists.{Lists}
use Rattle.prof_gecko.specs.Fits.{FitLocations}
use Rattle.prof_gecko.specs.Columns.{FrameCells, StackCells, ThreadParts}
use Rattle.prof_gecko.specs.Converted.{location_at, locations, numbering, numbering_in, lists_in, filled, number_cell, maybe_cell, minus_cell, truth_cell, shared_cells, shared_in}
use Rattle.prof_gecko.specs.Checks.{limits_broken, columns_broken}
use Rattle.prof_gecko.specs.Checks as gecko
use Rattle.prof_gecko_names.proofs.Growing.{AreFit, FitsIn}
use Rattle.prof_gecko.proofs.Folding.{lists_fit, lists_count, lists_strings}
use Rattle.prof_gecko_names.proofs.Numbers.{numbered_counts, numbered_numbers}
use Rattle.prof_gecko.proofs.Passes.{all_pass, none_fails, size_of, within}
use Rattle.prof_gecko.proofs.Passing.{Passing, first_passes, optional_passes, number_passes, maybe_passes, minus_passes, markers_more}

record AreFew (d : Lists) : Type 0 where
  strings : size_rule (AtMost MOST_STRINGS) (length d.strings) ≡ None
  resources : length d.resources ≤ MOST_FUNCS
  funcs : length d.funcs ≤ MOST_FUNCS

few_lists : (thread : Option ℕ) (d : Lists) → limits_broken thread d ≡ None → AreFew d
unfolding limits_broken
few_lists thread d h =
    let all = all_pass (gecko.limits_checks thread d) h in
    record {
      strings = size_of thread table.StringTable column.List MOST_STRINGS (length d.strings) all.0;
      resources = within MOST_FUNCS (length d.resources) (size_of thread table.ResourceTable column.Name MOST_FUNCS (length d.resources) all.1.0);
      funcs = within MOST_FUNCS (length d.funcs) (size_of thread table.FuncTable column.Name MOST_FUNCS (length d.funcs) all.1.1.0);
    }

counted_passes : (most n : ℕ) → size_rule (AtMost most) n ≡ None → counted_fault most n None ≡ None
counted_passes most n e = rw e refl

strings_pass : (thread : Option ℕ) (d : Lists) (numbers : List ℕ) (category : Cells) (stacks : StackCells) → AreFew d → strings_broken thread (shared_cells d numbers category stacks) ≡ None
unfolding strings_broken
strings_pass thread d numbers category stacks few = ap (named thread table.StringArray column.List) (counted_passes MOST_STRINGS (length d.strings) few.strings)

resources_pass : (thread : Option ℕ) (d : Lists) (numbers : List ℕ) (category : Cells) (stacks : StackCells) → AreFit d → AreFew d → resources_broken thread (shared_cells d numbers category stacks) ≡ None
unfolding resources_broken
resources_pass thread d numbers category stacks fit few =
    let most = few.resources in
    let many = length-map d.resources number_cell in
    none_fails (resources_checks thread (shared_cells d numbers category stacks)) (
      first_passes thread table.ResourceTable column.Name MOST_FUNCS (kind.Index (length d.strings)) (map number_cell d.resources) (omega arith)
          (All-map (Passing (kind.Index (length d.strings))) number_cell d.resources
          (All-weaker (λ n. n < length d.strings) (λ n. Passing (kind.Index (length d.strings)) (number_cell n)) (λ n lt. number_passes (length d.strings) n lt) d.resources fit.resources)),
      (refl, tt),
    )

-- a column of the functions
func_pass : (thread : Option ℕ) (c : Column) (k : CellKind) (d : Lists) (cell : Func → Option ℤ) (rows : ℕ) → rows ≡ length d.funcs → ((f : Func) → FitsIn (length d.strings) (length d.resources) f → Passing k (cell f)) → AreFit d
    → optional_column thread table.FuncTable c rows k (filled (map cell d.funcs)) ≡ None
func_pass thread c k d cell rows same passes fit =
    optional_passes thread table.FuncTable c rows k (map cell d.funcs) (length-map d.funcs cell ∙ sym same)
    (All-map (Passing k) cell d.funcs (All-weaker (FitsIn (length d.strings) (length d.resources)) (λ f. Passing k (cell f)) passes d.funcs fit.funcs))

funcs_pass : (thread : Option ℕ) (d : Lists) (numbers : List ℕ) (category : Cells) (stacks : StackCells) → AreFit d → AreFew d → funcs_broken thread (shared_cells d numbers category stacks) ≡ None
unfolding funcs_broken
funcs_pass thread d numbers category stacks fit few =
    let strings = length d.strings in
    let resources = length (map number_cell d.resources) in
    let same = length-map d.resources number_cell in
    let rows = length (map (λ (f : Func). number_cell f.name) d.funcs) in
    let many : rows ≡ length d.funcs = length-map d.funcs (λ (f : Func). number_cell f.name) in
    let most = few.funcs in
    none_fails (funcs_checks thread (shared_cells d numbers category stacks)) (
      first_passes thread table.FuncTable column.Name MOST_FUNCS (kind.Index strings) (map (λ (f : Func). number_cell f.name) d.funcs) (omega arith)
          (All-map (Passing (kind.Index strings)) (λ (f : Func). number_cell f.name) d.funcs
          (All-weaker (FitsIn strings (length d.resources)) (λ f. Passing (kind.Index strings) (number_cell f.name)) (λ f h. number_passes strings f.name h.name) d.funcs fit.funcs)),
      (
        func_pass thread column.IsJs kind.Truth d (λ f. truth_cell f.is_js) rows many (λ f h row. refl) fit,
        (
          func_pass thread column.RelevantForJs kind.Truth d (λ f. truth_cell f.relevant_for_js) rows many (λ f h row. refl) fit,
          (
            func_pass thread column.Resource (kind.MinusOrIndex resources) d (λ f. minus_cell f.resource) rows many
                (λ f h. minus_passes resources f.resource (subst (λ (n : ℕ). IfSome f.resource (λ r. r < n)) (sym same) h.resource)) fit,
            (
              func_pass thread column.FileName (kind.MaybeIndex strings) d (λ f. maybe_cell f.file) rows many (λ f h. maybe_passes strings f.file h.file) fit,
              (refl, tt),
            ),
          ),
        ),
      ),
    )

frames_pass : (thread : Option ℕ) (categories frames : ℕ) (d : Lists) (numbers : List ℕ) (category : Cells) (stacks : StackCells) → All (λ n. n < length d.funcs) numbers → length numbers ≡ frames → frames ≤ MOST_ROWS
    → optional_column thread table.FrameTable column.Category frames (kind.MaybeIndex categories) category ≡ None → frames_broken thread categories (shared_cells d numbers category stacks) ≡ None
unfolding frames_broken
frames_pass thread categories frames d numbers category stacks below many most h =
    let funcs = length (map (λ (f : Func). number_cell f.name) d.funcs) in
    let same = length-map d.funcs (λ (f : Func). number_cell f.name) in
    let rows : length (map number_cell numbers) ≡ frames = length-map numbers number_cell ∙ many in
    none_fails (frames_checks thread categories (shared_cells d numbers category stacks)) (
      first_passes thread table.FrameTable column.Func MOST_ROWS (kind.Index funcs) (map number_cell numbers) (omega arith)
          (All-map (Passing (kind.Index funcs)) number_cell numbers (All-weaker (λ n. n < length d.funcs) (λ n. Passing (kind.Index funcs) (number_cell n)) (λ n lt. number_passes funcs n (omega arith)) numbers below)),
      (
        ap (λ (n : ℕ). optional_column thread table.FrameTable column.Category n (kind.MaybeIndex categories) category) rows ∙ h,
        (refl, tt),
      ),
    )

stacks_pass : (thread : Option ℕ) (frames : ℕ) (d : Lists) (numbers : List ℕ) (category : Cells) (stacks : StackCells) → length numbers ≡ frames → gecko.stacks_broken thread frames stacks ≡ None → stacks_broken thread (shared_cells d numbers category stacks) ≡ None
unfolding stacks_broken gecko.stacks_broken
stacks_pass thread frames d numbers category stacks many h =
    let rows : length (map number_cell numbers) ≡ frames = length-map numbers number_cell ∙ many in
    let all = all_pass (gecko.stacks_checks thread frames stacks) h in
    none_fails (stacks_checks thread (shared_cells d numbers category stacks)) (
      ap (λ (n : ℕ). first_column thread table.StackTable column.Frame MOST_ROWS (kind.Index n) stacks.frame) rows ∙ all.1.0,
      (
        all.1.1.0,
        (refl, tt),
      ),
    )

shared_passes : (thread : Option ℕ) (categories frames : ℕ) (d : Lists) (numbers : List ℕ) (category : Cells) (stacks : StackCells) → AreFit d → limits_broken thread d ≡ None → All (λ n. n < length d.funcs) numbers → length numbers ≡ frames → frames ≤ MOST_ROWS
    → optional_column thread table.FrameTable column.Category frames (kind.MaybeIndex categories) category ≡ None → gecko.stacks_broken thread frames stacks ≡ None → shared_broken thread categories (shared_cells d numbers category stacks) ≡ None
unfolding shared_broken
shared_passes thread categories frames d numbers category stacks fit limits below many most h k =
    let few = few_lists thread d limits in
    none_fails (shared_checks thread categories (shared_cells d numbers category stacks)) (
      strings_pass thread d numbers category stacks few,
      (
        resources_pass thread d numbers category stacks fit few,
        (
          funcs_pass thread d numbers category stacks fit few,
          (
            frames_pass thread categories frames d numbers category stacks below many most h,
            (
              stacks_pass thread frames d numbers category stacks many k,
              tt,
            ),
          ),
        ),
      ),
    )

-- what passed checks of a thread's columns show
pub record ArePassed (thread : Option ℕ) (categories : ℕ) (p : ThreadParts) : Type 0 where
  pub few : length p.strings ≤ MOST_STRINGS
  pub locations : FitLocations (length p.strings) p.frames
  pub category : optional_column thread table.FrameTable column.Category (length p.frames.location.cells) (kind.MaybeIndex categories) p.frames.category ≡ None
  pub stacks : gecko.stacks_broken thread (length p.frames.location.cells) p.stacks ≡ None
  pub samples : samples_broken thread (length p.stacks.frame.cells) p.own ≡ None
  pub markers : markers_broken thread (length p.strings) p.own ≡ None

-- what passed checks of frames show
frames_show : (thread : Option ℕ) (strings categories : ℕ) (f : FrameCells) → gecko.frames_broken thread strings categories f ≡ None →
    FitLocations strings f × (optional_column thread table.FrameTable column.Category (length f.location.cells) (kind.MaybeIndex categories) f.category ≡ None)
unfolding gecko.frames_broken
frames_show thread strings categories f h =
    let all = all_pass (gecko.frames_checks thread strings categories f) h in
    let fit = first_fit thread table.FrameTable column.Location MOST_ROWS (kind.Index strings) f.location all.1.0 in
    (record { few = fit.0; place = λ j lt. fit.1 j lt }, all.1.1.1.0)

pub passed : (thread : Option ℕ) (categories : ℕ) (p : ThreadParts) → columns_broken thread categories p ≡ None → ArePassed thread categories p
unfolding columns_broken
passed thread categories p h =
    let all = all_pass (gecko.columns_checks thread categories p) h in
    let shown = frames_show thread (length p.strings) categories p.frames all.1.0 in
    record {
      few = counted_fit thread table.StringTable column.List MOST_STRINGS (length p.strings) p.string_fault all.0;
      locations = shown.0;
      category = shown.1;
      stacks = all.1.1.0;
      samples = all.1.1.1.1.0;
      markers = all.1.1.1.1.1.1.0;
    }

-- the derived lists, and the frames' numbers
record AreDerived (d : Lists) (numbers : List ℕ) (strings : List (List ℕ)) (frames : FrameCells) : Type 0 where
  fit : AreFit d
  below : All (λ n. n < length d.funcs) numbers
  many : length numbers ≡ length frames.location.cells
  kept : length strings ≤ length d.strings

derived : (libs : List Lib) (strings : List (List ℕ)) (frames : FrameCells) → AreDerived (lists_in libs strings frames) (numbering_in libs strings frames).numbers strings frames
unfolding lists_in numbering locations
derived libs strings frames =
    let places = locations frames in
    let keys = map (key_of libs strings) places in
    let n = numbering_in libs strings frames in
    let counted = numbered_counts same_key keys in
    let count = lists_count libs strings places frames.relevant_for_js n.rows in
    let rows = counted.rows in
    record {
      fit = lists_fit libs strings places frames.relevant_for_js n.rows;
      below = All-weaker (λ i. i < length n.uses) (λ i. i < length (lists_in libs strings frames).funcs) (λ i lt. omega arith) n.numbers counted.numbers;
      many = numbered_numbers same_key keys ∙ length-map places (key_of libs strings) ∙ length-rows_of (location_at frames) (length frames.location.cells);
      kept = lists_strings libs strings places frames.relevant_for_js n.rows;
    }

own_passes : (thread : Option ℕ) (strings stacks : ℕ) (own : OwnCells) → samples_broken thread stacks own ≡ None → markers_broken thread strings own ≡ None → own_broken thread strings stacks own ≡ None
unfolding own_broken
own_passes thread strings stacks own s m = none_fails (samples_broken thread stacks own ∷ markers_broken thread strings own ∷ []) (s, (m, tt))

both : (a b : Option Broken) → a ≡ None → b ≡ None → option_or a b ≡ None
both a b e f = rw (e, f) refl

-- THEOREM: what a checked thread stands for breaks no rule
pub passes_again : (number categories : ℕ) (libs : List Lib) (p : ThreadParts) → columns_broken (Some number) categories p ≡ None → limits_broken (Some number) (lists_in libs p.strings p.frames) ≡ None →
    thread_broken number categories (record { shared = shared_in libs p; own = p.own }) ≡ None
passes_again number categories libs p h limits =
    let thread = Some number in
    let ok = passed thread categories p h in
    let d = derived libs p.strings p.frames in
    let d1 = lists_in libs p.strings p.frames in
    let shared = shared_passes thread categories (length p.frames.location.cells) d1 (numbering_in libs p.strings p.frames).numbers p.frames.category p.stacks d.fit limits d.below d.many ok.locations.few ok.category ok.stacks in
    let markers = markers_more thread (length p.strings) (length d1.strings) p.own d.kept ok.markers in
    let own : own_broken thread (length d1.strings) (length p.stacks.frame.cells) p.own ≡ None = own_passes thread (length d1.strings) (length p.stacks.frame.cells) p.own ok.samples markers in
    both (shared_broken thread categories (shared_in libs p)) (own_broken thread (length d1.strings) (length p.stacks.frame.cells) p.own) shared own
