-- What passed checks show of the tables.
use Rattle.std.proofs.Common.{◌≡◌, ℕ, ◌<◌, ◌≤◌, Bool, true, false, Option, None, List, [], ◌∷◌, length, arith}
use Rattle.std.specs.Prelude.{if◌then◌else◌}
use Rattle.prof_raw.specs.declared.column.CellKind.TheVariants as kind
use Rattle.prof_raw.specs.declared.moment.Moment.TheVariants.{Start, End}
use Rattle.prof_raw.specs.declared.rule.Broken.{Broken}
use Rattle.prof_raw.specs.declared.rule.Table.TheVariants as table
use Rattle.prof_raw.specs.declared.rule.Column.TheVariants as column
use Rattle.prof_raw.specs.declared.limits.TheConstants.{MOST_FUNCS, MOST_ROWS, MOST_SAMPLES, MOST_STRINGS}
use Rattle.prof_raw.specs.Cells.{SharedCells, OwnCells, cell}
use Rattle.prof_raw.specs.Rules.{cell_rule}
use Rattle.prof_raw.specs.Moments.{time_name}
use Rattle.prof_raw.specs.Checks.{first_of, resource_count, strings_broken, resources_checks, funcs_checks, frames_checks, stacks_checks, shared_checks, samples_checks, markers_checks, resources_broken, funcs_broken, frames_broken, stacks_broken, shared_broken, samples_broken, markers_broken, own_broken}
use Rattle.prof_raw.specs.Fits.{FitResources, FitFuncs, FitFrames, FitStacks, FitShared, FitSamples, FitMarkers}
use Rattle.prof_raw.proofs.FirstRowLemmas.{or_none}
use Rattle.prof_raw.proofs.ColumnLemmas.{first_fit, needed_fit, maybe_fit, minus_fit, weight_fit, time_fit, moment_fit, counted_fit}

-- each check of a list passes
abbrev AllPass : List (Option Broken) → Type 0
AllPass [] = Unit {0}
AllPass (check ∷ checks) = (check ≡ None) × AllPass checks

all_pass : (checks : List (Option Broken)) → first_of checks ≡ None → AllPass checks
all_pass [] h = tt
all_pass (check ∷ checks) h = let p = or_none check (first_of checks) h in (p.0, all_pass checks p.1)

-- the resources, where their table is there
abbrev FitNames : SharedCells → Bool → Type 0
FitNames raw b = ((if b then length raw.resource_name.cells else 0) ≤ MOST_FUNCS)
    × ((r : ℕ) → r < (if b then length raw.resource_name.cells else 0) → cell_rule (kind.Index (length raw.strings)) 0 (cell raw.resource_name r) ≡ None)

names_fit : (thread : Option ℕ) (raw : SharedCells) (b : Bool) → (if b then first_of (resources_checks thread raw) else None) ≡ None → FitNames raw b
names_fit thread raw true h =
    let all = all_pass (resources_checks thread raw) h in
    let first = first_fit thread table.ResourceTable column.Name MOST_FUNCS (kind.Index (length raw.strings)) raw.resource_name all.0 in
    (first.0, λ r lt. first.1 r lt)
names_fit thread raw false h = (omega arith, λ r lt. absurd (omega arith))

pub strings_fit : (thread : Option ℕ) (raw : SharedCells) → strings_broken thread raw ≡ None → length raw.strings ≤ MOST_STRINGS
unfolding strings_broken
strings_fit thread raw h = counted_fit thread table.StringArray column.List MOST_STRINGS (length raw.strings) raw.string_fault h

pub resources_fit : (thread : Option ℕ) (raw : SharedCells) → resources_broken thread raw ≡ None → FitResources raw
unfolding resources_broken
resources_fit thread raw h = let both = names_fit thread raw raw.has_resources h in record { few = both.0; name = both.1 }

pub funcs_fit : (thread : Option ℕ) (raw : SharedCells) → funcs_broken thread raw ≡ None → FitFuncs raw
unfolding funcs_broken
funcs_fit thread raw h =
    let all = all_pass (funcs_checks thread raw) h in
    let rows = length raw.func_name.cells in
    let name = first_fit thread table.FuncTable column.Name MOST_FUNCS (kind.Index (length raw.strings)) raw.func_name all.0 in
    record {
      few = name.0;
      name = λ f lt. name.1 f lt;
      resource = λ f lt. minus_fit thread table.FuncTable column.Resource rows (resource_count raw) raw.func_resource all.1.1.1.0 f lt;
      file = λ f lt. maybe_fit thread table.FuncTable column.FileName rows (length raw.strings) raw.func_file_name all.1.1.1.1.0 f lt;
    }

pub frames_fit : (thread : Option ℕ) (categories : ℕ) (raw : SharedCells) → frames_broken thread categories raw ≡ None → FitFrames categories raw
unfolding frames_broken
frames_fit thread categories raw h =
    let all = all_pass (frames_checks thread categories raw) h in
    let first = first_fit thread table.FrameTable column.Func MOST_ROWS (kind.Index (length raw.func_name.cells)) raw.frame_func all.0 in
    record {
      few = first.0;
      func = λ f lt. first.1 f lt;
      category = λ f lt. maybe_fit thread table.FrameTable column.Category (length raw.frame_func.cells) categories raw.frame_category all.1.0 f lt;
    }

pub stacks_fit : (thread : Option ℕ) (raw : SharedCells) → stacks_broken thread raw ≡ None → FitStacks raw
unfolding stacks_broken
stacks_fit thread raw h =
    let all = all_pass (stacks_checks thread raw) h in
    let first = first_fit thread table.StackTable column.Frame MOST_ROWS (kind.Index (length raw.frame_func.cells)) raw.stack_frame all.0 in
    record {
      few = first.0;
      frame = λ f lt. first.1 f lt;
      prefix = λ f lt. needed_fit thread table.StackTable column.Prefix (length raw.stack_frame.cells) kind.Prefix raw.stack_prefix all.1.0 f lt;
    }

-- a passed check of the shared tables shows all of it
pub shared_fit : (thread : Option ℕ) (categories : ℕ) (raw : SharedCells) → shared_broken thread categories raw ≡ None → FitShared categories raw
unfolding shared_broken
shared_fit thread categories raw h =
    let all = all_pass (shared_checks thread categories raw) h in
    record { strings = strings_fit thread raw all.0; resources = resources_fit thread raw all.1.0; funcs = funcs_fit thread raw all.1.1.0; frames = frames_fit thread categories raw all.1.1.1.0; stacks = stacks_fit thread raw all.1.1.1.1.0 }

pub samples_fit : (thread : Option ℕ) (stacks : ℕ) (raw : OwnCells) → samples_broken thread stacks raw ≡ None → FitSamples stacks raw
unfolding samples_broken
samples_fit thread stacks raw h =
    let all = all_pass (samples_checks thread stacks raw) h in
    let rows = length raw.sample_stack.cells in
    let first = first_fit thread table.Samples column.Stack MOST_SAMPLES (kind.MaybeIndex stacks) raw.sample_stack all.0 in
    record {
      few = first.0;
      stack = λ k lt. first.1 k lt;
      time = λ k lt. time_fit thread table.Samples (time_name raw.sample_time.state raw.deltas) raw.deltas rows raw.sample_time all.1.0 k lt;
      weight = λ k lt. weight_fit thread table.Samples column.Weight rows raw.sample_weight all.1.1.1.0 k lt;
    }

-- the markers, where their table is there
pub markers_fit : (thread : Option ℕ) (strings : ℕ) (raw : OwnCells) → raw.has_markers ≡ true → markers_broken thread strings raw ≡ None → FitMarkers strings raw
unfolding markers_broken
markers_fit thread strings raw there h =
    let passed : first_of (markers_checks thread strings raw) ≡ None = rw there at h in
    let all = all_pass (markers_checks thread strings raw) passed in
    let rows = length raw.marker_phase.cells in
    let first = first_fit thread table.Markers column.Phase MOST_ROWS kind.Phase raw.marker_phase all.0 in
    record {
      few = first.0;
      phase = λ m lt. first.1 m lt;
      name = λ m lt. needed_fit thread table.Markers column.Name rows (kind.Index strings) raw.marker_name all.1.0 m lt;
      start = λ m lt. (moment_fit thread table.Markers column.StartTime Start rows raw.marker_phase raw.marker_start all.1.1.0 m lt).0;
      end = λ m lt. (moment_fit thread table.Markers column.EndTime End rows raw.marker_phase raw.marker_end all.1.1.1.0 m lt).0;
      has_start = λ m lt. (moment_fit thread table.Markers column.StartTime Start rows raw.marker_phase raw.marker_start all.1.1.0 m lt).1;
      has_end = λ m lt. (moment_fit thread table.Markers column.EndTime End rows raw.marker_phase raw.marker_end all.1.1.1.0 m lt).1;
    }

-- a passed check of a thread's own tables shows both
pub own_fit : (thread : Option ℕ) (strings stacks : ℕ) (raw : OwnCells) → own_broken thread strings stacks raw ≡ None → FitSamples stacks raw × (raw.has_markers ≡ true → FitMarkers strings raw)
unfolding own_broken
own_fit thread strings stacks raw h =
    let all = all_pass (samples_broken thread stacks raw ∷ markers_broken thread strings raw ∷ []) h in
    (samples_fit thread stacks raw all.0, λ there. markers_fit thread strings raw there all.1.0)
