-- The tables of a written thread that threads may share break no rule.
use Rattle.std.proofs.Common.{◌≡◌, ◌∙◌, ℕ, ◌<◌, ◌≤◌, Option, None, length, refl, sym, ap, arith, true, false}
use Rattle.std.specs.Prelude.{map}
use Rattle.std.proofs.lemmas.Option.{slice_get_within}
use Rattle.prof_raw.specs.declared.column.CellKind.TheVariants as kind
use Rattle.prof_raw.specs.declared.column.Size.TheVariants.{AtMost, Same}
use Rattle.prof_raw.specs.declared.limits.TheConstants.{MOST_FUNCS, MOST_ROWS, MOST_STRINGS}
use Rattle.prof_raw.specs.declared.rule.Table.TheVariants as table
use Rattle.prof_raw.specs.declared.rule.Column.TheVariants as column
use Rattle.prof_raw.specs.Checks.{first_column, frames_broken, frames_checks, funcs_broken, funcs_checks, needed_column, optional_column, named, resources_broken, resources_checks, shared_broken, shared_checks, stacks_broken, stacks_checks, strings_broken}
use Rattle.prof_raw.specs.Rules.{size_rule}
use Rattle.prof_tables.specs.Threads.{SharedTables}
use Rattle.prof_tables.specs.Ties.{IsShared, AreTied}
use Rattle.prof_tables.proofs.RowLemmas.{all_at}
use Rattle.prof_back.specs.Gathered.{column_with}
use Rattle.prof_back.proofs.Columns.{length_map}
use Rattle.prof_back.proofs.Frames.{category_told, frame_within, func_told, number_told}
use Rattle.prof_back.proofs.Passing.{as_many, as_others, checks_pass, column_passes, index_passes, maybe_index_passes, prefix_passes, resource_passes, within_most}
use Rattle.prof_back.proofs.SharedTold.{file_told, func_within, is_js_told, name_told, prefix_told, relevant_told, resource_told, shared_told}

strings_whole : (thread : Option ℕ) (t : SharedTables) → AreTied t → strings_broken thread (shared_told t) ≡ None
unfolding strings_broken
strings_whole thread t tied =
    let fits : size_rule (AtMost MOST_STRINGS) (length t.strings) ≡ None = within_most (length t.strings) MOST_STRINGS tied.few_strings in
    rw fits refl

resource_names : (thread : Option ℕ) (t : SharedTables) → AreTied t →
    first_column thread table.ResourceTable column.Name MOST_FUNCS (kind.Index (length t.strings)) (column_with (map number_told t.resources)) ≡ None
resource_names thread t tied =
    ap (named thread table.ResourceTable column.Name) (column_passes true (AtMost MOST_FUNCS) (kind.Index (length t.strings)) number_told t.resources
    (within_most (length t.resources) MOST_FUNCS tied.few_resources)
    (λ i n e. index_passes (length t.strings) n (all_at (λ n. n < length t.strings) t.resources i n tied.resources e)))

resources_whole : (thread : Option ℕ) (t : SharedTables) → AreTied t → resources_broken thread (shared_told t) ≡ None
unfolding resources_broken
resources_whole thread t tied = checks_pass (resources_checks thread (shared_told t)) (resource_names thread t tied, (refl, tt))

-- ---- functions

func_names : (thread : Option ℕ) (t : SharedTables) → AreTied t → first_column thread table.FuncTable column.Name MOST_FUNCS (kind.Index (length t.strings)) (column_with (map name_told t.funcs)) ≡ None
func_names thread t tied =
    ap (named thread table.FuncTable column.Name) (column_passes true (AtMost MOST_FUNCS) (kind.Index (length t.strings)) name_told t.funcs
    (within_most (length t.funcs) MOST_FUNCS tied.few_funcs)
    (λ i f e. index_passes (length t.strings) f.name (func_within t tied i f e).name))

func_flags : (thread : Option ℕ) (t : SharedTables) → optional_column thread table.FuncTable column.IsJs (length (map name_told t.funcs)) kind.Truth (column_with (map is_js_told t.funcs)) ≡ None
func_flags thread t =
    ap (named thread table.FuncTable column.IsJs) (column_passes false (Same (length (map name_told t.funcs))) kind.Truth is_js_told t.funcs (as_others t.funcs name_told) (λ i f e. refl))

func_relevance : (thread : Option ℕ) (t : SharedTables) →
    optional_column thread table.FuncTable column.RelevantForJs (length (map name_told t.funcs)) kind.Truth (column_with (map relevant_told t.funcs)) ≡ None
func_relevance thread t =
    ap (named thread table.FuncTable column.RelevantForJs) (column_passes false (Same (length (map name_told t.funcs))) kind.Truth relevant_told t.funcs (as_others t.funcs name_told) (λ i f e. refl))

func_resources : (thread : Option ℕ) (t : SharedTables) → AreTied t →
    optional_column thread table.FuncTable column.Resource (length (map name_told t.funcs)) (kind.MinusOrIndex (length (map number_told t.resources))) (column_with (map resource_told t.funcs)) ≡ None
func_resources thread t tied =
    let limit = length (map number_told t.resources) in
    ap (named thread table.FuncTable column.Resource) (column_passes false (Same (length (map name_told t.funcs))) (kind.MinusOrIndex limit) resource_told t.funcs (as_others t.funcs name_told)
    (λ i f e. resource_passes (length t.resources) limit i f.resource (length_map number_told t.resources) (func_within t tied i f e).resource))

func_files : (thread : Option ℕ) (t : SharedTables) → AreTied t →
    optional_column thread table.FuncTable column.FileName (length (map name_told t.funcs)) (kind.MaybeIndex (length t.strings)) (column_with (map file_told t.funcs)) ≡ None
func_files thread t tied =
    ap (named thread table.FuncTable column.FileName) (column_passes false (Same (length (map name_told t.funcs))) (kind.MaybeIndex (length t.strings)) file_told t.funcs (as_others t.funcs name_told)
    (λ i f e. maybe_index_passes (length t.strings) i f.file (func_within t tied i f e).file))

funcs_whole : (thread : Option ℕ) (t : SharedTables) → AreTied t → funcs_broken thread (shared_told t) ≡ None
unfolding funcs_broken
funcs_whole thread t tied =
    checks_pass (funcs_checks thread (shared_told t))
    (func_names thread t tied, (func_flags thread t, (func_relevance thread t, (func_resources thread t tied, (func_files thread t tied, (refl, tt))))))

-- ---- frames

frame_funcs : (thread : Option ℕ) (t : SharedTables) → AreTied t →
    first_column thread table.FrameTable column.Func MOST_ROWS (kind.Index (length (map name_told t.funcs))) (column_with (map func_told t.frames)) ≡ None
frame_funcs thread t tied =
    let limit = length (map name_told t.funcs) in
    let many : limit ≡ length t.funcs = length_map name_told t.funcs in
    ap (named thread table.FrameTable column.Func) (column_passes true (AtMost MOST_ROWS) (kind.Index limit) func_told t.frames
    (within_most (length t.frames) MOST_ROWS tied.few_frames)
    (λ i f e. let is = (frame_within t tied i f e).func in index_passes limit f.func (omega arith)))

frame_categories : (thread : Option ℕ) (t : SharedTables) → AreTied t →
    optional_column thread table.FrameTable column.Category (length (map func_told t.frames)) (kind.MaybeIndex t.categories) (column_with (map category_told t.frames)) ≡ None
frame_categories thread t tied =
    ap (named thread table.FrameTable column.Category) (column_passes false (Same (length (map func_told t.frames))) (kind.MaybeIndex t.categories) category_told t.frames (as_others t.frames func_told)
    (λ i f e. maybe_index_passes t.categories i f.category (frame_within t tied i f e).category))

frames_whole : (thread : Option ℕ) (t : SharedTables) → AreTied t → frames_broken thread t.categories (shared_told t) ≡ None
unfolding frames_broken
frames_whole thread t tied = checks_pass (frames_checks thread t.categories (shared_told t)) (frame_funcs thread t tied, (frame_categories thread t tied, (refl, tt)))

-- ---- stack rows

stack_frames : (thread : Option ℕ) (t : SharedTables) → IsShared t →
    first_column thread table.StackTable column.Frame MOST_ROWS (kind.Index (length (map func_told t.frames))) (column_with (map number_told t.stack_frames)) ≡ None
stack_frames thread t kept =
    let limit = length (map func_told t.frames) in
    let many : limit ≡ length t.frames = length_map func_told t.frames in
    let few : length t.stacks ≤ 4194304 = kept.tied.few_stacks in
    let same : length t.stack_frames ≡ length t.stacks = kept.frames.many in
    ap (named thread table.StackTable column.Frame) (column_passes true (AtMost MOST_ROWS) (kind.Index limit) number_told t.stack_frames
    (within_most (length t.stack_frames) MOST_ROWS (omega arith))
    (λ i j e. let is = kept.frames.frame i j e in let within = slice_get_within t.frames j is.1.0 is.1.1.1 in index_passes limit j (omega arith)))

stack_prefixes : (thread : Option ℕ) (t : SharedTables) → IsShared t →
    needed_column thread table.StackTable column.Prefix (length (map number_told t.stack_frames)) kind.Prefix (column_with (map prefix_told t.stacks)) ≡ None
stack_prefixes thread t kept =
    let rows = length (map number_told t.stack_frames) in
    let same : length t.stack_frames ≡ length t.stacks = kept.frames.many in
    ap (named thread table.StackTable column.Prefix) (column_passes true (Same rows) kind.Prefix prefix_told t.stacks
    (as_many (length t.stacks) rows (sym (length_map number_told t.stack_frames ∙ same)))
    (λ i s e. prefix_passes i s.prefix (kept.prefixes i s e)))

stacks_whole : (thread : Option ℕ) (t : SharedTables) → IsShared t → stacks_broken thread (shared_told t) ≡ None
unfolding stacks_broken
stacks_whole thread t kept = checks_pass (stacks_checks thread (shared_told t)) (stack_frames thread t kept, (stack_prefixes thread t kept, (refl, tt)))

-- ---- all tables

pub shared_whole : (thread : Option ℕ) (t : SharedTables) → IsShared t → shared_broken thread t.categories (shared_told t) ≡ None
unfolding shared_broken
shared_whole thread t kept =
    let tied = kept.tied in
    checks_pass (shared_checks thread t.categories (shared_told t))
    (strings_whole thread t tied, (resources_whole thread t tied, (funcs_whole thread t tied, (frames_whole thread t tied, (stacks_whole thread t kept, tt)))))
