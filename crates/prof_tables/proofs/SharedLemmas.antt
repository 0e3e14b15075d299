-- The tables that the columns stand for keep what each value of the shared tables keeps.
use Rattle.std.proofs.Common.{◌≡◌, ℕ, ◌<◌, ◌≤◌, List, length, arith, refl, sym, ◌∙◌, ap, subst}
use Rattle.std.specs.List.{All}
use Rattle.prof_tables.specs.declared.rows.StackRow.{StackRow}
use Rattle.prof_tables.specs.declared.rows.FrameRow.{FrameRow}
use Rattle.prof_raw.specs.Cells.{SharedCells}
use Rattle.prof_raw.specs.Checks.{resource_count}
use Rattle.prof_raw.specs.Fits.{FitShared}
use Rattle.prof_tables.specs.Rows.{resources_of, funcs_of, frames_of, stacks_of, stack_frames_of, shared_of}
use Rattle.prof_tables.specs.Threads.{Func, SharedTables}
use Rattle.prof_tables.specs.Ties.{AreFrames, IsShared, IsFunc, IsFrame}
use Rattle.prof_tables.specs.Paths.{PrefixesBelow}
use Rattle.prof_raw.specs.declared.limits.TheConstants.{MOST_FUNCS, MOST_ROWS}
use Rattle.prof_tables.proofs.FrameLemmas.{frames_tied, stacks_tied}
use Rattle.prof_tables.proofs.RowLemmas.{length-stacks_of}

pub same_shared : (categories default : ℕ) (raw : SharedCells) (strings : List (List ℕ)) (resources : List ℕ) (funcs : List Func) (frames : List FrameRow) (stacks : List StackRow) (stack_frames : List ℕ) →
    strings ≡ raw.strings → resources ≡ resources_of raw → funcs ≡ funcs_of raw → frames ≡ frames_of raw → stacks ≡ stacks_of default raw → stack_frames ≡ stack_frames_of raw →
    (let t : SharedTables = record { strings = strings; resources = resources; funcs = funcs; frames = frames; stacks = stacks; stack_frames = stack_frames; categories = categories; default = default } in t) ≡ shared_of categories default raw
same_shared categories default raw strings resources funcs frames stacks stack_frames es er ef eg et en = rw (es, er, ef, eg, et, en) refl

pub shared_tied : (categories default : ℕ) (raw : SharedCells) (strings : List (List ℕ)) (resources : List ℕ) (funcs : List Func) (frames : List FrameRow) (stacks : List StackRow) (stack_frames : List ℕ) →
    strings ≡ raw.strings → resources ≡ resources_of raw → funcs ≡ funcs_of raw → frames ≡ frames_of raw → stacks ≡ stacks_of default raw → stack_frames ≡ stack_frames_of raw →
    default < categories → FitShared categories raw →
    length resources ≡ resource_count raw → length funcs ≡ length raw.func_name.cells → length frames ≡ length raw.frame_func.cells →
    All (λ name. name < length raw.strings) resources → All (IsFunc (length raw.strings) (resource_count raw)) funcs →
    All (IsFrame (length raw.func_name.cells) categories) frames → PrefixesBelow stacks →
    IsShared (record { strings = strings; resources = resources; funcs = funcs; frames = frames; stacks = stacks; stack_frames = stack_frames; categories = categories; default = default })
shared_tied categories default raw strings resources funcs frames stacks stack_frames es er ef eg et en below fit nr nf ng hr hf hg hs =
    let few_resources : resource_count raw ≤ MOST_FUNCS = fit.resources.few in
    let few_funcs : length raw.func_name.cells ≤ MOST_FUNCS = fit.funcs.few in
    let few_frames : length raw.frame_func.cells ≤ MOST_ROWS = fit.frames.few in
    let few_stacks : length raw.stack_frame.cells ≤ MOST_ROWS = fit.stacks.few in
    let many_stacks : length stacks ≡ length raw.stack_frame.cells = ap length et ∙ length-stacks_of default raw in
    record {
      tied = record {
        few_strings = rw es fit.strings;
        few_resources = omega arith;
        few_funcs = omega arith;
        few_frames = omega arith;
        few_stacks = omega arith;
        default = below;
        resources = rw es hr;
        funcs = rw (es, nr) hf;
        frames = rw nf hg;
        stacks = rw (et, nf) (stacks_tied default categories raw below fit.frames fit.stacks);
      };
      frames = subst AreFrames (sym (same_shared categories default raw strings resources funcs frames stacks stack_frames es er ef eg et en)) (frames_tied categories default raw fit.stacks);
      prefixes = hs;
    }
