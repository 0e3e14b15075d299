use Rattle.std.proofs.Common.{◌≡◌, ◌≤◌, length, ap, ◌∙◌, arith}
use Rattle.prof_raw.specs.Cells.{SharedCells}
use Rattle.prof_tables.proofs.SharedLemmas.{same_shared, shared_tied}
use Rattle.prof_tables.proofs.shared.Shared.of_checked.Goals as goal

pub resources_of-requires : goal.resources_of-requires
resources_of-requires c = c.requires.fit.resources

pub funcs_of-requires-clause-resources : goal.funcs_of-requires-clause-resources
funcs_of-requires-clause-resources c = c.requires.fit.resources

pub funcs_of-requires-clause-funcs : goal.funcs_of-requires-clause-funcs
funcs_of-requires-clause-funcs c = c.requires.fit.funcs

pub frames_of-requires-clause-funcs : goal.frames_of-requires-clause-funcs
frames_of-requires-clause-funcs c = c.requires.fit.funcs

pub frames_of-requires-clause-frames : goal.frames_of-requires-clause-frames
frames_of-requires-clause-frames c = c.requires.fit.frames

pub stacks_of-requires-clause-frames : goal.stacks_of-requires-clause-frames
stacks_of-requires-clause-frames c = c.deref.ensures.value ∙ c.in_ok-frames.ensures.rows

pub stacks_of-requires-clause-few_frames : goal.stacks_of-requires-clause-few_frames
stacks_of-requires-clause-few_frames c = let few = c.requires.fit.frames.few in omega arith

pub stacks_of-requires-clause-stacks : goal.stacks_of-requires-clause-stacks
stacks_of-requires-clause-stacks c = c.requires.fit.stacks

pub stack_frames_of-requires-clause-frames : goal.stack_frames_of-requires-clause-frames
stack_frames_of-requires-clause-frames c = let few = c.requires.fit.frames.few in omega arith

pub stack_frames_of-requires-clause-stacks : goal.stack_frames_of-requires-clause-stacks
stack_frames_of-requires-clause-stacks c = c.requires.fit.stacks

pub of-requires-clause-few : goal.of-requires-clause-few
of-requires-clause-few c =
    let many : length c.in_ok-rows.rows.items ≡ length c.args.raw.now.stack_frame.cells = c.in_ok-rows.ensures.count in
    let few : length c.args.raw.now.stack_frame.cells ≤ 4194304 = c.requires.fit.stacks.few in
    omega arith

pub of-requires-clause-below : goal.of-requires-clause-below
of-requires-clause-below c = c.in_ok-rows.ensures.below

pub invariant_of-result : goal.invariant_of-result
invariant_of-result c =
    let texts : c.in_ok-strings.strings.value ≡ c.args.raw.now.strings = c.in_ok-strings.ensures.cases ∙ ap (λ (r : SharedCells). r.strings) c.raw.view_is in
    shared_tied c.args.categories c.args.default c.args.raw.now _ _ _ _ _ _
    texts c.in_ok-resources.ensures.rows c.in_ok-funcs.ensures.rows c.in_ok-frames.ensures.rows (c.of.ensures ∙ c.in_ok-rows.ensures.rows) c.in_ok-stack_frames.ensures.rows
    c.requires.default c.requires.fit c.in_ok-resources.ensures.count c.in_ok-funcs.ensures.count c.in_ok-frames.ensures.count
    c.in_ok-resources.ensures.tied c.in_ok-funcs.ensures.tied c.in_ok-frames.ensures.tied (rw c.of.ensures c.in_ok-rows.ensures.below)

pub returns : goal.returns
returns c =
    let texts : c.in_ok-strings.strings.value ≡ c.args.raw.now.strings = c.in_ok-strings.ensures.cases ∙ ap (λ (r : SharedCells). r.strings) c.raw.view_is in
    same_shared c.args.categories c.args.default c.args.raw.now _ _ _ _ _ _
    texts c.in_ok-resources.ensures.rows c.in_ok-funcs.ensures.rows c.in_ok-frames.ensures.rows (c.of.ensures ∙ c.in_ok-rows.ensures.rows) c.in_ok-stack_frames.ensures.rows
