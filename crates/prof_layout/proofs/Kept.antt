-- What is kept of a thread's tables breaks what all of them break.
use Rattle.std.proofs.Common.{◌≡◌, ◌≢◌, ℕ, suc, ◌<◌, ◌≤◌, Option, None, Some, IfSome, subst, List, [], ◌∷◌, length, take, Bool, true, false, refl, sym, ◌∙◌, ap, arith, inl, inr}
use Rattle.std.specs.Prelude.{ℤ, nat_le, nat_eq, if◌then◌else◌}
use Rattle.std.specs.Option.{option_or, option_map}
use Rattle.std.proofs.lemmas.Bool.{cases_lt, cases_Bool}
use Rattle.std.proofs.lemmas.Bool.Decides.{nat_tests}
use Rattle.std.proofs.lemmas.List.{take_all, length-take-le}
use Rattle.prof_raw.specs.declared.raw.State.{State}
use Rattle.prof_raw.specs.declared.raw.State.TheVariants.{Absent, NotArray, Array}
use Rattle.prof_raw.specs.declared.rule.Rule.TheVariants as rule
use Rattle.prof_raw.specs.Rules.{whole_only, whole_fault}
use Rattle.prof_raw.proofs.CheckLemmas.{strings_fit}
use Rattle.prof_raw.specs.declared.rule.Broken.{Broken}
use Rattle.prof_raw.specs.declared.rule.BadCell.{BadCell}
use Rattle.prof_raw.specs.declared.rule.Table.TheVariants as table
use Rattle.prof_raw.specs.declared.rule.Column.TheVariants as column
use Rattle.prof_raw.specs.Cells.{Cells, SharedCells}
use Rattle.prof_raw.specs.Checks.{named, shared_checks, first_of, strings_broken, resources_checks, resources_broken, funcs_checks, funcs_broken, frames_checks, frames_broken, stacks_checks, stacks_broken, shared_broken}
use Rattle.prof_layout.specs.Columns.{kept_bad, capped, IsGathered}
use Rattle.prof_layout.specs.Kept.{kept_strings, kept_resources, kept_funcs, kept_frames, kept_stacks, kept_shared, AreGathered}
use Rattle.prof_layout.proofs.Capped.{capped_same, capped_over}
use Rattle.prof_raw.specs.declared.limits.TheConstants.{MOST_FUNCS, MOST_ROWS, MOST_STRINGS}

pub not_within : (n most : ℕ) → most < n → nat_le n most ≡ false
not_within n most h = grind (arith, nat_tests)

pub not_same : (n m : ℕ) → m < n → nat_eq n m ≡ false
not_same n m h = grind (arith, nat_tests)

-- a check, and those behind it, which count where it passes
pub or_same : (a b c d : Option Broken) → a ≡ b → (b ≡ None → c ≡ d) → option_or a c ≡ option_or b d
or_same a None c d e rest = rw e (rest refl)
or_same a (Some x) c d e rest = rw e refl

-- each check of a list passes
abbrev pub AllPass : List (Option Broken) → Type 0
AllPass [] = Unit {0}
AllPass (check ∷ checks) = (check ≡ None) × AllPass checks

pub none_of : (a b : Option Broken) → option_or a b ≡ None → (a ≡ None) × (b ≡ None)
none_of None b h = (refl, h)
none_of (Some x) b h = cc

pub all_pass : (checks : List (Option Broken)) → first_of checks ≡ None → AllPass checks
all_pass [] h = tt
all_pass (check ∷ checks) h = let p = none_of check (first_of checks) h in (p.0, all_pass checks p.1)

pub some_none : (b : Broken) → Some b ≡ None → ⊥
some_none b h = cc

state_is : (s : State) (n : ℕ) → (s ≢ Array → n ≡ 0) → 0 < n → s ≡ Array
state_is Array n only h = refl
state_is Absent n only h = let e : n ≡ 0 = only (λ (k : Absent ≡ Array). cc) in absurd (omega arith)
state_is NotArray n only h = let e : n ≡ 0 = only (λ (k : NotArray ≡ Array). cc) in absurd (omega arith)

-- a column with cells is an array
pub is_array : (c : Cells) → IsGathered c → 0 < length c.cells → c.state ≡ Array
is_array c h some = state_is c.state (length c.cells) h.only some

pub resources_kept : (thread : Option ℕ) (raw : SharedCells) → AreGathered raw → resources_broken thread (kept_resources raw) ≡ resources_broken thread raw
unfolding resources_broken kept_resources
resources_kept thread raw h = elim (cases_lt MOST_FUNCS (length raw.resource_name.cells)) [
  | inl over ↦
      let array : raw.resource_name.state ≡ Array = is_array raw.resource_name h.resource_name (omega arith) in
      let kept : nat_le (length (take (suc MOST_FUNCS) raw.resource_name.cells)) MOST_FUNCS ≡ false = not_within (length (take (suc MOST_FUNCS) raw.resource_name.cells)) MOST_FUNCS (capped_over MOST_FUNCS raw.resource_name over) in
      let all : nat_le (length raw.resource_name.cells) MOST_FUNCS ≡ false = not_within (length raw.resource_name.cells) MOST_FUNCS over in
      rw (array, kept, all) refl
  | inr few ↦
      ap (λ (c : Cells). resources_broken thread (record raw { resource_name = c })) (capped_same MOST_FUNCS raw.resource_name h.resource_name (omega arith))
]

-- where nothing breaks, these have at most the most rows
resources_few : (thread : Option ℕ) (raw : SharedCells) → AreGathered raw → first_of (resources_checks thread raw) ≡ None → length raw.resource_name.cells ≤ MOST_FUNCS
resources_few thread raw h none =
    let all = all_pass (resources_checks thread raw) none in
    let few : length raw.resource_name.cells ≤ MOST_FUNCS = elim (cases_lt MOST_FUNCS (length raw.resource_name.cells)) [
      | inl over ↦
          let array : raw.resource_name.state ≡ Array = is_array raw.resource_name h.resource_name (omega arith) in
          let test : nat_le (length raw.resource_name.cells) MOST_FUNCS ≡ false = not_within (length raw.resource_name.cells) MOST_FUNCS over in
          absurd (some_none _ (rw (array, test) at all.0))
      | inr within ↦ within
    ] in
    few

resources-is : (thread : Option ℕ) (raw : SharedCells) (there : Bool) → AreGathered raw → raw.has_resources ≡ there → (if there then first_of (resources_checks thread raw) else None) ≡ None →
    length raw.resource_name.cells ≤ MOST_FUNCS
resources-is thread raw true h e none = resources_few thread raw h none
resources-is thread raw false h e none = let n = h.no_resources e in omega arith

pub resources_whole : (thread : Option ℕ) (raw : SharedCells) → AreGathered raw → resources_broken thread raw ≡ None → kept_resources raw ≡ raw
unfolding resources_broken kept_resources
resources_whole thread raw h none =
    let few = resources-is thread raw raw.has_resources h refl none in
    ap (λ (c : Cells). let r : SharedCells = record raw { resource_name = c } in r) (capped_same MOST_FUNCS raw.resource_name h.resource_name (omega arith))

funcs-func_is_js : (thread : Option ℕ) (raw : SharedCells) → IsGathered raw.func_is_js → length raw.func_name.cells ≤ MOST_FUNCS → funcs_broken thread (record raw { func_is_js = capped MOST_FUNCS raw.func_is_js }) ≡ funcs_broken thread raw
unfolding funcs_broken
funcs-func_is_js thread raw h few = elim (cases_lt MOST_FUNCS (length raw.func_is_js.cells)) [
  | inl over ↦
      let kept : nat_eq (length (take (suc MOST_FUNCS) raw.func_is_js.cells)) (length raw.func_name.cells) ≡ false = let more = capped_over MOST_FUNCS raw.func_is_js over in not_same (length (take (suc MOST_FUNCS) raw.func_is_js.cells)) (length raw.func_name.cells) (omega arith) in
      let all : nat_eq (length raw.func_is_js.cells) (length raw.func_name.cells) ≡ false = not_same (length raw.func_is_js.cells) (length raw.func_name.cells) (omega arith) in
      rw (kept, all) refl
  | inr within ↦ ap (λ (c : Cells). funcs_broken thread (record raw { func_is_js = c })) (capped_same MOST_FUNCS raw.func_is_js h (omega arith))
]

funcs-func_relevant_for_js : (thread : Option ℕ) (raw : SharedCells) → IsGathered raw.func_relevant_for_js → length raw.func_name.cells ≤ MOST_FUNCS → funcs_broken thread (record raw { func_relevant_for_js = capped MOST_FUNCS raw.func_relevant_for_js }) ≡ funcs_broken thread raw
unfolding funcs_broken
funcs-func_relevant_for_js thread raw h few = elim (cases_lt MOST_FUNCS (length raw.func_relevant_for_js.cells)) [
  | inl over ↦
      let kept : nat_eq (length (take (suc MOST_FUNCS) raw.func_relevant_for_js.cells)) (length raw.func_name.cells) ≡ false = let more = capped_over MOST_FUNCS raw.func_relevant_for_js over in not_same (length (take (suc MOST_FUNCS) raw.func_relevant_for_js.cells)) (length raw.func_name.cells) (omega arith) in
      let all : nat_eq (length raw.func_relevant_for_js.cells) (length raw.func_name.cells) ≡ false = not_same (length raw.func_relevant_for_js.cells) (length raw.func_name.cells) (omega arith) in
      rw (kept, all) refl
  | inr within ↦ ap (λ (c : Cells). funcs_broken thread (record raw { func_relevant_for_js = c })) (capped_same MOST_FUNCS raw.func_relevant_for_js h (omega arith))
]

funcs-func_resource : (thread : Option ℕ) (raw : SharedCells) → IsGathered raw.func_resource → length raw.func_name.cells ≤ MOST_FUNCS → funcs_broken thread (record raw { func_resource = capped MOST_FUNCS raw.func_resource }) ≡ funcs_broken thread raw
unfolding funcs_broken
funcs-func_resource thread raw h few = elim (cases_lt MOST_FUNCS (length raw.func_resource.cells)) [
  | inl over ↦
      let kept : nat_eq (length (take (suc MOST_FUNCS) raw.func_resource.cells)) (length raw.func_name.cells) ≡ false = let more = capped_over MOST_FUNCS raw.func_resource over in not_same (length (take (suc MOST_FUNCS) raw.func_resource.cells)) (length raw.func_name.cells) (omega arith) in
      let all : nat_eq (length raw.func_resource.cells) (length raw.func_name.cells) ≡ false = not_same (length raw.func_resource.cells) (length raw.func_name.cells) (omega arith) in
      rw (kept, all) refl
  | inr within ↦ ap (λ (c : Cells). funcs_broken thread (record raw { func_resource = c })) (capped_same MOST_FUNCS raw.func_resource h (omega arith))
]

funcs-func_file_name : (thread : Option ℕ) (raw : SharedCells) → IsGathered raw.func_file_name → length raw.func_name.cells ≤ MOST_FUNCS → funcs_broken thread (record raw { func_file_name = capped MOST_FUNCS raw.func_file_name }) ≡ funcs_broken thread raw
unfolding funcs_broken
funcs-func_file_name thread raw h few = elim (cases_lt MOST_FUNCS (length raw.func_file_name.cells)) [
  | inl over ↦
      let kept : nat_eq (length (take (suc MOST_FUNCS) raw.func_file_name.cells)) (length raw.func_name.cells) ≡ false = let more = capped_over MOST_FUNCS raw.func_file_name over in not_same (length (take (suc MOST_FUNCS) raw.func_file_name.cells)) (length raw.func_name.cells) (omega arith) in
      let all : nat_eq (length raw.func_file_name.cells) (length raw.func_name.cells) ≡ false = not_same (length raw.func_file_name.cells) (length raw.func_name.cells) (omega arith) in
      rw (kept, all) refl
  | inr within ↦ ap (λ (c : Cells). funcs_broken thread (record raw { func_file_name = c })) (capped_same MOST_FUNCS raw.func_file_name h (omega arith))
]

pub funcs_kept : (thread : Option ℕ) (raw : SharedCells) → AreGathered raw → funcs_broken thread (kept_funcs raw) ≡ funcs_broken thread raw
unfolding funcs_broken kept_funcs
funcs_kept thread raw h = elim (cases_lt MOST_FUNCS (length raw.func_name.cells)) [
  | inl over ↦
      let array : raw.func_name.state ≡ Array = is_array raw.func_name h.func_name (omega arith) in
      let kept : nat_le (length (take (suc MOST_FUNCS) raw.func_name.cells)) MOST_FUNCS ≡ false = not_within (length (take (suc MOST_FUNCS) raw.func_name.cells)) MOST_FUNCS (capped_over MOST_FUNCS raw.func_name over) in
      let all : nat_le (length raw.func_name.cells) MOST_FUNCS ≡ false = not_within (length raw.func_name.cells) MOST_FUNCS over in
      rw (array, kept, all) refl
  | inr few ↦
      ap (λ (c : Cells). funcs_broken thread (record raw { func_name = c; func_is_js = capped MOST_FUNCS raw.func_is_js; func_relevant_for_js = capped MOST_FUNCS raw.func_relevant_for_js; func_resource = capped MOST_FUNCS raw.func_resource; func_file_name = capped MOST_FUNCS raw.func_file_name })) (capped_same MOST_FUNCS raw.func_name h.func_name (omega arith))
      ∙ funcs-func_is_js thread (record raw { func_relevant_for_js = capped MOST_FUNCS raw.func_relevant_for_js; func_resource = capped MOST_FUNCS raw.func_resource; func_file_name = capped MOST_FUNCS raw.func_file_name }) h.func_is_js few
      ∙ funcs-func_relevant_for_js thread (record raw { func_resource = capped MOST_FUNCS raw.func_resource; func_file_name = capped MOST_FUNCS raw.func_file_name }) h.func_relevant_for_js few
      ∙ funcs-func_resource thread (record raw { func_file_name = capped MOST_FUNCS raw.func_file_name }) h.func_resource few
      ∙ funcs-func_file_name thread raw h.func_file_name few
]

-- where nothing breaks, these have at most the most rows
funcs_few : (thread : Option ℕ) (raw : SharedCells) → AreGathered raw → first_of (funcs_checks thread raw) ≡ None → (length raw.func_name.cells ≤ MOST_FUNCS) × (length raw.func_is_js.cells ≤ MOST_FUNCS) × (length raw.func_relevant_for_js.cells ≤ MOST_FUNCS) × (length raw.func_resource.cells ≤ MOST_FUNCS) × (length raw.func_file_name.cells ≤ MOST_FUNCS)
funcs_few thread raw h none =
    let all = all_pass (funcs_checks thread raw) none in
    let few : length raw.func_name.cells ≤ MOST_FUNCS = elim (cases_lt MOST_FUNCS (length raw.func_name.cells)) [
      | inl over ↦
          let array : raw.func_name.state ≡ Array = is_array raw.func_name h.func_name (omega arith) in
          let test : nat_le (length raw.func_name.cells) MOST_FUNCS ≡ false = not_within (length raw.func_name.cells) MOST_FUNCS over in
          absurd (some_none _ (rw (array, test) at all.0))
      | inr within ↦ within
    ] in
    let few-func_is_js : length raw.func_is_js.cells ≤ MOST_FUNCS = elim (cases_lt MOST_FUNCS (length raw.func_is_js.cells)) [
      | inl over ↦
          let array : raw.func_is_js.state ≡ Array = is_array raw.func_is_js h.func_is_js (omega arith) in
          let test : nat_eq (length raw.func_is_js.cells) (length raw.func_name.cells) ≡ false = not_same (length raw.func_is_js.cells) (length raw.func_name.cells) (omega arith) in
          absurd (some_none _ (rw (array, test) at all.1.0))
      | inr within ↦ within
    ] in
    let few-func_relevant_for_js : length raw.func_relevant_for_js.cells ≤ MOST_FUNCS = elim (cases_lt MOST_FUNCS (length raw.func_relevant_for_js.cells)) [
      | inl over ↦
          let array : raw.func_relevant_for_js.state ≡ Array = is_array raw.func_relevant_for_js h.func_relevant_for_js (omega arith) in
          let test : nat_eq (length raw.func_relevant_for_js.cells) (length raw.func_name.cells) ≡ false = not_same (length raw.func_relevant_for_js.cells) (length raw.func_name.cells) (omega arith) in
          absurd (some_none _ (rw (array, test) at all.1.1.0))
      | inr within ↦ within
    ] in
    let few-func_resource : length raw.func_resource.cells ≤ MOST_FUNCS = elim (cases_lt MOST_FUNCS (length raw.func_resource.cells)) [
      | inl over ↦
          let array : raw.func_resource.state ≡ Array = is_array raw.func_resource h.func_resource (omega arith) in
          let test : nat_eq (length raw.func_resource.cells) (length raw.func_name.cells) ≡ false = not_same (length raw.func_resource.cells) (length raw.func_name.cells) (omega arith) in
          absurd (some_none _ (rw (array, test) at all.1.1.1.0))
      | inr within ↦ within
    ] in
    let few-func_file_name : length raw.func_file_name.cells ≤ MOST_FUNCS = elim (cases_lt MOST_FUNCS (length raw.func_file_name.cells)) [
      | inl over ↦
          let array : raw.func_file_name.state ≡ Array = is_array raw.func_file_name h.func_file_name (omega arith) in
          let test : nat_eq (length raw.func_file_name.cells) (length raw.func_name.cells) ≡ false = not_same (length raw.func_file_name.cells) (length raw.func_name.cells) (omega arith) in
          absurd (some_none _ (rw (array, test) at all.1.1.1.1.0))
      | inr within ↦ within
    ] in
    (few, few-func_is_js, few-func_relevant_for_js, few-func_resource, few-func_file_name)

pub funcs_whole : (thread : Option ℕ) (raw : SharedCells) → AreGathered raw → funcs_broken thread raw ≡ None → kept_funcs raw ≡ raw
unfolding funcs_broken kept_funcs
funcs_whole thread raw h none =
    let few = funcs_few thread raw h none in
    (let le : length raw.func_name.cells ≤ MOST_FUNCS = few.0 in ap (λ (c : Cells). let r : SharedCells = record raw { func_name = c; func_is_js = capped MOST_FUNCS raw.func_is_js; func_relevant_for_js = capped MOST_FUNCS raw.func_relevant_for_js; func_resource = capped MOST_FUNCS raw.func_resource; func_file_name = capped MOST_FUNCS raw.func_file_name } in r) (capped_same MOST_FUNCS raw.func_name h.func_name (omega arith)))
    ∙ (let le : length raw.func_is_js.cells ≤ MOST_FUNCS = few.1 in ap (λ (c : Cells). let r : SharedCells = record raw { func_is_js = c; func_relevant_for_js = capped MOST_FUNCS raw.func_relevant_for_js; func_resource = capped MOST_FUNCS raw.func_resource; func_file_name = capped MOST_FUNCS raw.func_file_name } in r) (capped_same MOST_FUNCS raw.func_is_js h.func_is_js (omega arith)))
    ∙ (let le : length raw.func_relevant_for_js.cells ≤ MOST_FUNCS = few.2 in ap (λ (c : Cells). let r : SharedCells = record raw { func_relevant_for_js = c; func_resource = capped MOST_FUNCS raw.func_resource; func_file_name = capped MOST_FUNCS raw.func_file_name } in r) (capped_same MOST_FUNCS raw.func_relevant_for_js h.func_relevant_for_js (omega arith)))
    ∙ (let le : length raw.func_resource.cells ≤ MOST_FUNCS = few.3 in ap (λ (c : Cells). let r : SharedCells = record raw { func_resource = c; func_file_name = capped MOST_FUNCS raw.func_file_name } in r) (capped_same MOST_FUNCS raw.func_resource h.func_resource (omega arith)))
    ∙ (let le : length raw.func_file_name.cells ≤ MOST_FUNCS = few.4 in ap (λ (c : Cells). let r : SharedCells = record raw { func_file_name = c } in r) (capped_same MOST_FUNCS raw.func_file_name h.func_file_name (omega arith)))

frames-frame_category : (thread : Option ℕ) (categories : ℕ) (raw : SharedCells) → IsGathered raw.frame_category → length raw.frame_func.cells ≤ MOST_ROWS → frames_broken thread categories (record raw { frame_category = capped MOST_ROWS raw.frame_category }) ≡ frames_broken thread categories raw
unfolding frames_broken
frames-frame_category thread categories raw h few = elim (cases_lt MOST_ROWS (length raw.frame_category.cells)) [
  | inl over ↦
      let kept : nat_eq (length (take (suc MOST_ROWS) raw.frame_category.cells)) (length raw.frame_func.cells) ≡ false = let more = capped_over MOST_ROWS raw.frame_category over in not_same (length (take (suc MOST_ROWS) raw.frame_category.cells)) (length raw.frame_func.cells) (omega arith) in
      let all : nat_eq (length raw.frame_category.cells) (length raw.frame_func.cells) ≡ false = not_same (length raw.frame_category.cells) (length raw.frame_func.cells) (omega arith) in
      rw (kept, all) refl
  | inr within ↦ ap (λ (c : Cells). frames_broken thread categories (record raw { frame_category = c })) (capped_same MOST_ROWS raw.frame_category h (omega arith))
]

pub frames_kept : (thread : Option ℕ) (categories : ℕ) (raw : SharedCells) → AreGathered raw → frames_broken thread categories (kept_frames raw) ≡ frames_broken thread categories raw
unfolding frames_broken kept_frames
frames_kept thread categories raw h = elim (cases_lt MOST_ROWS (length raw.frame_func.cells)) [
  | inl over ↦
      let array : raw.frame_func.state ≡ Array = is_array raw.frame_func h.frame_func (omega arith) in
      let kept : nat_le (length (take (suc MOST_ROWS) raw.frame_func.cells)) MOST_ROWS ≡ false = not_within (length (take (suc MOST_ROWS) raw.frame_func.cells)) MOST_ROWS (capped_over MOST_ROWS raw.frame_func over) in
      let all : nat_le (length raw.frame_func.cells) MOST_ROWS ≡ false = not_within (length raw.frame_func.cells) MOST_ROWS over in
      rw (array, kept, all) refl
  | inr few ↦
      ap (λ (c : Cells). frames_broken thread categories (record raw { frame_func = c; frame_category = capped MOST_ROWS raw.frame_category })) (capped_same MOST_ROWS raw.frame_func h.frame_func (omega arith))
      ∙ frames-frame_category thread categories raw h.frame_category few
]

-- where nothing breaks, these have at most the most rows
frames_few : (thread : Option ℕ) (categories : ℕ) (raw : SharedCells) → AreGathered raw → first_of (frames_checks thread categories raw) ≡ None → (length raw.frame_func.cells ≤ MOST_ROWS) × (length raw.frame_category.cells ≤ MOST_ROWS)
frames_few thread categories raw h none =
    let all = all_pass (frames_checks thread categories raw) none in
    let few : length raw.frame_func.cells ≤ MOST_ROWS = elim (cases_lt MOST_ROWS (length raw.frame_func.cells)) [
      | inl over ↦
          let array : raw.frame_func.state ≡ Array = is_array raw.frame_func h.frame_func (omega arith) in
          let test : nat_le (length raw.frame_func.cells) MOST_ROWS ≡ false = not_within (length raw.frame_func.cells) MOST_ROWS over in
          absurd (some_none _ (rw (array, test) at all.0))
      | inr within ↦ within
    ] in
    let few-frame_category : length raw.frame_category.cells ≤ MOST_ROWS = elim (cases_lt MOST_ROWS (length raw.frame_category.cells)) [
      | inl over ↦
          let array : raw.frame_category.state ≡ Array = is_array raw.frame_category h.frame_category (omega arith) in
          let test : nat_eq (length raw.frame_category.cells) (length raw.frame_func.cells) ≡ false = not_same (length raw.frame_category.cells) (length raw.frame_func.cells) (omega arith) in
          absurd (some_none _ (rw (array, test) at all.1.0))
      | inr within ↦ within
    ] in
    (few, few-frame_category)

pub frames_whole : (thread : Option ℕ) (categories : ℕ) (raw : SharedCells) → AreGathered raw → frames_broken thread categories raw ≡ None → kept_frames raw ≡ raw
unfolding frames_broken kept_frames
frames_whole thread categories raw h none =
    let few = frames_few thread categories raw h none in
    (let le : length raw.frame_func.cells ≤ MOST_ROWS = few.0 in ap (λ (c : Cells). let r : SharedCells = record raw { frame_func = c; frame_category = capped MOST_ROWS raw.frame_category } in r) (capped_same MOST_ROWS raw.frame_func h.frame_func (omega arith)))
    ∙ (let le : length raw.frame_category.cells ≤ MOST_ROWS = few.1 in ap (λ (c : Cells). let r : SharedCells = record raw { frame_category = c } in r) (capped_same MOST_ROWS raw.frame_category h.frame_category (omega arith)))

stacks-stack_prefix : (thread : Option ℕ) (raw : SharedCells) → IsGathered raw.stack_prefix → length raw.stack_frame.cells ≤ MOST_ROWS → stacks_broken thread (record raw { stack_prefix = capped MOST_ROWS raw.stack_prefix }) ≡ stacks_broken thread raw
unfolding stacks_broken
stacks-stack_prefix thread raw h few = elim (cases_lt MOST_ROWS (length raw.stack_prefix.cells)) [
  | inl over ↦
      let kept : nat_eq (length (take (suc MOST_ROWS) raw.stack_prefix.cells)) (length raw.stack_frame.cells) ≡ false = let more = capped_over MOST_ROWS raw.stack_prefix over in not_same (length (take (suc MOST_ROWS) raw.stack_prefix.cells)) (length raw.stack_frame.cells) (omega arith) in
      let all : nat_eq (length raw.stack_prefix.cells) (length raw.stack_frame.cells) ≡ false = not_same (length raw.stack_prefix.cells) (length raw.stack_frame.cells) (omega arith) in
      rw (kept, all) refl
  | inr within ↦ ap (λ (c : Cells). stacks_broken thread (record raw { stack_prefix = c })) (capped_same MOST_ROWS raw.stack_prefix h (omega arith))
]

pub stacks_kept : (thread : Option ℕ) (raw : SharedCells) → AreGathered raw → stacks_broken thread (kept_stacks raw) ≡ stacks_broken thread raw
unfolding stacks_broken kept_stacks
stacks_kept thread raw h = elim (cases_lt MOST_ROWS (length raw.stack_frame.cells)) [
  | inl over ↦
      let array : raw.stack_frame.state ≡ Array = is_array raw.stack_frame h.stack_frame (omega arith) in
      let kept : nat_le (length (take (suc MOST_ROWS) raw.stack_frame.cells)) MOST_ROWS ≡ false = not_within (length (take (suc MOST_ROWS) raw.stack_frame.cells)) MOST_ROWS (capped_over MOST_ROWS raw.stack_frame over) in
      let all : nat_le (length raw.stack_frame.cells) MOST_ROWS ≡ false = not_within (length raw.stack_frame.cells) MOST_ROWS over in
      rw (array, kept, all) refl
  | inr few ↦
      ap (λ (c : Cells). stacks_broken thread (record raw { stack_frame = c; stack_prefix = capped MOST_ROWS raw.stack_prefix })) (capped_same MOST_ROWS raw.stack_frame h.stack_frame (omega arith))
      ∙ stacks-stack_prefix thread raw h.stack_prefix few
]

-- where nothing breaks, these have at most the most rows
stacks_few : (thread : Option ℕ) (raw : SharedCells) → AreGathered raw → first_of (stacks_checks thread raw) ≡ None → (length raw.stack_frame.cells ≤ MOST_ROWS) × (length raw.stack_prefix.cells ≤ MOST_ROWS)
stacks_few thread raw h none =
    let all = all_pass (stacks_checks thread raw) none in
    let few : length raw.stack_frame.cells ≤ MOST_ROWS = elim (cases_lt MOST_ROWS (length raw.stack_frame.cells)) [
      | inl over ↦
          let array : raw.stack_frame.state ≡ Array = is_array raw.stack_frame h.stack_frame (omega arith) in
          let test : nat_le (length raw.stack_frame.cells) MOST_ROWS ≡ false = not_within (length raw.stack_frame.cells) MOST_ROWS over in
          absurd (some_none _ (rw (array, test) at all.0))
      | inr within ↦ within
    ] in
    let few-stack_prefix : length raw.stack_prefix.cells ≤ MOST_ROWS = elim (cases_lt MOST_ROWS (length raw.stack_prefix.cells)) [
      | inl over ↦
          let array : raw.stack_prefix.state ≡ Array = is_array raw.stack_prefix h.stack_prefix (omega arith) in
          let test : nat_eq (length raw.stack_prefix.cells) (length raw.stack_frame.cells) ≡ false = not_same (length raw.stack_prefix.cells) (length raw.stack_frame.cells) (omega arith) in
          absurd (some_none _ (rw (array, test) at all.1.0))
      | inr within ↦ within
    ] in
    (few, few-stack_prefix)

pub stacks_whole : (thread : Option ℕ) (raw : SharedCells) → AreGathered raw → stacks_broken thread raw ≡ None → kept_stacks raw ≡ raw
unfolding stacks_broken kept_stacks
stacks_whole thread raw h none =
    let few = stacks_few thread raw h none in
    (let le : length raw.stack_frame.cells ≤ MOST_ROWS = few.0 in ap (λ (c : Cells). let r : SharedCells = record raw { stack_frame = c; stack_prefix = capped MOST_ROWS raw.stack_prefix } in r) (capped_same MOST_ROWS raw.stack_frame h.stack_frame (omega arith)))
    ∙ (let le : length raw.stack_prefix.cells ≤ MOST_ROWS = few.1 in ap (λ (c : Cells). let r : SharedCells = record raw { stack_prefix = c } in r) (capped_same MOST_ROWS raw.stack_prefix h.stack_prefix (omega arith)))

-- what is kept of a column is one too
kept_below : (most n : ℕ) (bad : Option BadCell) → most < n → IfSome (kept_bad most bad) (λ b. b.row < n)
kept_below most n None h = tt
kept_below most n (Some b) h = elim (cases_Bool (nat_le b.row most)) [
  | inl t ↦ (let le : b.row ≤ most = grind (arith, nat_tests) in rw t (let lt : b.row < n = omega arith in lt))
  | inr f ↦ rw f tt
]

pub capped_is : (most : ℕ) (c : Cells) → IsGathered c → IsGathered (capped most c)
capped_is most c h = elim (cases_lt most (length c.cells)) [
  | inl over ↦ record {
    bad = kept_below most (length (take (suc most) c.cells)) c.bad (capped_over most c over);
    only = λ ne. (let e : length c.cells ≡ 0 = h.only ne in absurd (omega arith));
  }
  | inr within ↦ subst IsGathered (sym (capped_same most c h (omega arith))) h
]

-- one more than the most shows that a list is over it
taken_le : {A : Type 0} (most : ℕ) (xs : List A) → nat_le (length (take (suc most) xs)) most ≡ nat_le (length xs) most
taken_le most xs = elim (cases_lt most (length xs)) [
  | inl over ↦ (let e = length-take-le (suc most) xs (omega arith) in let more : most < length (take (suc most) xs) = omega arith in
      not_within (length (take (suc most) xs)) most more ∙ sym (not_within (length xs) most over))
  | inr within ↦ ap (λ (ys : List _). nat_le (length ys) most) (take_all (suc most) xs (omega arith))
]

strings_kept : (thread : Option ℕ) (raw : SharedCells) → strings_broken thread (kept_strings raw) ≡ strings_broken thread raw
unfolding strings_broken kept_strings
strings_kept thread raw =
    ap (λ (within : Bool). named thread table.StringArray column.List (option_or (whole_only raw.string_fault) (option_or (option_map whole_fault (if within then None else Some rule.RowLimit)) raw.string_fault)))
    (taken_le MOST_STRINGS raw.strings)

pub strings_whole : (thread : Option ℕ) (raw : SharedCells) → strings_broken thread raw ≡ None → kept_strings raw ≡ raw
unfolding kept_strings
strings_whole thread raw none =
    let few : length raw.strings ≤ MOST_STRINGS = strings_fit thread raw none in
    ap (λ (texts : List (List ℕ)). let r : SharedCells = record raw { strings = texts } in r) (take_all (suc MOST_STRINGS) raw.strings (omega arith))

gathered-strings : (raw : SharedCells) → AreGathered raw → AreGathered (kept_strings raw)
unfolding kept_strings
gathered-strings raw h = record {
  strings = λ e. (let few : length raw.strings ≤ MOST_STRINGS = h.strings e in let k : length (take (suc MOST_STRINGS) raw.strings) ≡ length raw.strings = ap (λ (l : List (List ℕ)). length l) (take_all (suc MOST_STRINGS) raw.strings (omega arith)) in omega arith);
  no_resources = h.no_resources;
  resource_name = h.resource_name;
  func_name = h.func_name;
  func_is_js = h.func_is_js;
  func_relevant_for_js = h.func_relevant_for_js;
  func_resource = h.func_resource;
  func_file_name = h.func_file_name;
  frame_func = h.frame_func;
  frame_category = h.frame_category;
  stack_frame = h.stack_frame;
  stack_prefix = h.stack_prefix;
}

gathered-resources : (raw : SharedCells) → AreGathered raw → AreGathered (kept_resources raw)
unfolding kept_resources
gathered-resources raw h = record {
  strings = h.strings;
  no_resources = λ e. (let none : length raw.resource_name.cells ≡ 0 = h.no_resources e in let k : length (take (suc MOST_FUNCS) raw.resource_name.cells) ≡ length raw.resource_name.cells = ap (λ (l : List (Option ℤ)). length l) (take_all (suc MOST_FUNCS) raw.resource_name.cells (omega arith)) in omega arith);
  resource_name = capped_is MOST_FUNCS raw.resource_name h.resource_name;
  func_name = h.func_name;
  func_is_js = h.func_is_js;
  func_relevant_for_js = h.func_relevant_for_js;
  func_resource = h.func_resource;
  func_file_name = h.func_file_name;
  frame_func = h.frame_func;
  frame_category = h.frame_category;
  stack_frame = h.stack_frame;
  stack_prefix = h.stack_prefix;
}

gathered-funcs : (raw : SharedCells) → AreGathered raw → AreGathered (kept_funcs raw)
unfolding kept_funcs
gathered-funcs raw h = record {
  strings = h.strings;
  no_resources = h.no_resources;
  resource_name = h.resource_name;
  func_name = capped_is MOST_FUNCS raw.func_name h.func_name;
  func_is_js = capped_is MOST_FUNCS raw.func_is_js h.func_is_js;
  func_relevant_for_js = capped_is MOST_FUNCS raw.func_relevant_for_js h.func_relevant_for_js;
  func_resource = capped_is MOST_FUNCS raw.func_resource h.func_resource;
  func_file_name = capped_is MOST_FUNCS raw.func_file_name h.func_file_name;
  frame_func = h.frame_func;
  frame_category = h.frame_category;
  stack_frame = h.stack_frame;
  stack_prefix = h.stack_prefix;
}

gathered-frames : (raw : SharedCells) → AreGathered raw → AreGathered (kept_frames raw)
unfolding kept_frames
gathered-frames raw h = record {
  strings = h.strings;
  no_resources = h.no_resources;
  resource_name = h.resource_name;
  func_name = h.func_name;
  func_is_js = h.func_is_js;
  func_relevant_for_js = h.func_relevant_for_js;
  func_resource = h.func_resource;
  func_file_name = h.func_file_name;
  frame_func = capped_is MOST_ROWS raw.frame_func h.frame_func;
  frame_category = capped_is MOST_ROWS raw.frame_category h.frame_category;
  stack_frame = h.stack_frame;
  stack_prefix = h.stack_prefix;
}

shared-strings : (thread : Option ℕ) (categories : ℕ) (raw : SharedCells) → AreGathered raw → shared_broken thread categories (kept_strings raw) ≡ shared_broken thread categories raw
unfolding shared_broken
shared-strings thread categories raw h = or_same (strings_broken thread (kept_strings raw)) (strings_broken thread raw) (first_of (resources_broken thread (kept_strings raw) ∷ funcs_broken thread (kept_strings raw) ∷ frames_broken thread categories (kept_strings raw) ∷ stacks_broken thread (kept_strings raw) ∷ [])) (first_of (resources_broken thread raw ∷ funcs_broken thread raw ∷ frames_broken thread categories raw ∷ stacks_broken thread raw ∷ [])) (strings_kept thread raw) (λ none. ap (λ (r : SharedCells). first_of (resources_broken thread r ∷ funcs_broken thread r ∷ frames_broken thread categories r ∷ stacks_broken thread r ∷ [])) (strings_whole thread raw none))

skip-strings-resources : (thread : Option ℕ) (raw : SharedCells) → strings_broken thread (kept_resources raw) ≡ strings_broken thread raw
unfolding strings_broken kept_resources
skip-strings-resources thread raw = refl

shared-resources : (thread : Option ℕ) (categories : ℕ) (raw : SharedCells) → AreGathered raw → shared_broken thread categories (kept_resources raw) ≡ shared_broken thread categories raw
unfolding shared_broken
shared-resources thread categories raw h = or_same (strings_broken thread (kept_resources raw)) (strings_broken thread raw) (first_of (resources_broken thread (kept_resources raw) ∷ funcs_broken thread (kept_resources raw) ∷ frames_broken thread categories (kept_resources raw) ∷ stacks_broken thread (kept_resources raw) ∷ [])) (first_of (resources_broken thread raw ∷ funcs_broken thread raw ∷ frames_broken thread categories raw ∷ stacks_broken thread raw ∷ [])) (skip-strings-resources thread raw) (λ none-0. or_same (resources_broken thread (kept_resources raw)) (resources_broken thread raw) (first_of (funcs_broken thread (kept_resources raw) ∷ frames_broken thread categories (kept_resources raw) ∷ stacks_broken thread (kept_resources raw) ∷ [])) (first_of (funcs_broken thread raw ∷ frames_broken thread categories raw ∷ stacks_broken thread raw ∷ [])) (resources_kept thread raw h) (λ none. ap (λ (r : SharedCells). first_of (funcs_broken thread r ∷ frames_broken thread categories r ∷ stacks_broken thread r ∷ [])) (resources_whole thread raw h none)))

skip-resources-funcs : (thread : Option ℕ) (raw : SharedCells) → resources_broken thread (kept_funcs raw) ≡ resources_broken thread raw
unfolding resources_broken kept_funcs
skip-resources-funcs thread raw = refl

skip-strings-funcs : (thread : Option ℕ) (raw : SharedCells) → strings_broken thread (kept_funcs raw) ≡ strings_broken thread raw
unfolding strings_broken kept_funcs
skip-strings-funcs thread raw = refl

shared-funcs : (thread : Option ℕ) (categories : ℕ) (raw : SharedCells) → AreGathered raw → shared_broken thread categories (kept_funcs raw) ≡ shared_broken thread categories raw
unfolding shared_broken
shared-funcs thread categories raw h = or_same (strings_broken thread (kept_funcs raw)) (strings_broken thread raw) (first_of (resources_broken thread (kept_funcs raw) ∷ funcs_broken thread (kept_funcs raw) ∷ frames_broken thread categories (kept_funcs raw) ∷ stacks_broken thread (kept_funcs raw) ∷ [])) (first_of (resources_broken thread raw ∷ funcs_broken thread raw ∷ frames_broken thread categories raw ∷ stacks_broken thread raw ∷ [])) (skip-strings-funcs thread raw) (λ none-0. or_same (resources_broken thread (kept_funcs raw)) (resources_broken thread raw) (first_of (funcs_broken thread (kept_funcs raw) ∷ frames_broken thread categories (kept_funcs raw) ∷ stacks_broken thread (kept_funcs raw) ∷ [])) (first_of (funcs_broken thread raw ∷ frames_broken thread categories raw ∷ stacks_broken thread raw ∷ [])) (skip-resources-funcs thread raw) (λ none-1. or_same (funcs_broken thread (kept_funcs raw)) (funcs_broken thread raw) (first_of (frames_broken thread categories (kept_funcs raw) ∷ stacks_broken thread (kept_funcs raw) ∷ [])) (first_of (frames_broken thread categories raw ∷ stacks_broken thread raw ∷ [])) (funcs_kept thread raw h) (λ none. ap (λ (r : SharedCells). first_of (frames_broken thread categories r ∷ stacks_broken thread r ∷ [])) (funcs_whole thread raw h none))))

skip-funcs-frames : (thread : Option ℕ) (raw : SharedCells) → funcs_broken thread (kept_frames raw) ≡ funcs_broken thread raw
unfolding funcs_broken kept_frames
skip-funcs-frames thread raw = refl

skip-resources-frames : (thread : Option ℕ) (raw : SharedCells) → resources_broken thread (kept_frames raw) ≡ resources_broken thread raw
unfolding resources_broken kept_frames
skip-resources-frames thread raw = refl

skip-strings-frames : (thread : Option ℕ) (raw : SharedCells) → strings_broken thread (kept_frames raw) ≡ strings_broken thread raw
unfolding strings_broken kept_frames
skip-strings-frames thread raw = refl

shared-frames : (thread : Option ℕ) (categories : ℕ) (raw : SharedCells) → AreGathered raw → shared_broken thread categories (kept_frames raw) ≡ shared_broken thread categories raw
unfolding shared_broken
shared-frames thread categories raw h = or_same (strings_broken thread (kept_frames raw)) (strings_broken thread raw) (first_of (resources_broken thread (kept_frames raw) ∷ funcs_broken thread (kept_frames raw) ∷ frames_broken thread categories (kept_frames raw) ∷ stacks_broken thread (kept_frames raw) ∷ [])) (first_of (resources_broken thread raw ∷ funcs_broken thread raw ∷ frames_broken thread categories raw ∷ stacks_broken thread raw ∷ [])) (skip-strings-frames thread raw) (λ none-0. or_same (resources_broken thread (kept_frames raw)) (resources_broken thread raw) (first_of (funcs_broken thread (kept_frames raw) ∷ frames_broken thread categories (kept_frames raw) ∷ stacks_broken thread (kept_frames raw) ∷ [])) (first_of (funcs_broken thread raw ∷ frames_broken thread categories raw ∷ stacks_broken thread raw ∷ [])) (skip-resources-frames thread raw) (λ none-1. or_same (funcs_broken thread (kept_frames raw)) (funcs_broken thread raw) (first_of (frames_broken thread categories (kept_frames raw) ∷ stacks_broken thread (kept_frames raw) ∷ [])) (first_of (frames_broken thread categories raw ∷ stacks_broken thread raw ∷ [])) (skip-funcs-frames thread raw) (λ none-2. or_same (frames_broken thread categories (kept_frames raw)) (frames_broken thread categories raw) (first_of (stacks_broken thread (kept_frames raw) ∷ [])) (first_of (stacks_broken thread raw ∷ [])) (frames_kept thread categories raw h) (λ none. ap (λ (r : SharedCells). first_of (stacks_broken thread r ∷ [])) (frames_whole thread categories raw h none)))))

skip-frames-stacks : (thread : Option ℕ) (categories : ℕ) (raw : SharedCells) → frames_broken thread categories (kept_stacks raw) ≡ frames_broken thread categories raw
unfolding frames_broken kept_stacks
skip-frames-stacks thread categories raw = refl

skip-funcs-stacks : (thread : Option ℕ) (raw : SharedCells) → funcs_broken thread (kept_stacks raw) ≡ funcs_broken thread raw
unfolding funcs_broken kept_stacks
skip-funcs-stacks thread raw = refl

skip-resources-stacks : (thread : Option ℕ) (raw : SharedCells) → resources_broken thread (kept_stacks raw) ≡ resources_broken thread raw
unfolding resources_broken kept_stacks
skip-resources-stacks thread raw = refl

skip-strings-stacks : (thread : Option ℕ) (raw : SharedCells) → strings_broken thread (kept_stacks raw) ≡ strings_broken thread raw
unfolding strings_broken kept_stacks
skip-strings-stacks thread raw = refl

shared-stacks : (thread : Option ℕ) (categories : ℕ) (raw : SharedCells) → AreGathered raw → shared_broken thread categories (kept_stacks raw) ≡ shared_broken thread categories raw
unfolding shared_broken
shared-stacks thread categories raw h = or_same (strings_broken thread (kept_stacks raw)) (strings_broken thread raw) (first_of (resources_broken thread (kept_stacks raw) ∷ funcs_broken thread (kept_stacks raw) ∷ frames_broken thread categories (kept_stacks raw) ∷ stacks_broken thread (kept_stacks raw) ∷ [])) (first_of (resources_broken thread raw ∷ funcs_broken thread raw ∷ frames_broken thread categories raw ∷ stacks_broken thread raw ∷ [])) (skip-strings-stacks thread raw) (λ none-0. or_same (resources_broken thread (kept_stacks raw)) (resources_broken thread raw) (first_of (funcs_broken thread (kept_stacks raw) ∷ frames_broken thread categories (kept_stacks raw) ∷ stacks_broken thread (kept_stacks raw) ∷ [])) (first_of (funcs_broken thread raw ∷ frames_broken thread categories raw ∷ stacks_broken thread raw ∷ [])) (skip-resources-stacks thread raw) (λ none-1. or_same (funcs_broken thread (kept_stacks raw)) (funcs_broken thread raw) (first_of (frames_broken thread categories (kept_stacks raw) ∷ stacks_broken thread (kept_stacks raw) ∷ [])) (first_of (frames_broken thread categories raw ∷ stacks_broken thread raw ∷ [])) (skip-funcs-stacks thread raw) (λ none-2. or_same (frames_broken thread categories (kept_stacks raw)) (frames_broken thread categories raw) (first_of (stacks_broken thread (kept_stacks raw) ∷ [])) (first_of (stacks_broken thread raw ∷ [])) (skip-frames-stacks thread categories raw) (λ none-3. or_same (stacks_broken thread (kept_stacks raw)) (stacks_broken thread raw) (first_of ([])) (first_of ([])) (stacks_kept thread raw h) (λ none. refl)))))

-- what is kept of the tables that threads may share breaks what they break
pub shared_kept : (thread : Option ℕ) (categories : ℕ) (raw : SharedCells) → AreGathered raw → shared_broken thread categories (kept_shared raw) ≡ shared_broken thread categories raw
shared_kept thread categories raw h =
    let a = kept_strings raw in
    let b = kept_resources a in
    let c = kept_funcs b in
    let d = kept_frames c in
    let ha = gathered-strings raw h in
    let hb = gathered-resources a ha in
    let hc = gathered-funcs b hb in
    let hd = gathered-frames c hc in
    shared-stacks thread categories d hd ∙ shared-frames thread categories c hc ∙ shared-funcs thread categories b hb ∙ shared-resources thread categories a ha ∙ shared-strings thread categories raw h

-- and where they break nothing, it is the tables themselves
pub shared_whole : (thread : Option ℕ) (categories : ℕ) (raw : SharedCells) → AreGathered raw → shared_broken thread categories raw ≡ None → kept_shared raw ≡ raw
unfolding shared_broken
shared_whole thread categories raw h none =
    let all = all_pass (shared_checks thread categories raw) none in
    ap (λ r. kept_stacks (kept_frames (kept_funcs (kept_resources r)))) (strings_whole thread raw all.0)
    ∙ ap (λ r. kept_stacks (kept_frames (kept_funcs r))) (resources_whole thread raw h all.1.0)
    ∙ ap (λ r. kept_stacks (kept_frames r)) (funcs_whole thread raw h all.1.1.0)
    ∙ ap kept_stacks (frames_whole thread categories raw h all.1.1.1.0)
    ∙ stacks_whole thread raw h all.1.1.1.1.0
