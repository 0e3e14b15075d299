use Rattle.std.proofs.Common.{List, map, ◌∙◌, ap}
use Rattle.prof_gecko_names.specs.declared.func.Func.{Func}
use Rattle.prof_gecko_names.specs.contracts.lists.FuncLists.{the_view}
use Rattle.prof_gecko.specs.contracts.columns.StackColumns.{the_view as stack_view}
use Rattle.prof_gecko.specs.Converted.{filled, number_cell, numbers_column, maybe_cell, minus_cell, truth_cell}
use Rattle.prof_gecko.proofs.Building.{shared_is}
use Rattle.prof_gecko.proofs.shared.shared_columns.Goals as goal

pub returns : goal.returns
returns c =
    let funcs = c.deref-2.ensures.value in
    shared_is (the_view c.lists.inside) c.args.derived.lists c.args.derived.numbers.items c.args.category (stack_view c.stacks.inside) c.args.stacks c.in_ok-strings.strings.value
    c.in_ok-resource_name.resource_name c.in_ok-funcs.funcs.name c.in_ok-funcs.funcs.is_js c.in_ok-funcs.funcs.relevant_for_js c.in_ok-funcs.funcs.resource c.in_ok-funcs.funcs.file_name c.in_ok-frame_func.frame_func
    c.lists.view_is c.stacks.view_is
    c.in_ok-strings.ensures.ok
    (c.in_ok-resource_name.ensures ∙ ap numbers_column c.deref.ensures.value)
    (c.in_ok-funcs.ensures.name ∙ ap (λ (fs : List Func). filled (map (λ (f : Func). number_cell f.name) fs)) funcs)
    (c.in_ok-funcs.ensures.is_js ∙ ap (λ (fs : List Func). filled (map (λ (f : Func). truth_cell f.is_js) fs)) funcs)
    (c.in_ok-funcs.ensures.relevant_for_js ∙ ap (λ (fs : List Func). filled (map (λ (f : Func). truth_cell f.relevant_for_js) fs)) funcs)
    (c.in_ok-funcs.ensures.resource ∙ ap (λ (fs : List Func). filled (map (λ (f : Func). minus_cell f.resource) fs)) funcs)
    (c.in_ok-funcs.ensures.file_name ∙ ap (λ (fs : List Func). filled (map (λ (f : Func). maybe_cell f.file) fs)) funcs)
    (c.in_ok-frame_func.ensures ∙ ap numbers_column c.deref-3.ensures.value)
