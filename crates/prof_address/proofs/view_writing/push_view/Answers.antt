use Rattle.std.proofs.Common.{◌≡◌, ◌++◌, ap, subst, ◌∙◌}
use Rattle.std.specs.Prelude.{codes}
use Rattle.std.specs.Fmt.{decimal}
use Rattle.prof_path.specs.Views.{ViewLists}
use Rattle.prof_address.specs.Views.{ranges_part, implementation_part, transforms_part, search_part, view_text}
use Rattle.prof_address.proofs.WritingLemmas.{six_texts}
use Rattle.prof_address.proofs.view_writing.push_view.Goals as goal

pub returns : goal.returns
returns c =
    let v = c.view.inside in
    subst (λ (w : ViewLists). c.push_search_part.new.text ≡ c.args.text.now ++ view_text w) c.view.view_is
    (six_texts c.args.text.now (codes "thread=") (decimal v.thread) (ranges_part v.ranges.items) (implementation_part v.implementation) (transforms_part v.transforms.items) (search_part v.search)
    c.push_str.new.self c.push_number.new.text c.push_ranges_part.new.text c.push_implementation_part.new.text c.push_transforms_part.new.text c.push_search_part.new.text
    c.in_ok-push_str.ensures.ok
    c.in_ok-push_number.ensures.ok
    (c.in_ok-push_ranges_part.ensures ∙ ap (λ list. c.push_number.new.text ++ ranges_part list) c.as_slice.ensures.value)
    c.in_ok-push_implementation_part.ensures
    (c.in_ok-push_transforms_part.ensures ∙ ap (λ list. c.push_implementation_part.new.text ++ transforms_part list) c.as_slice-2.ensures.value)
    (c.in_ok-push_search_part.ensures ∙ ap (λ s. c.push_transforms_part.new.text ++ search_part s) c.as_str.ensures))
