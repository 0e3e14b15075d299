use Rattle.std.proofs.Common.{◌∙◌, ap}
use Rattle.prof_raw.specs.Texts.{with_text}
use Rattle.prof_gecko_names.specs.contracts.lists.FuncLists.{the_view}
use Rattle.prof_gecko_names.specs.contracts.naming.NamedFunc.{the_view as func_view}
use Rattle.prof_gecko_names.specs.Lists.{on_strings, place_in, add_func}
use Rattle.prof_gecko_names.proofs.Listing.{func_added}
use Rattle.prof_gecko_names.proofs.lists.FuncLists.add_func.Goals as goal

pub returns : goal.returns
returns c =
    let d = c.args.self.now in
    func_added d c.place_of.new.self c.maybe_place_of.new.self (the_view c.self.inside) (func_view c.func.inside) c.args.relevant_for_js c.in_ok-name.name c.in_ok-file.file c.in_ok-resource.resource c.push.new.self.items
    (c.in_ok-name.ensures.after ∙ ap (λ t. on_strings d (with_text d.strings t)) c.as_str.ensures)
    (c.in_ok-name.ensures.place ∙ ap (place_in c.place_of.new.self.strings) c.as_str.ensures)
    c.in_ok-file.ensures.after
    c.in_ok-file.ensures.place
    (c.self.view_is ∙ c.in_ok-resource.ensures.after)
    c.in_ok-resource.ensures.number
    c.in_ok-push.ensures.items
    ∙ ap (λ f. add_func d f c.args.relevant_for_js) c.func.view_is
