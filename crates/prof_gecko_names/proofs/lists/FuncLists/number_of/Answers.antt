use Rattle.std.proofs.Common.{◌≡◌, sym, ◌∙◌, ap}
use Rattle.prof_raw.specs.Texts.{with_text}
use Rattle.prof_gecko_names.specs.contracts.lists.FuncLists.{the_view}
use Rattle.prof_gecko_names.specs.Naming.{Resource}
use Rattle.prof_gecko_names.specs.Lists.{Lists, on_strings, place_in, resource_key}
use Rattle.prof_gecko_names.proofs.Listing.{number_is, after_is, made_new, made_old}
use Rattle.prof_gecko_names.proofs.lists.FuncLists.number_of.Goals as goal
use Rattle.prof_gecko_names.proofs.lists.FuncLists.number_of.Goals.{then-is_new+in_ok-push, else-is_new}

pub returns-clause-number : goal.returns-clause-number
returns-clause-number c =
    let d = c.args.self.now in
    let name : c.as_str.result.now ≡ c.in-Some.resource.name = c.as_str.ensures ∙ ap (λ (r : Resource). r.name) c.resource.view_is in
    number_is d (the_view c.self.inside) c.in-Some.resource c.args.resource.now c.in_ok-number.number c.resource_key-key.result c.in_ok-place.place
    c.in-Some.is
    (c.self.view_is ∙ c.in_ok-place.ensures.after ∙ ap (λ t. on_strings d (with_text d.strings t)) name)
    (c.resource_key-key.ensures ∙ ap (λ (r : Resource). resource_key r.lib c.in_ok-place.place) c.resource.view_is)
    (c.in_ok-place.ensures.place ∙ ap (λ t. place_in c.place_of.new.self.strings t) name ∙ ap (λ (l : Lists). place_in l.strings c.in-Some.resource.name) (sym c.self.view_is))
    c.in_ok-number.ensures.index

pub returns-clause-after : goal.returns-clause-after
returns-clause-after c =
    let d = c.args.self.now in
    let used = the_view c.self.inside in
    let key = c.resource_key-key.result in
    let place = c.in_ok-place.place in
    let name : c.as_str.result.now ≡ c.in-Some.resource.name = c.as_str.ensures ∙ ap (λ (r : Resource). r.name) c.resource.view_is in
    after_is d used c.if-is_new.self c.in-Some.resource c.args.resource.now key place c.in_ok-number.is_new
    c.in-Some.is
    (c.self.view_is ∙ c.in_ok-place.ensures.after ∙ ap (λ t. on_strings d (with_text d.strings t)) name)
    (c.resource_key-key.ensures ∙ ap (λ (r : Resource). resource_key r.lib place) c.resource.view_is)
    (c.in_ok-place.ensures.place ∙ ap (λ t. place_in c.place_of.new.self.strings t) name ∙ ap (λ (l : Lists). place_in l.strings c.in-Some.resource.name) (sym c.self.view_is))
    c.in_ok-number.ensures.added
    (elim c.if-is_new.branch [
      | then-is_new+in_ok-push w ↦ w.self-is ∙ made_new used c.insert_full.new.self.keys _ w.push.new.self.items place c.in_ok-number.is_new c.in_ok-number.ensures.keys w.if-is_new.true w.in_ok-push.ensures.items
      | else-is_new w ↦ w.self-is ∙ made_old used c.insert_full.new.self.keys _ place c.in_ok-number.is_new c.in_ok-number.ensures.keys w.if-is_new.false
    ])
