use Rattle.std.proofs.Common.{◌≡◌, ◌≤◌, ◌<◌, ◌∙◌, ap, get_or, length, subst}
use Rattle.prof_desk.proofs.Servings.{named_at, none_named_at}
use Rattle.prof_desk.proofs.desk.served_name.Goals as goal

pub returns-in-Some : goal.returns-in-Some
returns-in-Some c =
    let files = c.args.profiles.now in
    let at = c.args.accepted in
    let file = c.in-Some.field-0.now in
    let slice : c.as_slice.result.now ≡ files = c.as_slice.ensures in
    let found = c.in-Some.ensures.lookup.3 in
    let below : at < length files = subst (λ l. at < length l) slice found.0 in
    let is : file ≡ get_or files at file = found.1 file ∙ ap (λ l. get_or l at file) slice in
    let name : c.as_str.result.now ≡ file.1 = c.as_str.ensures in
    name ∙ ap (λ f. f.1) is ∙ named_at files at file below

pub returns-in-None : goal.returns-in-None
returns-in-None c = none_named_at c.args.profiles.now c.args.accepted (subst (λ l. length l ≤ c.args.accepted) c.as_slice.ensures c.in-None.ensures.lookup.3)
