use Rattle.std.proofs.Common.{◌≡◌, true, false, sym, ◌∙◌, rules, tests}
use Rattle.std.specs.List.{list_any}
use Rattle.std.proofs.lemmas.Iterator.{YieldsList-from_slice}
use Rattle.std.proofs.lemmas.Iterator.Search.{any_from_yields_List}
use Rattle.prof_path.specs.Rewriting.{is_during}
use Rattle.prof_path.proofs.rewriting.during.Goals as goal

pub returns-then-any : goal.returns-then-any
returns-then-any c =
    let e : c.any.result ≡ list_any (is_during c.args.time) c.args.spans.now = any_from_yields_List (is_during c.args.time) _ _ c.any.result c.any.ensures.ran (YieldsList-from_slice c.args.spans.now cc) (λ x b q k. search (rules, tests)) in
    let yes : list_any (is_during c.args.time) c.args.spans.now ≡ true = sym e ∙ c.if-any.true in
    rw yes c.from_slice.ensures.items

pub returns : goal.returns
returns c =
    let e : c.any.result ≡ list_any (is_during c.args.time) c.args.spans.now = any_from_yields_List (is_during c.args.time) _ _ c.any.result c.any.ensures.ran (YieldsList-from_slice c.args.spans.now cc) (λ x b q k. search (rules, tests)) in
    let no : list_any (is_during c.args.time) c.args.spans.now ≡ false = sym e ∙ c.if-any.false in
    rw no c.new.ensures.items
