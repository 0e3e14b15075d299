use Rattle.std.proofs.Common.{◌≡◌, ◌∙◌, ap, arith, List, ◌∷◌, [], ◌++◌, ℕ}
use Rattle.std.specs.Prelude.{codes}
use Rattle.prof_members.proofs.WholeLists.{with_grey, without_grey}
use Rattle.prof_members.proofs.lists.CategoryList.finish.Goals as goal

pub returns-in-Some-clause-is : goal.returns-in-Some-clause-is
returns-in-Some-clause-is c member h none = with_grey c.args.self member c.in-Some.row h none c.in-Some.is

pub returns-clause-is : goal.returns-clause-is
returns-clause-is c member h none =
    let text : c.push_str.new.self ≡ codes "Other" = c.in_ok-push_str.ensures.ok ∙ ap (λ (t : List ℕ). t ++ codes "Other") c.new-other.ensures in
    without_grey c.args.self member c.push.new.self.items c.len-row.result h none c.in_default.is
    (c.in_ok-push.ensures.items ∙ ap (λ (t : List ℕ). c.args.self.names.items ++ t ∷ []) text) (let l = c.len-row.ensures in omega arith)
