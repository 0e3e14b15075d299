use Rattle.std.proofs.Common.{[], length, None, sym, subst, rules}
use Rattle.std.specs.HashMap.{get}
use Rattle.prof_view_tree.specs.Climbing.{AreComing}
use Rattle.prof_tree.specs.Growing.{pair_eq}
use Rattle.prof_view_tree.proofs.Coming.{coming_roots}
use Rattle.prof_view_tree.proofs.climbing.Climb.new.Goals as goal

pub returns-clause-coming : goal.returns-clause-coming
returns-clause-coming c = λ stacks zs.
    let look = get pair_eq c.new-2.result in
    subst (λ rows. AreComing stacks zs 0 None (length rows) [] [] rows look c.new-3.result.items) (sym c.new.ensures.items)
    (subst (AreComing stacks zs 0 None 0 [] [] [] look) (sym c.new-3.ensures.items) (coming_roots stacks zs look (λ q. search (rules, c.new-2.ensures.empty))))
