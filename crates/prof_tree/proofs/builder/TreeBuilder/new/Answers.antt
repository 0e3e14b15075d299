use Rattle.std.proofs.Common.{rules, [], refl, sym, subst}
use Rattle.std.specs.HashMap.{get}
use Rattle.prof_tree.specs.Growing.{IsGrown, pair_eq}
use Rattle.prof_tree.proofs.Weights.{IsGrown-none}
use Rattle.prof_tree.proofs.builder.TreeBuilder.new.Goals as goal

pub returns : goal.returns
returns c = record {
  keys = [];
  grown = subst (λ z. IsGrown [] [] z (get pair_eq c.new-2.result)) (sym c.new.ensures.items) (IsGrown-none _ (λ q. search (rules, c.new-2.ensures.empty)));
  small = tt;
  selected = refl;
  dropped = refl;
}
