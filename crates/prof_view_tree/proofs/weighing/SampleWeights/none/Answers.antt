use Rattle.std.proofs.Common.{replicate, None, sym, ap, ◌∙◌, refl}
use Rattle.prof_view_tree.proofs.Sampled.{weighs_none}
use Rattle.prof_view_tree.proofs.weighing.SampleWeights.none.Goals as goal

pub returns : goal.returns
returns c = λ stacks e. weighs_none stacks _ (c.in_ok-no_weights.ensures ∙ ap (λ n. replicate n None) (sym e)) refl refl
