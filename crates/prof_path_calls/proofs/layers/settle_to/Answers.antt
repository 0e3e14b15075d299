use Rattle.std.proofs.Common.{[], length, take, ap, ◌∙◌, sym, arith}
use Rattle.std.proofs.lemmas.List.{take-replicate}
use Rattle.prof_path_calls.proofs.layers.settle_to.Goals as goal

pub settle-requires-clause-same : goal.settle-requires-clause-same
settle-requires-clause-same g c = λ k common.
    ap (take k) c.requires ∙ take-replicate k (length c.args.layers.now.settled) [] common.first
    ∙ sym (ap (take k) c.in_ok-spans.ensures ∙ take-replicate k c.len.result [] (omega (arith, common.second, c.deref.ensures.len, c.len.ensures)))
