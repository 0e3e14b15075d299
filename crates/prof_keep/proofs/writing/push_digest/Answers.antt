use Rattle.std.proofs.Common.{◌++◌, ap, ◌∙◌}
use Rattle.prof_keep.proofs.writing.push_digest.Goals as goal

pub returns : goal.returns
returns c = c.in_ok-push_str.ensures.ok ∙ ap (λ t. c.args.text.now ++ t) (c.as_str.ensures.value ∙ c.in_ok-digits.ensures)
