use Rattle.std.proofs.Common.{ap, ◌∙◌}
use Rattle.prof_gather.specs.Feeding.{Told}
use Rattle.prof_gather.proofs.Kept.{string_text}
use Rattle.prof_gather.proofs.feed.Feed.string.Goals as goal

pub text-requires : goal.text-requires
text-requires g c = string_text _ _ (ap (λ (t : Told). t.last) c.self.view_is ∙ c.requires.1)
