use Rattle.std.proofs.Common.{◌≡◌, ap, subst, ◌∙◌, inr}
use Rattle.prof_grammar.specs.Value.{Values}
use Rattle.prof_gather.specs.Feeding.{Told, told_of}
use Rattle.prof_gather.specs.Taking.{ReadsItems}
use Rattle.prof_gather.proofs.Skipped.{reads_items}
use Rattle.prof_gather.proofs.Kept.{skip_keeps, skippable_array}
use Rattle.prof_gather.proofs.feed.Feed.skip_array.Goals as goal

pub skip_value-requires : goal.skip_value-requires
skip_value-requires g c = inr (skippable_array _ (ap (λ (t : Told). t.last) c.self.view_is ∙ c.requires.2))

pub invariant_of-self-2 : goal.invariant_of-self-2
invariant_of-self-2 g c =
    let said = c.in_ok-skip_value.ensures in
    skip_keeps c.self.inside.reader c.skip_value.new.self _ _ _ said.told.0 _ _ _ _ _ _ _ _ _ _ _ _ c.self.invariant said.nest said.last said.limit said.told.2 said.sound.0 said.sound.1 said.within said.written said.place (said.steady (λ e. cc)) (λ s w. (said.sure (s w)).0)

pub returns-clause-value : goal.returns-clause-value
returns-clause-value g c =
    let said = c.in_ok-skip_value.ensures in
    let P : Told → Type 0 = λ t. (vs : Values) × ReadsItems t (told_of c.skip_value.new.self (g.R.Counted.left c.skip_value.new.src.src)) vs in
    subst P c.self.view_is (reads_items c.self.inside.reader c.skip_value.new.self (g.R.Counted.left c.self.inside.src.src) _ said.told.0 (ap (λ (t : Told). t.last) c.self.view_is ∙ c.requires.2) said.told.1 said.told.2)
