use Rattle.std.proofs.Common.{◌∙◌, [], ◌∷◌, ◌++◌, ap, ℕ, List}
use Rattle.prof_machine.specs.Known.{Known}
use Rattle.prof_session_desk.proofs.DeskLemmas.{desk_more}
use Rattle.prof_session_desk.proofs.desk.Desk.add_profile.Goals as goal

pub invariant_of-self-2 : goal.invariant_of-self-2
invariant_of-self-2 c = (
  desk_more c.self.inside.profiles.items c.push_reserved.new.self.items (c.in_ok-key.key, c.new.result) c.self.inside.seats.items c.self.invariant.0
      (c.push_reserved.ensures.items ∙ ap (λ (l : List (List ℕ × Known)). l ++ (c.in_ok-key.key, c.new.result) ∷ []) c.reserve.ensures.items),
  c.self.invariant.1,
)
