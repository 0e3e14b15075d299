use Rattle.std.proofs.Common.{◌≡◌, ◌≤◌, ◌<◌, ◌∷◌, ◌∙◌, refl, subst, arith}
use Rattle.prof_json.specs.declared.answer.Event.TheVariants as event
use Rattle.prof_gather.specs.Feeding.{Gives, IsWithin, in_object, in_member}
use Rattle.prof_gather.proofs.Nests.{member_named}
use Rattle.prof_gather.proofs.Turnings.{MembersSoFar, no_member, one_member}
use Rattle.prof_gather.proofs.objects.members.Goals as goal

pub members-init : goal.members-init
members-init g c = record { frames = refl; room = omega arith; taken = no_member g.T.FromMembers.is c.args.feed.now c.args.begun c.requires.none }

pub members-preserved : goal.members-preserved
members-preserved g c =
    let so_far = c.members.invariant in
    let named = c.next.new.self in
    let new = c.take_member.new.feed in
    let gives : Gives c.members.feed event.Name named = subst (λ e. Gives c.members.feed e named) c.in-Name.is c.in_ok-event.ensures.ok in
    let within : IsWithin in_object c.members.feed = record { outer = c.requires.within.outer; frames = so_far.frames ∙ c.requires.within.frames } in
    let behind = member_named c.members.feed named within gives in
    let passes = c.in_ok-take_member-in-Name.ensures.ok in
    let less : named.room < c.members.feed.room = behind.2 in
    let then : new.room < named.room = passes.room in
    record {
      frames = passes.frames in_member c.members.feed.frames behind.0 ∙ so_far.frames;
      room = omega (arith, so_far.room, less, then);
      taken = one_member g.T.FromMembers.is c.args.feed.now c.members.feed named new c.members.found c.take_member.new.self so_far.taken gives c.in_ok-take_member-in-Name.ensures.member;
    }
