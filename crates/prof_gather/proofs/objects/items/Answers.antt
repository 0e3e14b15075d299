use Rattle.std.proofs.Common.{◌≡◌, ◌≢◌, ◌≤◌, ◌<◌, ◌∙◌, refl, sym, subst, arith}
use Rattle.prof_json.specs.declared.answer.Event.TheVariants as event
use Rattle.prof_gather.specs.Feeding.{Gives, IsWithin, Finishes, outside, in_array}
use Rattle.prof_gather.proofs.Nests.{Opens, item_opens}
use Rattle.prof_gather.proofs.Turnings.{ItemsSoFar, no_item, one_item}
use Rattle.prof_gather.proofs.objects.items.Goals as goal

pub items-init : goal.items-init
items-init g c = record { frames = refl; room = omega arith; taken = no_item g.T.FromItems.is c.args.feed.now c.args.list.now c.requires.begun }

pub items-preserved : goal.items-preserved
items-preserved g c =
    let so_far = c.items.invariant in
    let begun = c.next.new.self in
    let new = c.take_item.new.feed in
    let first = c.in_ok-event.event in
    let gives : Gives c.items.feed first begun = c.in_ok-event.ensures.ok in
    let within : IsWithin in_array c.items.feed = record { outer = c.requires.within.outer; frames = so_far.frames ∙ c.requires.within.frames } in
    let not_end : first ≢ event.ArrayEnd = c.in_default.not-ArrayEnd in
    let not_over : first ≢ event.End = c.in_default.not-End in
    let opens : Opens first c.items.feed.frames c.items.feed begun = item_opens first c.items.feed begun within not_end gives in
    let finishes : Finishes first begun new = c.in_ok-take_item-in_default.ensures.ok in
    let less : begun.room < c.items.feed.room = opens.room in
    let then : new.room ≤ begun.room = finishes.room in
    record {
      frames = finishes.frames ∙ opens.outside ∙ so_far.frames;
      room = omega (arith, so_far.room, less, then);
      taken = one_item g.T.FromItems.is c.args.list.now c.args.feed.now c.items.feed begun new first c.items.list c.take_item.new.self not_over so_far.taken gives c.in_ok-take_item-in_default.ensures.item;
    }
