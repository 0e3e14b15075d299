use Rattle.std.proofs.Common.{◌≡◌, ◌∙◌, sym, true}
use Rattle.std.specs.Prelude.{is_some}
use Rattle.prof_grammar.specs.Value.{Value}
use Rattle.prof_gather.specs.Taking.{ReadsOn, TakesItem}
use Rattle.prof_gather.proofs.Behind.{on_ok_map}
use Rattle.prof_gather.proofs.Turnings.{object_behind}
use Rattle.prof_schema.proofs.Slots.{takes_item}
use Rattle.prof_schema.proofs.Begun.{not_object}
use Rattle.prof_processes.specs.Libs.{AreLibsOf}
use Rattle.prof_processes.proofs.LibLists.{libs_behind, other_rule}
use Rattle.prof_processes.proofs.libs.LibListFromItems.take_item.Goals as goal

pub returns-in_ok-add-in-ObjectStart-clause-item : goal.returns-in_ok-add-in-ObjectStart-clause-item
returns-in_ok-add-in-ObjectStart-clause-item g c =
    let read = c.in_ok-members-in-ObjectStart.ensures.members in
    let begun = rw c.in-ObjectStart.is at c.requires in
    takes_item _ _ _ _ _ (Value.object read.0) (object_behind c.args.feed.now c.members.new.feed read.0 begun.2 read.1)
    (c.in_ok-add-in-ObjectStart.ensures (Value.object read.0) (c.in_ok-lib-in-ObjectStart.ensures.lib read.0 read.2) (c.in_ok-lib-in-ObjectStart.ensures.rule read.0 read.2))

pub returns-in_ok-add-in_default-clause-item : goal.returns-in_ok-add-in_default-clause-item
returns-in_ok-add-in_default-clause-item g c =
    let read = c.in_ok-skip_behind-in_default.ensures.value in
    let other = not_object c.args.first c.args.feed.now read.0 c.requires c.in_default.not-ObjectStart read.1.begins in
    takes_item _ _ _ _ _ read.0 read.1 (c.in_ok-add-in_default.ensures read.0 tt (other_rule read.0 other))

pub returns-then-is_some-clause-item : goal.returns-then-is_some-clause-item
returns-then-is_some-clause-item g c =
    let broken : is_some c.args.self.now.fault ≡ true = sym c.is_some.ensures ∙ c.if-is_some.true in
    on_ok_map {P = (v : Value) × ReadsOn c.args.feed.now c.skip_behind.new.feed v} {Q = TakesItem (λ a vs b. AreLibsOf a vs b) c.args.feed.now c.skip_behind.new.feed c.args.self.now c.args.self.now}
    c.skip_behind.result (λ k. takes_item _ _ _ _ _ k.0 k.1 (libs_behind c.args.self.now broken k.0)) c.skip_behind.ensures.value
