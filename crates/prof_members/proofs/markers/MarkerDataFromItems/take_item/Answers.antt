use Rattle.std.proofs.Common.{◌∙◌}
use Rattle.prof_grammar.specs.Value.{Value, no_members}
use Rattle.prof_members.proofs.Begun.{takes_item, reads_object, not_object, no_texts}
use Rattle.prof_schema.proofs.FieldTexts.{fields-texts}
use Rattle.prof_members.proofs.markers.MarkerDataFromItems.take_item.Goals as goal

pub returns-in_ok-add-in-ObjectStart-clause-item : goal.returns-in_ok-add-in-ObjectStart-clause-item
returns-in_ok-add-in-ObjectStart-clause-item g c =
    let read = c.in_ok-fields-in-ObjectStart.ensures.members in
    let begun = rw c.in-ObjectStart.is at c.requires in
    takes_item _ _ _ _ _ (Value.object read.0) (reads_object c.args.feed.now c.members.new.feed read.0 begun.2 read.1)
    (c.in_ok-add-in-ObjectStart.ensures (Value.object read.0) (fields-texts read.0 c.in_ok-fields-in-ObjectStart.fields read.2))

pub returns-in_ok-add-in_default : goal.returns-in_ok-add-in_default
returns-in_ok-add-in_default g c =
    let read = c.in_ok-skip_behind-in_default.ensures.value in
    let other = not_object c.args.first c.args.feed.now read.0 c.requires c.in_default.not-ObjectStart read.1.begins in
    record {
      ok = c.in_ok-skip_behind-in_default.ensures.ok;
      item = takes_item _ _ _ _ _ read.0 read.1 (c.in_ok-add-in_default.ensures read.0 (no_texts read.0 other ∙ fields-texts no_members c.none-fields.result c.none-fields.ensures));
      err = tt;
    }
