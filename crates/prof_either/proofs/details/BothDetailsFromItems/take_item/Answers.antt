use Rattle.std.proofs.Common.{refl, ◌∙◌}
use Rattle.prof_grammar.specs.Value.{Value, no_members}
use Rattle.prof_gather.proofs.Turnings.{object_behind}
use Rattle.prof_schema.proofs.Begun.{not_object, no_texts}
use Rattle.prof_schema.proofs.FieldTexts.{fields-texts}
use Rattle.prof_schema.proofs.Slots.{takes_item}
use Rattle.prof_either.proofs.details.BothDetailsFromItems.take_item.Goals as goal

pub returns-in_ok-add_other-in-ObjectStart-clause-item : goal.returns-in_ok-add_other-in-ObjectStart-clause-item
returns-in_ok-add_other-in-ObjectStart-clause-item g c =
    let read = c.in_ok-fields-in-ObjectStart.ensures.members in
    let begun = rw c.in-ObjectStart.is at c.requires in
    takes_item _ _ _ _ _ (Value.object read.0) (object_behind c.args.feed.now c.members.new.feed read.0 begun.2 read.1)
    (λ first vs h. record {
      named = c.in_ok-add-in-ObjectStart.ensures (Value.object read.0) (fields-texts read.0 c.in_ok-fields-in-ObjectStart.fields read.2) first.named vs h.named;
      rows = c.in_ok-add_other-in-ObjectStart.ensures (Value.object read.0) refl first.rows vs h.rows;
    })

pub returns-in_ok-add-in_default : goal.returns-in_ok-add-in_default
returns-in_ok-add-in_default g c =
    let k = c.in_ok-take_item-in_default.ensures.item in
    let other = not_object c.args.first c.args.feed.now k.value c.requires c.in_default.not-ObjectStart k.reads.begins in
    record {
      ok = c.in_ok-take_item-in_default.ensures.ok;
      item = takes_item _ _ _ _ _ k.value k.reads
          (λ first vs h. record {
            named = c.in_ok-add-in_default.ensures k.value (no_texts k.value other ∙ fields-texts no_members c.none-fields.result c.none-fields.ensures) first.named vs h.named;
            rows = k.taken first.rows vs h.rows;
          });
      err = tt;
    }
