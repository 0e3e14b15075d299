use Rattle.std.proofs.Common.{◌≡◌, ap, subst, ◌∙◌}
use Rattle.prof_grammar.specs.Value.{Value}
use Rattle.prof_json.specs.declared.answer.Event.TheVariants as event
use Rattle.prof_gather.specs.Feeding.{IsBegun}
use Rattle.prof_gather.proofs.Turnings.{object_behind, array_behind, scalar_behind}
use Rattle.prof_gather.proofs.objects.skip_behind.Goals as goal

pub returns-in_ok-skip_object-in-ObjectStart-clause-value : goal.returns-in_ok-skip_object-in-ObjectStart-clause-value
returns-in_ok-skip_object-in-ObjectStart-clause-value g c =
    let read = c.in_ok-skip_object-in-ObjectStart.ensures.value in
    let begun : IsBegun event.ObjectStart c.args.feed.now = subst (λ e. IsBegun e c.args.feed.now) c.in-ObjectStart.is c.requires in
    (Value.object read.0, object_behind c.args.feed.now c.skip_object.new.self read.0 begun.2 read.1)

pub returns-in_ok-skip_array-in-ArrayStart-clause-value : goal.returns-in_ok-skip_array-in-ArrayStart-clause-value
returns-in_ok-skip_array-in-ArrayStart-clause-value g c =
    let read = c.in_ok-skip_array-in-ArrayStart.ensures.value in
    let begun : IsBegun event.ArrayStart c.args.feed.now = subst (λ e. IsBegun e c.args.feed.now) c.in-ArrayStart.is c.requires in
    (Value.array read.0, array_behind c.args.feed.now c.skip_array.new.self read.0 begun.2 read.1)

pub returns-in-Str-clause-value : goal.returns-in-Str-clause-value
returns-in-Str-clause-value g c = scalar_behind c.args.first c.args.feed.now c.in-Str.is c.requires
