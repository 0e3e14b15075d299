use Rattle.std.proofs.Common.{refl, subst}
use Rattle.prof_grammar.specs.Value.{Value}
use Rattle.prof_json.specs.declared.answer.Event.TheVariants as event
use Rattle.prof_gather.specs.Feeding.{IsBegun}
use Rattle.prof_gather.proofs.Turnings.{object_behind, array_behind, other_found}
use Rattle.prof_gather.proofs.Behind.{null_behind, other_behind}
use Rattle.prof_gather.proofs.objects.object_behind.Goals as goal

pub returns-in_ok-found-in-ObjectStart-clause-value : goal.returns-in_ok-found-in-ObjectStart-clause-value
returns-in_ok-found-in-ObjectStart-clause-value g c =
    let read = c.in_ok-found-in-ObjectStart.ensures.members in
    let begun : IsBegun event.ObjectStart c.args.feed.now = subst (λ e. IsBegun e c.args.feed.now) c.in-ObjectStart.is c.requires.event in
    (Value.object read.0, object_behind c.args.feed.now c.members.new.feed read.0 begun.2 read.1, read.2)

pub returns-in-Null-clause-value : goal.returns-in-Null-clause-value
returns-in-Null-clause-value g c =
    let begun : IsBegun event.Null c.args.feed.now = subst (λ e. IsBegun e c.args.feed.now) c.in-Null.is c.requires.event in
    (Value.null, null_behind c.args.feed.now begun, refl)

pub returns-in_ok-skip_array-in-ArrayStart-clause-value : goal.returns-in_ok-skip_array-in-ArrayStart-clause-value
returns-in_ok-skip_array-in-ArrayStart-clause-value g c =
    let read = c.in_ok-skip_array-in-ArrayStart.ensures.value in
    let begun : IsBegun event.ArrayStart c.args.feed.now = subst (λ e. IsBegun e c.args.feed.now) c.in-ArrayStart.is c.requires.event in
    (Value.array read.0, array_behind c.args.feed.now c.skip_array.new.self read.0 begun.2 read.1, refl)

pub returns-in-Str-clause-value : goal.returns-in-Str-clause-value
returns-in-Str-clause-value g c =
    let read = other_behind c.args.first c.args.feed.now c.in-Str.is c.requires.event in
    (read.0, read.1, other_found g.T.FromMembers.is read.0 read.2)
