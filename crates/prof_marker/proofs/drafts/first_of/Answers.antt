use Rattle.std.proofs.Common.{◌≡◌, ℕ, List, [], Some, sym, ap, ◌∙◌}
use Rattle.std.specs.Prelude.{slice_get}
use Rattle.std.proofs.lemmas.Option.{none-some, get_or_from_slice_get, slice_get-get_or}
use Rattle.prof_raw.specs.Texts.{first_place}
use Rattle.prof_marker.specs.Markers.{name_text}
use Rattle.prof_marker.proofs.Names.{first_there}
use Rattle.prof_marker.proofs.drafts.first_of.Goals as goal

-- the text at a place
text_is : (strings : List (List ℕ)) (n : ℕ) (text : List ℕ) → Some text ≡ slice_get strings n → text ≡ name_text strings n
text_is strings n text h = sym (get_or_from_slice_get strings n text [] (sym h))

pub unreachable-requires : goal.unreachable-requires
unreachable-requires c =
    let there = first_there c.args.strings.now c.args.name c.requires in
    none-some there.0 (c.in-None-place.ensures ∙ (ap (first_place c.args.strings.now) (text_is c.args.strings.now c.args.name c.in-Some.text.now c.in-Some.ensures) ∙ there.1.0))

pub unreachable-requires-in-None : goal.unreachable-requires-in-None
unreachable-requires-in-None c = none-some (name_text c.args.strings.now c.args.name) (c.in-None.ensures ∙ slice_get-get_or c.args.strings.now c.args.name [] c.requires)

pub returns-clause-place : goal.returns-clause-place
returns-clause-place c = sym (c.in-Some-place.ensures ∙ ap (first_place c.args.strings.now) (text_is c.args.strings.now c.args.name c.in-Some.text.now c.in-Some.ensures))
