use Rattle.std.proofs.Common.{◌≡◌, false, sym, ap, ◌∙◌}
use Rattle.std.specs.Prelude.{slice_range}
use Rattle.std.specs.List.{list_any}
use Rattle.prof_path.specs.Lowered.{has_lowered, sought}
use Rattle.prof_marker.specs.Markers.{name_text}
use Rattle.prof_marker.proofs.Occurring.{any_parts, if_ok}
use Rattle.prof_marker.proofs.seeker.occurs_in_words.Goals as goal

pub returns-clause-value : goal.returns-clause-value
returns-clause-value c =
    let m = c.args.marker in
    let texts = c.args.texts.now in
    let own = slice_range texts m.texts.0 m.texts.1 in
    let more = slice_range texts m.more.0 m.more.1 in
    let p = has_lowered (sought c.args.seeker.now) in
    let after_name = c.occurs_in_string.ensures.terms in
    let after_own = c.occurs_among.ensures.terms ∙ after_name in
    let none_name : p (name_text c.args.strings.now m.name) ≡ false = sym c.in_ok-occurs_in_string.ensures.value ∙ c.if-branch.false in
    let none_own : list_any p own ≡ false =
    sym (ap (λ ts. list_any (has_lowered ts) own) after_name) ∙ (sym c.in_ok-occurs_among.ensures.value ∙ c.if-branch-2.false) in
    if_ok c.occurs_among-2.result c.occurs_among-2.ensures.value (λ b h.
    h ∙ (ap (λ ts. list_any (has_lowered ts) more) after_own ∙ any_parts p (name_text c.args.strings.now m.name) own more none_name none_own))
