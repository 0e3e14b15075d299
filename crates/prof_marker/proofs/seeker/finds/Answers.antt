use Rattle.std.proofs.Common.{◌≡◌, length, false, ◌||◌, sym, ap, ◌∙◌}
use Rattle.std.specs.Prelude.{◌&&◌, ◌==◌}
use Rattle.std.specs.List.{list_any}
use Rattle.prof_path.specs.Lowered.{has_lowered, sought}
use Rattle.prof_marker.specs.Found.{has_some, words_of}
use Rattle.prof_marker.proofs.Occurring.{lowered_any, same_many, if_ok}
use Rattle.prof_marker.proofs.seeker.finds.Goals as goal

pub returns-clause-value : goal.returns-clause-value
returns-clause-value c = λ terms e.
    let words = words_of c.args.strings.now c.args.texts.now c.args.marker in
    let some : (length terms == 0) ≡ false =
    ap (λ n. n == 0) (same_many terms (sought c.args.seeker.now) e) ∙ (sym c.is_empty.ensures ∙ c.if-is_empty.false) in
    let all = sym c.overlaps_all.ensures ∙ c.if-not-overlaps_all.false in
    if_ok c.occurs_in_words.result c.occurs_in_words.ensures.value (λ b h.
    h
    ∙ (ap (λ ts. list_any (has_lowered ts) words) e
    ∙ (lowered_any terms words
    ∙ sym (ap (λ b. b && (length terms == 0 || list_any (has_some terms) words)) all ∙ ap (λ b. b || list_any (has_some terms) words) some))))
