use Rattle.std.proofs.Common.{◌≡◌, ◌++◌, ap, subst, ◌∙◌}
use Rattle.std.specs.Prelude.{codes}
use Rattle.std.specs.Fmt.{decimal}
use Rattle.hex.specs.Hex.{encode_lower}
use Rattle.prof_address.specs.declared.kind.Form.TheVariants.{Second}
use Rattle.prof_keep.specs.Saved.{SavedLists, head_text, lines_text, saved_text}
use Rattle.prof_keep.proofs.WritingLemmas.{eight_texts}
use Rattle.prof_keep.proofs.writing.push_saved.Goals as goal

pub returns : goal.returns
returns c =
    let s = c.saved.inside in
    subst (λ (q : SavedLists). c.push_lines.new.text ≡ c.args.text.now ++ saved_text Second q) c.saved.view_is
    (eight_texts (head_text Second) (encode_lower s.digest) (codes "\nversion ") (decimal s.version) (codes "\nplace ") (decimal s.place) (codes "\n") (lines_text s.views.items)
    c.args.text.now c.push_str.new.self c.push_digest.new.text c.push_str-2.new.self c.push_number.new.text c.push_str-3.new.self c.push_number-2.new.text c.push_str-4.new.self c.push_lines.new.text
    (c.in_ok-push_str.ensures.ok ∙ ap (λ t. c.args.text.now ++ t) c.word.ensures)
    (c.in_ok-push_digest.ensures ∙ ap (λ t. c.push_str.new.self ++ encode_lower t) c.as_slice.ensures)
    c.in_ok-push_str-2.ensures.ok
    c.in_ok-push_number.ensures.ok
    c.in_ok-push_str-3.ensures.ok
    c.in_ok-push_number-2.ensures.ok
    c.in_ok-push_str-4.ensures.ok
    (c.in_ok-push_lines.ensures ∙ ap (λ vs. c.push_str-4.new.self ++ lines_text vs) c.as_slice-2.ensures.value))
