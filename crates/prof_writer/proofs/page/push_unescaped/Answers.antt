use Rattle.std.proofs.Common.{◌≡◌, [], ◌∷◌, ◌++◌, true, sym, ap, ◌∙◌, arith, append_assoc}
use Rattle.std.proofs.lemmas.Grind.{common_steps}
use Rattle.std.specs.List.{list_all}
use Rattle.prof_writer.specs.Writing.{is_plain}
use Rattle.prof_writer.proofs.Strings.{escape_none}
use Rattle.prof_writer.proofs.page.push_unescaped.Goals as goal

pub returns-clause-pushed : goal.returns-clause-pushed
returns-clause-pushed g c =
    let text = c.args.text.now in
    let old = c.args.page.now.bytes in
    let plain : list_all is_plain text ≡ true = grind (arith, common_steps, c.is_plain_text.ensures, c.as_bytes.ensures.value) in
    c.push_str-3.ensures.bytes ∙ ap (λ u. u ++ 34 ∷ []) (c.push_str-2.ensures.bytes ∙ ap (λ u. u ++ text) c.push_str.ensures.bytes)
    ∙ append_assoc (old ++ 34 ∷ []) text (34 ∷ []) ∙ append_assoc old (34 ∷ []) (text ++ 34 ∷ []) ∙ ap (λ u. old ++ 34 ∷ (u ++ 34 ∷ [])) (sym (escape_none text plain))
