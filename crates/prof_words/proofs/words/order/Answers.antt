use Rattle.std.proofs.Common.{◌≡◌, ◌∙◌, length, suc, ap, sym}
use Rattle.std.proofs.lemmas.List.{length-map}
use Rattle.prof_words.specs.Reading.{texts}
use Rattle.prof_words.proofs.Asked.{ordered-serve}
use Rattle.prof_words.proofs.words.order.Goals as goal

pub returns-in-Serve : goal.returns-in-Serve
returns-in-Serve c =
    let words = c.args.words.now in
    let many : length words ≡ suc (suc (suc (length (texts c.three_and_more.result.3.now)))) = sym (length-map words (λ word. word.now)) ∙ ap length c.three_and_more.ensures in
    let fit = rw (c.in-Serve.is, many) at c.requires in
    rw (c.in-Serve.is, c.three_and_more.ensures, ordered-serve _ _ _ _ fit) c.serve_order.ensures
