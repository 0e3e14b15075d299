use Rattle.std.proofs.Common.{◌≡◌, false, get_or, length, sym, ◌∙◌, arith}
use Rattle.std.proofs.lemmas.List.Sums.{prefix_len_is}
use Rattle.prof_gecko_names.specs.Naming as says
use Rattle.prof_gecko_names.proofs.naming.host_len.Goals as goal

pub returns-then-not-is_host_character-clause-value : goal.returns-then-not-is_host_character-clause-value
returns-then-not-is_host_character-clause-value c =
    let here : says.is_host_character (get_or c.args.text.now c.loop-i.i 0) ≡ false = sym c.is_host_character.ensures ∙ c.if-not-is_host_character.true in
    sym (prefix_len_is says.is_host_character c.args.text.now c.loop-i.i 0 (omega arith) c.loop-i.invariant (λ _. here))

pub returns-clause-value : goal.returns-clause-value
returns-clause-value c =
    sym (prefix_len_is says.is_host_character c.args.text.now (length c.args.text.now) 0 (omega arith) (λ k lt. c.loop-i.invariant k (omega arith)) (λ lt. absurd (omega arith)))
