use Rattle.std.proofs.Common.{◌≡◌, ◌∙◌, ◌∷◌, [], List, ℕ, Bor, None, Some, ap, sym, lit<}
use Rattle.std.specs.Prelude.{map}
use Rattle.std.proofs.lemmas.Iterator.Splits.{YieldsList-from_str_split}
use Rattle.std.proofs.lemmas.Iterator.Consumers.{YieldsList-end, YieldsList-turn}
use Rattle.std.proofs.lemmas.List.{map-append}
use Rattle.prof_words.specs.Numbers.{each, number_within}
use Rattle.prof_words.proofs.Each.{each-none, each-more}
use Rattle.prof_words.proofs.numbers.threads_of.Goals as goal

pub returns-in_default : goal.returns-in_default
returns-in_default c =
    let t = YieldsList-turn (YieldsList-from_str_split 46 c.args.word.now (lit< tt) (cc) (cc) (cc)) c.loop-part.yielded _ c.loop-part.yielded_by _ _ c.in-Some.part c.in-Some.is c.next.ensures.steps in
    let none : number_within 0 4294967295 c.in-Some.part.now ≡ None = sym c.number_within.ensures ∙ c.in_default.is in
    each-none (number_within 0 4294967295) _ _ _ t.0 (ap (number_within 0 4294967295) (sym t.1) ∙ none)

pub loop-part-preserved : goal.loop-part-preserved
loop-part-preserved c =
    let some : number_within 0 4294967295 c.in-Some.part.now ≡ Some c.in-Some-number_within.thread = sym c.number_within.ensures ∙ c.in-Some-number_within.is in
    ap (each (number_within 0 4294967295)) (map-append (λ (b : Bor (List ℕ)). b.now) c.loop-part.yielded (c.in-Some.part ∷ []))
    ∙ each-more (number_within 0 4294967295) (map (λ (b : Bor (List ℕ)). b.now) c.loop-part.yielded) c.in-Some.part.now c.loop-part.threads c.in-Some-number_within.thread
    c.loop-part.invariant some
    ∙ ap (λ l. Some l) (sym c.in-Ok.ensures.ok)

pub returns : goal.returns
returns c =
    let t = YieldsList-end (YieldsList-from_str_split 46 c.args.word.now (lit< tt) (cc) (cc) (cc)) c.loop-part.yielded _ c.loop-part.yielded_by _ _ c.in-None.is c.next.ensures.steps in
    ap (each (number_within 0 4294967295)) (sym t.0) ∙ c.loop-part.invariant
