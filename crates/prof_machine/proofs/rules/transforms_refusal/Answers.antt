use Rattle.std.proofs.Common.{◌≡◌, ◌+◌, map, drop, Some, None, ap, ◌∙◌, sym}
use Rattle.std.specs.Option.{option_or}
use Rattle.prof_machine.specs.Machine.{first_of, transform_refusal}
use Rattle.prof_machine.proofs.RuleLemmas.{next_refusal}
use Rattle.prof_machine.proofs.rules.transforms_refusal.Goals as goal

pub returns-in-Some : goal.returns-in-Some
returns-in-Some c =
    let f = transform_refusal c.args.thread.now in
    let here : f c.t-item.result ≡ Some c.in-Some.refusal = sym c.transform_refusal.ensures ∙ c.in-Some.is in
    sym (c.loop-t.invariant ∙ (next_refusal f c.args.transforms.now c.loop-t.t-index c.t-item.result c.loop-t-test.true c.t-item.is
    ∙ ap (λ o. option_or o (first_of (map f (drop (c.loop-t.t-index + 1) c.args.transforms.now)))) here))

pub loop-t-preserved : goal.loop-t-preserved
loop-t-preserved c =
    let f = transform_refusal c.args.thread.now in
    let here : f c.t-item.result ≡ None = sym c.transform_refusal.ensures ∙ c.in_default.is in
    c.loop-t.invariant ∙ (next_refusal f c.args.transforms.now c.loop-t.t-index c.t-item.result c.loop-t-test.true c.t-item.is
    ∙ ap (λ o. option_or o (first_of (map f (drop (c.loop-t.t-index + 1) c.args.transforms.now)))) here)
