use Rattle.std.proofs.Common.{rules, ◌≡◌, ◌≤◌, ◌+◌, ◌++◌, length, take, drop, arith, List, ℕ, ◌-◌, min, false, true, IfSome, ap, ◌∙◌, subst, take_at}
use Rattle.std.specs.Io.KnownBytes.{prepend_known}
use Rattle.prof_wire.specs.Heads.{verb_of}
use Rattle.prof_wire.specs.Reading.{IsFilled}
use Rattle.prof_wire.specs.Taking.{EndsSo, ComesOut}
use Rattle.prof_wire.specs.declared.messages.WireEnd.TheVariants.{Bad}
use Rattle.prof_wire.specs.declared.messages.Why.TheVariants.{Cut}
use Rattle.prof_wire.proofs.Takings.{shifted, comes_none, comes_refused, cut_shown, comes_shown, front_is}
use Rattle.prof_wire.proofs.wire.take_message.Goals as goal

pub returns-in-Err-clause-takes : goal.returns-in-Err-clause-takes
returns-in-Err-clause-takes g c =
    let moved : take (c.args.filled - c.args.used) c.copy_within.new.self ≡ drop c.args.used (take c.args.filled c.args.page.now)
    = ap (λ (l : List ℕ). take (c.args.filled - c.args.used) l) c.copy_within.ensures.after ∙ shifted c.args.page.now c.args.used c.args.filled c.requires.used (omega arith) in
    subst (λ (l : List ℕ). EndsSo c.args.given (prepend_known l (g.H.Counted.left c.args.hall.now)) c.in-Err.end) moved
    (comes_none _ _ _ _ c.in-Err.ensures.reads)

pub returns-in-Err-body_size-clause-takes : goal.returns-in-Err-body_size-clause-takes
returns-in-Err-body_size-clause-takes g c =
    let moved : take (c.args.filled - c.args.used) c.copy_within.new.self ≡ drop c.args.used (take c.args.filled c.args.page.now)
    = ap (λ (l : List ℕ). take (c.args.filled - c.args.used) l) c.copy_within.ensures.after ∙ shifted c.args.page.now c.args.used c.args.filled c.requires.used (omega arith) in
    let h = c.in-Ok.ensures.reads in
    subst (λ (l : List ℕ). EndsSo c.args.given (prepend_known l (g.H.Counted.left c.args.hall.now)) c.in-Err-body_size.end) moved
    (comes_refused _ _ _ _ _ _ _ _ h.1 h.2 h.3 (search rules) (search rules) c.in-Err-body_size.ensures)

pub returns-in-Ok-false-clause-takes : goal.returns-in-Ok-false-clause-takes
returns-in-Ok-false-clause-takes g c =
    let moved : take (c.args.filled - c.args.used) c.copy_within.new.self ≡ drop c.args.used (take c.args.filled c.args.page.now)
    = ap (λ (l : List ℕ). take (c.args.filled - c.args.used) l) c.copy_within.ensures.after ∙ shifted c.args.page.now c.args.used c.args.filled c.requires.used (omega arith) in
    let h = c.in-Ok.ensures.reads in
    let front = front_is c.read_head.new.page c.args.body.now c.copy_from_slice.new.self c.in-Ok.found.0.len c.min-have.result c.in-Ok.found.1 c.in-Ok-body_size.size c.copy_from_slice.ensures.after (search rules) (search rules) (search rules) in
    let read : IfSome (g.H.Counted.left c.read_head.new.hall) (λ rest. IsFilled (take c.min-have.result (take c.in-Ok-body_size.size (c.copy_from_slice.new.self ++ drop c.min-have.result c.args.body.now))) rest false c.read_body.new.body (g.H.Counted.left c.read_body.new.hall))
    = rw c.in-Ok-false.field-0-test at c.in-Ok-false.ensures.reads in
    subst (λ (l : List ℕ). EndsSo c.args.given (prepend_known l (g.H.Counted.left c.args.hall.now)) (Bad Cut)) moved
    (cut_shown _ _ _ _ c.read_body.new.body _ (g.H.Counted.left c.read_body.new.hall) _ _ c.in-Ok-body_size.size c.min-have.result _ h.1 h.2 h.3 (search rules) (search rules) c.in-Ok-body_size.ensures (search rules) (search rules) read front)

pub returns-in-Ok-true-clause-takes : goal.returns-in-Ok-true-clause-takes
returns-in-Ok-true-clause-takes g c =
    let moved : take (c.args.filled - c.args.used) c.copy_within.new.self ≡ drop c.args.used (take c.args.filled c.args.page.now)
    = ap (λ (l : List ℕ). take (c.args.filled - c.args.used) l) c.copy_within.ensures.after ∙ shifted c.args.page.now c.args.used c.args.filled c.requires.used (omega arith) in
    let h = c.in-Ok.ensures.reads in
    let front = front_is c.read_head.new.page c.args.body.now c.copy_from_slice.new.self c.in-Ok.found.0.len c.min-have.result c.in-Ok.found.1 c.in-Ok-body_size.size c.copy_from_slice.ensures.after (search rules) (search rules) (search rules) in
    let read : IfSome (g.H.Counted.left c.read_head.new.hall) (λ rest. IsFilled (take c.min-have.result (take c.in-Ok-body_size.size (c.copy_from_slice.new.self ++ drop c.min-have.result c.args.body.now))) rest true c.read_body.new.body (g.H.Counted.left c.read_body.new.hall))
    = rw c.in-Ok-true.field-0-test at c.in-Ok-true.ensures.reads in
    let method = c.verb.ensures ∙ ap verb_of c.of.ensures in
    let shown = take_at c.read_body.new.body (drop c.in-Ok-body_size.size (c.copy_from_slice.new.self ++ drop c.min-have.result c.args.body.now)) c.in-Ok-body_size.size (search rules) in (
      record { used = search rules; end = search rules; target = search rules; size = search rules },
      comes_shown _ _ _ _ _ c.read_body.new.body _ (g.H.Counted.left c.read_body.new.hall) _ _ c.in-Ok-body_size.size c.min-have.result _ _ _ _ moved h.1 h.2 h.3 (search rules) (search rules) c.in-Ok-body_size.ensures (search rules) (search rules) read front method c.ends_after.ensures shown,
    )
