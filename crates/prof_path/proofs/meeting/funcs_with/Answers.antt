use Rattle.std.proofs.Common.{◌≡◌, ℕ, ◌+◌, ◌<◌, List, [], ◌∷◌, ◌++◌, length, Some, inl, inr, ap, sym, ◌∙◌, subst, arith}
use Rattle.std.specs.Prelude.{slice_get}
use Rattle.prof_raw.proofs.PushLemmas.{slice_get-push_other, slice_get-push_last, length-push}
use Rattle.std.proofs.lemmas.Bool.{cases_lt}
use Rattle.prof_path.specs.Finals.{occurs_in}
use Rattle.prof_path.specs.Lowered.{sought}
use Rattle.prof_path.proofs.MetTerms.{met_is}
use Rattle.prof_path.proofs.meeting.funcs_with.Goals as goal

pub loop-func-preserved : goal.loop-func-preserved
loop-func-preserved c =
    let t = c.args.thread.now.shared in
    let k = c.loop-func.func in
    let met = c.loop-func.met.items in
    let b = c.in_ok-occurs_in_func.field-0 in
    let is : b ≡ occurs_in t c.args.term.now k = c.in_ok-occurs_in_func.ensures.value ∙ met_is c.args.term.now t k (sought c.loop-func.seeker) c.loop-func.invariant.terms in
    let items = c.in_ok-push.ensures.items in
    record {
      ready = c.in_ok-occurs_in_func.ensures.ready;
      terms = c.occurs_in_func.ensures.terms ∙ c.loop-func.invariant.terms;
      count = ap length items ∙ (let e = length-push met b in omega (arith, c.loop-func.invariant.count));
      each = λ f h. elim (cases_lt f k) [
        | inl l ↦ ap (λ v. slice_get v f) items ∙ (slice_get-push_other met b f (omega (arith, c.loop-func.invariant.count)) ∙ c.loop-func.invariant.each f l)
        | inr g ↦ (let same : k ≡ f = omega arith in
            subst (λ f. slice_get c.push.new.self.items f ≡ Some (occurs_in t c.args.term.now f)) same
            (ap (λ v. slice_get v k) items ∙ (ap (slice_get (met ++ b ∷ [])) (sym c.loop-func.invariant.count) ∙ (slice_get-push_last met b ∙ ap (λ z. Some z) is))))
      ];
    }
