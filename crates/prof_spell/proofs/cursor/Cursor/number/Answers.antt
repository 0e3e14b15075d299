use Rattle.std.proofs.Common.{◌≡◌, ◌+◌, ◌*◌, ◌<◌, ◌++◌, sym, ap, ◌∙◌, arith, inl, inr, append_assoc}
use Rattle.std.specs.Prelude.{◌⊎◌}
use Rattle.std.specs.Fmt.{decimal}
use Rattle.std.proofs.lemmas.Fmt.{decimal_digit}
use Rattle.prof_spell.proofs.Numbers.{number_stuck, number_past, number_absent, decimal_more}
use Rattle.prof_spell.proofs.cursor.Cursor.number.Goals as goal
use Rattle.prof_spell.proofs.cursor.Cursor.number.Goals.{then-n-eq0-via-then-n-eq0, then-n-eq0-via-else-n-eq0+then-digit-most-2, then-n-eq0-via-else-n-eq0+else-digit-most-2+then-n-most}

pub returns-in_default : goal.returns-in_default
returns-in_default c = number_past c.args.most c.in-Some.digit c.args.self.now (omega arith) c.in-Some.ensures.some.0 c.in-Some.ensures.some.1 (omega arith)

pub returns-in_default-2 : goal.returns-in_default-2
returns-in_default-2 c = number_absent c.args.most c.args.self.now (omega arith) c.in_default.ensures.none

pub returns-then-n-eq0 : goal.returns-then-n-eq0
returns-then-n-eq0 c =
    let why : (c.digits.n ≡ 0) ⊎ (c.args.most < 10 * c.digits.n + c.in-Some-digit.digit) =
    elim c.then-n-eq0.branch [
      | then-n-eq0-via-then-n-eq0 w ↦ inl (omega arith)
      | then-n-eq0-via-else-n-eq0+then-digit-most-2 w ↦ inr (omega arith)
      | then-n-eq0-via-else-n-eq0+else-digit-most-2+then-n-most w ↦ inr (omega arith)
    ] in
    number_stuck c.args.most c.digits.n c.in-Some-digit.digit c.args.self.now c.digits.self (omega arith) c.digits.invariant.1 c.in-Some-digit.ensures.some.0 c.digits.invariant.0 c.in-Some-digit.ensures.some.1 why

pub digits-init : goal.digits-init
digits-init c = (c.pass.ensures _ c.in-Some.ensures.some.1 ∙ ap (λ t. t ++ c.pass.new.self) (sym (decimal_digit c.in-Some.digit c.in-Some.ensures.some.0)), omega arith)

pub digits-preserved : goal.digits-preserved
digits-preserved c =
    let n = c.digits.n in
    let d = c.in-Some-digit.digit in
    let more = decimal_more n d (omega arith) c.in-Some-digit.ensures.some.0 (omega arith) in
    (c.digits.invariant.0 ∙ ap (λ t. decimal n ++ t) (c.pass-in-Some-digit.ensures _ c.in-Some-digit.ensures.some.1) ∙ sym (append_assoc (decimal n) _ _) ∙ ap (λ t. t ++ c.pass-in-Some-digit.new.self) (sym more), omega arith)

pub returns : goal.returns
returns c = record { fits = c.digits.invariant.1; split = c.digits.invariant.0; apart = c.in_default-digit.ensures.none }
