use Rattle.std.proofs.Common.{◌≡◌, ℕ, ◌+◌, ◌*◌, List, true, false, refl, sym, subst, ◌∙◌}
use Rattle.prof_spell.specs.Spelling.{IsStuck}
use Rattle.prof_spell.specs.Utf8.{opens}
use Rattle.prof_spell.specs.Escapes.{is_escapable, percents}
use Rattle.prof_spell.proofs.EscapeLemmas.{stuck_percent, stuck_high, stuck_low, other_digit, percent_taken}
use Rattle.prof_spell.proofs.cursor.Cursor.percent.Goals as goal

pub returns-then-not-takes : goal.returns-then-not-takes
returns-then-not-takes c =
    let no-sign = c.if-not-takes.ensures.no refl in
    subst (λ (s : List ℕ). IsStuck (percents c.args.due) c.args.self.now s) (sym no-sign.0) (stuck_percent c.args.due c.args.self.now no-sign.1)

pub returns-in_default : goal.returns-in_default
returns-in_default c =
    let digit = c.in-Some.ensures.some in
    let shut : opens c.args.due c.in-Some.high ≡ false = sym c.opens.ensures ∙ c.if-opens.false in
    stuck_high c.args.due c.args.self.now c.takes.new.self (c.if-not-takes.ensures.yes refl)
    (λ h small open-h look.
    let same : h ≡ c.in-Some.high = other_digit c.takes.new.self h c.in-Some.high small digit.0 look digit.1 in
    let open-here : opens c.args.due c.in-Some.high ≡ true = subst (λ (n : ℕ). opens c.args.due n ≡ true) same open-h in
    cc)

pub returns-in_default-2 : goal.returns-in_default-2
returns-in_default-2 c =
    stuck_high c.args.due c.args.self.now c.takes.new.self (c.if-not-takes.ensures.yes refl) (λ h small open-h. c.in_default.ensures.none h small)

pub returns-in_default-nibble : goal.returns-in_default-nibble
returns-in_default-nibble c =
    let high = c.in-Some.ensures.some in
    let low = c.in-Some-nibble.ensures.some in
    let shut : is_escapable c.args.due (16 * c.in-Some.high + c.in-Some-nibble.low) ≡ false = sym c.is_escapable.ensures ∙ c.if-is_escapable.false in
    stuck_low c.args.due c.args.self.now c.takes.new.self c.pass.new.self c.in-Some.high (c.if-not-takes.ensures.yes refl) (c.pass.ensures _ high.1) high.0
    (sym c.opens.ensures ∙ c.if-opens.true)
    (λ l small may look.
    let same : l ≡ c.in-Some-nibble.low = other_digit c.pass.new.self l c.in-Some-nibble.low small low.0 look low.1 in
    let may-here : is_escapable c.args.due (16 * c.in-Some.high + c.in-Some-nibble.low) ≡ true =
    subst (λ (n : ℕ). is_escapable c.args.due (16 * c.in-Some.high + n) ≡ true) same may in
    cc)

pub returns-in_default-nibble-2 : goal.returns-in_default-nibble-2
returns-in_default-nibble-2 c =
    let high = c.in-Some.ensures.some in
    stuck_low c.args.due c.args.self.now c.takes.new.self c.pass.new.self c.in-Some.high (c.if-not-takes.ensures.yes refl) (c.pass.ensures _ high.1) high.0
    (sym c.opens.ensures ∙ c.if-opens.true) (λ l small may. c.in_default-nibble.ensures.none l small)

pub returns : goal.returns
returns c =
    let high = c.in-Some.ensures.some in
    let low = c.in-Some-nibble.ensures.some in
    percent_taken c.args.due c.args.self.now c.takes.new.self c.pass.new.self c.pass-2.new.self c.in-Some.high c.in-Some-nibble.low
    (c.if-not-takes.ensures.yes refl) (c.pass.ensures _ high.1) (c.pass-2.ensures _ low.1) high.0 low.0
    (sym c.is_escapable.ensures ∙ c.if-is_escapable.true)
