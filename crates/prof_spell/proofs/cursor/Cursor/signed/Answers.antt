use Rattle.std.proofs.Common.{◌≡◌, ◌-◌, refl, sym, subst, ◌∙◌, rules, to_z, of_z}
use Rattle.std.specs.Prelude.{negsuc, ℤ, FitsSigned}
use Rattle.std.proofs.lemmas.Int.{to_z-of_z}
use mir.Syntax.{w64}
use Rattle.prof_spell.specs.Spelling.{IsTaken, Reads}
use Rattle.std.specs.Prelude.{Err}
use Rattle.prof_spell.specs.Pieces.{signed, numbers}
use Rattle.prof_spell.proofs.SignedLemmas.{pos_err, negative_taken, negative_err, zero_stuck, greatest}
use Rattle.prof_spell.proofs.cursor.Cursor.signed.Goals as goal

pub returns-in-Err : goal.returns-in-Err
returns-in-Err c =
    let no-sign = c.if-not-takes.ensures.no refl in
    pos_err c.args.self.now c.number.new.self c.in-Err.stop no-sign.1
    (subst (λ s. Reads (numbers greatest) s (Err c.in-Err.stop) c.number.new.self) no-sign.0 c.in-Err.ensures)

pub returns-then-begins : goal.returns-then-begins
returns-then-begins c = zero_stuck c.args.self.now c.takes.new.self (c.if-not-takes.ensures.yes refl) (c.if-begins.ensures.yes refl)

pub negative-requires-clause-some : goal.negative-requires-clause-some
negative-requires-clause-some c =
    (negative_taken c.args.self.now c.takes.new.self c.number-2.new.self c.in-Ok-number.n (c.if-not-takes.ensures.yes refl) (c.if-begins.ensures.no refl) c.in-Ok-number.ensures).0

pub returns-in-Ok-number : goal.returns-in-Ok-number
returns-in-Ok-number c =
    let fits : FitsSigned w64 c.negative.result = search rules in
    let same : to_z w64 (of_z w64 c.negative.result) ≡ negsuc (c.in-Ok-number.n - 1) = to_z-of_z w64 c.negative.result fits ∙ c.negative.ensures in
    subst (λ (z : ℤ). IsTaken signed c.args.self.now z c.number-2.new.self) (sym same)
    (negative_taken c.args.self.now c.takes.new.self c.number-2.new.self c.in-Ok-number.n (c.if-not-takes.ensures.yes refl) (c.if-begins.ensures.no refl) c.in-Ok-number.ensures).1

pub returns-in-Err-number : goal.returns-in-Err-number
returns-in-Err-number c = negative_err c.args.self.now c.takes.new.self c.number-2.new.self c.in-Err-number.stop (c.if-not-takes.ensures.yes refl) (c.if-begins.ensures.no refl) c.in-Err-number.ensures
