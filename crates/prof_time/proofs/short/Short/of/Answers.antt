use Rattle.std.proofs.Common.{rules, ◌≡◌, ◌-◌, ◌^◌, ◌≤◌, length, take, drop, get_or, take_while, refl, sym, ap, ◌∙◌, arith}
use Rattle.std.proofs.Math.Nat.{pow-le-pow_right}
use Rattle.std.proofs.lemmas.Bool.Decides.{nat_tests}
use Rattle.std.specs.Char.{is_ascii_digit}
use Rattle.prof_time.proofs.Values.{read_behind}
use Rattle.prof_time.proofs.Shorts.{plain_whole, plain_point}
use Rattle.prof_time.proofs.short.Short.of.Goals as goal

pub read_digits-whole-requires : goal.read_digits-whole-requires
read_digits-whole-requires c =
    let few : 10 ^ length c.args.text.now ≤ 10 ^ 18 = pow-le-pow_right {n = 10} (omega arith) {i = length c.args.text.now} {j = 18} (omega arith) in
    omega arith

pub returns-in-empty : goal.returns-in-empty
returns-in-empty c =
    let whole = c.read_digits-whole in
    plain_whole c.args.text.now whole.result.1.now _ (sym whole.ensures.rest) c.in-empty.len_below whole.ensures.value refl

pub returns-then-is_empty : goal.returns-then-is_empty
returns-then-is_empty c =
    let whole = c.read_digits-whole in
    let all = c.read_digits-value in
    let first : get_or whole.result.1.now 0 0 ≡ 46 = search rules in
    let none : length all.result.1.now ≡ 0 = grind (arith, nat_tests) in
    let fraction = take (length whole.result.1.now - 1) (drop 1 whole.result.1.now) in
    plain_point c.args.text.now whole.result.1.now all.result.1.now _ (sym whole.ensures.rest) c.in-46.len_at_least first (sym all.ensures.rest) none
    (all.ensures.value ∙ ap (λ v. read_behind v (take_while is_ascii_digit fraction)) whole.ensures.value) refl
