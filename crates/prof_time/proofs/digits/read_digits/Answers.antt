use Rattle.std.proofs.Common.{◌≡◌, true, ◌+◌, ◌-◌, ◌*◌, ◌^◌, ◌≤◌, length, take, drop, get_or, take_while, sym, ap, ◌∙◌, arith}
use Rattle.std.specs.Char.{is_ascii_digit}
use Rattle.prof_time.proofs.Readings.{first_digit}
use Rattle.prof_time.proofs.Values.{read_behind}
use Rattle.prof_time.proofs.Tens.{one_more, with_places}
use Rattle.prof_time.proofs.digits.read_digits.Goals as goal

pub overflow_mul-value : goal.overflow_mul-value
overflow_mul-value c =
    let left = length c.loop-rest.rest.now - 1 in
    let room = one_more c.loop-rest.value 9 (length c.loop-rest.rest.now) left (10 ^ 18) (omega arith) (omega arith) c.loop-rest.invariant.small in
    omega (arith, with_places (10 * c.loop-rest.value + 9 + 1) left (10 ^ 18) room)

pub overflow_add-value : goal.overflow_add-value
overflow_add-value c =
    let left = length c.loop-rest.rest.now - 1 in
    let digit : c.from.result ≤ 9 = omega (arith, c.if-not-is_ascii_digit.ensures.cases) in
    let room = one_more c.loop-rest.value 9 (length c.loop-rest.rest.now) left (10 ^ 18) (omega arith) (omega arith) c.loop-rest.invariant.small in
    omega (arith, with_places (10 * c.loop-rest.value + 9 + 1) left (10 ^ 18) room)

pub loop-rest-preserved : goal.loop-rest-preserved
loop-rest-preserved c =
    let rest = c.loop-rest.rest.now in
    let value = c.loop-rest.value in
    let behind = take (length rest - 1) (drop 1 rest) in
    let digit : c.from.result ≤ 9 = omega (arith, c.if-not-is_ascii_digit.ensures.cases) in
    let test : is_ascii_digit (get_or rest 0 0) ≡ true = sym c.if-not-is_ascii_digit.ensures.value in
    let first = first_digit rest c.in-len1-up.len_at_least test in
    record {
      value = ap (λ d. read_behind (10 * value + d) (take_while is_ascii_digit behind)) c.from.ensures ∙ ap (read_behind value) (sym first.0) ∙ c.loop-rest.invariant.value;
      behind = sym first.1 ∙ c.loop-rest.invariant.behind;
      small = one_more value c.from.result (length rest) (length behind) (10 ^ 18) first.2 digit c.loop-rest.invariant.small;
    }
