use Rattle.std.proofs.Common.{◌≡◌, ℕ, ◌+◌, ◌-◌, ◌*◌, ◌^◌, min, length, sym, ap, ◌∙◌, arith}
use Rattle.prof_time.proofs.Values.{read_behind, read_behind_is}
use Rattle.prof_time.proofs.digits.value_behind.Goals as goal

cut_sum : (x v M : ℕ) → min (min x M + v) M ≡ min (x + v) M
cut_sum x v M = omega arith

pub returns : goal.returns
returns c =
    let front = c.args.front in
    let ds = c.args.digits.now in
    let M = 2 ^ 128 - 1 in
    let moved = front * 10 ^ length ds in
    let few : c.from-value.result ≡ read_behind 0 ds = c.from-value.ensures ∙ c.few_value.ensures in
    c.saturating_add.ensures
    ∙ ap (λ t. min (t + c.from-value.result) M) c.times_ten_to.ensures
    ∙ cut_sum moved c.from-value.result M
    ∙ ap (λ v. min (moved + v) M) few
    ∙ ap (λ v. min v M) (sym (read_behind_is front ds))
