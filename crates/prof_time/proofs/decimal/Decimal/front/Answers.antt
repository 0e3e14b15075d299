use Rattle.std.proofs.Common.{◌≡◌, ℕ, ◌+◌, ◌-◌, ◌*◌, ◌^◌, ◌++◌, min, take, sym, ap, ◌∙◌}
use Rattle.std.proofs.lemmas.List.Sums.{fold-append}
use Rattle.prof_time.proofs.Lists.{take_both}
use Rattle.prof_time.proofs.Values.{read_behind, read_min}
use Rattle.prof_time.proofs.decimal.Decimal.front.Goals as goal

pub returns : goal.returns
returns c =
    let whole = c.args.self.now.whole.now in
    let fraction = c.args.self.now.fraction.now in
    let len = c.args.len in
    let kept = c.min-whole.result in
    let M = 2 ^ 128 - 1 in
    let w = take kept whole in
    let f = take (len - kept) fraction in
    let step : c.value_behind.result ≡ min (read_behind (min (read_behind 0 w) M) f) M =
    c.value_behind.ensures ∙ ap (λ v. min (read_behind v f) M) c.value_behind-value.ensures in
    let both : w ++ f ≡ take len (whole ++ fraction) =
    ap (λ k. take k whole ++ take (len - k) fraction) c.min-whole.ensures ∙ sym (take_both len whole fraction) in
    step ∙ read_min M (read_behind 0 w) f
    ∙ ap (λ v. min v M) (sym (fold-append (λ (n d : ℕ). 10 * n + (d - 48)) 0 w f) ∙ ap (read_behind 0) both)
