use Rattle.std.proofs.Common.{◌≡◌, ℕ, ◌-◌, ◌++◌, List, take, drop, length, min, sym, ap, ◌∙◌, subst}
use Rattle.std.specs.List.{All}
use Rattle.std.proofs.lemmas.Bool.{false≢true}
use Rattle.std.proofs.lemmas.List.{take_rest}
use Rattle.std.proofs.lemmas.List.Elements.{All-append}
use Rattle.prof_time.proofs.Lists.{drop_both, All-front, All-back}
use Rattle.prof_time.proofs.decimal.Decimal.is_zero_from.Goals as goal

abbrev Zeros : List ℕ → Type 0
Zeros ds = All (λ d. d ≡ 48) ds

-- the two parts, each as the rest of its slice, are the rest of both
parts : (whole fraction : List ℕ) (index kept : ℕ) → kept ≡ min index (length whole) → take (length whole - kept) (drop kept whole) ++ take (length fraction - (index - kept)) (drop (index - kept) fraction) ≡ drop index (whole ++ fraction)
parts whole fraction index kept e =
    ap (λ w. w ++ take (length fraction - (index - kept)) (drop (index - kept) fraction)) (take_rest whole kept)
    ∙ ap (λ f. drop kept whole ++ f) (take_rest fraction (index - kept))
    ∙ ap (λ k. drop k whole ++ drop (index - k) fraction) e ∙ sym (drop_both index whole fraction)

pub returns-then-are_zeros : goal.returns-then-are_zeros
returns-then-are_zeros c =
    let whole = c.args.self.now.whole.now in
    let fraction = c.args.self.now.fraction.now in
    let kept = c.min-whole.result in
    let w = take (length whole - kept) (drop kept whole) in
    let f = take (length fraction - (c.args.index - kept)) (drop (c.args.index - kept) fraction) in
    let both = parts whole fraction c.args.index kept c.min-whole.ensures in (
      λ t. subst Zeros both (All-append (λ d. d ≡ 48) w f (c.are_zeros.ensures.0 c.if-are_zeros.true) (c.are_zeros-then-are_zeros.ensures.0 t)),
      λ h. c.are_zeros-then-are_zeros.ensures.1 (All-back (λ d. d ≡ 48) w f (subst Zeros (sym both) h)),
    )

pub returns-else-are_zeros : goal.returns-else-are_zeros
returns-else-are_zeros c =
    let whole = c.args.self.now.whole.now in
    let fraction = c.args.self.now.fraction.now in
    let kept = c.min-whole.result in
    let w = take (length whole - kept) (drop kept whole) in
    let f = take (length fraction - (c.args.index - kept)) (drop (c.args.index - kept) fraction) in
    let both = parts whole fraction c.args.index kept c.min-whole.ensures in (
      λ t. absurd (false≢true (sym c.if-are_zeros.false ∙ t)),
      λ h. c.are_zeros.ensures.1 (All-front (λ d. d ≡ 48) w f (subst Zeros (sym both) h)),
    )
