use Rattle.std.proofs.Common.{rules, ◌≡◌, ◌+ℤ◌, ◌-ℤ◌, ℤ, SFits, to_z, of_z, ◌∙◌, ap}
use Rattle.std.proofs.lemmas.Int.{to_z-of_z}
use mir.Syntax.{w64, w128}
use Rattle.prof_gecko.proofs.shift.shifted.Goals as goal

abbrev back : ℤ → ℤ
back z = to_z w128 (of_z w128 z)

-- numbers of 64 bits are added in 128
sum_is : (n s r : ℤ) → SFits w64 n → SFits w64 s → SFits w64 r → back (back n +ℤ back (back s -ℤ back r)) ≡ n +ℤ (s -ℤ r)
sum_is n s r fn fs fr =
    let wn : SFits w128 n = search rules in
    let ws : SFits w128 s = search rules in
    let wr : SFits w128 r = search rules in
    let wd : SFits w128 (s -ℤ r) = search rules in
    let wt : SFits w128 (n +ℤ (s -ℤ r)) = search rules in
    let en = to_z-of_z w128 n wn in
    let es = to_z-of_z w128 s ws in
    let er = to_z-of_z w128 r wr in
    let ed : back (back s -ℤ back r) ≡ s -ℤ r = ap (λ x. back (x -ℤ back r)) es ∙ ap (λ x. back (s -ℤ x)) er ∙ to_z-of_z w128 (s -ℤ r) wd in
    ap (λ x. back (x +ℤ back (back s -ℤ back r))) en ∙ ap (λ x. back (n +ℤ x)) ed ∙ to_z-of_z w128 (n +ℤ (s -ℤ r)) wt

pub returns : goal.returns
returns c =
    let n = c.from.ensures ∙ to_z-of_z w64 c.args.n c.ranges.n in
    let s = c.from-2.ensures ∙ to_z-of_z w64 c.args.start c.ranges.start in
    let r = c.from-3.ensures ∙ to_z-of_z w64 c.args.root c.ranges.root in
    ap (λ x. back (back x +ℤ back (back c.from-2.result -ℤ back c.from-3.result))) n
    ∙ ap (λ x. back (back c.args.n +ℤ back (back x -ℤ back c.from-3.result))) s
    ∙ ap (λ x. back (back c.args.n +ℤ back (back c.args.start -ℤ back x))) r
    ∙ sum_is c.args.n c.args.start c.args.root c.ranges.n c.ranges.start c.ranges.root
