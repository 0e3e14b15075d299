use Rattle.std.proofs.Common.{rules, ◌≡◌, ◌<◌, refl, ◌^◌, true, false, ℤ, arith, to_z, of_z, w64, FitsSigned, sym, ◌∙◌}
use Rattle.std.specs.Prelude.{unsigned_abs}
use Rattle.std.specs.Int.{w128}
use Rattle.std.proofs.lemmas.Int.{ints, to_z-of_z}
use Rattle.prof_layout.specs.Columns as layout
use Rattle.prof_column.proofs.WholeCells.{nearest-read, nearest-none, nearest-far, minus-first}
use Rattle.prof_column.proofs.cells.nearest_whole.Goals as goal

read : (n r : ℤ) → unsigned_abs n < 2 ^ 64 → FitsSigned w64 r → r ≡ layout.clamped (to_z w128 (of_z w128 n)) → to_z w64 (of_z w64 r) ≡ layout.clamped n
read n r few fits e = let a : to_z w64 (of_z w64 r) ≡ r = to_z-of_z w64 r fits in let b : to_z w128 (of_z w128 n) ≡ n = omega (arith, ints) in a ∙ (rw b at e)

pub returns-in-Some : goal.returns-in-Some
returns-in-Some c =
    let fits : FitsSigned w64 c.clamped.result = search rules in
    nearest-read c.args.text.now c.in-Some.n _ c.in-Some.ensures.exact (read c.in-Some.n c.clamped.result c.in-Some.ensures.within fits c.clamped.ensures)

pub returns-then-not-is_whole : goal.returns-then-not-is_whole
returns-then-not-is_whole c = nearest-none c.args.text.now c.requires.0 c.requires.1 (λ n h. let e = c.is_whole.ensures.1 (n, h) in let f = c.if-not-is_whole.true in cc)

pub returns-then-eq : goal.returns-then-eq
returns-then-eq c =
    let w = c.is_whole.ensures.0 c.if-not-is_whole.false in
    nearest-far c.args.text.now w.0 true w.1 (c.in_default.ensures.none w.0 w.1) (minus-first c.args.text.now c.first.result _ c.first.ensures.value refl ∙ sym c.eq.ensures ∙ c.if-eq.true)

pub returns-else-eq : goal.returns-else-eq
returns-else-eq c =
    let w = c.is_whole.ensures.0 c.if-not-is_whole.false in
    nearest-far c.args.text.now w.0 false w.1 (c.in_default.ensures.none w.0 w.1) (minus-first c.args.text.now c.first.result _ c.first.ensures.value refl ∙ sym c.eq.ensures ∙ c.if-eq.false)
