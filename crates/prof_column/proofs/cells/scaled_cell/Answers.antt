use Rattle.std.proofs.Common.{◌≡◌, ◌*◌, ◌^◌, ◌≤◌, Some, Ok, sym, ◌∙◌, ap, ℤ, arith, to_z, of_z, w64}
use Rattle.std.specs.Prelude.{unsigned_abs}
use Rattle.std.proofs.lemmas.Int.{ints}
use Rattle.prof_layout.proofs.ReadCells.{scaled-within, scaled-out}
use Rattle.prof_column.proofs.cells.scaled_cell.Goals as goal

same : (n : ℤ) → unsigned_abs n ≤ 9 * 10 ^ 18 → to_z w64 (of_z w64 n) ≡ n
same n h = omega (arith, ints)

pub returns-in-Ok : goal.returns-in-Ok
returns-in-Ok c =
    ap (λ (n : ℤ). Ok (Some n)) (same c.in-Ok.n c.in-Ok.ensures.within)
    ∙ sym (scaled-within c.args.text.now c.args.decimals c.in-Ok.n c.in-Ok.ensures.nearest c.in-Ok.ensures.within)

pub returns-in-Err : goal.returns-in-Err
returns-in-Err c = let h = c.in-Err.ensures.range in sym (scaled-out c.args.text.now c.args.decimals h.0 h.1 h.2)
