use Rattle.std.proofs.Common.{◌≡◌, ◌<◌, ◌≤◌, ℤ, ◌+ℤ◌, ◌++◌, ◌∷◌, [], length, get_or, set, to_z, of_z, sym, ap, ◌∙◌, subst, arith}
use Rattle.std.specs.Prelude.{unsigned_abs}
use Rattle.std.specs.Int.{w128}
use Rattle.prof_view_tree.specs.declared.groups.Entry.{Entry}
use Rattle.prof_view_tree.specs.Groups.{Joins, bulk}
use Rattle.prof_view_tree.proofs.Entries.{any_entry, joins_entry, joins_none, no_entry, weight_at-bulk}
use Rattle.prof_view_tree.proofs.Masses.{fits_sum, most, size-add}
use Rattle.prof_view_tree.proofs.Sampled.{same128}
use Rattle.prof_view_tree.proofs.groups.join.Goals as goal

pub overflow_add-index_mut : goal.overflow_add-index_mut
overflow_add-index_mut c =
    let es = c.args.entries.now.items in
    let i = get_or c.args.seats.now c.args.row 0 in
    let w = c.args.weight in
    let r = c.index_mut.result.now in
    let inside : i < length es = omega (arith, c.if-seat-len.true, c.len.ensures, c.args.entries.now.ok.0) in
    let at : r ≡ get_or es i no_entry = c.index_mut.ensures.value ∙ any_entry es i r no_entry inside in
    let size : unsigned_abs r.weight ≤ bulk es = subst (λ (e : Entry). unsigned_abs e.weight ≤ bulk es) (sym at) (weight_at-bulk es i inside) in
    let light = c.requires.light in
    rw (same128 r.weight (omega (arith, size, light)), same128 w (omega (arith, light))) (fits_sum r.weight w most (omega (arith, size, light)) (omega arith))

pub returns-then-index-row : goal.returns-then-index-row
returns-then-index-row c =
    let es = c.args.entries.now.items in
    let i = get_or c.args.seats.now c.args.row 0 in
    let w = c.args.weight in
    let r = c.index_mut.result.now in
    let inside : i < length es = omega (arith, c.if-seat-len.true, c.len.ensures, c.args.entries.now.ok.0) in
    let at : r ≡ get_or es i no_entry = c.index_mut.ensures.value ∙ any_entry es i r no_entry inside in
    let size : unsigned_abs r.weight ≤ bulk es = subst (λ (e : Entry). unsigned_abs e.weight ≤ bulk es) (sym at) (weight_at-bulk es i inside) in
    let light = c.requires.light in
    let sum : to_z w128 (of_z w128 (to_z w128 (of_z w128 r.weight) +ℤ to_z w128 (of_z w128 w))) ≡ r.weight +ℤ w =
    ap (λ y. to_z w128 (of_z w128 (y +ℤ to_z w128 (of_z w128 w)))) (same128 r.weight (omega (arith, size, light)))
    ∙ ap (λ y. to_z w128 (of_z w128 (r.weight +ℤ y))) (same128 w (omega (arith, light)))
    ∙ same128 (r.weight +ℤ w) (omega (arith, size-add r.weight w, size, light)) in
    let with : ℤ → Entry = λ z. record { row = r.row; weight = z } in
    let heavier : Entry → Entry = λ d. record { row = d.row; weight = d.weight +ℤ w } in
    let row_is : (get_or es i no_entry).row ≡ c.args.row = ap (λ (e : Entry). e.row) (sym (c.index.ensures ∙ any_entry es i c.index.result.now no_entry inside)) ∙ c.if-index-row.true in
    subst (λ x. Joins es c.args.row w (set es i x)) (sym (ap with sum ∙ ap heavier at)) (joins_entry es i c.args.row w inside row_is)

pub returns : goal.returns
returns c =
    let es = c.args.entries.now.items in
    let w = c.args.weight in
    let light = c.requires.light in
    let with : ℤ → Entry = λ z. record { row = c.args.row; weight = z } in
    let same : with (to_z w128 (of_z w128 w)) ≡ with w = ap with (same128 w (omega (arith, light))) in
    subst (Joins es c.args.row w) (sym (c.in_ok-push.ensures.items ∙ ap (λ e. es ++ e ∷ []) same)) (joins_none es c.args.row w)
