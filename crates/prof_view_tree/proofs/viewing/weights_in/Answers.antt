use Rattle.std.proofs.Common.{◌≡◌, ◌+◌, ◌<◌, ◌++◌, ◌∷◌, [], length, Some, to_z, of_z, w64, refl, sym, ap, ◌∙◌, subst, arith}
use Rattle.std.specs.Prelude.{slice_get}
use Rattle.std.specs.List.{list_all}
use Rattle.std.specs.Option.{IfSome}
use Rattle.std.proofs.lemmas.Int.{ints}
use Rattle.prof_tables.specs.Paths.{path}
use Rattle.prof_tables.specs.Threads.{ThreadTables}
use Rattle.prof_path.specs.Terms.{terms_of}
use Rattle.prof_path.specs.Views.{ViewLists}
use Rattle.prof_layer.proofs.RowLaws.{entry-below}
use Rattle.prof_view_tree.specs.Showing.{final_of}
use Rattle.prof_view_tree.specs.Views.{is_within}
use Rattle.prof_view_tree.specs.Weighing.{Weighs}
use Rattle.prof_view_tree.proofs.FinalRows.{finals_upto, final_at, is_in, final_selected, final_outside, finals_all, finals_few, final_same}
use Rattle.prof_view_tree.proofs.Sampled.{same64}
use Rattle.prof_view_tree.proofs.viewing.weights_in.Goals as goal
use Rattle.prof_view_tree.proofs.viewing.weights_in.Goals.{then-is_selected, else-is_selected}

pub add-requires-clause-held : goal.add-requires-clause-held
add-requires-clause-held c =
    let l = c.args.layers.now in
    let v = c.args.view.now in
    let k = c.loop-k.k in (
      c.args.viewed.now.shown.rows.items,
      finals_upto l.base v l.spans k,
      c.loop-k.invariant,
      omega (arith, finals_few l.base v l.spans k, c.loop-k-test.true, c.sample_count-k-end.ensures.few),
    )

pub add-requires-clause-row : goal.add-requires-clause-row
add-requires-clause-row c =
    let l = c.args.layers.now in
    let v = c.args.view.now in
    let rows = c.args.viewed.now.shown.rows.items in
    let s = c.sample-sample.result in
    let at : slice_get l.base.samples c.loop-k.k ≡ Some s = subst (λ (b : ThreadTables). slice_get b.samples c.loop-k.k ≡ Some s) c.base-base.ensures c.sample-sample.ensures.row in
    subst (λ n. IfSome c.final_row.result (λ r. r < n)) (sym c.loop-k.invariant.len)
    (entry-below rows c.final_row.result (final_of l v.implementation (terms_of v.search) s) (c.final_row.ensures v.implementation (terms_of v.search) s c.requires.viewed at))

pub loop-k-preserved : goal.loop-k-preserved
loop-k-preserved c =
    let l = c.args.layers.now in
    let v = c.args.view.now in
    let k = c.loop-k.k in
    let rows = c.args.viewed.now.shown.rows.items in
    let s = c.sample-sample.result in
    let xs = finals_upto l.base v l.spans k in
    let at : slice_get l.base.samples k ≡ Some s = subst (λ (b : ThreadTables). slice_get b.samples k ≡ Some s) c.base-base.ensures c.sample-sample.ensures.row in
    let ranges : c.deref.result.now ≡ v.ranges = c.deref.ensures.value ∙ ap (λ (w : ViewLists). w.ranges) c.view.view_is in
    let moment = c.sample-sample.ensures.time in
    let time : to_z w64 (of_z w64 s.time) ≡ s.time = same64 s.time (omega (arith, ints, moment.0)) (omega (arith, ints, moment.1)) in
    let test : c.is_selected.result ≡ is_in l.base v l.spans s =
    c.is_selected.ensures ∙ (ap (λ m. list_all (is_within m) c.deref.result.now) time ∙ ap (list_all (is_within s.time)) ranges) in
    let range = c.sample-sample.ensures.weight in
    let same : to_z w64 (of_z w64 s.weight) ≡ s.weight = same64 s.weight (omega (arith, ints, range.0)) (omega (arith, ints, range.1)) in
    let few : length xs < 8388608 = omega (arith, finals_few l.base v l.spans k, c.loop-k-test.true, c.sample_count-k-end.ensures.few) in
    elim c.if-is_selected.branch [
      | then-is_selected w ↦
          let e : path rows w.final_row.result ≡ (final_at l.base v l.spans s).steps =
          final_same l.base v l.spans l s rows w.final_row.result refl refl c.requires.settled (w.final_row.ensures v.implementation (terms_of v.search) s c.requires.viewed at) in
          let added : Weighs rows (xs ++ record { steps = path rows w.final_row.result; weight = to_z w64 (of_z w64 s.weight) } ∷ []) w.add.new.self = w.add.ensures rows xs c.loop-k.invariant few in
          subst (Weighs rows (finals_upto l.base v l.spans (k + 1))) (sym w.weights-is)
          (subst (λ z. Weighs rows z w.add.new.self) (final_selected l.base v l.spans k s at (sym test ∙ w.if-is_selected.true))
          (subst (λ y. Weighs rows (xs ++ record { steps = y; weight = s.weight } ∷ []) w.add.new.self) e
          (subst (λ z. Weighs rows (xs ++ record { steps = path rows w.final_row.result; weight = z } ∷ []) w.add.new.self) same added)))
      | else-is_selected w ↦
          subst (Weighs rows (finals_upto l.base v l.spans (k + 1))) (sym w.weights-is)
          (subst (λ z. Weighs rows z c.loop-k.weights) (final_outside l.base v l.spans k s at (sym test ∙ w.if-is_selected.false)) c.loop-k.invariant)
    ]

pub returns-clause-weighs : goal.returns-clause-weighs
returns-clause-weighs c =
    let l = c.args.layers.now in
    let v = c.args.view.now in
    let count = c.sample_count-k-end.ensures.count ∙ ap (λ (b : ThreadTables). length b.samples) c.base-base.ensures in
    subst (λ z. Weighs c.args.viewed.now.shown.rows.items z c.loop-k.weights) (finals_all l.base v l.spans c.loop-k.k (omega (arith, c.loop-k-test.false, count))) c.loop-k.invariant

pub returns-clause-few : goal.returns-clause-few
returns-clause-few c =
    let l = c.args.layers.now in
    let v = c.args.view.now in
    let count = c.sample_count-k-end.ensures.count ∙ ap (λ (b : ThreadTables). length b.samples) c.base-base.ensures in
    let all = ap length (finals_all l.base v l.spans c.loop-k.k (omega (arith, c.loop-k-test.false, count))) in
    omega (arith, all, finals_few l.base v l.spans c.loop-k.k, c.loop-k.auto.k-end, c.sample_count-k-end.ensures.few)
