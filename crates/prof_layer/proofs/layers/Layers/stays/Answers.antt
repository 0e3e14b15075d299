use Rattle.std.proofs.Common.{◌≡◌, ◌&&◌, Some, ap, ◌∙◌, sym, subst, rules}
use mir.Syntax.{w64}
use mir.Val.{SFits}
use Rattle.std.proofs.lemmas.Int.{to_z-of_z}
use Rattle.std.specs.Prelude.{slice_get}
use Rattle.std.specs.List.{list_any}
use Rattle.prof_tables.specs.declared.rows.SampleRow.{SampleRow}
use Rattle.prof_tables.specs.Threads.{ThreadTables}
use Rattle.prof_path.specs.Rewriting.{is_during}
use Rattle.prof_layer.specs.Kept.{found_of}
use Rattle.prof_layer.proofs.LayerLaws.{is_kept-more}
use Rattle.prof_layer.proofs.layers.Layers.stays.Goals as goal

pub returns-then-is_kept : goal.returns-then-is_kept
returns-then-is_kept c = λ s at.
    let here : slice_get c.args.self.now.base.samples c.args.k ≡ Some c.sample.result = subst (λ (b : ThreadTables). slice_get b.samples c.args.k ≡ Some c.sample.result) c.base.ensures c.sample.ensures.row in
    let same : c.sample.result ≡ s = cc in
    let fits : SFits w64 c.sample.result.time = search rules in
    (simp to_z-of_z at c.has.ensures) ∙ ap (λ (x : SampleRow). list_any (is_during x.time) c.args.periods.now) same
    ∙ ap (λ b. b && list_any (is_during s.time) c.args.periods.now) (sym (sym (c.is_kept.ensures s at) ∙ c.if-is_kept.true))
    ∙ sym (is_kept-more (found_of c.args.self.now.settled c.args.self.now.spans) c.args.periods.now s.time)

pub returns-else-is_kept : goal.returns-else-is_kept
returns-else-is_kept c = λ s at.
    c.if-is_kept.false
    ∙ ap (λ b. b && list_any (is_during s.time) c.args.periods.now) (sym (sym (c.is_kept.ensures s at) ∙ c.if-is_kept.false))
    ∙ sym (is_kept-more (found_of c.args.self.now.settled c.args.self.now.spans) c.args.periods.now s.time)
