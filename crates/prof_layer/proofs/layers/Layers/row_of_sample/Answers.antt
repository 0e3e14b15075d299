use Rattle.std.proofs.Common.{◌≡◌, ◌<◌, length, None, Some, [], ap, ◌∙◌, sym, subst}
use Rattle.std.specs.Prelude.{slice_get, IfSome}
use Rattle.prof_tables.specs.declared.rows.SampleRow.{SampleRow}
use Rattle.prof_tables.specs.Threads.{ThreadTables}
use Rattle.prof_tables.specs.Paths.{path}
use Rattle.prof_path.specs.Rewriting.{rewrite_all}
use Rattle.prof_layer.specs.Rewritten.{IsRowOf}
use Rattle.prof_layer.specs.Simulates.{LayerLists, of_rows, sample_path}
use Rattle.prof_layer.proofs.LayerLaws.{sample-out, sample-none, sample-in}
use Rattle.prof_layer.proofs.layers.Layers.row_of_sample.Goals as goal

pub returns-then-not-is_kept : goal.returns-then-not-is_kept
returns-then-not-is_kept c = λ s at. sample-out c.args.self.now s (sym (c.is_kept.ensures s at) ∙ c.if-not-is_kept.true)

pub returns-in_err-stack : goal.returns-in_err-stack
returns-in_err-stack c = λ s at.
    let base : c.deref.result.now ≡ c.args.self.now.base = c.deref.ensures ∙ ap (λ (l : LayerLists). l.base) c.self.view_is in
    let here : slice_get c.args.self.now.base.samples c.args.k ≡ Some c.sample.result = subst (λ (b : ThreadTables). slice_get b.samples c.args.k ≡ Some c.sample.result) base c.sample.ensures.row in
    let same : s ≡ c.sample.result = cc in
    let gone : c.sample.result.stack ≡ None = c.in_err-stack.was in
    subst (λ out. IsRowOf c.args.self.now.top out (sample_path c.args.self.now s)) (sym c.from_residual.ensures)
    (sample-none c.args.self.now s (ap (λ (x : SampleRow). x.stack) same ∙ gone))

pub returns : goal.returns
returns c = λ s at.
    let base : c.deref.result.now ≡ c.args.self.now.base = c.deref.ensures ∙ ap (λ (l : LayerLists). l.base) c.self.view_is in
    let here : slice_get c.args.self.now.base.samples c.args.k ≡ Some c.sample.result = subst (λ (b : ThreadTables). slice_get b.samples c.args.k ≡ Some c.sample.result) base c.sample.ensures.row in
    let same : s ≡ c.sample.result = cc in
    let there : c.sample.result.stack ≡ Some c.in_ok-stack.stack = c.in_ok-stack.was in
    let within : c.in_ok-stack.stack < length c.args.self.now.base.shared.stacks =
    subst (λ o. IfSome o (λ i. i < length c.args.self.now.base.shared.stacks)) there (subst (λ (b : ThreadTables). IfSome c.sample.result.stack (λ i. i < length b.shared.stacks)) base c.sample.ensures.stack) in
    subst (IsRowOf c.args.self.now.top c.entry.result) (sym (sample-in c.args.self.now s c.in_ok-stack.stack (sym (c.is_kept.ensures s at) ∙ c.if-not-is_kept.false) (ap (λ (x : SampleRow). x.stack) same ∙ there)))
    (subst (λ e. IsRowOf c.args.self.now.top e (rewrite_all c.args.self.now.base.shared (of_rows c.args.self.now.settled) [] (path c.args.self.now.base.shared.stacks (Some c.in_ok-stack.stack)) s.time)) (sym c.entry.ensures.entry)
    (c.entry.ensures.simulates.paths c.in_ok-stack.stack within s.time))
