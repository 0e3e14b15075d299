use Rattle.std.proofs.Common.{◌<◌, length, arith, Some, None, Option, ℕ, List, sym, subst}
use Rattle.std.specs.Prelude.{All}
use Rattle.std.specs.Option.{IfSome}
use Rattle.prof_tables.specs.declared.rows.SampleRow.{SampleRow}
use Rattle.prof_tables.specs.Ties.{IsSample}
use Rattle.prof_tables.proofs.thread.Thread.with_samples.Goals as goal

raised : (o : Option ℕ) (m n : ℕ) → m < n → IfSome o (λ i. i < m) → IfSome o (λ i. i < n)
raised None m n h is = is
raised (Some i) m n h is = omega arith

pub of-requires : goal.of-requires
of-requires c k d lt =
    let few : length c.args.self.now.shared.stacks < 4294967295 = (let h = c.keeps.ensures.shared.tied.few_stacks in omega arith) in
    let fit : All (IsSample (length c.args.self.now.shared.stacks)) c.deref.result.now = subst (λ (xs : List SampleRow). All (IsSample (length c.args.self.now.shared.stacks)) xs) (sym c.deref.ensures.value) c.requires.fit in
    raised _ _ _ few (fit k d lt).stack
