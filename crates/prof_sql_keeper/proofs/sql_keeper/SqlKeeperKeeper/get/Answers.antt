use Rattle.std.proofs.Common.{◌≡◌, ◌∙◌, ap, sym, subst, inr}
use Rattle.sqlite.specs.declared.error.ErrorCode.TheVariants.{Closed}
use Rattle.sqlite.specs.declared.error.Error.TheVariants.{SqliteFailure}
use Rattle.prof_sql_keeper.specs.Bases.{OnBase}
use Rattle.prof_sql_keeper.specs.Refusals.{refusal_of}
use Rattle.prof_sql_keeper.specs.Table.{FindsText}
use Rattle.prof_sql_keeper.proofs.BaseLemmas.{on_base-none, on_base-ok}
use Rattle.prof_sql_keeper.proofs.sql_keeper.SqlKeeperKeeper.get.Goals as goal

pub returns-in-Err-clause-base : goal.returns-in-Err-clause-base
returns-in-Err-clause-base c =
    let refused = c.counted.ensures.named in
    inr (
      c.in-Err.error,
      refused,
      on_base-none _ _ _ c.in-Err.ensures (λ closed.
          let error : c.in-Err.error ≡ SqliteFailure Closed = cc in
          refused ∙ ap refusal_of error),
    )

pub returns-clause-base : goal.returns-clause-base
returns-clause-base c =
    subst (λ text. OnBase c.args.self.now.base c.find.new.self ⊥ (λ before after. FindsText before after c.args.key.now text))
    (sym c.in_ok-text.ensures.answer) (on_base-ok _ _ _ _ _ _ c.in-Ok.ensures)
