use Rattle.std.proofs.Common.{◌≡◌, ◌∙◌, refl, ap, Ok, Err}
use Rattle.sqlite.specs.declared.error.ErrorCode.TheVariants.{Closed}
use Rattle.sqlite.specs.declared.error.Error.TheVariants.{SqliteFailure}
use Rattle.prof_sql_keeper.specs.Refusals.{refusal_of}
use Rattle.prof_sql_keeper.proofs.BaseLemmas.{on_base-none, on_base-ok}
use Rattle.prof_sql_keeper.proofs.sql_keeper.SqlKeeperKeeper.put.Goals as goal

pub returns-in-Ok-clause-base : goal.returns-in-Ok-clause-base
returns-in-Ok-clause-base c = (Ok c.in-Ok.field-0, refl, on_base-ok _ _ _ _ _ _ c.in-Ok.ensures)

pub returns-in-Err-clause-base : goal.returns-in-Err-clause-base
returns-in-Err-clause-base c =
    let refused = c.counted.ensures.named in (
      Err c.in-Err.error,
      ap (λ r. Err r) refused,
      on_base-none _ _ _ c.in-Err.ensures (λ closed.
          let error : c.in-Err.error ≡ SqliteFailure Closed = cc in
          ap (λ r. Err r) (refused ∙ ap refusal_of error)),
    )
