use Rattle.std.proofs.Common.{◌≡◌, ◌∙◌, List, ap, arith}
use Rattle.std.specs.Prelude.{map}
use Rattle.std.specs.List.{join_with_byte}
use Rattle.prof_page.proofs.Pages.{gathers_same}
use Rattle.prof_tables.specs.Profiles.{ProfileTables}
use Rattle.prof_tables.specs.Threads.{ThreadTables}
use Rattle.prof_write.specs.Cells.{texts_of_cells}
use Rattle.prof_write.specs.Written.{stack_rows, thread_value}
use Rattle.prof_write.proofs.profile.add_profile_threads.Goals as goal

pub returns : goal.returns
returns g c =
    let seen : List ThreadTables = map (λ t. t.value) c.deref.result.now in
    let same : seen ≡ c.args.profile.now.threads = ap (map (λ t. t.value)) c.deref.ensures.value ∙ ap (λ (v : ProfileTables). v.threads) c.profile.view_is in
    let rows = ap stack_rows same in
    record {
      text = gathers_same _ _ _ _ _ _ _ c.add_threads.ensures.text (ap (λ (ts : List ThreadTables). join_with_byte 44 (texts_of_cells thread_value ts)) same);
      reads = omega (arith, c.add_threads.ensures.reads);
    }
