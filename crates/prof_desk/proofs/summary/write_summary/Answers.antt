use Rattle.std.proofs.Common.{◌∙◌, ◌++◌, ℕ, List, codes, map, ap}
use Rattle.std.specs.Fmt.{decimal}
use Rattle.std.specs.List.{enumerate_from, flat_map}
use Rattle.hex.specs.Hex.{encode_lower}
use Rattle.prof_read.specs.declared.read.Form.{Form}
use Rattle.prof_tables.specs.Profiles.{ProfileTables}
use Rattle.prof_tables.specs.Threads.{ThreadTables}
use Rattle.prof_desk.specs.Summary.{form_text, thread_line}
use Rattle.prof_reply.specs.Lines.{line}
use Rattle.prof_desk.proofs.Held.{value}
use Rattle.prof_writer.proofs.Outputs.{writes_then, writes_failed, writes_as}
use Rattle.prof_desk.proofs.summary.write_summary.Goals as goal

-- the first line, by the number of threads
abbrev head : Form → List ℕ → ℕ → List ℕ
head form digest threads = line (codes "ok " ++ form_text form ++ codes " threads " ++ decimal threads ++ codes " digest " ++ encode_lower digest)

pub returns-in_err-write_head : goal.returns-in_err-write_head
returns-in_err-write_head g c =
    writes_failed _ (flat_map thread_line (enumerate_from 0 c.args.profile.now.threads)) c.from_residual.ensures.0
    (writes_as (ap (head c.args.form c.args.digest.now) c.thread_count.ensures) c.in_err-write_head.ensures)

pub returns : goal.returns
returns g c =
    writes_then (writes_as (ap (head c.args.form c.args.digest.now) c.thread_count.ensures) c.in_ok-write_head.ensures)
    (writes_as (ap (λ (ts : List ThreadTables). flat_map thread_line (enumerate_from 0 ts)) (ap (map value) c.deref.ensures.value ∙ ap (λ (p : ProfileTables). p.threads) c.profile.view_is))
    c.write_threads.ensures)
