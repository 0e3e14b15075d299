use Rattle.std.proofs.Common.{◌≡◌, ◌++◌, length, ap}
use Rattle.prof_wire.specs.Responses.{response_head}
use Rattle.prof_writer.proofs.Outputs.{writes_as, writes_ok}
use Rattle.prof_wire.proofs.Written.{writes_err}
use Rattle.prof_wire.proofs.responding.write_response.Goals as goal

pub returns-in-Ok : goal.returns-in-Ok
returns-in-Ok g c =
    let e : c.as_bytes.result.now ≡ response_head c.args.status c.args.allow c.args.last (length c.args.body.now) = cc in
    writes_as (ap (λ l. l ++ c.args.body.now) e) (writes_ok {s = c.as_bytes.result.now ++ c.args.body.now} c.in-Ok.ensures)

pub returns-in-Err : goal.returns-in-Err
returns-in-Err g c =
    let e : c.as_bytes.result.now ≡ response_head c.args.status c.args.allow c.args.last (length c.args.body.now) = cc in
    writes_as (ap (λ l. l ++ c.args.body.now) e) (writes_err {s = c.as_bytes.result.now ++ c.args.body.now} c.in-Err.ensures)
