use Rattle.prof_writer.proofs.Outputs.{writes_then, writes_failed}
use Rattle.prof_desk.proofs.telling.put_line.Goals as goal

pub returns-in_err-copy_out : goal.returns-in_err-copy_out
returns-in_err-copy_out g c = writes_failed _ _ c.from_residual.ensures.0 c.in_err-copy_out.ensures

pub returns-in_err-copy_out-2 : goal.returns-in_err-copy_out-2
returns-in_err-copy_out-2 g c =
    writes_then c.in_ok-copy_out.ensures (writes_failed _ _ c.from_residual-in_err-copy_out-2.ensures.0 c.in_err-copy_out-2.ensures)

pub returns : goal.returns
returns g c =
    writes_then c.in_ok-copy_out.ensures (writes_then c.in_ok-copy_out-2.ensures c.copy_out-3.ensures)
