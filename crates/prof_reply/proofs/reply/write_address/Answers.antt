use Rattle.std.proofs.Common.{◌∷◌, ◌++◌, [], codes, sym, append_assoc}
use Rattle.prof_writer.proofs.Outputs.{writes_then, writes_failed, writes_as}
use Rattle.prof_reply.proofs.reply.write_address.Goals as goal

pub returns-in_err-copy_out : goal.returns-in_err-copy_out
returns-in_err-copy_out g c =
    writes_as (sym (append_assoc (codes "address ") c.args.view.now (10 ∷ [])))
    (writes_failed _ (c.args.view.now ++ 10 ∷ []) c.from_residual.ensures.0 c.in_err-copy_out.ensures)

pub returns-in_err-copy_out-2 : goal.returns-in_err-copy_out-2
returns-in_err-copy_out-2 g c =
    writes_as (sym (append_assoc (codes "address ") c.args.view.now (10 ∷ [])))
    (writes_then c.in_ok-copy_out.ensures
    (writes_failed _ (10 ∷ []) c.from_residual-in_err-copy_out-2.ensures.0 (writes_as c.as_bytes.ensures.value c.in_err-copy_out-2.ensures)))

pub returns : goal.returns
returns g c =
    writes_as (sym (append_assoc (codes "address ") c.args.view.now (10 ∷ [])))
    (writes_then c.in_ok-copy_out.ensures (writes_then (writes_as c.as_bytes.ensures.value c.in_ok-copy_out-2.ensures) c.copy_out-3.ensures))
