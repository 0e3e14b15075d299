use Rattle.std.proofs.Common.{◌++◌, ◌∙◌, ◌∷◌, [], ℕ, List, codes, sym, append_assoc}
use Rattle.std.specs.Fmt.{decimal}
use Rattle.hex.specs.Hex.{encode_lower}
use Rattle.prof_read.specs.declared.read.Form.{Form}
use Rattle.prof_desk.specs.Summary.{form_text}
use Rattle.prof_writer.proofs.Outputs.{writes_then, writes_failed, writes_as}
use Rattle.prof_desk.proofs.summary.write_head.Goals as goal

-- what stands before the digest
abbrev head : Form → ℕ → List ℕ
head form threads = codes "ok " ++ form_text form ++ codes " threads " ++ decimal threads ++ codes " digest "

pub returns-in_err-copy_out : goal.returns-in_err-copy_out
returns-in_err-copy_out g c =
    writes_as (sym (append_assoc (head c.args.form c.args.threads) (encode_lower c.args.digest.now) (10 ∷ [])))
    (writes_failed _ (encode_lower c.args.digest.now ++ 10 ∷ []) c.from_residual.ensures.0
    (writes_as (c.as_bytes.ensures.value ∙ c.as_str.ensures.value ∙ c.summary_head.ensures) c.in_err-copy_out.ensures))

pub returns-in_err-copy_out-2 : goal.returns-in_err-copy_out-2
returns-in_err-copy_out-2 g c =
    writes_as (sym (append_assoc (head c.args.form c.args.threads) (encode_lower c.args.digest.now) (10 ∷ [])))
    (writes_then (writes_as (c.as_bytes.ensures.value ∙ c.as_str.ensures.value ∙ c.summary_head.ensures) c.in_ok-copy_out.ensures)
    (writes_failed _ (10 ∷ []) c.from_residual-in_err-copy_out-2.ensures.0 (writes_as c.digits_of.ensures c.in_err-copy_out-2.ensures)))

pub returns : goal.returns
returns g c =
    writes_as (sym (append_assoc (head c.args.form c.args.threads) (encode_lower c.args.digest.now) (10 ∷ [])))
    (writes_then (writes_as (c.as_bytes.ensures.value ∙ c.as_str.ensures.value ∙ c.summary_head.ensures) c.in_ok-copy_out.ensures)
    (writes_then (writes_as c.digits_of.ensures c.in_ok-copy_out-2.ensures) c.copy_out-3.ensures))
