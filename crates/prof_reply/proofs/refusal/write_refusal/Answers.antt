use Rattle.std.proofs.Common.{◌∷◌, ◌++◌, ◌∙◌, [], ℕ, List, codes, sym, append_assoc}
use Rattle.prof_machine.specs.declared.refusal.Refusal.{Refusal}
use Rattle.prof_reply.specs.Refusals.{digests_text, number_of, number_text, refusal_name}
use Rattle.prof_writer.proofs.Outputs.{writes_then, writes_failed, writes_as}
use Rattle.prof_reply.proofs.refusal.write_refusal.Goals as goal

-- what stands before the digests
abbrev head : Refusal → List ℕ
head refusal = codes "refused " ++ refusal_name refusal ++ number_text (number_of refusal)

pub returns-in_err-copy_out : goal.returns-in_err-copy_out
returns-in_err-copy_out g c =
    writes_as (sym (append_assoc (head c.args.refusal.now) (digests_text c.args.refusal.now) (10 ∷ [])))
    (writes_failed _ (digests_text c.args.refusal.now ++ 10 ∷ []) c.from_residual.ensures.0
    (writes_as (c.as_bytes.ensures.value ∙ c.as_str.ensures.value ∙ c.refusal_head.ensures) c.in_err-copy_out.ensures))

pub returns-in_err-write_digests : goal.returns-in_err-write_digests
returns-in_err-write_digests g c =
    writes_as (sym (append_assoc (head c.args.refusal.now) (digests_text c.args.refusal.now) (10 ∷ [])))
    (writes_then (writes_as (c.as_bytes.ensures.value ∙ c.as_str.ensures.value ∙ c.refusal_head.ensures) c.in_ok-copy_out.ensures)
    (writes_failed _ (10 ∷ []) c.from_residual-in_err-write_digests.ensures.0 c.in_err-write_digests.ensures))

pub returns : goal.returns
returns g c =
    writes_as (sym (append_assoc (head c.args.refusal.now) (digests_text c.args.refusal.now) (10 ∷ [])))
    (writes_then (writes_as (c.as_bytes.ensures.value ∙ c.as_str.ensures.value ∙ c.refusal_head.ensures) c.in_ok-copy_out.ensures)
    (writes_then c.in_ok-write_digests.ensures c.copy_out-2.ensures))
