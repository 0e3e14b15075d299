use Rattle.std.proofs.Common.{string_bytes, sym, ap, ◌∙◌, arith}
use Rattle.prof_path.specs.Terms.{has_within}
use Rattle.prof_path.proofs.Occurring.{any_at}
use Rattle.prof_path.proofs.seeking.some_occurs.Goals as goal

pub returns-then-occurs : goal.returns-then-occurs
returns-then-occurs c =
    any_at (λ term. has_within term c.args.text.now) string_bytes c.args.terms.now c.loop-term.term-index c.term-item.result (omega arith) c.term-item.is
    (ap (λ term. has_within term c.args.text.now) (sym c.as_bytes.ensures.value) ∙ (sym c.occurs.ensures ∙ c.if-occurs.true))
