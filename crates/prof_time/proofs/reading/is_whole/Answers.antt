use Rattle.std.proofs.Common.{refl, sym, ◌∙◌, arith}
use Rattle.std.specs.Prelude.{ℤ, unsigned_abs}
use Rattle.prof_time.specs.Scaled.{signed, IsExact}
use Rattle.prof_time.proofs.Bridges.{taken_digits, exact_size, exact_parts, exact_from, exact_is, tested}
use Rattle.prof_time.proofs.reading.is_whole.Goals as goal

pub whole_size-requires : goal.whole_size-requires
whole_size-requires c =
    record { digits = taken_digits c.args.text.now c.requires.0 c.of.result c.requires.1 c.of.ensures }

pub returns : goal.returns
returns c =
    let text = c.args.text.now in
    let m = c.requires.0 in
    let d = c.of.result in
    let both = tested c.whole_size.result _ ((z : ℤ) × IsExact text z) _ c.whole_size.ensures.some c.whole_size.ensures.none
    (λ size e. let exact = exact_size text m d size c.requires.1 c.of.ensures (omega arith) e in
    (signed d.negative exact.0, exact_from text m d exact.0 (signed d.negative exact.0) c.requires.1 c.of.ensures exact.1 refl))
    (λ none t. let parts = exact_parts text m d (unsigned_abs t.0) c.requires.1 c.of.ensures (omega arith) (exact_is text m t.0 c.requires.1 t.1) in
    none parts.0 parts.1) in
    (λ t. both.0 (sym c.is_some.ensures ∙ t), λ x. c.is_some.ensures ∙ both.1 x)
