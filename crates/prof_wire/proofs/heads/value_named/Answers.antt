use Rattle.std.proofs.Common.{◌≡◌, Some, sym, ap, ◌∙◌}
use Rattle.httparse.specs.Spans.{header_bytes}
use Rattle.prof_wire.proofs.Fields.{first_named}
use Rattle.prof_wire.proofs.heads.value_named.Goals as goal

pub returns-then-is_named : goal.returns-then-is_named
returns-then-is_named c =
    ap Some c.of.ensures
    ∙ first_named c.args.name.now (header_bytes c.args.page.now) c.args.fields.now c.loop-field.field-index _ c.loop-field.invariant c.loop-field-test.true (sym c.if-is_named.ensures)
