use Rattle.std.proofs.Common.{◌≡◌, [], map, take}
use Rattle.httparse.specs.Spans.{header_bytes}
use Rattle.prof_wire.specs.Heads.{values}
use Rattle.prof_wire.proofs.heads.value_named.Given as goal

abbrev pub invariant-loop-field : goal.invariant-loop-field
invariant-loop-field l = values l.name (map (header_bytes l.page) (take l.field-index l.fields)) ≡ []
