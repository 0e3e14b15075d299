use Rattle.std.proofs.Common.{refl}
use Rattle.prof_wire.specs.Responses.{response_head}
use Rattle.prof_wire.proofs.responding.response_head.Goals as goal

pub returns : goal.returns
unfolding response_head
returns c =
    rw (
      c.push_str-10.ensures.bytes,
      c.push_str-9.ensures.bytes,
      c.push_str-8.ensures.bytes,
      c.push_str-7.ensures.bytes,
      c.push_str-6.ensures.bytes,
      c.push_str-5.ensures.bytes,
      c.push_str-4.ensures.bytes,
      c.push_str-3.ensures.bytes,
      c.push_str-2.ensures.bytes,
      c.push_str.ensures.bytes,
      c.new-line.ensures,
      c.as_str.ensures,
      c.phrase.ensures.value,
      c.format.ensures.text,
      c.allow_line.ensures.value,
      c.close_line.ensures.value,
    ) refl
