use Rattle.std.proofs.Common.{◌+◌, ◌-◌, length, take, drop, get_or, arith}
use Rattle.std.specs.List.{flat_map}
use Rattle.prof_writer.specs.Writing.{escape}
use Rattle.prof_writer.proofs.Outputs.{writes_then, writes_as, writes_ok, writes_failed}
use Rattle.prof_writer.proofs.Strings.{front_split, front_all, byte_split, next_byte, stop_is_escaped, escaping_more}
use Rattle.prof_writer.proofs.escaping.write_escaped.Goals as goal

pub returns-in_err-copy_out : goal.returns-in_err-copy_out
returns-in_err-copy_out g c =
    let i = c.loop-out.invariant in
    let rest = c.loop-out.rest.now in
    let len = c.plain_len-len.result in
    writes_as (front_split c.args.text.now i.done rest len i.is c.plain_len-len.ensures.value)
    (writes_failed c.from_residual.result (flat_map escape (drop len rest)) c.from_residual.ensures.0 (writes_then i.writes c.in_err-copy_out.ensures))

pub returns-then-len-rest : goal.returns-then-len-rest
returns-then-len-rest g c =
    let i = c.loop-out.invariant in
    let rest = c.loop-out.rest.now in
    let len = c.plain_len-len.result in
    writes_as (front_all c.args.text.now i.done rest len i.is c.plain_len-len.ensures.value (omega arith))
    (writes_ok (writes_then i.writes c.in_ok-copy_out.ensures))

pub write_escape-requires : goal.write_escape-requires
write_escape-requires g c = stop_is_escaped c.loop-out.rest.now c.plain_len-len.result c.plain_len-len.ensures.value (omega arith)

pub returns-in_err-write_escape : goal.returns-in_err-write_escape
returns-in_err-write_escape g c =
    let i = c.loop-out.invariant in
    let rest = c.loop-out.rest.now in
    let len = c.plain_len-len.result in
    let tail = take (length rest - (len + 1)) (drop (len + 1) rest) in
    writes_as (byte_split c.args.text.now i.done rest tail len (get_or rest len 0) i.is c.plain_len-len.ensures.value (next_byte rest len (omega arith)))
    (writes_failed c.from_residual-in_err-write_escape.result (flat_map escape tail) c.from_residual-in_err-write_escape.ensures.0 (writes_then (writes_then i.writes c.in_ok-copy_out.ensures) c.in_err-write_escape.ensures))

pub loop-out-preserved : goal.loop-out-preserved
loop-out-preserved g c =
    let rest = c.loop-out.rest.now in
    let len = c.plain_len-len.result in
    let tail = take (length rest - (len + 1)) (drop (len + 1) rest) in
    escaping_more c.args.text.now rest tail len (get_or rest len 0) c.loop-out.invariant c.plain_len-len.ensures.value (next_byte rest len (omega arith)) c.in_ok-copy_out.ensures c.in_ok-write_escape.ensures
