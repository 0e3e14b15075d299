use Rattle.std.proofs.Common.{◌<◌, List, ℕ, length, sym, subst, arith}
use Rattle.std.specs.Prelude.{IsUtf8}
use Rattle.std.proofs.lemmas.Bool.Decides.{nat_tests}
use Rattle.prof_spell.specs.Spelling.{IsTaken}
use Rattle.prof_spell.proofs.Bytes.{eqb_is}
use Rattle.prof_request.specs.Reading.{names}
use Rattle.prof_request.proofs.ByteLemmas.{copied}
use Rattle.prof_request.proofs.NameLemmas.{name_more, name_past, name_none, name_end, name_utf8}
use Rattle.prof_request.proofs.naming.name.Goals as goal

pub returns-then-len-ge-NAME_LIMIT : goal.returns-then-len-ge-NAME_LIMIT
returns-then-len-ge-NAME_LIMIT c = name_past c.args.cursor.now c.bytes.cursor c.bytes.bytes.items c.in-Some.byte c.bytes.invariant c.in-Some.ensures.some.0 c.in-Some.ensures.some.1 (omega (arith, c.bytes.bytes.ok.0))

pub bytes-preserved : goal.bytes-preserved
bytes-preserved c =
    rw c.in-Ok.ensures.items
    (name_more c.args.cursor.now c.bytes.cursor c.pass.new.self c.bytes.bytes.items c.in-Some.byte c.bytes.invariant (c.pass.ensures _ c.in-Some.ensures.some.0) c.in-Some.ensures.some.1 (omega (arith, c.bytes.bytes.ok.0)))

pub returns-then-is_empty : goal.returns-then-is_empty
returns-then-is_empty c =
    let none = eqb_is _ 0 (sym c.if-is_empty.ensures) in
    name_none c.args.cursor.now c.bytes.cursor c.bytes.bytes.items c.bytes.invariant (omega (arith, c.bytes.bytes.ok.0)) c.in_default.ensures.none

pub text_of-requires : goal.text_of-requires
text_of-requires c =
    let items = c.bytes.bytes.items in
    let some : 0 < length items = grind (arith, nat_tests, c.bytes.bytes.ok.0) in
    let taken = name_end c.args.cursor.now c.bytes.cursor items c.bytes.invariant some c.in_default.ensures.none in
    subst IsUtf8 (sym c.as_slice.ensures.value) (name_utf8 items taken.fits)

pub returns : goal.returns
returns c =
    let items = c.bytes.bytes.items in
    let some : 0 < length items = grind (arith, nat_tests, c.bytes.bytes.ok.0) in
    let taken = name_end c.args.cursor.now c.bytes.cursor items c.bytes.invariant some c.in_default.ensures.none in
    copied names c.args.cursor.now c.bytes.cursor c.as_slice.result.now c.text_of.result c.text_of.ensures.text c.text_of.ensures.memory
    (subst (λ (s : List ℕ). IsTaken names c.args.cursor.now s c.bytes.cursor) (sym c.as_slice.ensures.value) taken)
