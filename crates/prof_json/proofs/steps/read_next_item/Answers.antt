use Rattle.std.proofs.Common.{arith}
use Rattle.prof_json.specs.Parts.{behind}
use Rattle.prof_json.specs.Step.{ReadsPlain}
use Rattle.prof_json.proofs.Enclosing.{steps_value, takes_item}
use Rattle.prof_json.proofs.Items.{comma_turns}
use Rattle.prof_json.proofs.Standing.{in_array, behind_few}
use Rattle.prof_json.proofs.Whole.{plain_moves, plain_begins, plain_owns, plain_writes}
use Rattle.prof_json.proofs.steps.read_next_item.Goals as goal

pub returns-in-Some-clause-moves : goal.returns-in-Some-clause-moves
returns-in-Some-clause-moves g c =
    let r : ReadsPlain 44 (behind c.deref.result.now) c.args.input.now c.args.text.now c.read_plain_value.new.input c.read_plain_value.new.text c.in-Some.event = rw c.in-Some.is at c.in_ok-event.ensures.value in
    plain_moves _ r

pub returns-in-Some-clause-ok : goal.returns-in-Some-clause-ok
returns-in-Some-clause-ok g c =
    let r : ReadsPlain 44 (behind c.deref.result.now) c.args.input.now c.args.text.now c.read_plain_value.new.input c.read_plain_value.new.text c.in-Some.event = rw c.in-Some.is at c.in_ok-event.ensures.value in
    steps_value {b = c.args.input.now} (takes_item c.requires.within) (omega arith) (plain_begins c.requires.few r)

pub returns-in-Some-clause-own : goal.returns-in-Some-clause-own
returns-in-Some-clause-own g c =
    let r : ReadsPlain 44 (behind c.deref.result.now) c.args.input.now c.args.text.now c.read_plain_value.new.input c.read_plain_value.new.text c.in-Some.event = rw c.in-Some.is at c.in_ok-event.ensures.value in
    plain_owns _ r

pub returns-in-Some-clause-exact : goal.returns-in-Some-clause-exact
returns-in-Some-clause-exact g c = λ begun h.
    let xs = c.args.brackets.now.items in
    let few = c.requires.few in
    let r : ReadsPlain 44 (behind xs) c.args.input.now c.args.text.now c.read_plain_value.new.input c.read_plain_value.new.text c.in-Some.event = rw (c.in-Some.is, c.deref.ensures.value) at c.in_ok-event.ensures.value in
    plain_writes xs few (comma_turns (behind c.requires.within.outer) (in_array c.requires.within) (behind_few xs few)) h r
