use Rattle.std.proofs.Common.{◌≡◌, ℕ, ◌-◌, ◌<◌, [], List, length, ap, sym, subst, ◌∙◌, arith}
use Rattle.std.proofs.lemmas.Bool.Decides.{nat_tests}
use Rattle.prof_spell.specs.Spelling.{IsFault, IsTaken, IsStuck}
use Rattle.prof_spell.proofs.Parts.{stuck_fault, left_fault, spelled}
use Rattle.prof_address.specs.declared.kind.Form.TheVariants.{Second}
use Rattle.prof_address.specs.Transforms.{some_transforms}
use Rattle.prof_address.proofs.Lists.{spells_none, spells_lists, fault_lists, splits_some, no_bytes}
use Rattle.prof_address.proofs.reading.read_transforms.Goals as goal

pub returns-then-is_empty : goal.returns-then-is_empty
returns-then-is_empty c =
    let e : c.args.text.now ≡ [] = no_bytes c.args.text.now (grind (arith, nat_tests)) in
    rw (e, c.new.ensures.items) (spells_none Second)

pub returns-then-len-eq0 : goal.returns-then-len-eq0
returns-then-len-eq0 c =
    let start : c.new-cursor.result ≡ c.args.text.now = c.new-cursor.ensures ∙ c.as_bytes.ensures.value in
    let some : 0 < length c.args.text.now = grind (arith, nat_tests) in
    let taken = subst (λ (s : List ℕ). IsTaken (some_transforms Second) s c.in-Ok.list.items c.some_transforms.new.cursor) start c.in-Ok.ensures in
    let none : length c.some_transforms.new.cursor ≡ 0 = omega arith in
    spells_lists Second c.args.text.now c.in-Ok.list.items some (spelled (some_transforms Second) c.args.text.now c.some_transforms.new.cursor c.in-Ok.list.items (splits_some Second) taken none)

pub returns-else-len-eq0 : goal.returns-else-len-eq0
returns-else-len-eq0 c =
    let start : c.new-cursor.result ≡ c.args.text.now = c.new-cursor.ensures ∙ c.as_bytes.ensures.value in
    let some : 0 < length c.args.text.now = grind (arith, nat_tests) in
    let taken = subst (λ (s : List ℕ). IsTaken (some_transforms Second) s c.in-Ok.list.items c.some_transforms.new.cursor) start c.in-Ok.ensures in
    let left : 0 < length c.some_transforms.new.cursor = omega arith in
    let same : length c.args.text.now - length c.some_transforms.new.cursor ≡ length c.args.text.now - c.len-in-Ok.result = ap (λ n. length c.args.text.now - n) (sym c.len-in-Ok.ensures) in
    fault_lists Second c.args.text.now _ some (subst (λ (n : ℕ). IsFault (some_transforms Second) c.args.text.now n) same
    (left_fault (some_transforms Second) c.args.text.now c.some_transforms.new.cursor c.in-Ok.list.items (splits_some Second) taken left))

pub returns-in-Err-Fault : goal.returns-in-Err-Fault
returns-in-Err-Fault c =
    let start : c.new-cursor.result ≡ c.args.text.now = c.new-cursor.ensures ∙ c.as_bytes.ensures.value in
    let some : 0 < length c.args.text.now = grind (arith, nat_tests) in
    let stuck = subst (λ (s : List ℕ). IsStuck (some_transforms Second) s c.some_transforms.new.cursor) start (rw c.in-Err-Fault.field-0-is at c.in-Err-Fault.ensures) in
    let same : length c.args.text.now - length c.some_transforms.new.cursor ≡ length c.args.text.now - c.len-in-Err-Fault.result = ap (λ n. length c.args.text.now - n) (sym c.len-in-Err-Fault.ensures) in
    fault_lists Second c.args.text.now _ some (subst (λ (n : ℕ). IsFault (some_transforms Second) c.args.text.now n) same
    (stuck_fault (some_transforms Second) c.args.text.now c.some_transforms.new.cursor stuck))
