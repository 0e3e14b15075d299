use Rattle.std.proofs.Common.{◌≡◌, ◌^◌, ◌<◌, sym, ◌∙◌, ap, subst, ℤ, arith, to_z, of_z}
use Rattle.std.specs.Prelude.{unsigned_abs}
use Rattle.std.specs.Int.{w128}
use Rattle.std.proofs.lemmas.Int.{ints}
use Rattle.prof_grammar.specs.Value.{Value}
use Rattle.prof_raw.specs.declared.raw.TableLength.TheVariants.{Whole}
use Rattle.prof_json.specs.declared.answer.Event.{Event}
use Rattle.prof_gather.specs.Feeding.{Gives}
use Rattle.prof_layout.proofs.ReadCells.{length-whole, length-other}
use Rattle.prof_column.proofs.ValuesRead.{reads-number}
use Rattle.prof_column.proofs.columns.table_length.Goals as goal

same : (n : ℤ) → unsigned_abs n < 2 ^ 64 → to_z w128 (of_z w128 n) ≡ n
same n h = omega (arith, ints)

pub returns-in-Some-clause-length : goal.returns-in-Some-clause-length
returns-in-Some-clause-length g c =
    let text = c.number_text.result.now in
    let gives = subst (λ (e : Event). Gives c.args.feed.now e c.next.new.self) c.in-Number.is c.in_ok-first.ensures.ok in
    (Value.number text, reads-number c.args.feed.now c.next.new.self text gives c.number_text.ensures.last, ap Whole (same c.in-Some.n c.in-Some.ensures.within) ∙ sym (length-whole text c.in-Some.n c.in-Some.ensures.exact c.in-Some.ensures.within))

pub returns-in-None-clause-length : goal.returns-in-None-clause-length
returns-in-None-clause-length g c =
    let text = c.number_text.result.now in
    let gives = subst (λ (e : Event). Gives c.args.feed.now e c.next.new.self) c.in-Number.is c.in_ok-first.ensures.ok in
    let number = c.number_text.ensures.number in
    (Value.number text, reads-number c.args.feed.now c.next.new.self text gives c.number_text.ensures.last, sym (length-other text number.0 number.1 c.in-None.ensures.none))
