use Rattle.std.proofs.Common.{◌≡◌, ◌<◌, ◌≤◌, ◌+◌, ◌++◌, ◌∙◌, List, [], Some, ap, arith, length, take, get_or, nat_lt, sym}
use Rattle.std.specs.Prelude.{map, slice_get}
use Rattle.std.proofs.lemmas.List.{length-map}
use Rattle.prof_page.proofs.Pages.{gathers_none, gathers_same}
use Rattle.prof_tables.specs.Threads.{ThreadTables}
use Rattle.prof_writer.specs.Writing.{comma_text}
use Rattle.prof_write.specs.Cells.{texts_of_cells}
use Rattle.prof_write.specs.Compact.{compact}
use Rattle.prof_write.specs.Written.{stack_rows, thread_value}
use Rattle.prof_write.proofs.CellLemmas.{length-cells, text_of_row}
use Rattle.prof_write.proofs.Loops.{all_added, item_added, item_stopped}
use Rattle.prof_write.proofs.ThreadLemmas.{rows_more, rows_within, seen_at}
use Rattle.prof_write.proofs.profile.add_threads.Goals as goal

pub loop-place-init : goal.loop-place-init
loop-place-init g c = record { text = gathers_none _ tt _; reads = omega arith }

pub returns-in_err-add_next_thread : goal.returns-in_err-add_next_thread
returns-in_err-add_next_thread g c =
    let ts : List ThreadTables = map (λ t. t.value) c.args.threads.now in
    let cells = texts_of_cells thread_value ts in
    let place = c.loop-place.place in
    let t = c.deref.result.now in
    let all : length ts ≡ length c.args.threads.now = length-map c.args.threads.now (λ t. t.value) in
    let many : length cells ≡ length ts = length-cells thread_value ts in
    let inside : place < length c.args.threads.now = omega arith in
    let within : place < length ts = omega arith in
    let below : place < length cells = omega arith in
    let read : slice_get ts place ≡ Some t =
    seen_at (λ t. t.value) c.args.threads.now place c.index-threads-place.result inside c.index-threads-place.is ∙ ap (λ (v : ThreadTables). Some v) (sym c.deref.ensures) in
    let is : comma_text (nat_lt 0 place) ++ compact (thread_value t) ≡ comma_text (nat_lt 0 place) ++ get_or cells place [] =
    ap (λ l. comma_text (nat_lt 0 place) ++ l) (sym (text_of_row thread_value ts place t read)) in
    let more : stack_rows (take (place + 1) ts) ≡ stack_rows (take place ts) + length t.shared.stacks = rows_more ts place t within read in
    let least : stack_rows (take (place + 1) ts) ≤ stack_rows ts = rows_within ts (place + 1) in
    record {
      text = item_stopped _ _ _ tt _ _ cells place _ _ _ below c.from_residual.ensures.0 c.loop-place.invariant.text (gathers_same _ _ _ _ _ _ _ c.in_err-add_next_thread.ensures.text is);
      reads = omega (arith, c.loop-place.invariant.reads, c.in_err-add_next_thread.ensures.reads);
    }

pub loop-place-preserved : goal.loop-place-preserved
loop-place-preserved g c =
    let ts : List ThreadTables = map (λ t. t.value) c.args.threads.now in
    let cells = texts_of_cells thread_value ts in
    let place = c.loop-place.place in
    let t = c.deref.result.now in
    let all : length ts ≡ length c.args.threads.now = length-map c.args.threads.now (λ t. t.value) in
    let many : length cells ≡ length ts = length-cells thread_value ts in
    let inside : place < length c.args.threads.now = omega arith in
    let within : place < length ts = omega arith in
    let below : place < length cells = omega arith in
    let read : slice_get ts place ≡ Some t =
    seen_at (λ t. t.value) c.args.threads.now place c.index-threads-place.result inside c.index-threads-place.is ∙ ap (λ (v : ThreadTables). Some v) (sym c.deref.ensures) in
    let is : comma_text (nat_lt 0 place) ++ compact (thread_value t) ≡ comma_text (nat_lt 0 place) ++ get_or cells place [] =
    ap (λ l. comma_text (nat_lt 0 place) ++ l) (sym (text_of_row thread_value ts place t read)) in
    let more : stack_rows (take (place + 1) ts) ≡ stack_rows (take place ts) + length t.shared.stacks = rows_more ts place t within read in
    let least : stack_rows (take (place + 1) ts) ≤ stack_rows ts = rows_within ts (place + 1) in
    record {
      text = item_added _ _ _ tt _ cells place _ _ _ below c.loop-place.invariant.text (gathers_same _ _ _ _ _ _ _ c.in_ok-add_next_thread.ensures.text is);
      reads = omega (arith, c.loop-place.invariant.reads, c.in_ok-add_next_thread.ensures.reads);
    }

pub returns : goal.returns
returns g c =
    let ts : List ThreadTables = map (λ t. t.value) c.args.threads.now in
    let cells = texts_of_cells thread_value ts in
    let many : length cells ≡ length ts = length-cells thread_value ts in
    let all : length ts ≡ length c.args.threads.now = length-map c.args.threads.now (λ t. t.value) in
    let ended : length cells ≤ c.loop-place.place = omega arith in
    let least : stack_rows (take c.loop-place.place ts) ≤ stack_rows ts = rows_within ts c.loop-place.place in
    record {
      text = all_added _ _ tt _ cells c.loop-place.place _ _ ended c.loop-place.invariant.text;
      reads = omega (arith, c.loop-place.invariant.reads);
    }
