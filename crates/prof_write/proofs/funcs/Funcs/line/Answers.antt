use Rattle.std.specs.Prelude.{slice_get}
use Rattle.std.specs.Fmt.{decimal}
use Rattle.prof_grammar.specs.Value.{boolean}
use Rattle.prof_tables.specs.Threads.{Func}
use Rattle.prof_write.specs.Cells.{maybe_index, resource_index}
use Rattle.prof_write.specs.Compact.{compact}
use Rattle.prof_write.proofs.FuncLemmas.{resource_at, text_of_part}
use Rattle.prof_write.proofs.funcs.Funcs.line.Goals as goal

pub returns-in-Name : goal.returns-in-Name
returns-in-Name c =
    let row = slice_get c.args.self.now.thread.now.shared.funcs c.args.row in
    rw c.in-Name.is (text_of_part (λ (f : Func). f.name) decimal row c.func_strings.result.name c.number_line.result.bytes c.func_strings.ensures.name c.number_line.ensures)

pub returns-in-IsJs : goal.returns-in-IsJs
returns-in-IsJs c =
    let row = slice_get c.args.self.now.thread.now.shared.funcs c.args.row in
    rw c.in-IsJs.is (text_of_part (λ (f : Func). f.is_js) (λ b. compact (boolean b)) row c.is_js.result c.truth_line.result.bytes c.is_js.ensures c.truth_line.ensures)

pub returns-in-RelevantForJs : goal.returns-in-RelevantForJs
returns-in-RelevantForJs c =
    let row = slice_get c.args.self.now.thread.now.shared.funcs c.args.row in
    rw c.in-RelevantForJs.is
    (text_of_part (λ (f : Func). f.relevant_for_js) (λ b. compact (boolean b)) row c.relevant_for_js.result c.truth_line-in-RelevantForJs.result.bytes c.relevant_for_js.ensures c.truth_line-in-RelevantForJs.ensures)

pub returns-in-Resource : goal.returns-in-Resource
returns-in-Resource c =
    let t = c.args.self.now.thread.now.shared in
    rw c.in-Resource.is
    (text_of_part (λ (f : Func). f.resource) (λ r. compact (resource_index r)) (slice_get t.funcs c.args.row) c.func_resource.result c.resource_line.result.bytes
    (resource_at t c.args.row c.func_resource.result c.requires c.func_resource.ensures.value) c.resource_line.ensures)

pub returns-in-FileName : goal.returns-in-FileName
returns-in-FileName c =
    let row = slice_get c.args.self.now.thread.now.shared.funcs c.args.row in
    rw c.in-FileName.is
    (text_of_part (λ (f : Func). f.file) (λ n. compact (maybe_index n)) row c.func_strings-in-FileName.result.file c.maybe_index_line.result.bytes c.func_strings-in-FileName.ensures.file c.maybe_index_line.ensures)
