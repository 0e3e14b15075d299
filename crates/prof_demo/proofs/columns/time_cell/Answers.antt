use Rattle.std.proofs.Common.{◌*◌, ◌∙◌, ap, w64, arith}
use Rattle.std.proofs.lemmas.Int.{to_z_pos}
use Rattle.prof_time.specs.Spelling.{scaled_text}
use Rattle.prof_demo.proofs.columns.time_cell.Goals as goal

pub returns : goal.returns
returns c =
    let time = to_z_pos w64 (1000 * c.args.row) (omega arith) in
    c.write_scaled.ensures.text ∙ ap (scaled_text 6) time
