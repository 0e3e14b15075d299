use Rattle.std.proofs.Common.{◌++◌, ap, codes}
use Rattle.prof_reply.specs.Lines.{node_head}
use Rattle.prof_writer.specs.Writing.{quoted}
use Rattle.prof_page.proofs.Pages.{gathers_not, gathers_written}
use Rattle.prof_writer.proofs.Outputs.{writes_as}
use Rattle.prof_reply.proofs.tree.add_node.Goals as goal

pub returns-in_err-write_page : goal.returns-in_err-write_page
returns-in_err-write_page g c = gathers_not _ _ _ _ _ _ _ c.from_residual.ensures.0 c.in_err-write_page.ensures.written

pub returns : goal.returns
returns g c =
    gathers_written _ _ _ tt _ _ _ _ c.in_ok-write_page.ensures.written c.in_ok-write_page.ensures.empty
    (writes_as (ap (λ n. node_head c.args.node ++ (quoted n ++ codes "\n")) c.node_name-name.ensures) c.write_long_line.ensures)
