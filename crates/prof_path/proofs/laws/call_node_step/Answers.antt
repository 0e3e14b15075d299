use Rattle.prof_path.proofs.StepLaws.{merge_call_node, focus_subtree, inverted_focus}
use Rattle.prof_path.proofs.laws.call_node_step.Goals as goal

pub returns : goal.returns
returns c = record { merge = merge_call_node; focus = focus_subtree; inverted = inverted_focus }
