use Rattle.prof_path.proofs.StepLaws.{merge_function, drop_function, focus_function, focus_category, collapse_recursion, collapse_function_subtree, filter_samples}
use Rattle.prof_path.proofs.laws.function_step.Goals as goal

pub returns : goal.returns
returns c = record { merge_function = merge_function; drop_function = drop_function; focus_function = focus_function; focus_category = focus_category; collapse_recursion = collapse_recursion; collapse_function_subtree = collapse_function_subtree; filter_samples = filter_samples }
