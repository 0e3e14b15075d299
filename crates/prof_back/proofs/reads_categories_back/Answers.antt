use Rattle.prof_back.proofs.Categories.{category_names_back, default_back, categories_pass}
use Rattle.prof_back.proofs.reads_categories_back.Goals as goal

pub returns : goal.returns
returns c = record { names = category_names_back; default = default_back; pass = categories_pass }
