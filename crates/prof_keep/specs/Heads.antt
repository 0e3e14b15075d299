-- The heads of the texts, as words.
use Rattle.std.specs.Prelude.{ℕ, List}
use Rattle.prof_keep.specs.declared.head.Head.{Head}
use Rattle.prof_keep.specs.Saved.{head_text}

abbrev pub head_word : Head → List ℕ
head_word h = head_text h.0
