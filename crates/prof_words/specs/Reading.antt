-- Words as texts, and what the reading of a word comes to.
use Rattle.std.specs.Prelude.{◌≡◌, ℕ, List, map, Option, Some, None, Result, Ok, Err, ⊤, string_bytes, String}
use Rattle.std.specs.Borrow.{Bor}
use Rattle.std.specs.declared.alloc.Global.{Global}
use Rattle.prof_words.specs.declared.order.WordRefusal.{WordRefusal}
use Rattle.prof_words.specs.declared.order.WordRefusal.TheVariants.{Usage, NoMemory}

-- the words as texts
abbrev pub texts_of : List (String Global) → List (List ℕ)
texts_of words = map string_bytes words

abbrev pub texts : List (Bor (List ℕ)) → List (List ℕ)
texts words = map (λ word. word.now) words

-- What a reader of words answers: the value that they stand for; usage only where they stand for none; and that memory
-- ran out, whatever they are.
abbrev pub Reads : {T : Type 0} → Option T → Result T WordRefusal → Type 0
Reads value (Ok read) = value ≡ Some read
Reads value (Err Usage) = value ≡ None
Reads value (Err NoMemory) = ⊤
