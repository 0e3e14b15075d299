-- JSON texts and their events (RFC 8259, sections 2 to 5).
use Rattle.std.specs.Prelude.{ℕ, true, false, List, [], ◌∷◌, ◌++◌, codes}
use Rattle.prof_grammar.specs.Event.{Event, object_start, object_end, array_start, array_end, name, str, number, truth, null}
use Rattle.prof_grammar.specs.Lexical.{IsBlank, IsString}
use Rattle.prof_time.specs.Numeral.{Numeral, IsNumber}

-- a value, and the parts of arrays and objects
pub data Symbol : Type 0 where
  value : Symbol
  items : Symbol
  more_items : Symbol
  members : Symbol
  member : Symbol
  more_members : Symbol

-- `Is symbol text events`: the text is one of that symbol, and it tells these events.
pub data Is : Symbol → List ℕ → List Event → Type 0 where
  true_word : Is value (codes "true") (truth true ∷ [])
  false_word : Is value (codes "false") (truth false ∷ [])
  null_word : Is value (codes "null") (null ∷ [])
  numeral : {t : List ℕ} {m : Numeral} → IsNumber t m → Is value t (number t ∷ [])
  string : {t s : List ℕ} → IsString t s → Is value t (str s ∷ [])
  -- an array: [, blanks, and its items with the closing bracket
  array : {a t : List ℕ} {es : List Event} → IsBlank a → Is items t es → Is value (91 ∷ a ++ t) (array_start ∷ es)
  -- items: ], or a value, blanks and more items
  no_items : Is items (codes "]") (array_end ∷ [])
  some_items : {v a t : List ℕ} {es fs : List Event} → Is value v es → IsBlank a → Is more_items t fs → Is items (v ++ (a ++ t)) (es ++ fs)
  -- more items: ], or a comma, blanks, a value, blanks and more items
  last_item : Is more_items (codes "]") (array_end ∷ [])
  next_item : {a v b t : List ℕ} {es fs : List Event} → IsBlank a → Is value v es → IsBlank b → Is more_items t fs → Is more_items (44 ∷ a ++ (v ++ (b ++ t))) (es ++ fs)
  -- an object: {, blanks, and its members with the closing brace
  object : {a t : List ℕ} {es : List Event} → IsBlank a → Is members t es → Is value (123 ∷ a ++ t) (object_start ∷ es)
  no_members : Is members (codes "}") (object_end ∷ [])
  some_members : {m t : List ℕ} {es fs : List Event} → Is member m es → Is more_members t fs → Is members (m ++ t) (es ++ fs)
  last_member : Is more_members (codes "}") (object_end ∷ [])
  next_member : {a m t : List ℕ} {es fs : List Event} → IsBlank a → Is member m es → Is more_members t fs → Is more_members (44 ∷ a ++ (m ++ t)) (es ++ fs)
  -- a member: a string, a colon and a value, with blanks between and behind
  one_member : {k s a b v c : List ℕ} {es : List Event} → IsString k s → IsBlank a → IsBlank b → Is value v es → IsBlank c → Is member (k ++ (a ++ (58 ∷ b ++ (v ++ c)))) (name s ∷ es)

-- a byte order mark, or none
pub data IsMark : List ℕ → Type 0 where
  no_mark : IsMark []
  byte_order_mark : IsMark (0xEF ∷ 0xBB ∷ 0xBF ∷ [])

-- a JSON text, of any depth
pub data IsJson : List ℕ → List Event → Type 0 where
  json : {m a v b : List ℕ} {es : List Event} → IsMark m → IsBlank a → Is value v es → IsBlank b → IsJson (m ++ (a ++ (v ++ b))) es

-- some JSON text begins with these bytes
abbrev pub BeginsJson : List ℕ → Type 0
BeginsJson bytes = (more : List ℕ) × (es : List Event) × IsJson (bytes ++ more) es
