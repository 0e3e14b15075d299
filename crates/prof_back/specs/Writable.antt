-- Values that can be written and read back.
use Rattle.std.specs.Prelude.{ℕ, zero, suc, IsUtf8, ⊤}
use Rattle.prof_grammar.specs.Value.{Value, Values, Members, null, boolean, number, string, array, object, no_values, value, no_members, member}
use Rattle.prof_time.specs.Numeral.{Numeral, IsNumber}

-- The names and strings are UTF-8, the numbers' texts are numbers of JSON, and at most so many brackets are open at once.
abbrev mutual
  pub IsWritable : Value → ℕ → Type 0
  IsWritable null most = ⊤
  IsWritable (boolean b) most = ⊤
  IsWritable (number text) most = (m : Numeral) × IsNumber text m
  IsWritable (string text) most = IsUtf8 text
  IsWritable (array vs) zero = ⊥
  IsWritable (array vs) (suc most) = AreWritable vs most
  IsWritable (object ms) zero = ⊥
  IsWritable (object ms) (suc most) = AreWritableMembers ms most

  pub AreWritable : Values → ℕ → Type 0
  AreWritable no_values most = ⊤
  AreWritable (value v vs) most = IsWritable v most × AreWritable vs most

  pub AreWritableMembers : Members → ℕ → Type 0
  AreWritableMembers no_members most = ⊤
  AreWritableMembers (member n v ms) most = IsUtf8 n × IsWritable v most × AreWritableMembers ms most
