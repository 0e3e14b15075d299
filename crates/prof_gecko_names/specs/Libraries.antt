-- Libraries, and which one an address is in.
use Rattle.std.specs.Prelude.{ℕ, List, [], Bool, ◌&&◌, Option, nat_le, nat_lt, position, slice_index_or}

-- a library: the addresses from its start on, and below its end
pub record Lib : Type 0 where
  pub name : List ℕ
  pub start : ℕ
  pub end : ℕ

-- whether a library has an address
abbrev pub has_address : ℕ → Lib → Bool
has_address a lib = nat_le lib.start a && nat_lt a lib.end

-- the first library that has an address
abbrev pub library_of : List Lib → ℕ → Option ℕ
library_of libs a = position (has_address a) libs

abbrev pub no_lib : Lib
no_lib = record { name = []; start = 0; end = 0 }

abbrev pub lib_at : List Lib → ℕ → Lib
lib_at libs l = slice_index_or libs l no_lib
