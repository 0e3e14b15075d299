-- Heads of messages, and what their fields say.
use Rattle.std.specs.Prelude.{◌≡◌, ◌⊎◌, ℕ, ◌+◌, ◌<◌, ◌≤◌, Bool, true, false, ◌&&◌, ◌||◌, not, ◌==◌, nat_le, nat_lt, List, [], ◌∷◌, ◌++◌, length, map, filter, count_by, if◌then◌else◌, codes, Result, Ok, Err, Some, None}
use Rattle.std.specs.declared.option.Option.{Option}
use Rattle.std.specs.List.{list_any, list_all}
use Rattle.std.specs.Char.{is_ascii_digit}
use Rattle.std.specs.Str.{bytes_eq, str_eq_ignore_ascii_case}
use Rattle.std.specs.Str.Parse.{digits_value}
use Rattle.httparse.specs.Grammar.{RequestHead, ReadsRequest, print_request}
use Rattle.prof_wire.specs.declared.messages.WireEnd.{WireEnd}
use Rattle.prof_wire.specs.declared.messages.WireEnd.TheVariants.{Bad, Coded, Expect, BodyTooLong}
use Rattle.prof_wire.specs.declared.messages.Why.{Why}
use Rattle.prof_wire.specs.declared.messages.Why.TheVariants.{Host, Length}
use Rattle.prof_wire.specs.declared.messages.Verb.{Verb}
use Rattle.prof_wire.specs.declared.messages.Verb.TheVariants.{Get, Post, Other}

-- the bytes are that head and then the rest; a head has at most 100 fields and at most 65,536 bytes
pub record BeginsWith (bytes : List ℕ) (head : RequestHead) (rest : List ℕ) : Type 0 where
  pub reads : ReadsRequest bytes head rest
  pub few : length head.fields ≤ 100
  pub short : length (print_request head) ≤ 65536

-- the bytes begin with no head
abbrev pub HasNoHead : List ℕ → Type 0
HasNoHead bytes = (head : RequestHead) (rest : List ℕ) → ¬ (BeginsWith bytes head rest)

-- the bytes can't be continued to some that begin with a head
abbrev pub NeverHasHead : List ℕ → Type 0
NeverHasHead bytes = (more : List ℕ) → HasNoHead (bytes ++ more)

-- a field's name, and its value without the blanks around it
abbrev pub Pair : Type 0
Pair = List ℕ × List ℕ

-- the field has that name, without ASCII case
abbrev pub is_named : List ℕ → Pair → Bool
is_named name field = str_eq_ignore_ascii_case field.0 name

-- the field asks that the connection be closed
abbrev pub closes : Pair → Bool
closes field = is_named (codes "connection") field && str_eq_ignore_ascii_case field.1 (codes "close")

-- 1 to 18 decimal digits
abbrev pub is_size : List ℕ → Bool
is_size text = nat_lt 0 (length text) && nat_le (length text) 18 && list_all is_ascii_digit text

-- the size that these values give: 0 where there is none, and else what they all say
abbrev pub size_of : List (List ℕ) → Option ℕ
size_of [] = Some 0
size_of (text ∷ texts) = if is_size text && list_all (bytes_eq text) (text ∷ texts) then Some (digits_value 10 text) else None

-- the values of the fields of that name, in order
abbrev pub values : List ℕ → List Pair → List (List ℕ)
values name fields = map (λ (field : Pair). field.1) (filter (is_named name) fields)

-- the size of the body, or the refusal that stands first
abbrev pub sized : Option ℕ → Result ℕ WireEnd
sized None = Err (Bad Length)
sized (Some size) = if nat_lt 65536 size then Err BodyTooLong else Ok size

abbrev pub decide : ℕ → List Pair → Result ℕ WireEnd
decide minor fields =
    if minor == 1 && not (count_by (is_named (codes "host")) fields == 1) then Err (Bad Host) else (
    if list_any (is_named (codes "transfer-encoding")) fields then Err Coded else (
    if list_any (is_named (codes "expect")) fields then Err Expect else
    sized (size_of (values (codes "content-length") fields))))

-- a message is its connection's last one: of version 1.0, with a field that closes, or the 1,000th
abbrev pub is_last : ℕ → ℕ → List Pair → Bool
is_last given minor fields = minor == 0 || list_any closes fields || nat_le 999 given

-- the verb of a method
abbrev pub verb_of : List ℕ → Verb
verb_of method = if bytes_eq method (codes "GET") then Get else (if bytes_eq method (codes "POST") then Post else Other)
