-- The lines of requests.
use Rattle.std.specs.Prelude.{◌≡◌, ◌≢◌, ⊤, ℕ, ◌+◌, ◌<◌, ◌≤◌, min, Bool, true, false, ◌==◌, ◌||◌, List, [], ◌∷◌, ◌++◌, length, take, codes, IsUtf8, Result, Ok, Err}
use Rattle.std.specs.Char.{is_ascii_lowercase, is_ascii_digit}
use Rattle.std.specs.Fmt.{decimal, signed_decimal}
use Rattle.prof_spell.specs.Spelling.{Language, Begins, Spells}
use Rattle.prof_spell.specs.Pieces.{IsI64, EachFits}
use Rattle.prof_path.specs.declared.transform.Range.{Range}
use Rattle.prof_address.specs.declared.kind.Form.TheVariants.{Second}
use Rattle.prof_address.specs.Transforms.{u32s, implementation_text, transform_text, transform_goes, IsOf}
use Rattle.prof_request.specs.declared.request.Command.{Command}
use Rattle.prof_request.specs.declared.request.Command.TheVariants.{OpenOn, LoadOn, Close, Push, PopTo, CommitRange, PopRangesTo, SetImplementation, SetSearch, Undo, Redo, Goto, Tree, Inverted, Markers, Address, Save}
use Rattle.prof_request.specs.declared.request.Request.{Request}
use Rattle.prof_request.specs.declared.refusal.LineRefusal.{LineRefusal}
use Rattle.prof_request.specs.declared.refusal.LineRefusal.TheVariants.{BadText, NoMemory}
use Rattle.prof_request.specs.declared.refusal.TheConstants.{LINE_LIMIT}

-- ---- the words of a line

-- `a` to `z`, `0` to `9`, `_` and `-`
abbrev pub is_name_byte : ℕ → Bool
is_name_byte b = ((is_ascii_lowercase b || is_ascii_digit b) || b == 95) || b == 45

abbrev pub IsNameByte : ℕ → Type 0
IsNameByte b = is_name_byte b ≡ true

-- a name of a session or a profile
pub record IsName (name : List ℕ) : Type 0 where
  pub bytes : EachFits IsNameByte name
  pub some : 0 < length name
  pub few : length name ≤ 64

abbrev pub IsNoLineEnd : ℕ → Type 0
IsNoLineEnd b = b ≢ 10

-- a text that can stand at the end of a line
pub record IsLineText (bytes : List ℕ) : Type 0 where
  pub utf8 : IsUtf8 bytes
  pub within : EachFits IsNoLineEnd bytes

-- a word, and the space behind it
abbrev pub spaced : List ℕ → List ℕ
spaced word = word ++ codes " "

-- the rest of a line: a text behind a space, or nothing
abbrev pub rest_text : List ℕ → List ℕ
rest_text [] = []
rest_text (b ∷ bytes) = codes " " ++ (b ∷ bytes)

abbrev pub range_text : Range → List ℕ
range_text range = spaced (signed_decimal range.start) ++ signed_decimal range.end

-- ---- the lines

-- what stands behind the session's name
abbrev pub command_text : Command → List ℕ
command_text (OpenOn profile thread) = codes "open " ++ (spaced profile ++ decimal thread)
command_text (LoadOn profile) = codes "load " ++ profile
command_text Close = codes "close"
command_text (Push version transform) = codes "push " ++ (spaced (decimal version) ++ transform_text transform)
command_text (PopTo version n) = codes "popto " ++ (spaced (decimal version) ++ decimal n)
command_text (CommitRange version range) = codes "range " ++ (spaced (decimal version) ++ range_text range)
command_text (PopRangesTo version n) = codes "poprangesto " ++ (spaced (decimal version) ++ decimal n)
command_text (SetImplementation version filter) = codes "implementation " ++ (spaced (decimal version) ++ implementation_text filter)
command_text (SetSearch version search) = codes "search " ++ (decimal version ++ rest_text search)
command_text (Undo version) = codes "undo " ++ decimal version
command_text (Redo version) = codes "redo " ++ decimal version
command_text (Goto version address) = codes "goto " ++ (decimal version ++ rest_text address)
command_text Tree = codes "tree"
command_text Inverted = codes "inverted"
command_text (Markers search) = codes "markers" ++ rest_text search
command_text Address = codes "address"
command_text Save = codes "save"

-- a command that has a text
abbrev pub IsWrittenCommand : Command → Type 0
IsWrittenCommand (OpenOn profile thread) = IsName profile × u32s.Fits thread
IsWrittenCommand (LoadOn profile) = IsName profile
IsWrittenCommand Close = ⊤
IsWrittenCommand (Push version transform) = u32s.Fits version × IsOf Second transform
IsWrittenCommand (PopTo version n) = u32s.Fits version × u32s.Fits n
IsWrittenCommand (CommitRange version range) = u32s.Fits version × (IsI64 range.start × IsI64 range.end)
IsWrittenCommand (PopRangesTo version n) = u32s.Fits version × u32s.Fits n
IsWrittenCommand (SetImplementation version filter) = u32s.Fits version
IsWrittenCommand (SetSearch version search) = u32s.Fits version × IsLineText search
IsWrittenCommand (Undo version) = u32s.Fits version
IsWrittenCommand (Redo version) = u32s.Fits version
IsWrittenCommand (Goto version address) = u32s.Fits version × IsLineText address
IsWrittenCommand Tree = ⊤
IsWrittenCommand Inverted = ⊤
IsWrittenCommand (Markers search) = IsLineText search
IsWrittenCommand Address = ⊤
IsWrittenCommand Save = ⊤

-- a byte that goes on with a command
abbrev pub command_goes : Command → ℕ → Bool
command_goes (OpenOn profile thread) b = is_ascii_digit b
command_goes (LoadOn profile) b = is_name_byte b
command_goes Close b = false
command_goes (Push version transform) b = transform_goes transform b
command_goes (PopTo version n) b = is_ascii_digit b
command_goes (CommitRange version range) b = is_ascii_digit b
command_goes (PopRangesTo version n) b = is_ascii_digit b
command_goes (SetImplementation version filter) b = false
command_goes (SetSearch version search) b = true
command_goes (Undo version) b = is_ascii_digit b
command_goes (Redo version) b = is_ascii_digit b
command_goes (Goto version address) b = true
command_goes Tree b = false
command_goes Inverted b = false
command_goes (Markers search) b = true
command_goes Address b = false
command_goes Save b = false

-- a request's line
abbrev pub request_text : Request → List ℕ
request_text r = spaced r.session ++ command_text r.command

-- a request that has a line, of any length
pub record IsWrittenRequest (r : Request) : Type 0 where
  pub session : IsName r.session
  pub command : IsWrittenCommand r.command

abbrev pub lines : Language Request
lines = record { text = request_text; Fits = IsWrittenRequest; goes = λ r. command_goes r.command }

-- a request that has a line within the limit
pub record IsRequest (r : Request) : Type 0 where
  pub written : IsWrittenRequest r
  pub short : length (request_text r) ≤ LINE_LIMIT

abbrev pub requests : Language Request
requests = record { text = request_text; Fits = IsRequest; goes = λ r. command_goes r.command }

-- ---- what a line is read as

-- The first `n` bytes are the longest front of these with which some line begins, of any length.
pub record IsLongestFront (bytes : List ℕ) (n : ℕ) : Type 0 where
  pub within : n ≤ length bytes
  pub begins : Begins lines (take n bytes)
  pub longest : n < length bytes → Begins lines (take (n + 1) bytes) → ⊥

-- No request has this line, and the place is the length of its longest front, but at most the limit.
pub record IsNoLine (bytes : List ℕ) (place : ℕ) : Type 0 where
  pub none : (r : Request) → IsRequest r → request_text r ≡ bytes → ⊥
  pub front : ℕ
  pub longest : IsLongestFront bytes front
  pub capped : place ≡ min front LINE_LIMIT

-- This is the request that has the line, or the place where the line is wrong.
abbrev pub TellsLine : List ℕ → Result Request ℕ → Type 0
TellsLine bytes (Ok r) = Spells requests bytes r
TellsLine bytes (Err place) = IsNoLine bytes place

-- what the reader of lines answers
abbrev pub ReadsLine : List ℕ → Result Request LineRefusal → Type 0
ReadsLine bytes (Ok r) = TellsLine bytes (Ok r)
ReadsLine bytes (Err (BadText place)) = TellsLine bytes (Err place)
ReadsLine bytes (Err NoMemory) = ⊤
