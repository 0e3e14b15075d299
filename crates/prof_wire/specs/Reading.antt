-- What is read of a connection.
use Rattle.std.specs.Prelude.{◌≡◌, ◌≢◌, ℕ, ◌+◌, ◌<◌, ◌≤◌, Bool, true, false, List, [], ◌++◌, length, take, IfSome, Some, None, MatchResult, Result, ⊤, IsTrue, if◌then◌else◌}
use Rattle.std.specs.declared.option.Option.{Option}
use Rattle.std.specs.Io.KnownBytes.{prepend_known, IsAtEnd}
use Rattle.httparse.specs.declared.spans.HeaderSpan.{HeaderSpan}
use Rattle.httparse.specs.declared.spans.RequestSpans.{RequestSpans}
use Rattle.httparse.specs.Grammar.{HasNoRequest}
use Rattle.httparse.specs.Spans.{IsRequestWithin, IsRequestOf, RequestOverflows}
use Rattle.prof_wire.specs.Heads.{HasNoHead}
use Rattle.prof_wire.specs.Messages.{IsHeadless}
use Rattle.prof_wire.specs.declared.reading.HeadFound.{HeadFound}
use Rattle.prof_wire.specs.declared.reading.HeadFound.TheVariants.{Whole, Partial, Broken}
use Rattle.prof_wire.specs.declared.reading.Filled.{Filled}
use Rattle.prof_wire.specs.declared.messages.WireEnd.{WireEnd}
use Rattle.prof_wire.specs.declared.messages.WireEnd.TheVariants.{End, HallFault}

-- what the parser finds at the front of some bytes, with room for 100 fields
abbrev pub Found : List ℕ → List HeaderSpan → HeadFound → Type 0
Found bytes fields (Whole r) = IsRequestWithin bytes fields r × IsRequestOf bytes fields r
Found bytes fields Partial = bytes ≢ [] → HasNoRequest bytes
Found bytes fields Broken = RequestOverflows 100 bytes × (bytes ≢ [])

-- the bytes that aren't used are the same as before: those ahead and those that are left
abbrev pub StaysUnused : List ℕ → Option (List ℕ) → List ℕ → Option (List ℕ) → Type 0
StaysUnused ahead left ahead_new left_new = IfSome left (λ rest. prepend_known ahead_new left_new ≡ Some (ahead ++ rest))

-- no head came, for this cause
abbrev pub IsHeadEnd : List ℕ → WireEnd → Type 0
IsHeadEnd bytes End = bytes ≡ []
IsHeadEnd bytes HallFault = ⊤
IsHeadEnd bytes end = (bytes ≢ []) × HasNoHead bytes × IsHeadless bytes end

-- a head was read: where its parts are, and how many bytes of the page are filled
abbrev pub ReadsHead : List ℕ → Option (List ℕ) → Result (RequestSpans × ℕ) WireEnd → List ℕ → List HeaderSpan → Option (List ℕ) → Type 0
ReadsHead ahead left result page fields left_new = MatchResult result
    (λ r. (r.1 ≤ length page) × StaysUnused ahead left (take r.1 page) left_new
    × IsRequestWithin (take r.1 page) fields r.0 × IsRequestOf (take r.1 page) fields r.0)
    (λ end. IfSome left (λ rest. IsHeadEnd (ahead ++ rest) end))

-- the body is whole, or the bytes ended before
abbrev pub IsFilled : List ℕ → List ℕ → Bool → List ℕ → Option (List ℕ) → Type 0
IsFilled had rest true body left_new = prepend_known body left_new ≡ Some (had ++ rest)
IsFilled had rest false body left_new = length had + length rest < length body

-- a body was filled, or the bytes ended before
abbrev pub ReadsBody : {E : Type 0} → List ℕ → Option (List ℕ) → Result Bool E → List ℕ → Option (List ℕ) → Type 0
ReadsBody had left result body left_new = MatchResult result
    (λ whole. IfSome left (λ rest. IsFilled had rest whole body left_new))
    (λ _. ⊤)

-- a page was filled further, or the bytes ended before it was full, and then nothing is left of them
pub record IsFurther (ahead : List ℕ) (left : Option (List ℕ)) (filled : Filled) (page : List ℕ) (left_new : Option (List ℕ)) : Type 0 where
  pub within : filled.end ≤ length page
  pub further : length ahead + (if filled.ended then 0 else 1) ≤ filled.end
  pub same : StaysUnused ahead left (take filled.end page) left_new
  pub over : IsTrue filled.ended → IsAtEnd left_new × (filled.end < length page)

abbrev pub ReadsOn : {E : Type 0} → List ℕ → Option (List ℕ) → Result Filled E → List ℕ → Option (List ℕ) → Type 0
ReadsOn ahead left result page left_new = MatchResult result (λ filled. IsFurther ahead left filled page left_new) (λ _. ⊤)
