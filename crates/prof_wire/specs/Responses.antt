-- The bytes of responses.
use Rattle.std.specs.Prelude.{ℕ, Bool, true, false, List, [], ◌∷◌, ◌++◌, length, codes, decimal, unwrap_or, Some, None, IsTrue, ◌==◌}
use Rattle.std.specs.List.{list_any}
use Rattle.std.specs.declared.option.Option.{Option}
use Rattle.http.specs.StatusCode.{reason_phrase, code_digits}
use Rattle.prof_wire.specs.declared.messages.WireEnd.{WireEnd}
use Rattle.prof_wire.specs.declared.messages.WireEnd.TheVariants.{End, HallFault, Bad, HeadTooLong, BodyTooLong, Coded, Expect}
use Rattle.prof_wire.specs.declared.messages.Why.TheVariants.{Head, Cut, Host, Length}

-- the statuses of responses
abbrev pub statuses : List ℕ
statuses = 200 ∷ 400 ∷ 404 ∷ 405 ∷ 409 ∷ 413 ∷ 417 ∷ 422 ∷ 431 ∷ 501 ∷ 503 ∷ 507 ∷ []

abbrev pub IsStatus : ℕ → Type 0
IsStatus status = IsTrue (list_any (λ s. s == status) statuses)

-- the phrase of a status
abbrev pub reason : ℕ → List ℕ
reason status = unwrap_or (reason_phrase status) []

-- the field that names the methods which a command serves
abbrev pub allow_line : Option Bool → List ℕ
allow_line None = []
allow_line (Some true) = codes "allow: GET, POST\r\n"
allow_line (Some false) = codes "allow: POST\r\n"

-- the field that says that the connection ends after the response
abbrev pub close_line : Bool → List ℕ
close_line false = []
close_line true = codes "connection: close\r\n"

-- what stands before the body of a response
unfoldable pub response_head : ℕ → Option Bool → Bool → ℕ → List ℕ
response_head status allow last size =
    codes "HTTP/1.1 " ++ code_digits status ++ codes " " ++ reason status ++ codes "\r\ncontent-type: text/plain; charset=utf-8\r\ncontent-length: "
    ++ decimal size ++ codes "\r\n" ++ allow_line allow ++ close_line last ++ codes "\r\n"

abbrev pub response_bytes : ℕ → Option Bool → Bool → List ℕ → List ℕ
response_bytes status allow last body = response_head status allow last (length body) ++ body

-- the status and the body that answer a message which the wire refuses; nothing answers the end of a connection
abbrev pub refusal_of : WireEnd → Option (ℕ × List ℕ)
refusal_of End = None
refusal_of HallFault = None
refusal_of (Bad Head) = Some (400, codes "refused Bad Head\n")
refusal_of (Bad Cut) = Some (400, codes "refused Bad Cut\n")
refusal_of (Bad Host) = Some (400, codes "refused Bad Host\n")
refusal_of (Bad Length) = Some (400, codes "refused Bad Length\n")
refusal_of HeadTooLong = Some (431, codes "refused HeadTooLong\n")
refusal_of BodyTooLong = Some (413, codes "refused BodyTooLong\n")
refusal_of Coded = Some (501, codes "refused Coded\n")
refusal_of Expect = Some (417, codes "refused Expect\n")

-- the bytes of that answer, after which the connection ends
abbrev pub answer_bytes : Option (ℕ × List ℕ) → List ℕ
answer_bytes None = []
answer_bytes (Some answer) = response_bytes answer.0 None true answer.1

abbrev pub refusal_bytes : WireEnd → List ℕ
refusal_bytes end = answer_bytes (refusal_of end)
