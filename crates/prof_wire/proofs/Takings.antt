-- A message taken out of the bytes of a connection.
use Rattle.std.proofs.Common.{◌≡◌, ◌≢◌, ◌⊎◌, inl, inr, ℕ, zero, suc, ◌+◌, ◌-◌, ◌<◌, ◌≤◌, Bool, true, false, nat_le, List, [], ◌∷◌, ◌++◌, length, take, drop, map, min, Some, None, IfSome, Ok, Err, Result, refl, sym, ap, ◌∙◌, subst, append_assoc, append-nil, length-append, drop-drop, le-leb, slice_range, if◌then◌else◌, arith}
use Rattle.std.proofs.Math.Seq.{take-append_seam, drop-append_seam}
use Rattle.std.proofs.Math.ListN.{drop_of_length-le}
use Rattle.std.proofs.lemmas.List.{take-append-drop, take-append-le, length-take, length-take-le, length-drop, drop-take, take-take, take_at}
use Rattle.std.proofs.lemmas.List.{length-map}
use Rattle.std.proofs.lemmas.Bool.{lt-leb}
use Rattle.std.specs.List.{copy_within}
use Rattle.std.specs.declared.option.Option.{Option}
use Rattle.std.specs.Io.KnownBytes.{prepend_known}
use Rattle.httparse.specs.declared.spans.HeaderSpan.{HeaderSpan}
use Rattle.httparse.specs.declared.spans.RequestSpans.{RequestSpans}
use Rattle.httparse.specs.Grammar.{RequestHead, ReadsRequest, print_request}
use Rattle.httparse.specs.Spans.{IsRequestWithin, IsRequestOf, IsRequestAt, header_bytes, name_and_value, span_bytes}
use Rattle.prof_wire.specs.Heads.{BeginsWith, HasNoHead, Pair, decide, is_last, verb_of}
use Rattle.prof_wire.specs.Messages.{Asked, Next, message, ending, after_head, with_body, Comes, at_end, headed, headless}
use Rattle.prof_wire.specs.Reading.{StaysUnused, IsFilled, IsHeadEnd}
use Rattle.prof_wire.specs.Taking.{ComesOut, EndsSo}
use Rattle.prof_wire.specs.declared.messages.WireEnd.{WireEnd}
use Rattle.prof_wire.specs.declared.messages.WireEnd.TheVariants.{End, HallFault, Bad, HeadTooLong, BodyTooLong, Coded, Expect}
use Rattle.prof_wire.specs.declared.messages.Verb.{Verb}
use Rattle.prof_wire.specs.declared.messages.Why.TheVariants.{Head, Cut, Host, Length}

same_front : (a b c d : List ℕ) → a ++ b ≡ c ++ d → length a ≡ length c → a ≡ c
same_front a b c d e l = sym (take-append_seam a b) ∙ ap (λ z. take (length a) z) e ∙ ap (λ n. take n (c ++ d)) l ∙ take-append_seam c d

same_back : (a b c d : List ℕ) → a ++ b ≡ c ++ d → length a ≡ length c → b ≡ d
same_back a b c d e l = sym (drop-append_seam a b) ∙ ap (λ z. drop (length a) z) e ∙ ap (λ n. drop n (c ++ d)) l ∙ drop-append_seam c d

take_whole : (xs : List ℕ) (n : ℕ) → length xs ≤ n → take n xs ≡ xs
take_whole xs n h = sym (append-nil (take n xs)) ∙ ap (λ l. take n xs ++ l) (sym (drop_of_length-le xs h)) ∙ take-append-drop n xs

le_or_above : (m n : ℕ) → (m ≤ n) ⊎ (n < m)
le_or_above zero n = inl (omega arith)
le_or_above (suc m) zero = inr (omega arith)
le_or_above (suc m) (suc n) = elim (le_or_above m n) [ inl h ↦ inl (omega arith) | inr h ↦ inr (omega arith) ]

-- the front of the page, once what is ahead was moved there
pub shifted : (page : List ℕ) (used filled : ℕ) → used ≤ filled → filled ≤ length page → take (filled - used) (copy_within page used filled 0) ≡ drop used (take filled page)
shifted page used filled a b =
    let n : ℕ = filled - used in
    let moved : List ℕ = take n (drop used page) in
    let size : length moved ≡ n = length-take-le n (drop used page) (omega (arith, length-drop used page)) in
    let sum : used + n ≡ filled = omega arith in
    let front : take n (moved ++ drop (0 + n) page) ≡ moved = ap (λ k. take k (moved ++ drop (0 + n) page)) (sym size) ∙ take-append_seam moved (drop (0 + n) page) in
    front ∙ sym (drop-take used n page) ∙ ap (λ k. drop used (take k page)) sum

-- the bytes behind a head are the body and what isn't used
body_split : (d x b y : List ℕ) (size have : ℕ) → have ≡ min size (length d) → length b ≡ size → b ++ y ≡ take have d ++ x
    → (size ≤ length d) ⊎ (length d < size) → d ++ x ≡ b ++ (drop have d ++ y)
body_split d x b y size have is_min size_is e (inl le) =
    let whole : have ≡ size = omega arith in
    let lens : length b ≡ length (take have d) = omega (arith, length-take-le have d (omega arith)) in
    let fronts : b ≡ take have d = same_front b y (take have d) x e lens in
    let backs : y ≡ x = same_back b y (take have d) x e lens in
    ap (λ l. l ++ x) (sym (take-append-drop have d)) ∙ append_assoc (take have d) (drop have d) x
    ∙ ap (λ l. l ++ (drop have d ++ x)) (sym fronts) ∙ ap (λ l. b ++ (drop have d ++ l)) (sym backs)
body_split d x b y size have is_min size_is e (inr above) =
    let gone : drop have d ≡ [] = drop_of_length-le d (omega arith) in
    let all : take have d ≡ d = take_whole d have (omega arith) in
    ap (λ l. l ++ x) (sym all) ∙ sym e ∙ ap (λ l. b ++ (l ++ y)) (sym gone)

-- the bytes begin with the head that the parser found
begins : (page x : List ℕ) (r : RequestSpans) (fields : List HeaderSpan) (head : RequestHead) → length fields ≡ 100 → length page ≤ 65536
    → IsRequestWithin page fields r → IsRequestAt page fields r head → BeginsWith (page ++ x) head (drop r.len page ++ x)
begins page x r fields head room size within found =
    let more : page ++ x ≡ print_request head ++ (drop r.len page ++ x) = ap (λ l. l ++ x) found.reads.1 ∙ append_assoc (print_request head) (drop r.len page) x in
    let same : length (map (header_bytes page) (take r.headers fields)) ≡ length (map name_and_value head.fields) = ap length found.fields in
    record {
      reads = (found.reads.0, more);
      few = omega (arith, simp length-map at same, length-take r.headers fields, room);
      short = omega (arith, found.len, within.section.len_fits, size);
    }

-- the message of a head and a body
given_message : (given : ℕ) (head : RequestHead) (rest body unused : List ℕ) (size : ℕ) → Ok size ≡ decide head.minor (map name_and_value head.fields)
    → rest ≡ body ++ unused → length body ≡ size
    → after_head given head rest ≡ message (record { method = verb_of head.method; target = head.target; body = body; last = is_last given head.minor (map name_and_value head.fields) }) unused
given_message given head rest body unused size decided split long =
    let fits : nat_le size (length rest) ≡ true = le-leb size (length rest) (omega (arith, ap length split, length-append body unused)) in
    let front : take size rest ≡ body = ap (λ n. take n rest) (sym long) ∙ ap (λ l. take (length body) l) split ∙ take-append_seam body unused in
    let back : drop size rest ≡ unused = ap (λ n. drop n rest) (sym long) ∙ ap (λ l. drop (length body) l) split ∙ drop-append_seam body unused in
    ap (λ d. with_body d given head rest) (sym decided)
    ∙ ap (λ (b : Bool). if b then message (record { method = verb_of head.method; target = head.target; body = take size rest; last = is_last given head.minor (map name_and_value head.fields) }) (drop size rest) else ending (Bad Cut)) fits
    ∙ ap (λ l. message (record { method = verb_of head.method; target = head.target; body = l; last = is_last given head.minor (map name_and_value head.fields) }) (drop size rest)) front
    ∙ ap (λ l. message (record { method = verb_of head.method; target = head.target; body = body; last = is_last given head.minor (map name_and_value head.fields) }) l) back

whole_core : (given : ℕ) (page x body y : List ℕ) (r : RequestSpans) (fields : List HeaderSpan) (size have : ℕ) (head : RequestHead)
    → IsRequestWithin page fields r → IsRequestAt page fields r head → length fields ≡ 100 → length page ≤ 65536
    → Ok size ≡ decide r.version (map (header_bytes page) (take r.headers fields))
    → have ≡ min size (length page - r.len) → length body ≡ size → body ++ y ≡ take have (drop r.len page) ++ x
    → Comes given (page ++ x) (message (record { method = verb_of (span_bytes page r.method); target = span_bytes page r.path; body = body; last = is_last given r.version (map (header_bytes page) (take r.headers fields)) }) (drop (r.len + have) page ++ y))
whole_core given page x body y r fields size have head within found room long decided is_min size_is read =
    let d : List ℕ = drop r.len page in
    let least : have ≡ min size (length d) = omega (arith, is_min, length-drop r.len page) in
    let split : d ++ x ≡ body ++ (drop have d ++ y) = body_split d x body y size have least size_is read (le_or_above size (length d)) in
    let decided_head : Ok size ≡ decide head.minor (map name_and_value head.fields) = decided ∙ ap (λ v. decide v (map (header_bytes page) (take r.headers fields))) found.version ∙ ap (λ l. decide head.minor l) found.fields in
    let is_message = given_message given head (d ++ x) body (drop have d ++ y) size decided_head split size_is in
    let comes : Comes given (page ++ x) (after_head given head (d ++ x)) = headed head (d ++ x) (begins page x r fields head room long within found) refl in
    let lasts : is_last given r.version (map (header_bytes page) (take r.headers fields)) ≡ is_last given head.minor (map name_and_value head.fields) = ap (λ v. is_last given v (map (header_bytes page) (take r.headers fields))) found.version ∙ ap (λ l. is_last given head.minor l) found.fields in
    let moved : drop have d ≡ drop (r.len + have) page = drop-drop have r.len page in
    rw (found.method, found.path, lasts, ← moved) (subst (λ n. Comes given (page ++ x) n) is_message comes)

-- a message with its whole body was taken
pub comes_whole : (given : ℕ) (ahead : List ℕ) (left : Option (List ℕ)) (page body : List ℕ) (left1 left2 : Option (List ℕ)) (r : RequestSpans) (fields : List HeaderSpan) (size have : ℕ)
    → StaysUnused ahead left page left1 → IsRequestWithin page fields r → IsRequestOf page fields r → length fields ≡ 100 → length page ≤ 65536
    → Ok size ≡ decide r.version (map (header_bytes page) (take r.headers fields))
    → have ≡ min size (length page - r.len) → length body ≡ size
    → IfSome left1 (λ rest. IsFilled (take have (drop r.len page)) rest true body left2)
    → ComesOut given (prepend_known ahead left) (record { method = verb_of (span_bytes page r.method); target = span_bytes page r.path; body = body; last = is_last given r.version (map (header_bytes page) (take r.headers fields)) }) (prepend_known (drop (r.len + have) page) left2)
comes_whole given ahead None page body left1 left2 r fields size have same within found room long decided is_min size_is read = tt
comes_whole given ahead (Some rest) page body None left2 r fields size have same within found room long decided is_min size_is read = absurd (cc)
comes_whole given ahead (Some rest) page body (Some x) None r fields size have same within found room long decided is_min size_is read = absurd (cc)
comes_whole given ahead (Some rest) page body (Some x) (Some y) r fields size have same within found room long decided is_min size_is read =
    let all : page ++ x ≡ ahead ++ rest = cc in
    let filled : body ++ y ≡ take have (drop r.len page) ++ x = cc in
    let next : Next = message (record { method = verb_of (span_bytes page r.method); target = span_bytes page r.path; body = body; last = is_last given r.version (map (header_bytes page) (take r.headers fields)) }) (drop (r.len + have) page ++ y) in
    (drop (r.len + have) page ++ y, refl, subst (λ (l : List ℕ). Comes given l next) all (whole_core given page x body y r fields size have found.0 within found.1 room long decided is_min size_is filled))

cut_core : (given : ℕ) (page x : List ℕ) (r : RequestSpans) (fields : List HeaderSpan) (size have : ℕ) (head : RequestHead)
    → IsRequestWithin page fields r → IsRequestAt page fields r head → length fields ≡ 100 → length page ≤ 65536
    → Ok size ≡ decide r.version (map (header_bytes page) (take r.headers fields))
    → have ≡ min size (length page - r.len) → length (take have (drop r.len page)) + length x < size
    → Comes given (page ++ x) (ending (Bad Cut))
cut_core given page x r fields size have head within found room long decided is_min short =
    let d : List ℕ = drop r.len page in
    let decided_head : Ok size ≡ decide head.minor (map name_and_value head.fields) = decided ∙ ap (λ v. decide v (map (header_bytes page) (take r.headers fields))) found.version ∙ ap (λ l. decide head.minor l) found.fields in
    let less : length (d ++ x) < size = omega (arith, length-append d x, length-take have d, length-drop r.len page, is_min, short) in
    let fails : nat_le size (length (d ++ x)) ≡ false = lt-leb size (length (d ++ x)) less in
    let is_cut : after_head given head (d ++ x) ≡ ending (Bad Cut) = ap (λ e. with_body e given head (d ++ x)) (sym decided_head) ∙ rw fails refl in
    subst (λ n. Comes given (page ++ x) n) is_cut (headed head (d ++ x) (begins page x r fields head room long within found) refl)

-- the bytes end inside a body
pub comes_cut : (given : ℕ) (ahead : List ℕ) (left : Option (List ℕ)) (page body : List ℕ) (left1 left2 : Option (List ℕ)) (r : RequestSpans) (fields : List HeaderSpan) (size have : ℕ)
    → StaysUnused ahead left page left1 → IsRequestWithin page fields r → IsRequestOf page fields r → length fields ≡ 100 → length page ≤ 65536
    → Ok size ≡ decide r.version (map (header_bytes page) (take r.headers fields))
    → have ≡ min size (length page - r.len) → length body ≡ size
    → IfSome left1 (λ rest. IsFilled (take have (drop r.len page)) rest false body left2)
    → EndsSo given (prepend_known ahead left) (Bad Cut)
comes_cut given ahead None page body left1 left2 r fields size have same within found room long decided is_min size_is read = λ _. tt
comes_cut given ahead (Some rest) page body None left2 r fields size have same within found room long decided is_min size_is read = absurd (cc)
comes_cut given ahead (Some rest) page body (Some x) left2 r fields size have same within found room long decided is_min size_is read = λ _.
    let all : page ++ x ≡ ahead ++ rest = cc in
    let short : length (take have (drop r.len page)) + length x < size = omega (arith, read, size_is) in
    subst (λ (l : List ℕ). Comes given l (ending (Bad Cut))) all (cut_core given page x r fields size have found.0 within found.1 room long decided is_min short)

refused_core : (given : ℕ) (page x : List ℕ) (r : RequestSpans) (fields : List HeaderSpan) (end : WireEnd) (head : RequestHead)
    → IsRequestWithin page fields r → IsRequestAt page fields r head → length fields ≡ 100 → length page ≤ 65536
    → Err end ≡ decide r.version (map (header_bytes page) (take r.headers fields))
    → Comes given (page ++ x) (ending end)
refused_core given page x r fields end head within found room long decided =
    let d : List ℕ = drop r.len page in
    let decided_head : Err end ≡ decide head.minor (map name_and_value head.fields) = decided ∙ ap (λ v. decide v (map (header_bytes page) (take r.headers fields))) found.version ∙ ap (λ l. decide head.minor l) found.fields in
    let is_end : after_head given head (d ++ x) ≡ ending end = ap (λ e. with_body e given head (d ++ x)) (sym decided_head) in
    subst (λ n. Comes given (page ++ x) n) is_end (headed head (d ++ x) (begins page x r fields head room long within found) refl)

-- the head is refused
pub comes_refused : (given : ℕ) (ahead : List ℕ) (left : Option (List ℕ)) (page : List ℕ) (left1 : Option (List ℕ)) (r : RequestSpans) (fields : List HeaderSpan) (end : WireEnd)
    → StaysUnused ahead left page left1 → IsRequestWithin page fields r → IsRequestOf page fields r → length fields ≡ 100 → length page ≤ 65536
    → Err end ≡ decide r.version (map (header_bytes page) (take r.headers fields))
    → EndsSo given (prepend_known ahead left) end
comes_refused given ahead None page left1 r fields end same within found room long decided = λ _. tt
comes_refused given ahead (Some rest) page None r fields end same within found room long decided = absurd (cc)
comes_refused given ahead (Some rest) page (Some x) r fields end same within found room long decided = λ _.
    let all : page ++ x ≡ ahead ++ rest = cc in
    subst (λ (l : List ℕ). Comes given l (ending end)) all (refused_core given page x r fields end found.0 within found.1 room long decided)

head_end : (given : ℕ) (bytes : List ℕ) (end : WireEnd) → IsHeadEnd bytes end → end ≢ HallFault → Comes given bytes (ending end)
head_end given bytes End h other = at_end h refl
head_end given bytes HallFault h other = absurd (other refl)
head_end given bytes (Bad why) h other = headless (Bad why) h.0 h.1 h.2 refl
head_end given bytes HeadTooLong h other = headless HeadTooLong h.0 h.1 h.2 refl
head_end given bytes BodyTooLong h other = absurd h.2
head_end given bytes Coded h other = absurd h.2
head_end given bytes Expect h other = absurd h.2

-- no head came
pub comes_none : (given : ℕ) (ahead : List ℕ) (left : Option (List ℕ)) (end : WireEnd) → IfSome left (λ rest. IsHeadEnd (ahead ++ rest) end) → EndsSo given (prepend_known ahead left) end
comes_none given ahead None end h = λ _. tt
comes_none given ahead (Some rest) end h = λ other. head_end given (ahead ++ rest) end h other

-- the front of the body is what the page has of it
pub front_is : (page body src : List ℕ) (len have end size : ℕ) → src ≡ slice_range page len (len + have) → len + have ≤ end → end ≤ length page → have ≤ size
    → take have (take size (src ++ drop have body)) ≡ take have (drop len (take end page))
front_is page body src len have end size is a b c =
    let n : ℕ = end - len in
    let sum : len + n ≡ end = omega arith in
    let part : drop len (take end page) ≡ take n (drop len page) = ap (λ k. drop len (take k page)) (sym sum) ∙ drop-take len n page in
    let width : (len + have) - len ≡ have = omega arith in
    let src_is : src ≡ take have (drop len page) = is ∙ ap (λ k. take k (drop len page)) width in
    let long : length src ≡ have = ap length src_is ∙ length-take-le have (drop len page) (omega (arith, length-drop len page)) in
    let inner : have ≤ n = omega arith in
    take-take have size (src ++ drop have body) c ∙ take_at src (drop have body) have long
    ∙ src_is ∙ sym (take-take have n (drop len page) inner) ∙ ap (λ l. take have l) (sym part)

-- the same, however the parts of the message are written
pub comes_shown : (given : ℕ) (before ahead : List ℕ) (left : Option (List ℕ)) (page body : List ℕ) (left1 left2 : Option (List ℕ)) (r : RequestSpans) (fields : List HeaderSpan) (size have : ℕ) (method : Verb) (shown front : List ℕ) (last : Bool)
    → ahead ≡ before → StaysUnused ahead left page left1 → IsRequestWithin page fields r → IsRequestOf page fields r → length fields ≡ 100 → length page ≤ 65536
    → Ok size ≡ decide r.version (map (header_bytes page) (take r.headers fields))
    → have ≡ min size (length page - r.len) → length body ≡ size
    → IfSome left1 (λ rest. IsFilled front rest true body left2) → front ≡ take have (drop r.len page)
    → method ≡ verb_of (span_bytes page r.method) → last ≡ is_last given r.version (map (header_bytes page) (take r.headers fields)) → shown ≡ body
    → ComesOut given (prepend_known before left) (record { method = method; target = span_bytes page r.path; body = shown; last = last }) (prepend_known (drop (r.len + have) page) left2)
comes_shown given before ahead left page body left1 left2 r fields size have method shown front last moved same within found room long decided is_min size_is read front_is method_is last_is shown_is =
    let read_front : IfSome left1 (λ rest. IsFilled (take have (drop r.len page)) rest true body left2) = subst (λ (l : List ℕ). IfSome left1 (λ rest. IsFilled l rest true body left2)) front_is read in
    rw (← moved, method_is, last_is, shown_is) (comes_whole given ahead left page body left1 left2 r fields size have same within found room long decided is_min size_is read_front)

pub cut_shown : (given : ℕ) (ahead : List ℕ) (left : Option (List ℕ)) (page body : List ℕ) (left1 left2 : Option (List ℕ)) (r : RequestSpans) (fields : List HeaderSpan) (size have : ℕ) (front : List ℕ)
    → StaysUnused ahead left page left1 → IsRequestWithin page fields r → IsRequestOf page fields r → length fields ≡ 100 → length page ≤ 65536
    → Ok size ≡ decide r.version (map (header_bytes page) (take r.headers fields))
    → have ≡ min size (length page - r.len) → length body ≡ size
    → IfSome left1 (λ rest. IsFilled front rest false body left2) → front ≡ take have (drop r.len page)
    → EndsSo given (prepend_known ahead left) (Bad Cut)
cut_shown given ahead left page body left1 left2 r fields size have front same within found room long decided is_min size_is read front_is =
    let read_front : IfSome left1 (λ rest. IsFilled (take have (drop r.len page)) rest false body left2) = subst (λ (l : List ℕ). IfSome left1 (λ rest. IsFilled l rest false body left2)) front_is read in
    comes_cut given ahead left page body left1 left2 r fields size have same within found room long decided is_min size_is read_front
