-- Bytes without a head at their front.
use Rattle.std.proofs.Common.{◌≡◌, ◌≢◌, ℕ, ◌+◌, ◌<◌, ◌≤◌, List, [], ◌∷◌, ◌++◌, length, take, drop, Option, Some, None, refl, sym, ap, ◌∙◌, subst, append_assoc, append-nil, length-append, arith}
use Rattle.std.specs.Io.KnownBytes.{IsAtEnd}
use Rattle.httparse.specs.Grammar.{RequestHead, ReadsRequest, print_request, HasNoRequest}
use Rattle.httparse.specs.Spans.{RequestOverflows}
use Rattle.prof_wire.specs.Heads.{BeginsWith, HasNoHead, NeverHasHead}
use Rattle.prof_wire.specs.Reading.{IsHeadEnd}
use Rattle.prof_wire.specs.declared.messages.WireEnd.TheVariants.{Bad, HeadTooLong}
use Rattle.prof_wire.specs.declared.messages.Why.TheVariants.{Head, Cut}

pub none_yet : (bytes : List ℕ) → HasNoRequest bytes → HasNoHead bytes
none_yet bytes none = λ head rest h. none head rest h.reads

pub never : (bytes : List ℕ) → RequestOverflows 100 bytes → NeverHasHead bytes
never bytes over = λ more head rest h. let many = over more head rest h.reads in let few = h.few in absurd (omega (arith, many, few))

-- a front of two equal lists
pub front_of : (a b c d : List ℕ) → a ++ b ≡ c ++ d → length c ≤ length a → a ≡ c ++ drop (length c) a
front_of a b [] d e h = refl
front_of [] b (y ∷ c) d e h = absurd (omega arith)
front_of (x ∷ a) b (y ∷ c) d e h =
    let less : length c ≤ length a = omega arith in
    let rest : a ++ b ≡ c ++ d = cc in
    let same : x ≡ y = cc in
    let more : a ≡ c ++ drop (length c) a = front_of a b c d rest less in
    ap (λ z. z ∷ a) same ∙ ap (λ l. y ∷ l) more

-- a page that is as long as a head may be, and has none
pub none_in_page : (page rest : List ℕ) → length page ≡ 65536 → HasNoRequest page → HasNoHead (page ++ rest)
none_in_page page rest size none = λ head after h.
    let short : length (print_request head) ≤ length page = omega (arith, h.short, size) in
    none head (drop (length (print_request head)) page) (h.reads.0, front_of page rest (print_request head) after h.reads.1 short)

pub some_more : (a rest : List ℕ) → a ≢ [] → a ++ rest ≢ []
some_more [] rest some = λ e. some refl
some_more (x ∷ a) rest some = λ e. (cc)

-- the parser refuses what is there
pub broken_end : (a rest : List ℕ) → RequestOverflows 100 a → a ≢ [] → IsHeadEnd (a ++ rest) (Bad Head)
broken_end a rest over some = (some_more a rest some, never a over rest, (a, rest, refl, never a over))

-- a whole page is part of a head
pub too_long_end : (a rest : List ℕ) → length a ≡ 65536 → (a ≢ [] → HasNoRequest a) → IsHeadEnd (a ++ rest) HeadTooLong
too_long_end [] rest size none = absurd (omega arith)
too_long_end (x ∷ a) rest size none =
    let some : (x ∷ a) ≢ [] = λ e. (cc) in
    (some_more (x ∷ a) rest some, none_in_page (x ∷ a) rest size (none some), omega (arith, length-append (x ∷ a) rest, size))

-- the bytes end in a head
pub cut_end : (a rest : List ℕ) → 0 < length a → length a < 65536 → (a ≢ [] → HasNoRequest a) → rest ≡ [] → IsHeadEnd (a ++ rest) (Bad Cut)
cut_end [] rest some short none e = absurd (omega arith)
cut_end (x ∷ a) rest some short none e =
    let there : (x ∷ a) ≢ [] = λ h. (cc) in
    let same : x ∷ a ≡ (x ∷ a) ++ rest = sym (append-nil (x ∷ a)) ∙ ap (λ l. (x ∷ a) ++ l) (sym e) in
    subst (λ (l : List ℕ). (l ≢ []) × HasNoHead l × (length l < 65536)) same (there, none_yet (x ∷ a) (none there), short)

pub at_end_of : (left : Option (List ℕ)) (rest : List ℕ) → IsAtEnd left → left ≡ Some rest → rest ≡ []
at_end_of None rest ended e = absurd (cc)
at_end_of (Some x) rest ended e = cc
