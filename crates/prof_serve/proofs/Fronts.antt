-- Messages that came one after another, none of them the last.
use Rattle.std.proofs.Common.{◌≡◌, inl, inr, ℕ, ◌+◌, ◌<◌, Bool, true, false, ◌||◌, nat_le, List, [], ◌∷◌, ◌++◌, length, map, refl, sym, ap, ◌∙◌, subst, leb-false, IsTrue, if◌then◌else◌, Result, Ok, Err, arith}
use Rattle.std.specs.Prelude.{IsFalse}
use Rattle.std.proofs.lemmas.Bool.{false≢true}
use Rattle.httparse.specs.Grammar.{RequestHead}
use Rattle.httparse.specs.Spans.{name_and_value}
use Rattle.prof_wire.specs.Heads.{is_last}
use Rattle.prof_wire.specs.Messages.{Asked, Next, message, ending, with_body, Comes, at_end, headed, headless, after_last, ended, AreMessages}
use Rattle.prof_wire.specs.declared.messages.WireEnd.{WireEnd}
use Rattle.prof_serve.specs.Serving.{AreFirst}

-- these are the first messages of a connection that gave so many before, and none of them is the last
abbrev pub AreGoing : ℕ → List ℕ → List Asked → List ℕ → Type 0
AreGoing given bytes [] rest = rest ≡ bytes
AreGoing given bytes (asked ∷ more) rest =
    (behind : List ℕ) × Comes given bytes (message asked behind) × IsFalse asked.last × AreGoing (given + 1) behind more rest

-- what comes behind them is what comes next there
here : (given at : ℕ) (bytes rest : List ℕ) (next : Next) → rest ≡ bytes → at ≡ given + 0 → Comes at rest next → Comes given bytes next
here given at bytes rest next e n c =
    let m : at ≡ given = omega (arith, n) in
    subst (λ x. Comes x bytes next) m (subst (λ (l : List ℕ). Comes at l next) e c)

pub going_more : (given at : ℕ) (bytes : List ℕ) (xs : List Asked) (rest : List ℕ) (asked : Asked) (after : List ℕ) → AreGoing given bytes xs rest → at ≡ given + length xs
    → Comes at rest (message asked after) → IsFalse asked.last → AreGoing given bytes (xs ++ asked ∷ []) after
going_more given at bytes [] rest asked after g n c f = (after, here given at bytes rest (message asked after) g n c, f, refl)
going_more given at bytes (x ∷ xs) rest asked after (behind, came, goes, more) n c f =
    (behind, came, goes, going_more (given + 1) at behind xs rest asked after more (omega (arith, n)) c f)

pub going_last : (given at : ℕ) (bytes : List ℕ) (xs : List Asked) (rest : List ℕ) (asked : Asked) (after : List ℕ) → AreGoing given bytes xs rest → at ≡ given + length xs
    → Comes at rest (message asked after) → IsTrue asked.last → AreMessages given bytes (xs ++ asked ∷ []) after_last
going_last given at bytes [] rest asked after g n c t = (after, here given at bytes rest (message asked after) g n c, inl (t, refl, refl))
going_last given at bytes (x ∷ xs) rest asked after (behind, came, goes, more) n c t =
    (behind, came, inr (goes, going_last (given + 1) at behind xs rest asked after more (omega (arith, n)) c t))

pub going_end : (given at : ℕ) (bytes : List ℕ) (xs : List Asked) (rest : List ℕ) (end : WireEnd) → AreGoing given bytes xs rest → at ≡ given + length xs
    → Comes at rest (ending end) → AreMessages given bytes xs (ended end)
going_end given at bytes [] rest end g n c = here given at bytes rest (ending end) g n c
going_end given at bytes (x ∷ xs) rest end (behind, came, goes, more) n c =
    (behind, came, inr (goes, going_end (given + 1) at behind xs rest end more (omega (arith, n)) c))

pub going_first : (given : ℕ) (bytes : List ℕ) (xs : List Asked) (rest : List ℕ) → AreGoing given bytes xs rest → AreFirst given bytes xs rest
going_first given bytes [] rest g = g
going_first given bytes (x ∷ xs) rest (behind, came, goes, more) =
    (behind, came, (λ t. absurd (false≢true (sym goes ∙ t))), going_first (given + 1) behind xs rest more)

pub going_one : (given at : ℕ) (bytes : List ℕ) (xs : List Asked) (rest : List ℕ) (asked : Asked) (after : List ℕ) → AreGoing given bytes xs rest → at ≡ given + length xs
    → Comes at rest (message asked after) → AreFirst given bytes (xs ++ asked ∷ []) after
going_one given at bytes [] rest asked after g n c = (after, here given at bytes rest (message asked after) g n c, (λ t. refl), refl)
going_one given at bytes (x ∷ xs) rest asked after (behind, came, goes, more) n c =
    (behind, came, (λ t. absurd (false≢true (sym goes ∙ t))), going_one (given + 1) at behind xs rest asked after more (omega (arith, n)) c)

-- ---- the 1,000th message is the last

or_false : (a b : Bool) → (a || b) ≡ false → b ≡ false
or_false true b h = absurd (cc)
or_false false b h = h

chosen : (t : Bool) (asked other : Asked) (after rest : List ℕ) (end : WireEnd) → message asked after ≡ (if t then message other rest else ending end) → asked ≡ other
chosen true asked other after rest end e = cc
chosen false asked other after rest end e = absurd (cc)

last_of : (result : Result ℕ WireEnd) (given : ℕ) (head : RequestHead) (rest after : List ℕ) (asked : Asked) → message asked after ≡ with_body result given head rest
    → asked.last ≡ is_last given head.minor (map name_and_value head.fields)
last_of (Err end) given head rest after asked e = absurd (cc)
last_of (Ok size) given head rest after asked e = ap (λ (a : Asked). a.last) (chosen (nat_le size (length rest)) asked _ after _ _ e)

pub below : (given : ℕ) (bytes rest : List ℕ) (asked : Asked) → Comes given bytes (message asked rest) → asked.last ≡ false → given < 999
below given bytes rest asked (at_end none e) goes = absurd (cc)
below given bytes rest asked (headed head after begins e) goes =
    leb-false 999 given (or_false _ (nat_le 999 given) (sym (last_of _ given head after rest asked e) ∙ goes))
below given bytes rest asked (headless end some none is e) goes = absurd (cc)
