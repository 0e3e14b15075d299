-- What a line comes to: the request that has it, or the place where it is wrong.
use Rattle.std.proofs.Common.{◌≡◌, ℕ, ◌+◌, ◌-◌, ◌<◌, ◌≤◌, Bool, true, false, List, [], ◌∷◌, ◌++◌, length, take, drop, zero, suc, refl, sym, subst, ap, ◌∙◌, arith, append_assoc, append-nil}
use Rattle.std.specs.Prelude.{min, nat_lt, if◌then◌else◌, Result, Ok, Err}
use Rattle.std.proofs.lemmas.Bool.Decides.{nat_tests}
use Rattle.std.proofs.lemmas.List.{take-append-drop, take_all}
use Rattle.prof_spell.specs.Spelling.{Begins, IsFault, IsStuck, IsTaken, Spells}
use Rattle.prof_spell.specs.Readings.{Reading, taken, stuck}
use Rattle.prof_spell.proofs.Parts.{spelled, stuck_fault, left_fault}
use Rattle.prof_request.specs.declared.request.Request.{Request}
use Rattle.prof_request.specs.declared.refusal.TheConstants.{LINE_LIMIT}
use Rattle.prof_request.specs.Requests.{lines, requests, request_text, IsWrittenRequest, IsRequest, IsLongestFront, IsNoLine, TellsLine}
use Rattle.prof_request.proofs.LineLemmas.{splits_lines, reading_line}

less_is : (a b : ℕ) → nat_lt a b ≡ true → a < b
less_is a b h = grind (arith, nat_tests)

least_is : (a b : ℕ) → nat_lt a b ≡ false → b ≤ a
least_is a b h = grind (arith, nat_tests)

-- ---- the longest front

abbrev no_bytes : List ℕ
no_bytes = []

take_none : (k : ℕ) → take k no_bytes ≡ no_bytes
take_none zero = refl
take_none (suc k) = refl

take_take : (bytes : List ℕ) (n m : ℕ) → n ≤ m → take n (take m bytes) ≡ take n bytes
take_take [] n m l = ap (λ (t : List ℕ). take n t) (take_none m)
take_take (b ∷ bytes) zero m l = refl
take_take (b ∷ bytes) (suc n) zero l = absurd (omega arith)
take_take (b ∷ bytes) (suc n) (suc m) l = ap (λ t. b ∷ t) (take_take bytes n m (omega arith))

shorter_front : (bytes : List ℕ) (n m : ℕ) → n ≤ m → Begins lines (take m bytes) → Begins lines (take n bytes)
shorter_front bytes n m l b = (
  b.0,
  b.1,
  (
    drop n (take m bytes) ++ b.2.0,
    b.2.1 ∙ ap (λ t. t ++ b.2.0) (sym (take-append-drop n (take m bytes)) ∙ ap (λ t. t ++ drop n (take m bytes)) (take_take bytes n m l))
        ∙ append_assoc (take n bytes) (drop n (take m bytes)) b.2.0,
  ),
)

longest_of_fault : (bytes : List ℕ) (n : ℕ) → IsFault lines bytes n → IsLongestFront bytes n
longest_of_fault bytes n f = record { within = f.within; begins = f.begins; longest = f.longest }

longest_of_line : (bytes : List ℕ) (r : Request) → IsWrittenRequest r → request_text r ≡ bytes → IsLongestFront bytes (length bytes)
longest_of_line bytes r f e = record {
  within = omega arith;
  begins = (r, f, ([], e ∙ sym (append-nil bytes) ∙ ap (λ t. t ++ []) (sym (take_all (length bytes) bytes (omega arith)))));
  longest = λ l b. omega arith;
}

-- how far the reading came is the longest front
pub front_taken : (bytes left : List ℕ) (r : Request) → IsTaken lines bytes r left → IsLongestFront bytes (length bytes - length left)
front_taken bytes [] r t =
    let all : length bytes ≡ length bytes - 0 = omega arith in
    subst (λ (n : ℕ). IsLongestFront bytes n) all (longest_of_line bytes r t.fits (sym (append-nil (request_text r)) ∙ sym t.split))
front_taken bytes (b ∷ left) r t = longest_of_fault bytes (length bytes - length (b ∷ left)) (left_fault lines bytes (b ∷ left) r splits_lines t (omega arith))

pub front_stuck : (bytes left : List ℕ) → IsStuck lines bytes left → IsLongestFront bytes (length bytes - length left)
front_stuck bytes left s = longest_of_fault bytes (length bytes - length left) (stuck_fault lines bytes left s)

-- each line has one
longest : (bytes : List ℕ) → (n : ℕ) × IsLongestFront bytes n
longest bytes = at (reading_line bytes)
  where
    at : Reading lines bytes → (n : ℕ) × IsLongestFront bytes n
    at (taken r left t) = (length bytes - length left, front_taken bytes left r t)
    at (stuck left s) = (length bytes - length left, front_stuck bytes left s)

-- ---- the first bytes alone

abbrev pub looked : List ℕ → List ℕ
looked bytes = take (LINE_LIMIT + 1) bytes

length_looked : (n : ℕ) (bytes : List ℕ) → length (take n bytes) ≡ min n (length bytes)
length_looked zero bytes = omega arith
length_looked (suc n) [] = omega arith
length_looked (suc n) (b ∷ bytes) = let e = length_looked n bytes in omega arith

-- the longest front of the first bytes is as long as that of all, where both are cut at the limit
pub capped_front : (bytes : List ℕ) (n : ℕ) → IsLongestFront (looked bytes) n → (front : ℕ) × IsLongestFront bytes front × (min n LINE_LIMIT ≡ min front LINE_LIMIT)
capped_front bytes n f = at (nat_lt n (length (looked bytes))) refl
  where
    size : length (looked bytes) ≡ min (LINE_LIMIT + 1) (length bytes)
    size = length_looked (LINE_LIMIT + 1) bytes

    inside : n < length (looked bytes) → IsLongestFront bytes n
    inside l = record {
      within = let e = size in omega arith;
      begins = let e = size in subst (λ (t : List ℕ). Begins lines t) (take_take bytes n (LINE_LIMIT + 1) (omega arith)) f.begins;
      longest = λ m b. let e = size in f.longest l (subst (λ (t : List ℕ). Begins lines t) (sym (take_take bytes (n + 1) (LINE_LIMIT + 1) (omega arith))) b);
    }

    all : n ≡ length (looked bytes) → (front : ℕ) × IsLongestFront bytes front → (front : ℕ) × IsLongestFront bytes front × (min n LINE_LIMIT ≡ min front LINE_LIMIT)
    all e g = (g.0, g.1, reaches)
      where
        begins : Begins lines (looked bytes)
        begins = subst (λ (t : List ℕ). Begins lines t) (ap (λ k. take k (looked bytes)) e ∙ take_all (length (looked bytes)) (looked bytes) (omega arith)) f.begins

        not_below : g.0 < length (looked bytes) → ⊥
        not_below l = let s = size in g.1.longest (omega arith) (shorter_front bytes (g.0 + 1) (LINE_LIMIT + 1) (omega arith) begins)

        reaches : min n LINE_LIMIT ≡ min g.0 LINE_LIMIT
        reaches = by (nat_lt g.0 (length (looked bytes))) refl
          where
            by : (t : Bool) → nat_lt g.0 (length (looked bytes)) ≡ t → min n LINE_LIMIT ≡ min g.0 LINE_LIMIT
            by true h = absurd (not_below (less_is g.0 (length (looked bytes)) h))
            by false h =
                let over = least_is g.0 (length (looked bytes)) h in
                let within = g.1.within in
                let s = size in
                omega arith

    at : (t : Bool) → nat_lt n (length (looked bytes)) ≡ t → (front : ℕ) × IsLongestFront bytes front × (min n LINE_LIMIT ≡ min front LINE_LIMIT)
    at true e = (n, inside (less_is n (length (looked bytes)) e), refl)
    at false e = let w = f.within in let over = least_is n (length (looked bytes)) e in all (omega arith) (longest bytes)

-- ---- the reading

pub looked_all : (bytes : List ℕ) → length bytes ≤ LINE_LIMIT → looked bytes ≡ bytes
looked_all bytes l = take_all (LINE_LIMIT + 1) bytes (omega arith)

-- a line within the limit that is read to its end
pub line_spelled : (bytes left : List ℕ) (r : Request) → IsTaken lines (looked bytes) r left → length left ≡ 0 → length bytes ≤ LINE_LIMIT → Spells requests bytes r
line_spelled bytes left r t e l =
    let s : Spells lines bytes r = spelled lines bytes left r splits_lines (subst (λ (b : List ℕ). IsTaken lines b r left) (looked_all bytes l) t) e in
    record {
      fits = record { written = s.fits; short = subst (λ (b : List ℕ). length b ≤ LINE_LIMIT) (sym s.same) l };
      same = s.same;
      only = λ q f h. s.only q f.written h;
    }

-- no request has the line: it is too long, or none has its first bytes
abbrev NoRequest : List ℕ → Type 0
NoRequest bytes = (r : Request) → IsRequest r → request_text r ≡ bytes → ⊥

too_long : (bytes : List ℕ) → LINE_LIMIT < length bytes → NoRequest bytes
too_long bytes l r f e = let s = f.short in let h : length (request_text r) ≡ length bytes = ap length e in omega arith

pub no_line : (bytes : List ℕ) (n : ℕ) → NoRequest bytes → IsLongestFront (looked bytes) n → IsNoLine bytes (min n LINE_LIMIT)
no_line bytes n none f = let g = capped_front bytes n f in record { none = none; front = g.0; longest = g.1; capped = g.2 }

pub line_stuck : (bytes left : List ℕ) → IsStuck lines (looked bytes) left → IsNoLine bytes (min (length (looked bytes) - length left) LINE_LIMIT)
line_stuck bytes left s = no_line bytes (length (looked bytes) - length left) (by (nat_lt LINE_LIMIT (length bytes)) refl) (front_stuck (looked bytes) left s)
  where
    by : (t : Bool) → nat_lt LINE_LIMIT (length bytes) ≡ t → NoRequest bytes
    by true h = too_long bytes (less_is LINE_LIMIT (length bytes) h)
    by false h = λ r f e.
        let l : length bytes ≤ LINE_LIMIT = least_is LINE_LIMIT (length bytes) h in
        (stuck_fault lines (looked bytes) left s).none r f.written (e ∙ sym (looked_all bytes l))

-- a line that is too long, or goes on behind a request
pub line_left : (bytes left : List ℕ) (r : Request) → IsTaken lines (looked bytes) r left → (length left ≡ 0 → LINE_LIMIT < length bytes) → IsNoLine bytes (min (length (looked bytes) - length left) LINE_LIMIT)
line_left bytes left r t why = no_line bytes (length (looked bytes) - length left) (none left t why) (front_taken (looked bytes) left r t)
  where
    none : (left : List ℕ) → IsTaken lines (looked bytes) r left → (length left ≡ 0 → LINE_LIMIT < length bytes) → NoRequest bytes
    none [] u h = too_long bytes (h refl)
    none (b ∷ left) u h = by (nat_lt LINE_LIMIT (length bytes)) refl
      where
        by : (t : Bool) → nat_lt LINE_LIMIT (length bytes) ≡ t → NoRequest bytes
        by true k = too_long bytes (less_is LINE_LIMIT (length bytes) k)
        by false k = λ q f e.
            let l : length bytes ≤ LINE_LIMIT = least_is LINE_LIMIT (length bytes) k in
            (left_fault lines (looked bytes) (b ∷ left) r splits_lines u (omega arith)).none q f.written (e ∙ sym (looked_all bytes l))

-- ---- as a function

abbrev pub line_from : (bytes : List ℕ) → Reading lines (looked bytes) → Result Request ℕ
line_from bytes (taken r [] t) = if nat_lt LINE_LIMIT (length bytes) then Err (min (length (looked bytes) - 0) LINE_LIMIT) else Ok r
line_from bytes (taken r (b ∷ left) t) = Err (min (length (looked bytes) - length (b ∷ left)) LINE_LIMIT)
line_from bytes (stuck left s) = Err (min (length (looked bytes) - length left) LINE_LIMIT)

-- the request of a line, or the place where the line is wrong
unfoldable pub line_of : List ℕ → Result Request ℕ
line_of bytes = line_from bytes (reading_line (looked bytes))

pub tells_line : (bytes : List ℕ) → TellsLine bytes (line_of bytes)
unfolding line_of
tells_line bytes = at (reading_line (looked bytes))
  where
    short : (r : Request) → IsTaken lines (looked bytes) r [] → (t : Bool) → nat_lt LINE_LIMIT (length bytes) ≡ t → TellsLine bytes (if t then Err (min (length (looked bytes) - 0) LINE_LIMIT) else Ok r)
    short r u true h = line_left bytes [] r u (λ e. less_is LINE_LIMIT (length bytes) h)
    short r u false h = line_spelled bytes [] r u refl (least_is LINE_LIMIT (length bytes) h)

    at : (reading : Reading lines (looked bytes)) → TellsLine bytes (line_from bytes reading)
    at (taken r [] u) = short r u (nat_lt LINE_LIMIT (length bytes)) refl
    at (taken r (b ∷ left) u) = line_left bytes (b ∷ left) r u (λ e. absurd (omega arith))
    at (stuck left s) = line_stuck bytes left s

one_front : (bytes : List ℕ) (m n : ℕ) → IsLongestFront bytes m → IsLongestFront bytes n → m ≡ n
one_front bytes m n f g = cases (nat_lt m n) (nat_lt n m) refl refl
  where
    less : (i j : ℕ) → IsLongestFront bytes i → IsLongestFront bytes j → i < j → ⊥
    less i j x y l = let within = y.within in x.longest (omega arith) (shorter_front bytes (i + 1) j (omega arith) y.begins)

    cases : (t u : Bool) → nat_lt m n ≡ t → nat_lt n m ≡ u → m ≡ n
    cases true u e h = absurd (less m n f g (less_is m n e))
    cases false true e h = absurd (less n m g f (less_is n m h))
    cases false false e h = let a = least_is m n e in let b = least_is n m h in omega arith

-- a line comes to one thing
pub tells_one_line : (bytes : List ℕ) (r q : Result Request ℕ) → TellsLine bytes r → TellsLine bytes q → r ≡ q
tells_one_line bytes (Ok r) (Ok q) s t = ap (λ u. Ok u) (t.only r s.fits s.same)
tells_one_line bytes (Ok r) (Err place) s f = absurd (f.none r s.fits s.same)
tells_one_line bytes (Err place) (Ok r) f s = absurd (f.none r s.fits s.same)
tells_one_line bytes (Err m) (Err k) f g = ap (λ n. Err n) (f.capped ∙ ap (λ n. min n LINE_LIMIT) (one_front bytes f.front g.front f.longest g.longest) ∙ sym g.capped)

-- a request's line is read as the request
pub line_back : (r : Request) → IsRequest r → line_of (request_text r) ≡ Ok r
line_back r f = tells_one_line (request_text r) (line_of (request_text r)) (Ok r) (tells_line (request_text r))
    (record { fits = f; same = refl; only = λ q g e. let s : Spells lines (request_text r) r = own in s.only q g.written e })
  where
    own : Spells lines (request_text r) r
    own = spelled lines (request_text r) [] r splits_lines (record { fits = f.written; split = sym (append-nil (request_text r)); apart = tt }) refl
