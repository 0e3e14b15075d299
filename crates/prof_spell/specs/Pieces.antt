-- The parts of which the texts are made.
use Rattle.std.specs.Prelude.{ℤ, pos, negsuc, ◌≡◌, ◌≢◌, ℕ, ◌≤◌, Bool, true, false, not, ◌==◌, ◌&&◌, ◌||◌, List, [], ◌∷◌, ◌++◌, ◌⊎◌, ⊤}
use Rattle.std.specs.Char.{is_ascii_digit}
use Rattle.std.specs.Fmt.{decimal, signed_decimal}
use Rattle.prof_spell.specs.Spelling.{Language}

-- the values of a kind of texts that meet a condition besides
abbrev pub within : {V : Type 0} → Language V → (V → Type 0) → Language V
within L Meets = record { text = L.text; Fits = λ v. L.Fits v × Meets v; goes = L.goes }

-- numbers without leading zeros, up to a greatest one
abbrev pub numbers : ℕ → Language ℕ
numbers most = record { text = decimal; Fits = λ n. n ≤ most; goes = λ n. is_ascii_digit }

-- the number fits an i64
abbrev pub IsI64 : ℤ → Type 0
IsI64 (pos n) = n ≤ 9223372036854775807
IsI64 (negsuc n) = n ≤ 9223372036854775807

-- numbers of 64 bits, with `-` before a negative one
abbrev pub signed : Language ℤ
signed = record { text = signed_decimal; Fits = IsI64; goes = λ z. is_ascii_digit }

-- one fixed word
abbrev pub literal : List ℕ → Language (Unit {0})
literal word = record { text = λ u. word; Fits = λ u. ⊤; goes = λ u b. false }

-- the value is in the list
abbrev pub Among : {V : Type 0} → List V → V → Type 0
Among [] v = ⊥
Among (w ∷ ws) v = (w ≡ v) ⊎ Among ws v

-- one of some fixed words, none of which begins another
abbrev pub words : {V : Type 0} → (V → List ℕ) → (V → Type 0) → Language V
words word Fits = record { text = word; Fits = Fits; goes = λ v b. false }

-- ---- lists

-- the texts of one item or more, with a byte between
abbrev pub joined_text : {V : Type 0} → (V → List ℕ) → ℕ → List V → List ℕ
joined_text text mark [] = []
joined_text text mark (v ∷ []) = text v
joined_text text mark (v ∷ w ∷ ws) = text v ++ mark ∷ joined_text text mark (w ∷ ws)

-- a byte that goes on with such a list: what goes on with its last item, or the byte between
abbrev pub joined_goes : {V : Type 0} → (V → ℕ → Bool) → ℕ → List V → ℕ → Bool
joined_goes goes mark [] b = b == mark
joined_goes goes mark (v ∷ []) b = goes v b || b == mark
joined_goes goes mark (v ∷ w ∷ ws) b = joined_goes goes mark (w ∷ ws) b

abbrev pub EachFits : {V : Type 0} → (V → Type 0) → List V → Type 0
EachFits Fits [] = ⊤
EachFits Fits (v ∷ vs) = Fits v × EachFits Fits vs

-- one item or more, with a byte between
abbrev pub joined : {V : Type 0} → Language V → ℕ → Language (List V)
joined L mark = record { text = joined_text L.text mark; Fits = λ vs. (vs ≢ []) × EachFits L.Fits vs; goes = joined_goes L.goes mark }

-- one of two words begins the other
abbrev pub clash : List ℕ → List ℕ → Bool
clash [] t = true
clash (b ∷ s) [] = true
clash (b ∷ s) (c ∷ t) = (b == c) && clash s t

-- the word begins none of these, and none of these begins it
abbrev pub is_apart : List ℕ → List (List ℕ) → Bool
is_apart s [] = true
is_apart s (t ∷ ts) = not (clash s t) && is_apart s ts

-- no word begins another
abbrev pub are_apart : List (List ℕ) → Bool
are_apart [] = true
are_apart (s ∷ ss) = is_apart s ss && are_apart ss
