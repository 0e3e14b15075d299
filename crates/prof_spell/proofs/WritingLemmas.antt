-- Searches as `percent_encoding` writes them.
use Rattle.std.proofs.Common.{◌≡◌, ℕ, ◌<◌, Bool, true, false, List, [], ◌∷◌, ◌++◌, refl, ap, ◌∙◌}
use Rattle.std.specs.Prelude.{All, not, if◌then◌else◌}
use Rattle.std.specs.List.{flat_map}
use Rattle.std.proofs.lemmas.List.Elements.{All-head, All-tail}
use Rattle.percent_encoding.specs.AsciiSet.{should_percent_encode}
use Rattle.percent_encoding.specs.Percent.{percent_encode, percent_encode_byte, encode_byte}
use Rattle.prof_spell.specs.declared.writing.TheConstants.{RESERVED}
use Rattle.prof_spell.specs.Escapes.{is_unreserved, byte_text, escaped}
use Rattle.prof_spell.proofs.Bytes.{each_below}

same_bool : Bool → Bool → Bool
same_bool true b = b
same_bool false b = not b

same_is : (a b : Bool) → same_bool a b ≡ true → a ≡ b
unfolding same_bool
same_is true true e = refl
same_is true false e = cc
same_is false true e = cc
same_is false false e = refl

-- exactly the bytes that don't stand for themselves are escaped
reserved_byte : (b : ℕ) → b < 256 → should_percent_encode RESERVED b ≡ not (is_unreserved b)
unfolding same_bool should_percent_encode
reserved_byte b h = same_is (should_percent_encode RESERVED b) (not (is_unreserved b)) (each_below 256 (λ c. same_bool (should_percent_encode RESERVED c) (not (is_unreserved c))) refl b h)

encoded_byte : (b : ℕ) → b < 256 → encode_byte RESERVED b ≡ byte_text b
encoded_byte b h = ap (λ t. if t then percent_encode_byte b else b ∷ []) (reserved_byte b h) ∙ at (is_unreserved b)
  where
    at : (u : Bool) → (if not u then percent_encode_byte b else b ∷ []) ≡ (if u then b ∷ [] else percent_encode_byte b)
    at true = refl
    at false = refl

pub encoded_search : (bytes : List ℕ) → All (λ b. b < 256) bytes → percent_encode RESERVED bytes ≡ escaped bytes
unfolding percent_encode
encoded_search [] h = refl
encoded_search (b ∷ bytes) h = ap (λ t. t ++ flat_map (encode_byte RESERVED) bytes) (encoded_byte b (All-head (λ c. c < 256) b bytes h)) ∙ ap (λ t. byte_text b ++ t) (encoded_search bytes (All-tail (λ c. c < 256) b bytes h))
