-- A text has one ending.
use Rattle.std.proofs.Common.{◌≡◌, ◌≢◌, ℕ, ◌≤◌, List, [], ◌∷◌, ◌++◌, length, refl, sym, subst, ap, ◌∙◌, arith}
use Rattle.std.proofs.lemmas.List.{append-nil, append_assoc, length-append}
use Rattle.prof_grammar.specs.Event.{Event}
use Rattle.prof_grammar.specs.Grammar.{IsJson, BeginsJson}
use Rattle.prof_grammar.specs.Reading.{Ending, finished, not_json, too_deep, too_long, IsShallow, BeginsShallow, IsReading, whole, cut, wrong, deep, long}

-- the byte behind the front is at fault, and so the reading ends there
data Fault (limit : ℕ) (front : List ℕ) (byte : ℕ) : Ending → Type 0 where
  wrong_byte : length front ≢ limit → (BeginsJson (front ++ byte ∷ []) → ⊥) → Fault limit front byte (not_json (length front))
  deep_byte : length front ≢ limit → BeginsJson (front ++ byte ∷ []) → (BeginsShallow (front ++ byte ∷ []) → ⊥) → Fault limit front byte (too_deep (length front))
  late_byte : length front ≡ limit → Fault limit front byte too_long

-- the whole text is read, and it is JSON or cut
data Last (text : List ℕ) : List Event → Ending → Type 0 where
  json : {es : List Event} → IsShallow text es → Last text es finished
  unfinished : {es : List Event} → ((all : List Event) → IsJson text all → ⊥) → Last text es (not_json (length text))

data View (limit : ℕ) (text : List ℕ) : List Event → Ending → Type 0 where
  read : {es : List Event} {e : Ending} → BeginsShallow text → length text ≤ limit → Last text es e → View limit text es e
  stopped : {es : List Event} {e : Ending} (front : List ℕ) (byte : ℕ) (rest : List ℕ) → text ≡ front ++ byte ∷ rest → BeginsShallow front → length front ≤ limit → Fault limit front byte e → View limit text es e

shallow_begins : {text : List ℕ} {es : List Event} → IsShallow text es → BeginsShallow text
shallow_begins {text = text} {es = es} s = ([], es, subst (λ t. IsShallow t es) (sym (append-nil text)) s)

view : {limit : ℕ} {text : List ℕ} {es : List Event} {e : Ending} → IsReading limit text es e → View limit text es e
view (whole s l) = read (shallow_begins s) l (json s)
view (cut f n) = read f.begins f.within (unfinished n)
view (wrong {front = front} byte rest f l n) = stopped front byte rest refl f.begins f.within (wrong_byte l n)
view (deep {front = front} byte rest f l j n) = stopped front byte rest refl f.begins f.within (deep_byte l j n)
view (long {front = front} byte rest f l) = stopped front byte rest refl f.begins f.within (late_byte l)

earlier : (front m : List ℕ) (byte : ℕ) → BeginsShallow (front ++ byte ∷ m) → BeginsShallow (front ++ byte ∷ [])
earlier front m byte h = (m ++ h.0, h.1, subst (λ t. IsShallow t h.1) (append_assoc front (byte ∷ m) h.0 ∙ sym (append_assoc front (byte ∷ []) (m ++ h.0))) h.2)

-- no sound front reaches over a byte at fault
not_over : {limit : ℕ} {byte : ℕ} {e : Ending} (front m : List ℕ) → Fault limit front byte e → BeginsShallow (front ++ byte ∷ m) → length (front ++ byte ∷ m) ≤ limit → ⊥
not_over {byte = byte} front m (wrong_byte l n) h w = let s = earlier front m byte h in n (s.0, s.1, s.2.json)
not_over {byte = byte} front m (deep_byte l j n) h w = n (earlier front m byte h)
not_over {byte = byte} front m (late_byte l) h w = let k = length-append front (byte ∷ m) in omega arith

same_fault : {limit : ℕ} {front : List ℕ} {byte : ℕ} {e f : Ending} → Fault limit front byte e → Fault limit front byte f → e ≡ f
same_fault (wrong_byte l n) (wrong_byte k i) = refl
same_fault (wrong_byte l n) (deep_byte k j i) = absurd (n j)
same_fault (wrong_byte l n) (late_byte k) = absurd (l k)
same_fault (deep_byte l j n) (wrong_byte k i) = absurd (i j)
same_fault (deep_byte l j n) (deep_byte k g i) = refl
same_fault (deep_byte l j n) (late_byte k) = absurd (l k)
same_fault (late_byte l) (wrong_byte k i) = absurd (k l)
same_fault (late_byte l) (deep_byte k g i) = absurd (k l)
same_fault (late_byte l) (late_byte k) = refl

-- two places in one text: the same, or one is before the other
data Places (x : List ℕ) (b : ℕ) (y : List ℕ) (c : ℕ) : Type 0 where
  same : x ≡ y → b ≡ c → Places x b y c
  before : (m : List ℕ) → y ≡ x ++ b ∷ m → Places x b y c
  behind : (m : List ℕ) → x ≡ y ++ c ∷ m → Places x b y c

one_on : {x y : List ℕ} {b c a d : ℕ} → a ≡ d → Places x b y c → Places (a ∷ x) b (d ∷ y) c
one_on {d = d} e (same p q) = same (let r = e in cc) q
one_on {x = x} {b = b} e (before m p) = before m (let r = e in cc)
one_on {y = y} {c = c} e (behind m p) = behind m (let r = e in cc)

places : (x y : List ℕ) (b c : ℕ) (r s : List ℕ) → x ++ b ∷ r ≡ y ++ c ∷ s → Places x b y c
places [] [] b c r s e = same refl cc
places [] (d ∷ y) b c r s e = before y (let f : b ≡ d = cc in cc)
places (a ∷ x) [] b c r s e = behind x (let f : c ≡ a = cc in cc)
places (a ∷ x) (d ∷ y) b c r s e = let f : a ≡ d = cc in let g : x ++ b ∷ r ≡ y ++ c ∷ s = cc in one_on f (places x y b c r s g)

same_place : {limit : ℕ} {x y : List ℕ} {b c : ℕ} {e f : Ending} → Places x b y c → BeginsShallow x → length x ≤ limit → Fault limit x b e → BeginsShallow y → length y ≤ limit → Fault limit y c f → e ≡ f
same_place {limit = limit} {x = x} {y = y} {b = b} {c = c} {f = f} (same p q) g l h i k j = same_fault h (subst (λ z. Fault limit z b f) (sym p) (subst (λ z. Fault limit y z f) (sym q) j))
same_place {x = x} (before m p) g l h i k j = absurd (not_over x m h (subst BeginsShallow p i) (let w = ap length p in omega arith))
same_place {y = y} (behind m p) g l h i k j = absurd (not_over y m j (subst BeginsShallow p g) (let w = ap length p in omega arith))

same_last : {text : List ℕ} {es fs : List Event} {e f : Ending} → Last text es e → Last text fs f → e ≡ f
same_last (json s) (json t) = refl
same_last (json s) (unfinished n) = absurd (n _ s.json)
same_last (unfinished n) (json t) = absurd (n _ t.json)
same_last (unfinished n) (unfinished k) = refl

-- a text that is read whole has no byte at fault
read_over : {limit : ℕ} {text : List ℕ} {byte : ℕ} {e : Ending} (front rest : List ℕ) → BeginsShallow text → length text ≤ limit → text ≡ front ++ byte ∷ rest → Fault limit front byte e → ⊥
read_over front rest s l p h = not_over front rest h (subst BeginsShallow p s) (let w = ap length p in omega arith)

ends_once : {limit : ℕ} {text : List ℕ} {es fs : List Event} {e f : Ending} → View limit text es e → View limit text fs f → e ≡ f
ends_once (read s l h) (read t k i) = same_last h i
ends_once (read s l h) (stopped front byte rest p g k i) = absurd (read_over front rest s l p i)
ends_once (stopped front byte rest p g k i) (read s l h) = absurd (read_over front rest s l p i)
ends_once (stopped x b r p g l h) (stopped y c s q i k j) = same_place (places x y b c r s (sym p ∙ q)) g l h i k j

pub one_ending : (limit : ℕ) (text : List ℕ) (es fs : List Event) (e f : Ending) → IsReading limit text es e → IsReading limit text fs f → e ≡ f
one_ending limit text es fs e f h i = ends_once (view h) (view i)

finishes : {limit : ℕ} {text : List ℕ} {es : List Event} {e : Ending} → e ≡ finished → View limit text es e → IsShallow text es × (length text ≤ limit)
finishes p (read s l (json h)) = (h, l)
finishes p (read s l (unfinished n)) = absurd cc
finishes p (stopped front byte rest q g k (wrong_byte l n)) = absurd cc
finishes p (stopped front byte rest q g k (deep_byte l j n)) = absurd cc
finishes p (stopped front byte rest q g k (late_byte l)) = absurd cc

pub when_finished : (limit : ℕ) (text : List ℕ) (es : List Event) → IsReading limit text es finished → IsShallow text es × (length text ≤ limit)
when_finished limit text es h = finishes refl (view h)
