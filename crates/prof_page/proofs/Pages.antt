-- Texts that wait on a page before they are written.
use Rattle.std.proofs.Common.{◌≡◌, ℕ, List, [], ◌++◌, Ok, Err, Result, IsErr, true, false, refl, ap, sym, ◌∙◌, subst, append-nil, append_assoc}
use Rattle.prof_io.specs.Outside.{Seen}
use Rattle.prof_io.specs.Sinks.{Wrote}
use Rattle.prof_page.specs.Gathering.{Gathers}
use Rattle.prof_writer.proofs.Outputs.{writes_none, writes_then, writes_failed, writes_as, writes_ok}

-- nothing was added yet
pub gathers_nothing : {T E : Type 0} (old : Seen) (x : T) (page : List ℕ) → page ≡ [] → Gathers {T = T} {E = E} old old (Ok x) [] [] page
gathers_nothing old x page e = record { front = []; behind = []; split = refl; written = writes_none old; left = sym e }

-- the page has it, and nothing was written
pub gathers_more : {T E : Type 0} (old : Seen) (x : T) (page text new : List ℕ) → new ≡ page ++ text → Gathers {T = T} {E = E} old old (Ok x) page text new
gathers_more old x page text new e = record { front = []; behind = page ++ text; split = refl; written = writes_none old; left = sym e }

-- the page was written, and the text waits
pub gathers_page : {T U E F : Type 0} (old now : Seen) (x : T) (y : U) (page empty text new : List ℕ) → Wrote {T = T} {E = E} old now (Ok x) page → empty ≡ [] → new ≡ empty ++ text →
    Gathers {T = U} {E = F} old now (Ok y) page text new
gathers_page old now x y page empty text new w e f = record { front = page; behind = text; split = refl; written = writes_ok w; left = ap (λ l. l ++ text) (sym e) ∙ sym f }

-- the page was to be written
pub gathers_not : {T U E F : Type 0} (old now : Seen) (e : E) (r : Result U F) (page text new : List ℕ) → IsErr r → Wrote {T = T} {E = E} old now (Err e) page →
    Gathers {T = U} {E = F} old now r page text new
gathers_not old now e (Ok y) page text new is w = absurd (no_err is)
  where
    no_err : false ≡ true → ⊥
    no_err h = cc
gathers_not old now e (Err f) page text new is w = record { front = page; behind = text; split = refl; written = writes_as (append-nil _) (writes_failed (Err f) [] is w); left = tt }

-- the page was written, and then the text was or wasn't
pub gathers_written : {T U E F : Type 0} (old mid now : Seen) (x : T) (r : Result U F) (page empty text : List ℕ) → Wrote {T = T} {E = E} old mid (Ok x) page → empty ≡ [] →
    Wrote mid now r text → Gathers old now r page text empty
gathers_written old mid now x (Ok y) page empty text w e v = record { front = page ++ text; behind = []; split = sym (append-nil (page ++ text)); written = writes_then w v; left = sym e }
gathers_written old mid now x (Err f) page empty text w e v = record { front = page ++ text; behind = []; split = sym (append-nil (page ++ text)); written = writes_then w v; left = tt }

-- one text, and then the next
pub gathers_on : {T U E F : Type 0} (old mid now : Seen) (x : T) (r : Result U F) (xs ys p q s : List ℕ) → Gathers {T = T} {E = E} old mid (Ok x) p xs q → Gathers mid now r q ys s →
    Gathers old now r p (xs ++ ys) s
gathers_on old mid now x r xs ys p q s g h = record {
  front = g.front ++ h.front;
  behind = h.behind;
  split = sym (append_assoc p xs ys) ∙ ap (λ l. l ++ ys) g.split ∙ append_assoc g.front g.behind ys ∙ ap (λ l. g.front ++ (l ++ ys)) g.left ∙ ap (λ l. g.front ++ l) h.split ∙ sym (append_assoc g.front h.front h.behind);
  written = writes_then g.written h.written;
  left = h.left;
}

-- all was added, and the last page was or wasn't written
pub gathers_end : {T U E F : Type 0} (old mid now : Seen) (x : T) (r : Result U F) (text page : List ℕ) → Gathers {T = T} {E = E} old mid (Ok x) [] text page → Wrote mid now r page →
    Wrote old now r text
gathers_end old mid now x r text page g w =
    writes_as (ap (λ l. g.front ++ l) (sym g.left) ∙ sym g.split) (writes_then g.written w)

-- one text was added, the next was to be written, and so the whole wasn't
pub gathers_failed : {T U V E F G : Type 0} (old mid now : Seen) (x : T) (e : F) (r : Result V G) (xs ys more whole p s : List ℕ) → IsErr r → Gathers {T = T} {E = E} old mid (Ok x) [] xs p →
    Gathers {T = U} {E = F} mid now (Err e) p ys s → whole ≡ xs ++ (ys ++ more) → Wrote {T = V} {E = G} old now r whole
gathers_failed {U = U} {F = F} old mid now x e r xs ys more whole p s is g h same =
    let both = gathers_on {U = U} {F = F} old mid now x (Err e) xs ys [] p s g h in
    let split : whole ≡ both.front ++ (both.behind ++ more) = same ∙ sym (append_assoc xs ys more) ∙ ap (λ l. l ++ more) both.split ∙ append_assoc both.front both.behind more in
    writes_as (sym split) (writes_failed r (both.behind ++ more) is both.written)

-- the answer itself doesn't matter to what was added
pub gathers_ok : {T U E F : Type 0} (old now : Seen) (x : T) (y : U) (p text q : List ℕ) → Gathers {T = T} {E = E} old now (Ok x) p text q → Gathers {T = U} {E = F} old now (Ok y) p text q
gathers_ok old now x y p text q g = record { front = g.front; behind = g.behind; split = g.split; written = writes_ok g.written; left = g.left }

-- the same text
pub gathers_same : {T E : Type 0} (old now : Seen) (r : Result T E) (p xs ys q : List ℕ) → Gathers old now r p xs q → xs ≡ ys → Gathers old now r p ys q
gathers_same old now r p xs ys q g e = subst (λ l. Gathers old now r p l q) e g

-- no text was added
pub gathers_none : {T E : Type 0} (old : Seen) (x : T) (page : List ℕ) → Gathers {T = T} {E = E} old old (Ok x) page [] page
gathers_none old x page = record { front = []; behind = page; split = append-nil page; written = writes_none old; left = refl }

-- a text was to be added, and then another
pub gathers_stopped : {T U E F : Type 0} (old now : Seen) (e : E) (r : Result U F) (p xs ys q s : List ℕ) → IsErr r → Gathers {T = T} {E = E} old now (Err e) p xs q →
    Gathers {T = U} {E = F} old now r p (xs ++ ys) s
gathers_stopped old now e (Ok y) p xs ys q s is g = absurd (no_err is)
  where
    no_err : false ≡ true → ⊥
    no_err h = cc
gathers_stopped old now e (Err f) p xs ys q s is g = record {
  front = g.front;
  behind = g.behind ++ ys;
  split = sym (append_assoc p xs ys) ∙ ap (λ l. l ++ ys) g.split ∙ append_assoc g.front g.behind ys;
  written = writes_as (append-nil _) (writes_failed (Err f) [] is g.written);
  left = tt;
}
