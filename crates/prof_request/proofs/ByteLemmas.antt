-- One byte that passes a test.
use Rattle.std.proofs.Common.{◌≡◌, ℕ, Bool, true, false, List, [], ◌∷◌, refl, sym, subst, ap, ◌∙◌}
use Rattle.std.specs.Prelude.{Some, Result, Ok, Err, IfOk, IfErr}
use Rattle.prof_spell.specs.Spelling.{Language, first, Apart, IsStuck, IsTaken, Reads, Splits}
use Rattle.prof_spell.specs.declared.cursor.Stop.{Stop}
use Rattle.prof_spell.specs.declared.cursor.Stop.TheVariants.{Fault, NoMemory}
use Rattle.prof_spell.specs.Readings.{Reading, taken, stuck, Readable}
use Rattle.prof_spell.proofs.Lists.{first_cons}
use Rattle.prof_spell.proofs.Words.{apart_any}
use Rattle.prof_request.specs.Reading.{bytes_that}

same_head : (v w : ℕ) (m n : List ℕ) → v ∷ m ≡ w ∷ n → v ≡ w
same_head v w m n e = cc

pub splits_bytes : (passes : ℕ → Bool) → Splits (bytes_that passes)
splits_bytes passes = record { same = λ v w m n fv fw am an e. same_head v w m n e }

pub byte_taken : (passes : ℕ → Bool) (bytes left : List ℕ) (b : ℕ) → bytes ≡ b ∷ left → passes b ≡ true → IsTaken (bytes_that passes) bytes b left
byte_taken passes bytes left b e p = record { fits = p; split = e; apart = apart_any left }

not_first : (passes : ℕ → Bool) (bytes : List ℕ) (b : ℕ) → Apart passes bytes → first bytes ≡ Some b → passes b ≡ true → ⊥
not_first passes bytes b a look p =
    let r = first_cons b bytes look in
    let f : passes b ≡ false = subst (λ (s : List ℕ). Apart passes s) r.1 a in
    cc

-- none that passes comes, where some byte would
pub no_byte : (passes : ℕ → Bool) (bytes : List ℕ) (c : ℕ) → passes c ≡ true → Apart passes bytes → IsStuck (bytes_that passes) bytes bytes
no_byte passes bytes c p a = record {
  front = [];
  split = refl;
  begins = (c, p, (c ∷ [], refl));
  none = λ v behind seen fv av look e. not_first passes bytes v a (sym look ∙ ap first (sym e)) fv;
}

pub reading_bytes : (passes : ℕ → Bool) (c : ℕ) → passes c ≡ true → Readable (bytes_that passes)
reading_bytes passes c p [] = stuck [] (no_byte passes [] c p tt)
reading_bytes passes c p (b ∷ s) = at (passes b) refl
  where
    at : (t : Bool) → passes b ≡ t → Reading (bytes_that passes) (b ∷ s)
    at true e = taken b s (byte_taken passes (b ∷ s) s b refl e)
    at false e = stuck (b ∷ s) (no_byte passes (b ∷ s) c p e)

-- the text of what was read, where there is memory for it
pub copied : (L : Language (List ℕ)) (bytes left done : List ℕ) (r : Result (List ℕ) Stop) → IfOk r (λ text. text ≡ done) → IfErr r (λ stop. stop ≡ NoMemory) → IsTaken L bytes done left → Reads L bytes r left
copied L bytes left done (Ok text) h m t = subst (λ (s : List ℕ). IsTaken L bytes s left) (sym h) t
copied L bytes left done (Err Fault) h m t = absurd (cc m)
copied L bytes left done (Err NoMemory) h m t = tt
