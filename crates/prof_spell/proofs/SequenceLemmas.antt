-- Two texts, one behind the other: what a reading of them comes to.
use Rattle.std.proofs.Common.{ℕ, List, ◌++◌, refl, subst, ap}
use Rattle.std.specs.Prelude.{Err}
use Rattle.prof_spell.specs.Spelling.{Language, Apart, IsTaken, Reads, Splits}
use Rattle.prof_spell.specs.Readings.{Readable}
use Rattle.prof_spell.specs.declared.cursor.Stop.{Stop}
use Rattle.prof_spell.specs.Sequences.{followed_by}
use Rattle.prof_spell.proofs.Parts.{Leads, Built, rest, err_first, err_behind, err_built, taken_behind, taken_built, splits_behind, splits_built}
use Rattle.prof_spell.proofs.Readings.{reading_behind, reading_built}

-- Behind each first value a second can stand, and ends its text.
pub record Meets {A B : Type 0} (L : Language A) (M : A → Language B) : Type 0 where
  pub some : (a : A) → L.Fits a → (b : B) × (M a).Fits b
  pub apart : (a : A) (b : B) (m : List ℕ) → L.Fits a → (M a).Fits b → Apart ((M a).goes b) m → Apart (L.goes a) ((M a).text b ++ m)

abbrev front : {A B : Type 0} → A × B → A
front p = p.0

abbrev back : {A B : Type 0} → (A → Language B) → A × B → List ℕ
back M p = (M p.0).text p.1

pair_leads : {A B : Type 0} (L : Language A) (M : A → Language B) → Meets L M → Leads (followed_by L M) L front (back M)
pair_leads L M meets = record {
  cut = λ p f. refl;
  fits = λ p f. f.0;
  some = λ a f. let b = meets.some a f in ((a, b.0), (f, b.1), refl);
  apart = λ p m f a. meets.apart p.0 p.1 m f.0 f.1 a;
}

abbrev behind : {A B : Type 0} → Language A → (A → Language B) → A → Language (A × B)
behind L M a = rest (followed_by L M) front (back M) a

pair_built : {A B : Type 0} (L : Language A) (M : A → Language B) (a : A) → L.Fits a → Built (behind L M a) (M a) (λ b. (a, b))
pair_built {A} {B} L M a fits = record {
  into = λ b f. (((fits, f), refl), refl);
  from = λ p f. (p.1, ap (λ (x : A). (x, p.1)) f.1, subst (λ (x : A). (M x).Fits p.1) f.1 f.0.1, λ m k. subst (λ (x : A). Apart ((M x).goes p.1) m) f.1 k);
}

pub err_front : {A B : Type 0} (L : Language A) (M : A → Language B) (bytes left : List ℕ) (stop : Stop) → Meets L M → Reads L bytes (Err stop) left → Reads (followed_by L M) bytes (Err stop) left
err_front L M bytes left stop meets s = err_first (followed_by L M) L front (back M) bytes left stop (pair_leads L M meets) s

pub err_back : {A B : Type 0} (L : Language A) (M : A → Language B) (bytes mid left : List ℕ) (a : A) (stop : Stop) → Meets L M → Splits L → IsTaken L bytes a mid → Reads (M a) mid (Err stop) left → Reads (followed_by L M) bytes (Err stop) left
err_back L M bytes mid left a stop meets splits t s = err_behind (followed_by L M) L front (back M) bytes mid left a stop (pair_leads L M meets) splits t
    (err_built (behind L M a) (M a) (λ b. (a, b)) mid left stop (pair_built L M a t.fits) s)

pub taken_pair : {A B : Type 0} (L : Language A) (M : A → Language B) (bytes mid left : List ℕ) (a : A) (b : B) → Meets L M → IsTaken L bytes a mid → IsTaken (M a) mid b left → IsTaken (followed_by L M) bytes (a, b) left
taken_pair L M bytes mid left a b meets t u = taken_behind (followed_by L M) L front (back M) bytes mid left a (a, b) (pair_leads L M meets) t
    (taken_built (behind L M a) (M a) (λ c. (a, c)) mid left b (pair_built L M a t.fits) (λ k. k) u)

pub splits_pair : {A B : Type 0} (L : Language A) (M : A → Language B) → Meets L M → Splits L → ((a : A) → L.Fits a → Splits (M a)) → Splits (followed_by L M)
splits_pair {A} {B} L M meets splits more = splits_behind (followed_by L M) L front (back M) (pair_leads L M meets) splits
    (λ a. record {
      same = λ p q m n fp fq am an e.
          let fits : L.Fits a = subst L.Fits fp.1 fp.0.0 in
          (splits_built (behind L M a) (M a) (λ b. (a, b)) (pair_built L M a fits) (more a fits)).same p q m n fp fq am an e;
    })

pub reading_pair : {A B : Type 0} (L : Language A) (M : A → Language B) → Meets L M → Splits L → Readable L → ((a : A) → L.Fits a → Readable (M a)) → Readable (followed_by L M)
reading_pair L M meets splits reads more = reading_behind (followed_by L M) L front (back M) (pair_leads L M meets) splits reads
    (λ a fits. reading_built (behind L M a) (M a) (λ b. (a, b)) (pair_built L M a fits) (λ b left f k. k) (more a fits))
