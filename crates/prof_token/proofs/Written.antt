-- Readings that go on, with the text that was read.
use Rattle.std.proofs.Common.{◌≡◌, ℕ, true, false, List, [], ◌∷◌, refl, sym, subst}
use Rattle.std.specs.Prelude.{Option, Some, None, Result, Ok, Err, IfErr, IfOk, OnOk}
use Rattle.std.specs.Char.{encode_utf8}
use Rattle.std.specs.Char.Utf16.{is_high_surrogate, is_low_surrogate, surrogate_pair_char, lone_unit_char}
use Rattle.std.specs.Option.{unwrap_or}
use Rattle.prof_grammar.specs.Event.{Event}
use Rattle.prof_grammar.specs.Machine.{Part, Role, Tail, lead, with_byte, Stage, chars, nothing, add_first, add_unit, with_unit, digits, after_e}
use Rattle.prof_token.specs.Ahead.{Ahead}
use Rattle.prof_token.specs.Goes.{Goes}
use Rattle.prof_token.specs.Writes.{Writes, IsUnit, shown_of, silent}
use Rattle.prof_token.specs.Stages.{Counts, Signs, MayEnd, no_byte}
use Rattle.prof_token.specs.Moves.{fault_of}
use Rattle.prof_token.specs.Kept.{Kept, Gains}
use Rattle.prof_token.specs.declared.fault.JsonFault.{JsonFault}
use Rattle.prof_token.specs.declared.fault.JsonFault.TheVariants.{NoMemory}
use Rattle.prof_token.proofs.Texts.{gains_on}
use Rattle.prof_token.proofs.Machines.{goes_trans, goes_here, goes_as, goes_full}

-- the text so far was kept
pub writes_here : {begun k : Kept} {a : Ahead} {l : Option (List ℕ)} (qs : List ℕ → List Part) (s : List ℕ) → Gains begun s k → Writes None begun a l (qs s) silent a l k qs
writes_here {a = a} {l} qs s h = record { text = s; kept = λ _. h; goes = goes_here a l (qs s) }

pub writes_goes : {o : Option JsonFault} {begun k : Kept} {a b : Ahead} {l m : Option (List ℕ)} {ps : List Part} (es : List ℕ → List Event) (qs : List ℕ → List Part) (s : List ℕ) → Gains begun s k → Goes o a l ps (es s) b m (qs s) → Writes o begun a l ps es b m k qs
writes_goes es qs s h g = record { text = s; kept = λ _. h; goes = g }

pub writes_on : {o : Option JsonFault} {begun k : Kept} {a b c : Ahead} {l m n : Option (List ℕ)} {ps qs : List Part} {es : List ℕ → List Event} {rs : List ℕ → List Part} → Goes None a l ps [] b m qs → Writes o begun b m qs es c n k rs → Writes o begun a l ps es c n k rs
writes_on g w = record { text = w.text; kept = w.kept; goes = goes_trans g w.goes }

pub writes_fault : {f : JsonFault} {begun k : Kept} {a b c : Ahead} {l m n : Option (List ℕ)} {ps qs : List Part} {es : List Event} {fs : List ℕ → List Event} {rs : List ℕ → List Part} → Goes (Some f) a l ps es b m qs → Writes (Some f) begun a l ps fs c n k rs
writes_fault {f} g = record { text = []; kept = λ e. absurd (no e); goes = goes_as g }
  where
    no : Some f ≡ None → ⊥
    no e = cc

pub writes_full : {f : JsonFault} {begun k : Kept} {a c : Ahead} {l n : Option (List ℕ)} {ps : List Part} {fs : List ℕ → List Event} {rs : List ℕ → List Part} → f ≡ NoMemory → Writes (Some f) begun a l ps fs c n k rs
writes_full {f} {a = a} {c} {l} {n} {ps} e = writes_fault {b = c} {m = n} {qs = ps} {es = []} (goes_full e)

-- ---- parts of numbers

pub signs_fault : {f : JsonFault} {begun k : Kept} {a b c : Ahead} {l m n : Option (List ℕ)} {ps qs rs : List Part} {es : List Event} {x : ℕ} → Goes (Some f) a l ps es b m qs → Signs (Some f) begun a l ps c n k x rs
signs_fault {f} g = record { stage = after_e; wants = λ e. absurd (no e); writes = writes_fault g }
  where
    no : Some f ≡ None → ⊥
    no e = cc

pub counts_fault : {f : JsonFault} {begun k : Kept} {a b c : Ahead} {l m n : Option (List ℕ)} {ps qs rs : List Part} {es : List Event} {x : Option ℕ} → Goes (Some f) a l ps es b m qs → Counts (Some f) begun a l ps c n k x rs
counts_fault {f} g = record { stage = after_e; over = λ e. absurd (no e); writes = writes_fault g }
  where
    no : Some f ≡ None → ⊥
    no e = cc

pub counts_on : {o : Option JsonFault} {begun k : Kept} {a b c : Ahead} {l m n : Option (List ℕ)} {ps qs rs : List Part} {x : Option ℕ} → Goes None a l ps [] b m qs → Counts o begun b m qs c n k x rs → Counts o begun a l ps c n k x rs
counts_on g w = record { stage = w.stage; over = w.over; writes = writes_on g w.writes }

-- the answer of an exponent
pub counts_of : {begun k : Kept} {a b : Ahead} {l m : Option (List ℕ)} {ps rs : List Part} (n : Stage) (r : Result (Option ℕ) JsonFault) → IfOk r (λ o. MayEnd n no_byte o) → Writes (fault_of r) begun a l ps silent b m k (λ t. digits n t ∷ rs) → Counts (fault_of r) begun a l ps b m k (shown_of r) rs
counts_of n (Ok o) h w = record { stage = n; over = λ _. h; writes = w }
counts_of n (Err f) h w = counts_fault w.goes

-- ---- parts of strings

-- the answer of a text that grows
pub writes_if : {T : Type 0} {begun k : Kept} {a b : Ahead} {l m : Option (List ℕ)} {ps : List Part} (es : List ℕ → List Event) (qs : List ℕ → List Part) (t : List ℕ) (r : Result T JsonFault) → IfErr r (λ f. f ≡ NoMemory) → OnOk r (Gains begun t k) →
    Goes None a l ps (es t) b m (qs t) → Writes (fault_of r) begun a l ps es b m k qs
writes_if es qs t (Ok v) e h g = writes_goes es qs t h g
writes_if es qs t (Err f) e h g = writes_full e

pub writes_unit : {begun k : Kept} {a b : Ahead} {l m : Option (List ℕ)} {ps qs : List Part} (role : Role) (s : List ℕ) (p : Option ℕ) (u : ℕ) (r : Result (Option ℕ) JsonFault) → IfErr r (λ f. f ≡ NoMemory) → IfOk r (λ o. IsUnit begun (add_unit s p u) k o) →
    Goes None a l ps [] b m (with_unit role s p u ∷ qs) → Writes (fault_of r) begun a l ps silent b m k (λ t. chars role t (shown_of r) nothing ∷ qs)
writes_unit {a = a} {b} {l} {m} {ps} {qs} role s p u (Ok o) e h g = writes_goes silent (λ t. chars role t o nothing ∷ qs) (add_unit s p u).0 h.text
    (subst (λ (x : Option ℕ). Goes None a l ps [] b m (chars role (add_unit s p u).0 x nothing ∷ qs)) (sym h.waits) g)
writes_unit role s p u (Err f) e h g = writes_full e

-- a unit that was not added
pub unit_first : {begun k : Kept} {s : List ℕ} (u : ℕ) → is_high_surrogate u ≡ true → Gains begun s k → IsUnit begun (add_first s u) k (Some u)
unit_first u e h = rw e (record { text = h; waits = refl })

pub unit_alone : {begun k m : Kept} {s : List ℕ} (u : ℕ) → is_high_surrogate u ≡ false → Gains begun s k → Gains k (encode_utf8 (unwrap_or (lone_unit_char u) 0xFFFD)) m → IsUnit begun (add_first s u) m None
unit_alone u e h g = rw e (record { text = gains_on h g; waits = refl })

pub unit_pair : {begun k m : Kept} {s : List ℕ} (high u : ℕ) → is_low_surrogate u ≡ true → Gains begun s k → Gains k (encode_utf8 (surrogate_pair_char high u)) m → IsUnit begun (add_unit s (Some high) u) m None
unit_pair high u e h g = rw e (record { text = gains_on h g; waits = refl })

-- behind a byte of a character that more bytes follow
pub goes_next : {a b : Ahead} {l m : Option (List ℕ)} {ps : List Part} (k : Role) (s : List ℕ) (p : Option ℕ) (o : Option Tail) (t : Tail) (bytes : List ℕ) (qs : List Part) → o ≡ Some t →
    Goes None a l ps [] b m (with_byte k s p o bytes ∷ qs) → Goes None a l ps [] b m (chars k s p (lead t bytes) ∷ qs)
goes_next {a} {b} {l} {m} {ps} k s p o t bytes qs e g = subst (λ (x : Option Tail). Goes None a l ps [] b m (with_byte k s p x bytes ∷ qs)) e g
