-- What a call that reads from a lent source does to it and to the window.
use Rattle.std.specs.Prelude.{◌≡◌, ℕ, ◌+◌, ◌≤◌, List, ◌++◌, Option, Some, None, Result, Ok, Err, length}
use Rattle.prof_io.specs.Causes.{Rose}
use Rattle.prof_io.specs.Outside.{Seen}
use Rattle.prof_token.specs.Ahead.{Ahead, Knows}
use Rattle.prof_token.specs.declared.fault.JsonFault.{JsonFault}
use Rattle.prof_token.specs.declared.fault.JsonFault.TheVariants.{NotJson, TooDeep, TooLong, ReadFault, NoMemory}

-- These bytes were read. What was ahead and left before is they, and what is ahead and left now.
pub record IsRead (before after : List ℕ) (place place' : ℕ) : Type 0 where
  pub bytes : List ℕ
  pub split : before ≡ bytes ++ after
  pub count : place' ≡ place + length bytes

-- the bytes between were read, where the source tells its bytes
abbrev pub Reads : List ℕ → ℕ → Option (List ℕ) → List ℕ → ℕ → Option (List ℕ) → Type 0
Reads ahead place left ahead' place' left' = Knows (λ l m. IsRead (ahead ++ l) (ahead' ++ m) place place') left left'

abbrev pub fault_of : {T : Type 0} → Result T JsonFault → Option JsonFault
fault_of (Ok x) = None
fault_of (Err fault) = Some fault

-- The fault stands at the place that it names. The source's count rose where it is the source's own, and else stayed.
abbrev pub Blames : Option JsonFault → Type 0 → ℕ → ℕ → ℕ → ℕ → Type 0
Blames None sure faults faults' place limit = faults' ≡ faults
Blames (Some (NotJson at)) sure faults faults' place limit = (faults' ≡ faults) × (at ≡ place)
Blames (Some (TooDeep at)) sure faults faults' place limit = (faults' ≡ faults) × (at ≡ place)
Blames (Some TooLong) sure faults faults' place limit = (faults' ≡ faults) × (place ≡ limit)
Blames (Some ReadFault) sure faults faults' place limit = Rose faults faults' × (sure → ⊥)
Blames (Some NoMemory) sure faults faults' place limit = faults' ≡ faults

-- from the first state the call moved on to the second, and met this fault
pub record Moves (fault : Option JsonFault) (a : Ahead) (s : Seen) (b : Ahead) (t : Seen) : Type 0 where
  pub limit : b.limit ≡ a.limit
  pub on : a.place ≤ b.place
  pub within : a.place ≤ a.limit → b.place ≤ b.limit
  pub near : length a.bytes ≤ 65536 → length b.bytes ≤ 65536
  pub reads : Reads a.bytes a.place s.left b.bytes b.place t.left
  pub written : t.written ≡ s.written
  pub stays : t.place ≡ s.place
  pub later : s.faults ≤ t.faults
  pub steady : s.sure → t.sure
  pub blame : Blames fault s.sure s.faults t.faults b.place b.limit
