-- What holds on a begun database holds whatever is said of none.
use Rattle.std.proofs.Common.{◌≡◌, subst, Result, Ok, Err, OnErr}
use Rattle.sqlite.specs.declared.error.Error.{Error}
use Rattle.sqlite.specs.State.{State}
use Rattle.prof_sql_keeper.specs.declared.base.Base.{Base}
use Rattle.prof_sql_keeper.specs.declared.base.Base.TheVariants.{Unbegun, Memory, Stored}
use Rattle.prof_sql_keeper.specs.Bases.{OnBase}

pub on_base-none : (old new : Base) {none other : Type 0} (P : State → State → Type 0) → OnBase old new none P → (none → other) → OnBase old new other P
on_base-none Unbegun Unbegun P it f = f it
on_base-none (Memory old) (Memory new) P it f = it
on_base-none (Stored name old) (Stored same new) P it f = it
on_base-none _ _ P it f = absurd it

-- an answer that is Ok comes of a begun one
pub on_base-ok : (old new : Base) (other : Type 0) {V : Type 0} (value : V) (error : Error) (P : State → State → Type 0)
    → OnBase old new (◌≡◌ {A = Result V Error} (Ok value) (Err error)) P → OnBase old new other P
on_base-ok old new other {V = V} value error P it = on_base-none old new P it (λ closed. absurd (subst (λ (r : Result V Error). OnErr r ⊥) closed tt))
